-- Expressions over gathered rows.
use Rattle.std.proofs.Common.{◌≡◌, ◌<◌, ◌+◌, ℕ, zero, suc, Bool, true, false, List, [], ◌∷◌, map, filter, length, refl, ap, ap₂, sym, ◌∙◌, inl, inr, arith}
use Rattle.std.specs.Prelude.{◌&&◌, slice_index_or}
use Rattle.std.specs.List.{list_all, range_with_len}
use Rattle.std.proofs.lemmas.Bool.{and_parts, cases_Bool}
use Rattle.std.proofs.lemmas.List.{length-map}
use Rattle.kql_cells.specs.Seen.{row_at}
use Rattle.kql_cells.specs.Table.{Grid, gathered}
use Rattle.kql_cells.specs.declared.value.Value.{Value}
use Rattle.kql_bound.specs.declared.expr.BExpr.{BExpr}
use Rattle.kql_meaning.specs.declared.position.Position.TheVariants as position
use Rattle.kql_meaning.specs.Aggregates.{all_values, values_where}
use Rattle.kql_meaning.specs.Expressions.{val, values_in}
use Rattle.kql_meaning.specs.FittingExpressions.{Scope, aggregate_takes, expr_fits, takes_aggregate}
use Rattle.kql_meaning.specs.Readings.{Records, rows_where, values_over}
use Rattle.kql_meaning.specs.RowByRow.{is_plain}
use Rattle.kql_meaning.specs.Tables.{places, places_below}
use Rattle.kql_meaning.specs.Values.{holds}
use Rattle.kql_meaning.proofs.ExpressionFitLaws.{aggregate-checked}
use Rattle.kql_meaning.proofs.PlainFitLaws.{plain_where_fits}
use Rattle.kql_meaning.proofs.RowByRowLaws.{plain_of_gathered}
use Rattle.kql_row_laws.specs.Arguments.{argument_rows}
use Rattle.kql_row_laws.specs.LawsOfGathered.{AggregateArgumentsArePlain, ArgumentsOfGathered, ValuesOfGathered, ValuesWhereOfGathered}

-- Lists read place by place.

range-next : {X : Type 0} (f : ℕ → X) (a n : ℕ) → map f (range_with_len (a + 1) n) ≡ map (λ i. f (suc i)) (range_with_len a n)
range-next f a zero = refl
range-next f a (suc n) = let next : a + 1 ≡ suc a = omega arith in ap₂ (λ x xs. x ∷ xs) (ap f next) (range-next f (a + 1) n)

-- A function of the place that gives what another makes of the element there.
pub at-each : {K X : Type 0} (d : K) (f : ℕ → X) (g : K → X) (rows : List K) → ((k : ℕ) → k < length rows → f k ≡ g (slice_index_or rows k d)) → map f (range_with_len 0 (length rows)) ≡ map g rows
at-each d f g [] h = refl
at-each d f g (r ∷ rs) h = ap₂ (λ x xs. x ∷ xs) (h 0 (omega arith)) (range-next f 0 (length rs) ∙ at-each d (λ k. f (suc k)) g rs (λ k lt. h (suc k) (omega (arith, lt))))

kept-next : {X : Type 0} (q : ℕ → Bool) (f : ℕ → X) (a n : ℕ) → map f (filter q (range_with_len (a + 1) n)) ≡ map (λ i. f (suc i)) (filter (λ i. q (suc i)) (range_with_len a n))
kept-next q f a zero = refl
kept-next q f a (suc n) =
    let next : a + 1 ≡ suc a = omega arith in
    let rest = kept-next q f (a + 1) n in
    elim (cases_Bool (q (suc a))) [
      | inl t ↦ let u : q (a + 1) ≡ true = ap q next ∙ t in rw (t, u) (ap₂ (λ x xs. x ∷ xs) (ap f next) rest)
      | inr n ↦ let u : q (a + 1) ≡ false = ap q next ∙ n in rw (n, u) rest
    ]

-- The same of those places that pass a test.
pub where-each : {X : Type 0} (q p : ℕ → Bool) (f g : ℕ → X) (rows : List ℕ) → ((k : ℕ) → k < length rows → q k ≡ p (slice_index_or rows k 0)) → ((k : ℕ) → k < length rows → f k ≡ g (slice_index_or rows k 0)) → map f (filter q (range_with_len 0 (length rows))) ≡ map g (filter p rows)
where-each q p f g [] e h = refl
where-each q p f g (r ∷ rs) e h =
    let first : q 0 ≡ p r = e 0 (omega arith) in
    let rest = kept-next q f 0 (length rs) ∙ where-each (λ k. q (suc k)) p (λ k. f (suc k)) g rs (λ k lt. e (suc k) (omega (arith, lt))) (λ k lt. h (suc k) (omega (arith, lt))) in
    elim (cases_Bool (p r)) [
      | inl t ↦ let u : q 0 ≡ true = first ∙ t in rw (t, u) (ap₂ (λ x xs. x ∷ xs) (h 0 (omega arith)) rest)
      | inr n ↦ let u : q 0 ≡ false = first ∙ n in rw (n, u) rest
    ]

gathered-places : (t : Grid) (rows : List ℕ) → places (gathered t rows) ≡ range_with_len 0 (length rows)
unfolding places places_below
gathered-places t rows = ap (range_with_len 0) (length-map rows (row_at t.lines))

-- The laws.

pub values_of_gathered : ValuesOfGathered
unfolding all_values values_over val
values_of_gathered e t rows s r =
    ap (map (λ k. val e (gathered t rows) k s)) (gathered-places t rows)
    ∙ at-each 0 (λ k. val e (gathered t rows) k s) (λ i. val e t i s) rows (λ k lt. plain_of_gathered e t rows k s r lt)

pub values_where_of_gathered : ValuesWhereOfGathered
unfolding values_where rows_where values_over val
values_where_of_gathered e p t rows s r q =
    ap (λ ks. map (λ k. val e (gathered t rows) k s) (filter (λ k. holds (val p (gathered t rows) k s)) ks)) (gathered-places t rows)
    ∙ where-each (λ k. holds (val p (gathered t rows) k s)) (λ i. holds (val p t i s)) (λ k. val e (gathered t rows) k s) (λ i. val e t i s) rows
    (λ k lt. ap holds (plain_of_gathered p t rows k s q lt)) (λ k lt. plain_of_gathered e t rows k s r lt)

values-gathered : (args : List BExpr) (t : Grid) (rows : List ℕ) (k : ℕ) (s : Records) → list_all is_plain args ≡ true → k < length rows → values_in args (gathered t rows) k s ≡ values_in args t (slice_index_or rows k 0) s
unfolding values_in
values-gathered [] t rows k s r lt = refl
values-gathered (e ∷ es) t rows k s r lt =
    let b = and_parts (is_plain e) (list_all is_plain es) r in
    ap₂ (λ (v : Value) (vs : List Value). v ∷ vs) (plain_of_gathered e t rows k s b.0 lt) (values-gathered es t rows k s b.1 lt)

pub arguments_of_gathered : ArgumentsOfGathered
unfolding argument_rows
arguments_of_gathered args t rows s r =
    ap (map (λ k. values_in args (gathered t rows) k s)) (gathered-places t rows)
    ∙ at-each 0 (λ k. values_in args (gathered t rows) k s) (λ i. values_in args t i s) rows (λ k lt. values-gathered args t rows k s r lt)

all-plain : (args : List BExpr) (scope : Scope) → list_all (λ e. expr_fits e scope position.Plain) args ≡ true → list_all is_plain args ≡ true
all-plain [] scope r = refl
all-plain (e ∷ es) scope r =
    let b = and_parts (expr_fits e scope position.Plain) (list_all (λ e. expr_fits e scope position.Plain) es) r in
    let first : is_plain e ≡ true = plain_where_fits e scope b.0 in
    rw first (all-plain es scope b.1)

pub aggregate_arguments_are_plain : AggregateArgumentsArePlain
aggregate_arguments_are_plain f args scope at fits =
    let b = and_parts (takes_aggregate at f) (list_all (λ e. expr_fits e scope position.Plain) args && aggregate_takes f args scope.columns) (sym (aggregate-checked f args scope at) ∙ fits) in
    all-plain args scope (and_parts (list_all (λ e. expr_fits e scope position.Plain) args) (aggregate_takes f args scope.columns) b.1).0

pub ruleset gathered_laws = (values_of_gathered, values_where_of_gathered, arguments_of_gathered)

pub ruleset argument_laws = (aggregate_arguments_are_plain)
