-- The places at which a column is true, and `where`.
use Rattle.std.proofs.Common.{◌≡◌, ◌<◌, ◌+◌, ℕ, Bool, true, cond, List, [], ◌∷◌, ◌++◌, filter, length, refl, ap, sym, ◌∙◌, subst, inl, inr, arith}
use Rattle.std.specs.Prelude.{All}
use Rattle.std.specs.List.{AllByRecursion, range_with_len}
use Rattle.std.proofs.lemmas.Bool.{and_parts, cases_Bool}
use Rattle.std.proofs.lemmas.List.{map-id}
use Rattle.std.proofs.lemmas.List.Elements.{All-from_recursion, filter-append}
use Rattle.std.proofs.lemmas.List.FromFn.{map-range_with_len_more}
use Rattle.kql_cells.specs.Seen.{value_at}
use Rattle.kql_cells.specs.Table.{Grid, gathered}
use Rattle.kql_cells.specs.declared.schema.Column.{Column}
use Rattle.kql_cells.specs.declared.value.Kind.TheVariants as kind
use Rattle.kql_cells.specs.declared.value.Value.{Value}
use Rattle.kql_functions.specs.Kinds.{same_kind}
use Rattle.kql_bound.specs.declared.expr.BExpr.{BExpr}
use Rattle.kql_meaning.specs.declared.position.Position.TheVariants as position
use Rattle.kql_meaning.specs.Expressions.{kind_of, val}
use Rattle.kql_meaning.specs.FittingExpressions.{expr_fits, fits_as, has_kind, scope_of}
use Rattle.kql_meaning.specs.FittingOperators.{where_fits}
use Rattle.kql_meaning.specs.Tables.{places, places_below}
use Rattle.kql_meaning.specs.Values.{holds}
use Rattle.kql_meaning.specs.Where.{where_table}
use Rattle.kql_scalar.specs.Scalar.{is_of_rows}
use Rattle.row_ops.specs.ItemColumns.{values_down}
use Rattle.row_ops.proofs.ItemColumnFacts.{down-length}
use Rattle.row_ops.proofs.KeptColumnFacts.{filter-below}
use Rattle.window_ops.specs.Fitting.{FitsRows}
use Rattle.window_ops.specs.Kept.{places_true}
use Rattle.window_ops.proofs.RangeFacts.{at-row, filter-range-same}

range-more : (n : ℕ) → range_with_len 0 (n + 1) ≡ range_with_len 0 n ++ n ∷ []
range-more n = sym (map-id (range_with_len 0 (n + 1))) ∙ (map-range_with_len_more (λ (x : ℕ). x) 0 n n (omega arith) ∙ ap (λ xs. xs ++ n ∷ []) (map-id (range_with_len 0 n)))

one : (p : ℕ → Bool) (i : ℕ) → filter p (i ∷ []) ≡ cond (p i) (i ∷ []) []
one p i = elim (cases_Bool (p i)) [
  | inl e ↦ rw e refl
  | inr e ↦ rw e refl
]

pub places-none : (values : List Value) → [] ≡ places_true values 0
unfolding places_true
places-none values = refl

pub places-turn : (values : List Value) (i : ℕ) (old new : List ℕ) (v : Value) (test : Bool) → old ≡ places_true values i → v ≡ value_at values i → test ≡ holds v → new ≡ old ++ cond test (i ∷ []) [] → new ≡ places_true values (i + 1)
unfolding places_true
places-turn values i old new v test before is e after =
    let p = λ (i : ℕ). holds (value_at values i) in
    let here : test ≡ p i = e ∙ ap holds is in
    after
    ∙ (ap (λ ps. ps ++ cond test (i ∷ []) []) before
    ∙ (ap (λ b. filter p (range_with_len 0 i) ++ cond b (i ∷ []) []) here
    ∙ sym (ap (filter p) (range-more i) ∙ (filter-append p (range_with_len 0 i) (i ∷ []) ∙ ap (λ ps. filter p (range_with_len 0 i) ++ ps) (one p i)))))

pub places-end : (values : List Value) (i n : ℕ) (ps : List ℕ) → n ≡ length values → i ≡ n → ps ≡ places_true values i → ps ≡ places_true values (length values)
places-end values i n ps len end is = is ∙ ap (places_true values) (end ∙ len)

pub places-within : (values : List Value) (n : ℕ) (ps : List ℕ) → ps ≡ places_true values n → All (λ i. i < n) ps
unfolding places_true
places-within values n ps is =
    let zero_on : 0 + n ≡ n = omega arith in
    let below = subst (λ m. AllByRecursion (λ j. j < m) (filter (λ i. holds (value_at values i)) (range_with_len 0 n))) zero_on (filter-below (λ i. holds (value_at values i)) 0 n) in
    All-from_recursion (λ j. j < n) ps (subst (AllByRecursion (λ j. j < n)) (sym is) below)

pub ruleset kept_steps = (places-none, places-turn, places-end, places-within)

-- `where`.

window-of-rows : is_of_rows position.Window ≡ true
unfolding is_of_rows
window-of-rows = refl

pub where-fitting : (e : BExpr) (cs : List Column) → where_fits e cs ≡ true → FitsRows cs e
unfolding where_fits fits_as
where-fitting e cs fits = record {
  at = position.Window;
  rows = window-of-rows;
  fits = (and_parts (expr_fits e (scope_of cs) position.Window) (has_kind (same_kind kind.Bool) (kind_of e cs)) fits).0;
}

down-at : (e : BExpr) (t : Grid) (i : ℕ) → i < length t.lines → value_at (values_down e t) i ≡ val e t i []
unfolding values_down places places_below
down-at e t i lt = at-row (λ i. val e t i []) (length t.lines) i lt

pub where-within : (e : BExpr) (t : Grid) (v : List Value) (ps : List ℕ) → v ≡ values_down e t → All (λ i. i < length v) ps → All (λ i. i < length t.lines) ps
where-within e t v ps is h = subst (λ n. All (λ i. i < n) ps) (ap length is ∙ down-length e t) h

pub kept-where : (e : BExpr) (t r : Grid) (v : List Value) (ps : List ℕ) → v ≡ values_down e t → ps ≡ places_true v (length v) → r ≡ gathered t ps → r ≡ where_table e t
unfolding where_table places_true places places_below
kept-where e t r v ps is at made =
    made
    ∙ ap (gathered t)
    (at
    ∙ (ap (λ (vs : List Value). filter (λ i. holds (value_at vs i)) (range_with_len 0 (length vs))) is
    ∙ (ap (λ n. filter (λ i. holds (value_at (values_down e t) i)) (range_with_len 0 n)) (down-length e t)
    ∙ filter-range-same (λ i. holds (value_at (values_down e t) i)) (λ i. holds (val e t i [])) 0 (length t.lines) (λ i lt. ap holds (down-at e t i (omega (arith, lt)))))))

pub ruleset where_steps = (where-fitting, where-within, kept-where)
