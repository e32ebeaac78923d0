-- Folds are the aggregates of `kql_meaning`.
use Rattle.std.proofs.Common.{◌≡◌, ◌∙◌, ℕ, Bool, true, List, [], ◌∷◌, filter, length, map, take, refl, sym, ap, ap₂, inl, inr, if◌then◌else◌, pos}
use Rattle.std.specs.Prelude.{Option, None, Some, filter_map, is_some, option_map, slice_get}
use Rattle.std.specs.Int.{int_bit_and, int_bit_or, int_bit_xor, w64}
use Rattle.std.proofs.lemmas.Bool.{and_parts, cases_Bool}
use Rattle.std.proofs.lemmas.List.{length-map}
use Rattle.kql_cells.specs.Table.{Grid}
use Rattle.kql_cells.specs.declared.schema.Column.{Column}
use Rattle.kql_cells.specs.declared.value.Value.{Value}
use Rattle.kql_cells.specs.declared.value.Value.TheVariants as value
use Rattle.kql_functions.specs.declared.aggregate.Aggregate.{Aggregate}
use Rattle.kql_functions.specs.declared.aggregate.Aggregate.TheVariants as aggregate
use Rattle.kql_bound.specs.declared.expr.BExpr.{BExpr, out-BExpr, roll-BExpr, roll-out-BExpr}
use Rattle.kql_bound.specs.declared.expr.BExpr.TheOpen.{BExpr-F}
use Rattle.kql_bound.specs.declared.expr.BExpr.TheVariants as V
use Rattle.kql_bound.specs.declared.literal.Lit.{Lit}
use Rattle.kql_ticks.specs.Ranges.{fit}
use Rattle.kql_scalar_fns.specs.Arguments.{argument, long_or_null}
use Rattle.kql_scalar_fns.specs.Choice.{greatest, least}
use Rattle.kql_meaning.specs.Aggregates.{aggregated, all_values, combined, distinct_given, first_of, given, listed, values_where}
use Rattle.kql_meaning.specs.Expressions.{first_kind, kind_of, kinds_in, reading, val, values_in}
use Rattle.kql_meaning.specs.FittingExpressions.{aggregate_takes, is_count, is_count_literal, literal_of, literal_step, one_or_first_of}
use Rattle.kql_meaning.specs.Numbers.{counted, fitted, sum_of}
use Rattle.kql_meaning.specs.Readings.{Reading, reading_at, rows_where, values_over}
use Rattle.kql_meaning.specs.Results.{compared_values, greatest_row, least_row}
use Rattle.kql_meaning.specs.Tables.{places}
use Rattle.kql_meaning.specs.Values.{holds}
use Rattle.kql_meaning.specs.Windows.{count_in}
use Rattle.kql_meaning.proofs.ReadingLaws.{reading-Literal}
use Rattle.agg_folds.specs.Calls.{call_of, limit_of, needs, number_in}
use Rattle.agg_folds.specs.Folds.{chosen_row, first_or_absent, folded, row_by, taken, taken_of, up_to, value_by, where_true}
use Rattle.agg_folds.specs.Laws.{ChosenIsGreatest, ChosenIsLeast, FoldIsAggregate, argument_rows}
use Rattle.agg_folds.proofs.FirstLaws.{first-place}

-- What is taken of rows, where each row gives a value, and where a test decides.
took-all : (h : List Value → Option Value) (g : ℕ → List Value) (a : ℕ → Value) (is : List ℕ) → ((i : ℕ) → h (g i) ≡ Some (a i)) → filter_map h (map g is) ≡ map a is
took-all h g a [] e = refl
took-all h g a (i ∷ is) e = rw (e i, took-all h g a is e) refl

took-where : (h : List Value → Option Value) (g : ℕ → List Value) (p : ℕ → Bool) (a : ℕ → Value) (is : List ℕ) → ((i : ℕ) → h (g i) ≡ (if p i then Some (a i) else None)) → filter_map h (map g is) ≡ map a (filter p is)
took-where h g p a [] e = refl
took-where h g p a (i ∷ is) e = elim (cases_Bool (p i)) [
  | inl t ↦ rw (e i, t, took-where h g p a is e) refl
  | inr f ↦ rw (e i, f, took-where h g p a is e) refl
]

-- The arguments of a row.

first-of-one : (args : List BExpr) (t : Grid) (i : ℕ) → argument (values_in (take 1 args) t i []) 0 ≡ (reading_at (map reading args) 0).at t i []
unfolding argument values_in val reading_at
first-of-one [] t i = refl
first-of-one (x ∷ args) t i = refl

first-of-two : (args : List BExpr) (t : Grid) (i : ℕ) → argument (values_in (take 2 args) t i []) 0 ≡ (reading_at (map reading args) 0).at t i []
unfolding argument values_in val reading_at
first-of-two [] t i = refl
first-of-two (x ∷ args) t i = refl

second-of-two : (args : List BExpr) (t : Grid) (i : ℕ) → argument (values_in (take 2 args) t i []) 1 ≡ (reading_at (map reading args) 1).at t i []
unfolding argument values_in val reading_at
second-of-two [] t i = refl
second-of-two (x ∷ []) t i = refl
second-of-two (x ∷ y ∷ args) t i = refl

module _ (args : List BExpr) (t : Grid) where
  abbrev readings : List Reading
  readings = map reading args

  -- What is taken where a condition stands behind the value.
  where-second : (i : ℕ) → where_true (argument (values_in (take 2 args) t i []) 1) (argument (values_in (take 2 args) t i []) 0) ≡ (if holds ((reading_at readings 1).at t i []) then Some ((reading_at readings 0).at t i []) else None)
  unfolding where_true
  where-second i = rw (first-of-two args t i, second-of-two args t i) refl

  where-first : (i : ℕ) → where_true (argument (values_in (take 1 args) t i []) 0) (argument (values_in (take 1 args) t i []) 0) ≡ (if holds ((reading_at readings 0).at t i []) then Some ((reading_at readings 0).at t i []) else None)
  unfolding where_true
  where-first i = rw (first-of-one args t i) refl

  -- All values of the first argument.
  one-taken : (h : List Value → Option Value) → ((row : List Value) → h row ≡ Some (argument row 0)) → filter_map h (map (λ i. values_in (take 1 args) t i []) (places t)) ≡ all_values (reading_at readings 0) t []
  unfolding all_values values_over
  one-taken h e = took-all h (λ i. values_in (take 1 args) t i []) (λ i. (reading_at readings 0).at t i []) (places t) (λ i. e (values_in (take 1 args) t i []) ∙ ap Some (first-of-one args t i))

  two-taken : (h : List Value → Option Value) → ((row : List Value) → h row ≡ where_true (argument row 1) (argument row 0)) → filter_map h (map (λ i. values_in (take 2 args) t i []) (places t)) ≡ values_where (reading_at readings 0) (reading_at readings 1) t []
  unfolding values_where values_over rows_where
  two-taken h e = took-where h (λ i. values_in (take 2 args) t i []) (λ i. holds ((reading_at readings 1).at t i [])) (λ i. (reading_at readings 0).at t i []) (places t) (λ i. e (values_in (take 2 args) t i []) ∙ where-second i)

kind-of-first : (args : List BExpr) (columns : List Column) → (reading_at (map reading args) 0).kind columns ≡ first_kind (kinds_in args columns)
unfolding reading_at kinds_in kind_of first_kind
kind-of-first [] columns = refl
kind-of-first (x ∷ args) columns = refl

-- The number behind the first argument.

literal-roll : (f : BExpr-F BExpr) (l : Lit) → literal_step f ≡ Some l → roll-BExpr f ≡ V.Literal l
literal-roll (BExpr-F.Literal m) l e = let same : m ≡ l = cc in V.rolls-Literal m ∙ ap V.Literal same
literal-roll (BExpr-F.Column n) l e = absurd cc
literal-roll (BExpr-F.Step c) l e = absurd cc
literal-roll (BExpr-F.Call f args) l e = absurd cc
literal-roll (BExpr-F.Chain first links) l e = absurd cc
literal-roll (BExpr-F.Path whole steps) l e = absurd cc
literal-roll (BExpr-F.Window f args) l e = absurd cc
literal-roll (BExpr-F.Aggregate f args) l e = absurd cc

-- A literal reads as its value.
literal-reads : (e : BExpr) (l : Lit) (t : Grid) → literal_of e ≡ Some l → (reading e).at t 0 [] ≡ l.value
unfolding literal_of
literal-reads e l t h =
    let is : e ≡ V.Literal l = sym (roll-out-BExpr e) ∙ literal-roll (out-BExpr e) l h in
    ap (λ x. (reading x).at t 0 []) is ∙ ap (λ (r : Reading). r.at t 0 []) (reading-Literal l)

has-literal : (o : Option Lit) → is_count_literal o ≡ true → (l : Lit) × (o ≡ Some l)
unfolding is_count_literal
has-literal None e = absurd cc
has-literal (Some l) e = (l, refl)

number-reads : (e : BExpr) (t : Grid) → is_count e ≡ true → count_in ((reading e).at t 0 []) ≡ number_in (literal_of e)
unfolding is_count number_in
number-reads e t h =
    let q = has-literal (literal_of e) h in
    ap count_in (literal-reads e q.0 t q.1) ∙ sym (ap number_in q.1)

limited : (args : List BExpr) (t : Grid) (vs : List Value) → one_or_first_of args t.columns ≡ true → first_of (slice_get (map reading args) 1) t [] vs ≡ up_to (option_map (λ e. number_in (literal_of e)) (slice_get args 1)) vs
unfolding one_or_first_of first_of up_to
limited [] t vs h = absurd cc
limited (x ∷ []) t vs h = refl
limited (x ∷ n ∷ []) t vs h = ap (λ k. take k vs) (number-reads n t (and_parts (is_some (kind_of x t.columns)) (is_count n) h).1)
limited (x ∷ n ∷ m ∷ more) t vs h = absurd cc

-- As many values are taken as there are rows, and as there are rows at which the condition is true.
counted-all : (args : List BExpr) (t : Grid) → counted (places t) ≡ counted (taken_of aggregate.Count (argument_rows aggregate.Count args t))
unfolding counted taken_of argument_rows needs taken argument values_in
counted-all args t =
    let all = took-all (taken aggregate.Count) (λ i. values_in (take 0 args) t i []) (λ i. value.Null) (places t) (λ i. refl) in
    ap (λ n. long_or_null (fit (pos n))) (sym (ap length all ∙ length-map (places t) (λ i. value.Null)))

counted-if : (args : List BExpr) (t : Grid) → counted (rows_where (reading_at (map reading args) 0) t []) ≡ counted (taken_of aggregate.CountIf (argument_rows aggregate.CountIf args t))
unfolding counted taken_of argument_rows needs taken rows_where
counted-if args t =
    let a = λ (i : ℕ). (reading_at (map reading args) 0).at t i [] in
    let p = λ (i : ℕ). holds (a i) in
    let all = took-where (taken aggregate.CountIf) (λ i. values_in (take 1 args) t i []) p a (places t) (λ i. where-first args t i) in
    ap (λ n. long_or_null (fit (pos n))) (sym (ap length all ∙ length-map (filter p (places t)) a))

-- What is taken of the rows of a table.
took-one : (f : Aggregate) → needs f ≡ 1 → ((row : List Value) → taken f row ≡ Some (argument row 0)) → (args : List BExpr) (t : Grid) → all_values (reading_at (map reading args) 0) t [] ≡ taken_of f (argument_rows f args t)
unfolding taken_of argument_rows
took-one f n e args t = rw n (sym (one-taken args t (taken f) e))

took-two : (f : Aggregate) → needs f ≡ 2 → ((row : List Value) → taken f row ≡ where_true (argument row 1) (argument row 0)) → (args : List BExpr) (t : Grid) → values_where (reading_at (map reading args) 0) (reading_at (map reading args) 1) t [] ≡ taken_of f (argument_rows f args t)
unfolding taken_of argument_rows
took-two f n e args t = rw n (sym (two-taken args t (taken f) e))

pub fold-is-aggregate : FoldIsAggregate
unfolding aggregate_takes aggregated folded call_of limit_of value_by needs taken up_to
fold-is-aggregate aggregate.Count args t h = counted-all args t
fold-is-aggregate aggregate.CountIf args t h = counted-if args t
fold-is-aggregate aggregate.CountDistinct args t h = ap (λ vs. counted (distinct_given vs)) (took-one aggregate.CountDistinct refl (λ row. refl) args t)
fold-is-aggregate aggregate.CountDistinctIf args t h = ap (λ vs. counted (distinct_given vs)) (took-two aggregate.CountDistinctIf refl (λ row. refl) args t)
fold-is-aggregate aggregate.Sum args t h = ap₂ (λ k vs. fitted k (sum_of vs)) (kind-of-first args t.columns) (took-one aggregate.Sum refl (λ row. refl) args t)
fold-is-aggregate aggregate.SumIf args t h = ap₂ (λ k vs. fitted k (sum_of vs)) (kind-of-first args t.columns) (took-two aggregate.SumIf refl (λ row. refl) args t)
fold-is-aggregate aggregate.Min args t h = ap least (took-one aggregate.Min refl (λ row. refl) args t)
fold-is-aggregate aggregate.MinIf args t h = ap least (took-two aggregate.MinIf refl (λ row. refl) args t)
fold-is-aggregate aggregate.Max args t h = ap greatest (took-one aggregate.Max refl (λ row. refl) args t)
fold-is-aggregate aggregate.MaxIf args t h = ap greatest (took-two aggregate.MaxIf refl (λ row. refl) args t)
fold-is-aggregate aggregate.MakeList args t h =
    ap listed (limited args t (given (all_values (reading_at (map reading args) 0) t [])) h
    ∙ ap (λ vs. up_to (option_map (λ e. number_in (literal_of e)) (slice_get args 1)) (given vs)) (took-one aggregate.MakeList refl (λ row. refl) args t))
fold-is-aggregate aggregate.MakeListIf args t h = ap (λ vs. listed (given vs)) (took-two aggregate.MakeListIf refl (λ row. refl) args t)
fold-is-aggregate aggregate.MakeSet args t h =
    ap listed (limited args t (distinct_given (all_values (reading_at (map reading args) 0) t [])) h
    ∙ ap (λ vs. up_to (option_map (λ e. number_in (literal_of e)) (slice_get args 1)) (distinct_given vs)) (took-one aggregate.MakeSet refl (λ row. refl) args t))
fold-is-aggregate aggregate.MakeSetIf args t h = ap (λ vs. listed (distinct_given vs)) (took-two aggregate.MakeSetIf refl (λ row. refl) args t)
fold-is-aggregate aggregate.ArgMax args t h = ap greatest (took-one aggregate.ArgMax refl (λ row. refl) args t)
fold-is-aggregate aggregate.ArgMin args t h = ap least (took-one aggregate.ArgMin refl (λ row. refl) args t)
fold-is-aggregate aggregate.TakeAny args t h =
    first-place args t h ∙ ap₂ first_or_absent (kind-of-first args t.columns) (took-one aggregate.TakeAny refl (λ row. refl) args t)
fold-is-aggregate aggregate.BinaryAllAnd args t h = ap (combined (int_bit_and w64)) (took-one aggregate.BinaryAllAnd refl (λ row. refl) args t)
fold-is-aggregate aggregate.BinaryAllOr args t h = ap (combined (int_bit_or w64)) (took-one aggregate.BinaryAllOr refl (λ row. refl) args t)
fold-is-aggregate aggregate.BinaryAllXor args t h = ap (combined (int_bit_xor w64)) (took-one aggregate.BinaryAllXor refl (λ row. refl) args t)

pub chosen-is-greatest : ChosenIsGreatest
unfolding compared_values chosen_row call_of row_by needs taken
chosen-is-greatest args t = ap greatest_row (took-one aggregate.ArgMax refl (λ row. refl) args t)

pub chosen-is-least : ChosenIsLeast
unfolding compared_values chosen_row call_of row_by needs taken
chosen-is-least args t = ap least_row (took-one aggregate.ArgMin refl (λ row. refl) args t)

pub ruleset fold_laws = (fold-is-aggregate, chosen-is-greatest, chosen-is-least)
