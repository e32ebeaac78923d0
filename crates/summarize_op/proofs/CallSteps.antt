-- A call over groups is the value of its folds.
use Rattle.std.proofs.Common.{◌≡◌, ◌<◌, ◌≤◌, ◌+◌, ◌==◌, ℕ, suc, Bool, true, List, [], ◌∷◌, length, map, take, refl, ap, ap₂, sym, ◌∙◌, subst, inl, inr, arith}
use Rattle.std.specs.List.{AllByRecursion, list_all, range_with_len}
use Rattle.std.proofs.lemmas.Bool.{cases_Bool}
use Rattle.std.proofs.lemmas.List.Elements.{All-from_recursion}
use Rattle.kql_cells.specs.Table.{Grid}
use Rattle.kql_cells.specs.Values.{IsWellFormed}
use Rattle.kql_cells.specs.declared.schema.Column.{Column}
use Rattle.kql_cells.specs.declared.value.Value.{Value}
use Rattle.kql_values.specs.Grids.{HaveLength, row_of}
use Rattle.kql_keys.specs.Numbers.{places_from}
use Rattle.kql_keys.specs.Places.{places_of}
use Rattle.kql_scalar_fns.specs.Arguments.{AreWellFormed}
use Rattle.kql_functions.specs.declared.aggregate.Aggregate.{Aggregate}
use Rattle.kql_bound.specs.declared.expr.BExpr.{BExpr}
use Rattle.kql_bound.specs.declared.expr.BExpr.TheVariants as V
use Rattle.kql_meaning.specs.declared.position.Position.TheVariants as position
use Rattle.kql_meaning.specs.Expressions.{aggregate_kind, kinds_in, val, values_in}
use Rattle.kql_meaning.specs.FittingExpressions.{aggregate_takes}
use Rattle.kql_meaning.specs.RowByRow.{is_plain}
use Rattle.kql_meaning.specs.Tables.{places}
use Rattle.kql_meaning.proofs.ListLaws.{every-map-range}
use Rattle.kql_meaning.proofs.ValueLaws.{val-Aggregate}
use Rattle.kql_fit_laws.specs.LawsOfExpressions.{RecordsFit, no_steps}
use Rattle.kql_fit_laws.specs.LawsOfRows.{IsTable}
use Rattle.kql_fit_laws.proofs.AggregateRows.{aggregate-known, call-parts}
use Rattle.kql_fit_laws.proofs.ExpressionLaws.{expressions_keep}
use Rattle.kql_fit_laws.proofs.RowFacts.{gathered-table}
use Rattle.kql_row_laws.specs.Arguments.{argument_rows}
use Rattle.kql_row_laws.proofs.GatheredLaws.{arguments_of_gathered}
use Rattle.agg_folds.specs.Calls.{call_of, needs}
use Rattle.agg_folds.specs.Folds.{folded}
use Rattle.agg_folds.specs.Laws.{argument_rows as fold_rows}
use Rattle.agg_folds.specs.declared.call.FoldCall.{FoldCall}
use Rattle.agg_folds.proofs.FoldLaws.{fold-is-aggregate}
use Rattle.summarize_op.specs.Calls.{IsCall}
use Rattle.summarize_op.specs.Grouped.{AreNumbers, over}
use Rattle.summarize_op.specs.Groups.{group_at}
use Rattle.summarize_op.specs.Passes.{argument_columns, folded_over, group_args}
use Rattle.summarize_op.proofs.ArgumentSteps.{arguments-long, arguments-row, call-takes, first-plain, known-form}
use Rattle.summarize_op.proofs.ColumnFacts.{map-range-same}

-- The places of a number are those of rows.

places-under : (a m : ℕ) (p : ℕ → Bool) (ns : List ℕ) → a + length ns ≤ m → AllByRecursion (λ i. i < m) (places_from a p ns)
places-under a m p [] le = tt
places-under a m p (n ∷ ns) le =
    let rest = places-under (suc a) m p ns (omega (arith, le)) in
    elim (cases_Bool (p n)) [ inl t ↦ rw t (omega (arith, le), rest) | inr f ↦ rw f rest ]

pub places-inside : (t : Grid) (ns : List ℕ) (count g : ℕ) → AreNumbers t ns count → AllByRecursion (λ i. i < length t.lines) (places_of ns g)
unfolding places_of
places-inside t ns count g h = places-under 0 (length t.lines) (λ x. x == g) ns (omega (arith, h.each))

pub group-table : (t : Grid) (ns : List ℕ) (count g : ℕ) → IsTable t → AreNumbers t ns count → IsTable (group_at t ns g)
unfolding group_at
group-table t ns count g h n = gathered-table t (places_of ns g) h (All-from_recursion (λ i. i < length t.lines) (places_of ns g) (places-inside t ns count g n))

pub group-columns : (t : Grid) (ns : List ℕ) (g : ℕ) → (group_at t ns g).columns ≡ t.columns
unfolding group_at
group-columns t ns g = refl

-- What the arguments are at the rows of a number.

map-members : {Y : Type 0} (f g : ℕ → Y) (n : ℕ) (is : List ℕ) → AllByRecursion (λ i. i < n) is → ((i : ℕ) → i < n → f i ≡ g i) → map f is ≡ map g is
map-members f g n [] a h = refl
map-members f g n (i ∷ is) a h = ap₂ (λ y ys. y ∷ ys) (h i a.0) (map-members f g n is a.1 h)

pub rows-of-group : (es : List BExpr) (t : Grid) (ns : List ℕ) (count g : ℕ) → list_all is_plain es ≡ true → AreNumbers t ns count → map (λ k. values_in es (group_at t ns g) k []) (places (group_at t ns g)) ≡ group_args (argument_columns es t) ns g
unfolding group_at group_args argument_rows
rows-of-group es t ns count g plain h =
    arguments_of_gathered es t (places_of ns g) [] plain
    ∙ map-members (λ i. values_in es t i []) (row_of (argument_columns es t)) (length t.lines) (places_of ns g) (places-inside t ns count g h) (λ i lt. sym (arguments-row es t i lt))

-- The value of a call over the rows of a number.

folded-group : (f : Aggregate) (args : List BExpr) (t : Grid) (ns : List ℕ) (count g : ℕ) → IsCall t.columns f args → AreNumbers t ns count → val (V.Aggregate f args) (group_at t ns g) 0 [] ≡ folded (call_of f args t.columns) (group_args (argument_columns (take (needs f) args) t) ns g)
unfolding fold_rows
folded-group f args t ns count g call h =
    let u = group_at t ns g in
    let named : u.columns ≡ t.columns = group-columns t ns g in
    let takes : aggregate_takes f args u.columns ≡ true = subst (λ cs. aggregate_takes f args cs ≡ true) (sym named) (call-takes t.columns f args call) in
    val-Aggregate f args u 0 []
    ∙ (fold-is-aggregate f args u takes
    ∙ ap₂ (λ (c : FoldCall) (rs : List (List Value)). folded c rs) (ap (call_of f args) named) (rows-of-group (take (needs f) args) t ns count g (first-plain t.columns f args (needs f) call) h))

pub folded-is : (f : Aggregate) (args : List BExpr) (t : Grid) (ns : List ℕ) (count : ℕ) (call : FoldCall) (first : List BExpr) (columns : List (List Value)) (vs : List Value) → IsCall t.columns f args → AreNumbers t ns count → call ≡ call_of f args t.columns → first ≡ take (needs f) args → columns ≡ argument_columns first t → vs ≡ folded_over call columns ns count → vs ≡ over (V.Aggregate f args) t ns count
unfolding folded_over over
folded-is f args t ns count call first columns vs fits h named read is made =
    let same : columns ≡ argument_columns (take (needs f) args) t = is ∙ ap (λ (es : List BExpr). argument_columns es t) read in
    made
    ∙ map-range-same (λ g. folded call (group_args columns ns g)) (λ g. val (V.Aggregate f args) (group_at t ns g) 0 []) 0 count
    (λ g lt. ap₂ (λ (c : FoldCall) (cols : List (List Value)). folded c (group_args cols ns g)) named same ∙ sym (folded-group f args t ns count g fits h))

-- Its values are well formed.

no-records : (columns : List Column) → RecordsFit columns []
no-records columns k d l = absurd (omega arith)

one-formed : (f : Aggregate) (args : List BExpr) (u : Grid) → IsTable u → IsCall u.columns f args → IsWellFormed (val (V.Aggregate f args) u 0 [])
one-formed f args u h call =
    let parts = call-parts f args u no_steps position.Group call.fits in
    let known = aggregate-known u no_steps h (no-records u.columns) f args (λ x m. expressions_keep x) parts.0 parts.1 in
    known-form (aggregate_kind f (kinds_in args u.columns)) (val (V.Aggregate f args) u 0 []) (rw (val-Aggregate f args u 0 []) known)

pub call-formed : (f : Aggregate) (args : List BExpr) (t : Grid) (ns : List ℕ) (count : ℕ) (vs : List Value) → IsTable t → IsCall t.columns f args → AreNumbers t ns count → vs ≡ over (V.Aggregate f args) t ns count → AreWellFormed vs
unfolding over
call-formed f args t ns count vs h call n e =
    subst AreWellFormed (sym e) (record {
      each = All-from_recursion IsWellFormed (map (λ g. val (V.Aggregate f args) (group_at t ns g) 0 []) (range_with_len 0 count))
          (every-map-range IsWellFormed (λ g. val (V.Aggregate f args) (group_at t ns g) 0 []) 0 count
          (λ g low high. one-formed f args (group_at t ns g) (group-table t ns count g h n) (subst (λ cs. IsCall cs f args) (sym (group-columns t ns g)) call)));
    })

pub columns-long : (t : Grid) (ns : List ℕ) (count n : ℕ) (es : List BExpr) (vs : List (List Value)) → AreNumbers t ns count → vs ≡ argument_columns es t → n ≡ length ns → HaveLength n vs
columns-long t ns count n es vs h e len = subst (λ m. HaveLength m vs) (sym (len ∙ h.each)) (subst (HaveLength (length t.lines)) (sym e) (arguments-long es t))
