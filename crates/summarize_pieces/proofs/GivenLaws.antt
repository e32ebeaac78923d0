-- What a call gives over a group of rows, from what its fold keeps of them.
use Rattle.std.proofs.Common.{◌≡◌, ◌<◌, ℕ, zero, suc, true, List, [], ◌∷◌, drop, get_or, length, map, take, refl, ap, ap₂, sym, ◌∙◌, subst, inl, inr, arith}
use Rattle.std.specs.Prelude.{None, Option, Some, slice_get}
use Rattle.std.specs.List.{AllByRecursion, list_all}
use Rattle.std.proofs.lemmas.Bool.{and_parts, cases_Bool}
use Rattle.kql_cells.specs.Seen.{row_at}
use Rattle.kql_cells.specs.Table.{Grid, gathered}
use Rattle.kql_cells.specs.Values.{IsWellFormed}
use Rattle.kql_cells.specs.declared.schema.Column.{Column}
use Rattle.kql_cells.specs.declared.value.Kind.{Kind}
use Rattle.kql_cells.specs.declared.value.Value.{Value}
use Rattle.kql_functions.specs.Kinds.{has_order}
use Rattle.kql_functions.specs.declared.aggregate.Aggregate.{Aggregate}
use Rattle.kql_functions.specs.declared.aggregate.Aggregate.TheVariants as aggregate
use Rattle.kql_scalar_fns.specs.Arguments.{AreWellFormed, argument}
use Rattle.kql_bound.specs.declared.expr.BExpr.{BExpr}
use Rattle.kql_bound.specs.declared.expr.BExpr.TheVariants as V
use Rattle.kql_meaning.specs.declared.position.Position.TheVariants as position
use Rattle.kql_meaning.specs.Aggregates.{aggregated}
use Rattle.kql_meaning.specs.Expressions.{aggregate_kind, kind_of, kinds_in, val, values_in}
use Rattle.kql_meaning.specs.FittingExpressions.{aggregate_takes, best_of, has_kind, is_plain_column, scope_of}
use Rattle.kql_meaning.specs.Readings.{reading_at}
use Rattle.kql_meaning.specs.RowByRow.{is_plain}
use Rattle.kql_meaning.specs.Values.{absent_as}
use Rattle.kql_meaning.proofs.RowByRowLaws.{plain_reads_its_row}
use Rattle.kql_meaning.proofs.ValueLaws.{val-Aggregate}
use Rattle.kql_fit_laws.specs.LawsOfExpressions.{FitsKnown, RecordsFit, no_steps}
use Rattle.kql_fit_laws.specs.LawsOfRows.{IsTable}
use Rattle.kql_fit_laws.proofs.AggregateRows.{aggregate-known, call-parts}
use Rattle.kql_fit_laws.proofs.ExpressionLaws.{expressions_keep}
use Rattle.kql_row_laws.specs.Arguments.{argument_rows}
use Rattle.kql_row_laws.proofs.GatheredLaws.{aggregate_arguments_are_plain, arguments_of_gathered}
use Rattle.agg_folds.specs.Calls.{call_of, needs}
use Rattle.agg_folds.specs.Folds.{chosen_row, folded}
use Rattle.agg_folds.specs.Laws.{argument_rows as fold_rows}
use Rattle.agg_folds.proofs.FirstLaws.{column-empty}
use Rattle.agg_folds.proofs.FoldLaws.{chosen-is-greatest, chosen-is-least, fold-is-aggregate}
use Rattle.summarize_op.specs.Calls.{IsCall, best_row, is_best}
use Rattle.summarize_pieces.specs.Calls.{AreFurther, AreGiven, further_args, further_over, further_row}
use Rattle.summarize_pieces.specs.Pieces.{args_at, args_of, call_over, further_at, state_at}
use Rattle.summarize_pieces.proofs.ChosenLaws.{best-further, none-further}
use Rattle.summarize_pieces.proofs.PlanSteps.{call-arguments}

take-plain : (n : ℕ) (es : List BExpr) → list_all is_plain es ≡ true → list_all is_plain (take n es) ≡ true
take-plain zero es h = refl
take-plain (suc n) [] h = refl
take-plain (suc n) (e ∷ es) h =
    let parts = and_parts (is_plain e) (list_all is_plain es) h in
    rw (parts.0, take-plain n es parts.1) refl

-- What a call gives.
pub given-is : (f : Aggregate) (args : List BExpr) (t : Grid) (ps : List ℕ) → IsCall t.columns f args → val (V.Aggregate f args) (gathered t ps) 0 [] ≡ folded (call_over (f, args) t.columns) (args_at (f, args) t ps)
unfolding call_over args_at args_of fold_rows argument_rows
given-is f args t ps call =
    let u = gathered t ps in
    let takes : aggregate_takes f args t.columns ≡ true = (call-arguments t.columns f args call).1 in
    let plain = take-plain (needs f) args (aggregate_arguments_are_plain f args (scope_of t.columns) position.Group call.fits) in
    val-Aggregate f args u 0 []
    ∙ (fold-is-aggregate f args u takes
    ∙ ap (folded (call_of f args t.columns)) (arguments_of_gathered (take (needs f) args) t ps [] plain))

pub first-value : (e : BExpr) (es : List BExpr) (u : Grid) → val (V.Aggregate aggregate.TakeAny (e ∷ es)) u 0 [] ≡ val e u 0 []
unfolding aggregated reading_at val
first-value e es u = val-Aggregate aggregate.TakeAny (e ∷ es) u 0 []

-- A column without a row.
column-gone : (e : BExpr) (cs : List Column) → is_plain_column cs e ≡ true → val e (record { columns = cs; lines = [] }) 0 [] ≡ absent_as (kind_of e cs)
unfolding val kind_of
column-gone e cs h = column-empty e cs h

-- What several calls give.

abbrev over_rows : Grid → List ℕ → Aggregate × List BExpr → Value
over_rows t ps c = folded (call_over c t.columns) (args_at c t ps)

all-given : (cs : List (Aggregate × List BExpr)) (t : Grid) (ps : List ℕ) → AllByRecursion (λ (c : Aggregate × List BExpr). IsCall t.columns c.0 c.1) cs → AreGiven cs (gathered t ps) (map (over_rows t ps) cs)
unfolding AreGiven argument
all-given [] t ps h = tt
all-given ((f, args) ∷ cs) t ps h = (sym (given-is f args t ps h.0), all-given cs t ps h.1)

pub are-given : (cs : List (Aggregate × List BExpr)) (t : Grid) (ps : List ℕ) (vs : List Value) → AllByRecursion (λ (c : Aggregate × List BExpr). IsCall t.columns c.0 c.1) cs → vs ≡ map (over_rows t ps) cs → AreGiven cs (gathered t ps) vs
are-given cs t ps vs h is = subst (AreGiven cs (gathered t ps)) (sym is) (all-given cs t ps h)

-- What further columns are at the row that is chosen.

row-there : (lines : List (List Value)) (ps : List ℕ) (k i : ℕ) → slice_get ps k ≡ Some i → row_at (map (row_at lines) ps) k ≡ row_at lines i
row-there lines [] k i e = cc
row-there lines (p ∷ ps) zero i e = let same : p ≡ i = cc in ap (row_at lines) same
row-there lines (p ∷ ps) (suc k) i e = row-there lines ps k i e

row-gone : (lines : List (List Value)) (ps : List ℕ) (k : ℕ) → slice_get ps k ≡ None → row_at (map (row_at lines) ps) k ≡ []
row-gone lines [] k e = refl
row-gone lines (p ∷ ps) zero e = cc
row-gone lines (p ∷ ps) (suc k) e = row-gone lines ps k e

cells-there : (es : List BExpr) (t : Grid) (ps : List ℕ) (k i : ℕ) → list_all is_plain es ≡ true → slice_get ps k ≡ Some i → values_in es t i [] ≡ values_in es (gathered t ps) k []
unfolding values_in
cells-there [] t ps k i plain is = refl
cells-there (e ∷ es) t ps k i plain is =
    let parts = and_parts (is_plain e) (list_all is_plain es) plain in
    ap₂ (λ (v : Value) (vs : List Value). v ∷ vs)
    (sym (plain_reads_its_row e (gathered t ps) t k i [] parts.0 refl (row-there t.lines ps k i is)))
    (cells-there es t ps k i parts.1 is)

cells-gone : (es : List BExpr) (t : Grid) (ps : List ℕ) (k : ℕ) → list_all is_plain es ≡ true → list_all (is_plain_column t.columns) es ≡ true → slice_get ps k ≡ None → map (λ (e : BExpr). absent_as (kind_of e t.columns)) es ≡ values_in es (gathered t ps) k []
unfolding values_in
cells-gone [] t ps k plain columns is = refl
cells-gone (e ∷ es) t ps k plain columns is =
    let parts = and_parts (is_plain e) (list_all is_plain es) plain in
    let named = and_parts (is_plain_column t.columns e) (list_all (is_plain_column t.columns) es) columns in
    ap₂ (λ (v : Value) (vs : List Value). v ∷ vs)
    (sym (plain_reads_its_row e (gathered t ps) (record { columns = t.columns; lines = [] }) k 0 [] parts.0 refl (row-gone t.lines ps k is) ∙ column-gone e t.columns named.0))
    (cells-gone es t ps k parts.1 named.1 is)

absent-row : (cs : List Column) (es : List BExpr) → further_row cs es [] ≡ map (λ (e : BExpr). absent_as (kind_of e cs)) es
unfolding further_row
absent-row cs es = refl

no-row : (cs : List Column) (t : Grid) (i : ℕ) → further_row cs [] (values_in [] t i []) ≡ values_in [] t i []
unfolding further_row values_in
no-row cs t i = refl

kept-cells : (cs : List Column) (e : BExpr) (es : List BExpr) (t : Grid) (i : ℕ) → further_row cs (e ∷ es) (values_in (e ∷ es) t i []) ≡ values_in (e ∷ es) t i []
unfolding further_row values_in
kept-cells cs e es t i = refl

row-by-place : (es : List BExpr) (t : Grid) (ps : List ℕ) (k : ℕ) (o : Option ℕ) → slice_get ps k ≡ o → list_all is_plain es ≡ true → list_all (is_plain_column t.columns) es ≡ true → further_row t.columns es (further_at es t o) ≡ values_in es (gathered t ps) k []
unfolding further_at
row-by-place es t ps k None is plain columns = absent-row t.columns es ∙ cells-gone es t ps k plain columns is
row-by-place [] t ps k (Some i) is plain columns = no-row t.columns t i ∙ cells-there [] t ps k i plain is
row-by-place (e ∷ es) t ps k (Some i) is plain columns = kept-cells t.columns e es t i ∙ cells-there (e ∷ es) t ps k i plain is

best-columns : (f : Aggregate) (args : List BExpr) (cs : List Column) → is_best f ≡ true → aggregate_takes f args cs ≡ true → list_all (is_plain_column cs) (drop 1 args) ≡ true
unfolding is_best aggregate_takes best_of
best-columns aggregate.ArgMax [] cs b h = absurd cc
best-columns aggregate.ArgMax (e ∷ es) cs b h = (and_parts (has_kind has_order (kind_of e cs)) (list_all (is_plain_column cs) es) h).1
best-columns aggregate.ArgMin [] cs b h = absurd cc
best-columns aggregate.ArgMin (e ∷ es) cs b h = (and_parts (has_kind has_order (kind_of e cs)) (list_all (is_plain_column cs) es) h).1
best-columns _ args cs b h = absurd cc

rest-of-plain : (args : List BExpr) → list_all is_plain args ≡ true → list_all is_plain (drop 1 args) ≡ true
rest-of-plain [] h = refl
rest-of-plain (e ∷ es) h = (and_parts (is_plain e) (list_all is_plain es) h).1

chosen-of-rows : (f : Aggregate) (args : List BExpr) (u : Grid) → is_best f ≡ true → chosen_row (call_of f args u.columns) (fold_rows f args u) ≡ best_row f args u
unfolding is_best best_row
chosen-of-rows aggregate.ArgMax args u h = sym (chosen-is-greatest args u)
chosen-of-rows aggregate.ArgMin args u h = sym (chosen-is-least args u)
chosen-of-rows _ args u h = absurd cc

chosen-best : (f : Aggregate) (args : List BExpr) (t : Grid) (ps : List ℕ) → IsCall t.columns f args → is_best f ≡ true → chosen_row (call_over (f, args) t.columns) (args_at (f, args) t ps) ≡ best_row f args (gathered t ps)
unfolding call_over args_at args_of fold_rows argument_rows
chosen-best f args t ps call best =
    let u = gathered t ps in
    let plain = take-plain (needs f) args (aggregate_arguments_are_plain f args (scope_of t.columns) position.Group call.fits) in
    sym (ap (chosen_row (call_of f args t.columns)) (arguments_of_gathered (take (needs f) args) t ps [] plain)) ∙ chosen-of-rows f args u best

best-row : (f : Aggregate) (args : List BExpr) (t : Grid) (ps : List ℕ) → IsCall t.columns f args → is_best f ≡ true → further_row t.columns (drop 1 args) (further_at (drop 1 args) t (slice_get ps (chosen_row (call_over (f, args) t.columns) (args_at (f, args) t ps)))) ≡ values_in (drop 1 args) (gathered t ps) (best_row f args (gathered t ps)) []
best-row f args t ps call best =
    let k = chosen_row (call_over (f, args) t.columns) (args_at (f, args) t ps) in
    let plain = rest-of-plain args (aggregate_arguments_are_plain f args (scope_of t.columns) position.Group call.fits) in
    row-by-place (drop 1 args) t ps k (slice_get ps k) refl plain (best-columns f args t.columns best (call-arguments t.columns f args call).1)
    ∙ ap (λ n. values_in (drop 1 args) (gathered t ps) n []) (chosen-best f args t ps call best)

none-row : (columns : List Column) (t u : Grid) (o : Option ℕ) (n : ℕ) → further_row columns [] (further_at [] t o) ≡ values_in [] u n []
unfolding further_row further_at values_in
none-row columns t u None n = refl
none-row columns t u (Some i) n = refl

further-is : (f : Aggregate) (args : List BExpr) (t : Grid) (ps : List ℕ) → IsCall t.columns f args → further_row t.columns (further_args (f, args)) (state_at (f, args) t ps).further ≡ further_over (f, args) (gathered t ps)
unfolding state_at further_over
further-is f args t ps call =
    let u = gathered t ps in
    let o = slice_get ps (chosen_row (call_over (f, args) t.columns) (args_at (f, args) t ps)) in
    let P = λ (es : List BExpr). further_row t.columns es (further_at es t o) ≡ values_in es u (best_row f args u) [] in
    elim (cases_Bool (is_best f)) [
      | inl y ↦ subst P (sym (best-further f args y)) (best-row f args t ps call y)
      | inr n ↦ subst P (sym (none-further f args n)) (none-row t.columns t u o (best_row f args u))
    ]

all-further : (cs : List (Aggregate × List BExpr)) (t : Grid) (ps : List ℕ) → AllByRecursion (λ (c : Aggregate × List BExpr). IsCall t.columns c.0 c.1) cs → AreFurther t.columns cs (gathered t ps) (map (λ (c : Aggregate × List BExpr). (state_at c t ps).further) cs)
unfolding AreFurther
all-further [] t ps h = tt
all-further ((f, args) ∷ cs) t ps h = (further-is f args t ps h.0, all-further cs t ps h.1)

pub are-further : (cs : List (Aggregate × List BExpr)) (t : Grid) (ps : List ℕ) (rows : List (List Value)) → AllByRecursion (λ (c : Aggregate × List BExpr). IsCall t.columns c.0 c.1) cs → rows ≡ map (λ (c : Aggregate × List BExpr). (state_at c t ps).further) cs → AreFurther t.columns cs (gathered t ps) rows
are-further cs t ps rows h is = subst (AreFurther t.columns cs (gathered t ps)) (sym is) (all-further cs t ps h)

-- It is well formed.

known-form : (o : Option Kind) (v : Value) → FitsKnown o v → IsWellFormed v
known-form None v h = absurd h
known-form (Some k) v h = h.1

no-records : (columns : List Column) → RecordsFit columns []
no-records columns k d l = absurd (omega arith)

call-formed : (f : Aggregate) (args : List BExpr) (u : Grid) → IsTable u → IsCall u.columns f args → IsWellFormed (val (V.Aggregate f args) u 0 [])
call-formed f args u h call =
    let parts = call-parts f args u no_steps position.Group call.fits in
    let known = aggregate-known u no_steps h (no-records u.columns) f args (λ x m. expressions_keep x) parts.0 parts.1 in
    known-form (aggregate_kind f (kinds_in args u.columns)) (val (V.Aggregate f args) u 0 []) (rw (val-Aggregate f args u 0 []) known)

no-forms : AreWellFormed []
no-forms = record { each = λ k d l. absurd (omega arith) }

each-form : (v : Value) (vs : List Value) → IsWellFormed v → AreWellFormed vs → (k : ℕ) (d : Value) → k < length (v ∷ vs) → IsWellFormed (get_or (v ∷ vs) k d)
each-form v vs f h zero d l = f
each-form v vs f h (suc k) d l = h.each k d (omega arith)

all-formed : (cs : List (Aggregate × List BExpr)) (t : Grid) (ps : List ℕ) → IsTable (gathered t ps) → AllByRecursion (λ (c : Aggregate × List BExpr). IsCall t.columns c.0 c.1) cs → AreWellFormed (map (over_rows t ps) cs)
all-formed [] t ps h calls = no-forms
all-formed ((f, args) ∷ cs) t ps h calls =
    let own = subst IsWellFormed (given-is f args t ps calls.0) (call-formed f args (gathered t ps) h calls.0) in
    record { each = each-form (over_rows t ps (f, args)) (map (over_rows t ps) cs) own (all-formed cs t ps h calls.1) }

pub are-formed : (cs : List (Aggregate × List BExpr)) (t : Grid) (ps : List ℕ) (vs : List Value) → IsTable (gathered t ps) → AllByRecursion (λ (c : Aggregate × List BExpr). IsCall t.columns c.0 c.1) cs → vs ≡ map (over_rows t ps) cs → AreWellFormed vs
are-formed cs t ps vs h calls is = subst AreWellFormed (sym is) (all-formed cs t ps h calls)
