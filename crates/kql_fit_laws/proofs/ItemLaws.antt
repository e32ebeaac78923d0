-- Rows of every item, key and item of a group that fits.
use Rattle.std.proofs.Common.{◌≡◌, ℕ, suc, Bool, true, false, List, [], ◌∷◌, map, length, refl, sym, ap, ◌∙◌, subst, arith}
use Rattle.std.specs.Prelude.{◌&&◌, ◌==◌, None, Option, Some, unwrap_or}
use Rattle.std.specs.List.{list_all}
use Rattle.std.proofs.lemmas.Bool.{and_parts}
use Rattle.std.proofs.lemmas.Bool.Decides.{nat_tests}
use Rattle.kql_cells.specs.Table.{Grid, RowFits}
use Rattle.kql_cells.specs.declared.schema.Column.{Column}
use Rattle.kql_cells.specs.declared.value.Kind.{Kind}
use Rattle.kql_cells.specs.declared.value.Kind.TheVariants as kind
use Rattle.kql_cells.specs.declared.value.Value.{Value}
use Rattle.kql_functions.specs.declared.aggregate.Aggregate.{Aggregate}
use Rattle.kql_functions.specs.declared.aggregate.Aggregate.TheVariants as aggregate
use Rattle.kql_bound.specs.declared.expr.BExpr.{BExpr, out-BExpr, out-roll-BExpr, roll-BExpr, roll-out-BExpr}
use Rattle.kql_bound.specs.declared.expr.BExpr.TheOpen.{BExpr-F}
use Rattle.kql_bound.specs.declared.expr.BExpr.TheVariants as V
use Rattle.kql_meaning.specs.declared.position.Position.{Position}
use Rattle.kql_meaning.specs.declared.position.Position.TheVariants as position
use Rattle.kql_meaning.specs.Expressions.{aggregate_kind, first_kind, kind_of, kinds_in, val, values_in}
use Rattle.kql_meaning.specs.FittingExpressions.{aggregate_fits, aggregate_takes, best_of, call_or_expr_fits, call_or_expr_fits_step, checked_args, expr_fits, first_row_of, fits_as, has_kind, is_aggregate_call_step, is_key, is_plain_column, scope_of, takes_aggregate, takes_columns}
use Rattle.kql_functions.specs.Kinds.{has_order}
use Rattle.kql_meaning.specs.FittingOperators.{group_item_fits, has_its_names, item_fits, key_item_fits}
use Rattle.kql_meaning.specs.Items.{named_columns}
use Rattle.kql_meaning.specs.Results.{aggregate_result_kinds, has_one_result, result_kinds, result_kinds_step, results, results_step, typed}
use Rattle.kql_meaning.proofs.KindLaws.{kind-Aggregate}
use Rattle.kql_meaning.proofs.ValueLaws.{val-Aggregate}
use Rattle.kql_meaning.proofs.ResultLaws.{result-Aggregate}
use Rattle.kql_meaning.proofs.ExpressionFitLaws.{aggregate-checked, call-Aggregate, fits-Aggregate}
use Rattle.kql_fit_laws.proofs.AggregateRows.{aggregate-known, call-parts}
use Rattle.kql_fit_laws.proofs.ExpressionLaws.{expressions_keep}
use Rattle.kql_fit_laws.proofs.ExpressionRows.{IsRead}
use Rattle.kql_fit_laws.proofs.WindowRows.{plain-known}
use Rattle.kql_fit_laws.specs.LawsOfCalls.{FitsKind}
use Rattle.kql_fit_laws.proofs.GroupRows.{summarize_keeps}
use Rattle.kql_fit_laws.proofs.ItemRows.{extend_keeps, print_keeps, project_keeps}
use Rattle.kql_fit_laws.specs.LawsOfExpressions.{EachExtendKeeps, EachPrintKeeps, EachProjectKeeps, EachSummarizeKeeps, FitsKnown, GroupItemsKeep, ItemsKeep, KeyItemsKeep, RecordsFit, no_steps}
use Rattle.kql_fit_laws.specs.LawsOfRows.{IsTable}

-- Outside scan no record is held.
no-records : (columns : List Column) → RecordsFit columns []
no-records columns k d l = absurd (omega arith)

-- Values beside their types.
abbrev AllFit : List Kind → List Value → Type 0
AllFit [] [] = Unit {0}
AllFit (k ∷ ks) (v ∷ vs) = FitsKind k v × AllFit ks vs
AllFit _ _ = ⊥

one-less : (m n : ℕ) → (suc m == suc n) ≡ true → (m == n) ≡ true
one-less m n e = grind (arith, nat_tests)

none-is-not-some : (n : ℕ) → (0 == suc n) ≡ true → ⊥
none-is-not-some n e = grind (arith, nat_tests)

some-is-not-none : (n : ℕ) → (suc n == 0) ≡ true → ⊥
some-is-not-none n e = grind (arith, nat_tests)

named-fit : (names : List (List ℕ)) (ks : List Kind) (vs : List Value) → (length names == length ks) ≡ true → AllFit ks vs → RowFits (named_columns names ks) vs
unfolding RowFits named_columns
named-fit [] [] [] e h = tt
named-fit [] [] (v ∷ vs) e h = absurd h
named-fit [] (k ∷ ks) vs e h = absurd (none-is-not-some (length ks) e)
named-fit (n ∷ ns) [] vs e h = absurd (some-is-not-none (length ns) e)
named-fit (n ∷ ns) (k ∷ ks) [] e h = absurd h
named-fit (n ∷ ns) (k ∷ ks) (v ∷ vs) e h = (h.0, named-fit ns ks vs (one-less (length ns) (length ks) e) h.1)

known-kind : (o : Option Kind) (v : Value) → FitsKnown o v → FitsKind (unwrap_or o kind.Dynamic) v
known-kind None v h = absurd h
known-kind (Some k) v h = h

typed-fits : (e : BExpr) (columns : List Column) (v : Value) → FitsKnown (kind_of e columns) v → FitsKind (typed e columns) v
unfolding typed
typed-fits e columns v h = known-kind (kind_of e columns) v h

-- Calls of aggregates, with one result column or several.

columns-fit : (cs : List BExpr) (t : Grid) (i : ℕ) → IsTable t → list_all (is_plain_column t.columns) cs ≡ true → AllFit (map (λ a. typed a t.columns) cs) (values_in cs t i [])
unfolding values_in
columns-fit [] t i h e = tt
columns-fit (c ∷ cs) t i h e =
    let parts = and_parts (is_plain_column t.columns c) (list_all (is_plain_column t.columns) cs) e in
    (typed-fits c t.columns (val c t i []) (plain-known c t i [] h parts.0), columns-fit cs t i h parts.1)

-- What the first argument's value and columns beside it give.
beside : (x : BExpr) (cs : List BExpr) (v : Value) (t : Grid) (row : ℕ) → IsTable t → best_of (x ∷ cs) t.columns ≡ true → FitsKnown (first_kind (kinds_in (x ∷ cs) t.columns)) v → AllFit (map (λ a. typed a t.columns) (x ∷ cs)) (v ∷ values_in cs t row [])
unfolding best_of first_kind kinds_in
beside x cs v t row h takes known =
    let plain = (and_parts (has_kind has_order (kind_of x t.columns)) (list_all (is_plain_column t.columns) cs) takes).1 in
    (typed-fits x t.columns v known, columns-fit cs t row h plain)

first-row : (args : List BExpr) (t : Grid) → IsTable t → first_row_of args t.columns ≡ true → AllFit (map (λ a. typed a t.columns) args) (values_in args t 0 [])
unfolding first_row_of
first-row [] t h takes = absurd cc
first-row (c ∷ cs) t h takes = columns-fit (c ∷ cs) t 0 h takes

none-best : (columns : List Column) → best_of [] columns ≡ true → ⊥
unfolding best_of
none-best columns e = absurd cc

spread : (f : Aggregate) (args : List BExpr) (one : Kind) (v : Value) (t : Grid) → IsTable t → aggregate_takes f args t.columns ≡ true → FitsKnown (aggregate_kind f (kinds_in args t.columns)) v → FitsKind one v → AllFit (aggregate_result_kinds f args one t.columns) (results_step (BExpr-F.Aggregate f args) v t [])
unfolding aggregate_result_kinds aggregate_takes aggregate_kind
spread aggregate.ArgMax [] one v t h takes known fits = absurd (none-best t.columns takes)
spread aggregate.ArgMax (x ∷ cs) one v t h takes known fits = beside x cs v t _ h takes known
spread aggregate.ArgMin [] one v t h takes known fits = absurd (none-best t.columns takes)
spread aggregate.ArgMin (x ∷ cs) one v t h takes known fits = beside x cs v t _ h takes known
spread aggregate.TakeAny args one v t h takes known fits = first-row args t h takes
spread _ args one v t h takes known fits = (fits, tt)

rolled : (f : Aggregate) (args : List BExpr) → out-BExpr (V.Aggregate f args) ≡ BExpr-F.Aggregate f args
rolled f args = ap out-BExpr (sym (V.rolls-Aggregate f args)) ∙ out-roll-BExpr (BExpr-F.Aggregate f args)

call-item : (f : Aggregate) (args : List BExpr) (at : Position) (t : Grid) (i : ℕ) → IsTable t → aggregate_fits f (checked_args args) (scope_of t.columns) at ≡ true → AllFit (result_kinds (V.Aggregate f args) t.columns) (results (V.Aggregate f args) t i [])
unfolding results
call-item f args at t i h e =
    let parts = call-parts f args t no_steps at e in
    let known = aggregate-known t no_steps h (no-records t.columns) f args (λ x m. expressions_keep x) parts.0 parts.1 in
    let v : Value = val (V.Aggregate f args) t i [] in
    let told : FitsKnown (aggregate_kind f (kinds_in args t.columns)) v = rw (val-Aggregate f args t i []) known in
    let fits : FitsKnown (kind_of (V.Aggregate f args) t.columns) v = rw (kind-Aggregate f args t.columns) told in
    let all = spread f args (typed (V.Aggregate f args) t.columns) v t h parts.1 told (typed-fits (V.Aggregate f args) t.columns v fits) in
    rw (result-Aggregate f args t.columns) (subst (λ (g : BExpr-F BExpr). AllFit (aggregate_result_kinds f args (typed (V.Aggregate f args) t.columns) t.columns) (results_step g v t [])) (sym (rolled f args)) all)

-- Every other expression has one result column.

one-kind : (f : BExpr-F BExpr) (one : Kind) (columns : List Column) → is_aggregate_call_step f ≡ false → result_kinds_step f one columns ≡ one ∷ []
one-kind (BExpr-F.Aggregate f args) one columns e = absurd cc
one-kind _ one columns e = refl

one-result : (f : BExpr-F BExpr) (v : Value) (t : Grid) → is_aggregate_call_step f ≡ false → results_step f v t [] ≡ v ∷ []
one-result (BExpr-F.Aggregate f args) v t e = absurd cc
one-result _ v t e = refl

-- An expression by its layer.

abbrev Fits : Position → Grid → BExpr → Type 0
Fits at t e = call_or_expr_fits e (scope_of t.columns) at ≡ true

abbrev Gives : Grid → ℕ → BExpr → Type 0
Gives t i e = AllFit (result_kinds e t.columns) (results e t i [])

other-fits : (f : BExpr-F BExpr) (other : Bool) (at : Position) (t : Grid) → is_aggregate_call_step f ≡ false → call_or_expr_fits_step f other (scope_of t.columns) at ≡ other
other-fits (BExpr-F.Aggregate f args) other at t e = absurd cc
other-fits _ other at t e = refl

other-item : (f : BExpr-F BExpr) (at : Position) (t : Grid) (i : ℕ) → is_aggregate_call_step f ≡ false → IsTable t → IsRead at t i → Fits at t (roll-BExpr f) → Gives t i (roll-BExpr f)
unfolding call_or_expr_fits result_kinds results
other-item f at t i not-call h lt e =
    let x = roll-BExpr f in
    let scope = scope_of t.columns in
    let out : out-BExpr x ≡ f = out-roll-BExpr f in
    let same : call_or_expr_fits_step (out-BExpr x) (expr_fits x scope at) scope at ≡ expr_fits x scope at =
    ap (λ (g : BExpr-F BExpr). call_or_expr_fits_step g (expr_fits x scope at) scope at) out ∙ other-fits f (expr_fits x scope at) at t not-call in
    let known = expressions_keep x at t i no_steps h (no-records t.columns) lt (sym same ∙ e) in
    let kinds : result_kinds_step (out-BExpr x) (typed x t.columns) t.columns ≡ typed x t.columns ∷ [] =
    ap (λ (g : BExpr-F BExpr). result_kinds_step g (typed x t.columns) t.columns) out ∙ one-kind f (typed x t.columns) t.columns not-call in
    let values : results_step (out-BExpr x) (val x t i []) t [] ≡ val x t i [] ∷ [] =
    ap (λ (g : BExpr-F BExpr). results_step g (val x t i []) t []) out ∙ one-result f (val x t i []) t not-call in
    subst (λ ks. AllFit ks (results_step (out-BExpr x) (val x t i []) t [])) (sym kinds)
    (subst (λ vs. AllFit (typed x t.columns ∷ []) vs) (sym values) (typed-fits x t.columns (val x t i []) known, tt))

layer-item : (f : BExpr-F BExpr) (at : Position) (t : Grid) (i : ℕ) → IsTable t → IsRead at t i → Fits at t (roll-BExpr f) → Gives t i (roll-BExpr f)
layer-item (BExpr-F.Aggregate f args) at t i h lt =
    subst (λ (x : BExpr). Fits at t x → Gives t i x) (sym (V.rolls-Aggregate f args)) (λ e. call-item f args at t i h (sym (call-Aggregate f args (scope_of t.columns) at) ∙ e))
layer-item (BExpr-F.Literal l) at t i h lt = other-item (BExpr-F.Literal l) at t i refl h lt
layer-item (BExpr-F.Column n) at t i h lt = other-item (BExpr-F.Column n) at t i refl h lt
layer-item (BExpr-F.Step c) at t i h lt = other-item (BExpr-F.Step c) at t i refl h lt
layer-item (BExpr-F.Call f args) at t i h lt = other-item (BExpr-F.Call f args) at t i refl h lt
layer-item (BExpr-F.Chain first links) at t i h lt = other-item (BExpr-F.Chain first links) at t i refl h lt
layer-item (BExpr-F.Path whole steps) at t i h lt = other-item (BExpr-F.Path whole steps) at t i refl h lt
layer-item (BExpr-F.Window f args) at t i h lt = other-item (BExpr-F.Window f args) at t i refl h lt

results-fit : (e : BExpr) (at : Position) (t : Grid) (i : ℕ) → IsTable t → IsRead at t i → Fits at t e → Gives t i e
results-fit e at t i h lt = subst (λ (x : BExpr). Fits at t x → Gives t i x) (roll-out-BExpr e) (layer-item (out-BExpr e) at t i h lt)

-- One result column is one or several.

other-call : (f : BExpr-F BExpr) (at : Position) (t : Grid) → is_aggregate_call_step f ≡ false → expr_fits (roll-BExpr f) (scope_of t.columns) at ≡ true → Fits at t (roll-BExpr f)
unfolding call_or_expr_fits
other-call f at t not-call e =
    let x = roll-BExpr f in
    let scope = scope_of t.columns in
    ap (λ (g : BExpr-F BExpr). call_or_expr_fits_step g (expr_fits x scope at) scope at) (out-roll-BExpr f) ∙ (other-fits f (expr_fits x scope at) at t not-call ∙ e)

layer-call : (f : BExpr-F BExpr) (at : Position) (t : Grid) → expr_fits (roll-BExpr f) (scope_of t.columns) at ≡ true → Fits at t (roll-BExpr f)
layer-call (BExpr-F.Aggregate f args) at t =
    subst (λ (x : BExpr). expr_fits x (scope_of t.columns) at ≡ true → Fits at t x) (sym (V.rolls-Aggregate f args))
    (λ e. call-Aggregate f args (scope_of t.columns) at ∙ (and_parts (has_one_result f args) (aggregate_fits f (checked_args args) (scope_of t.columns) at) (sym (fits-Aggregate f args (scope_of t.columns) at) ∙ e)).1)
layer-call (BExpr-F.Literal l) at t = other-call (BExpr-F.Literal l) at t refl
layer-call (BExpr-F.Column n) at t = other-call (BExpr-F.Column n) at t refl
layer-call (BExpr-F.Step c) at t = other-call (BExpr-F.Step c) at t refl
layer-call (BExpr-F.Call f args) at t = other-call (BExpr-F.Call f args) at t refl
layer-call (BExpr-F.Chain first links) at t = other-call (BExpr-F.Chain first links) at t refl
layer-call (BExpr-F.Path whole steps) at t = other-call (BExpr-F.Path whole steps) at t refl
layer-call (BExpr-F.Window f args) at t = other-call (BExpr-F.Window f args) at t refl

call-of : (e : BExpr) (at : Position) (t : Grid) → expr_fits e (scope_of t.columns) at ≡ true → Fits at t e
call-of e at t = subst (λ (x : BExpr). expr_fits x (scope_of t.columns) at ≡ true → Fits at t x) (roll-out-BExpr e) (layer-call (out-BExpr e) at t)

-- Items.

pub items_keep : ItemsKeep
unfolding item_fits has_its_names
items_keep at b t i h lt fits =
    let parts = and_parts (expr_fits b.expr (scope_of t.columns) at) (length b.names == length (result_kinds b.expr t.columns)) fits in
    named-fit b.names (result_kinds b.expr t.columns) (results b.expr t i []) parts.1 (results-fit b.expr at t i h (λ x. lt) (call-of b.expr at t parts.0))

group-reads : (t : Grid) → IsRead position.Group t 0
unfolding takes_columns
group-reads t x = absurd cc

pub group_items_keep : GroupItemsKeep
unfolding group_item_fits has_its_names
group_items_keep b t h fits =
    let parts = and_parts (call_or_expr_fits b.expr (scope_of t.columns) position.Group) (length b.names == length (result_kinds b.expr t.columns)) fits in
    named-fit b.names (result_kinds b.expr t.columns) (results b.expr t 0 []) parts.1 (results-fit b.expr position.Group t 0 h (group-reads t) parts.0)

-- No aggregate stands in a key.
plain-kind : (f : BExpr-F BExpr) (t : Grid) → expr_fits (roll-BExpr f) (scope_of t.columns) position.Plain ≡ true → is_aggregate_call_step f ≡ false
unfolding takes_aggregate
plain-kind (BExpr-F.Aggregate f args) t e =
    let x : expr_fits (V.Aggregate f args) (scope_of t.columns) position.Plain ≡ true = ap (λ (x : BExpr). expr_fits x (scope_of t.columns) position.Plain) (sym (V.rolls-Aggregate f args)) ∙ e in
    let y = and_parts (has_one_result f args) (aggregate_fits f (checked_args args) (scope_of t.columns) position.Plain) (sym (fits-Aggregate f args (scope_of t.columns) position.Plain) ∙ x) in
    let z : false ≡ true = sym (aggregate-checked f args (scope_of t.columns) position.Plain) ∙ y.1 in
    absurd cc
plain-kind _ t e = refl

key-kinds : (e : BExpr) (t : Grid) → expr_fits e (scope_of t.columns) position.Plain ≡ true → result_kinds e t.columns ≡ typed e t.columns ∷ []
unfolding result_kinds
key-kinds e t fits =
    one-kind (out-BExpr e) (typed e t.columns) t.columns (plain-kind (out-BExpr e) t (ap (λ (x : BExpr). expr_fits x (scope_of t.columns) position.Plain) (roll-out-BExpr e) ∙ fits))

pub key_items_keep : KeyItemsKeep
unfolding key_item_fits fits_as has_its_names
key_items_keep b t i h lt fits =
    let parts = and_parts (expr_fits b.expr (scope_of t.columns) position.Plain && has_kind is_key (kind_of b.expr t.columns)) (length b.names == length (result_kinds b.expr t.columns)) fits in
    let plain = (and_parts (expr_fits b.expr (scope_of t.columns) position.Plain) (has_kind is_key (kind_of b.expr t.columns)) parts.0).0 in
    let known = expressions_keep b.expr position.Plain t i no_steps h (no-records t.columns) (λ x. lt) plain in
    named-fit b.names (result_kinds b.expr t.columns) (val b.expr t i [] ∷ []) parts.1
    (subst (λ ks. AllFit ks (val b.expr t i [] ∷ [])) (sym (key-kinds b.expr t plain)) (typed-fits b.expr t.columns (val b.expr t i []) known, tt))

-- What is made of items.

pub each_project_keeps : EachProjectKeeps
each_project_keeps k w items = project_keeps k w items (λ b c. items_keep position.Window b)

pub each_extend_keeps : EachExtendKeeps
each_extend_keeps k w items = extend_keeps k w items (λ b c. items_keep position.Window b)

pub each_summarize_keeps : EachSummarizeKeeps
each_summarize_keeps k w g = summarize_keeps k w g (λ b c. key_items_keep b) (λ b c. group_items_keep b)

pub each_print_keeps : EachPrintKeeps
each_print_keeps k w items = print_keeps k w items (λ b c. items_keep position.Plain b)

pub ruleset expression_laws = (expressions_keep, items_keep, key_items_keep, group_items_keep, each_project_keeps, each_extend_keeps, each_summarize_keeps, each_print_keeps)
