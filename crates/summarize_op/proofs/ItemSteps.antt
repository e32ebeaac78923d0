-- Items one after another.
use Rattle.std.proofs.Common.{◌≡◌, ◌<◌, ◌+◌, ◌++◌, ℕ, zero, suc, Bool, true, false, List, [], ◌∷◌, length, get_or, take, refl, ap, sym, ◌∙◌, subst, arith}
use Rattle.std.specs.List.{list_all}
use Rattle.std.proofs.lemmas.Bool.{and_parts}
use Rattle.std.proofs.lemmas.Grind.{flat_map-append}
use Rattle.std.proofs.lemmas.List.{append-nil, take_more}
use Rattle.kql_cells.specs.Table.{Grid}
use Rattle.kql_cells.specs.declared.schema.Column.{Column}
use Rattle.kql_cells.specs.declared.value.Value.{Value}
use Rattle.kql_functions.specs.declared.aggregate.Aggregate.{Aggregate}
use Rattle.kql_bound.specs.declared.expr.BExpr.{BExpr, out-BExpr}
use Rattle.kql_bound.specs.declared.expr.BExpr.TheOpen.{BExpr-F}
use Rattle.kql_bound.specs.declared.expr.BExpr.TheVariants as V
use Rattle.kql_bound.specs.declared.parts.BItem.{BItem}
use Rattle.kql_meaning.specs.declared.position.Position.TheVariants as position
use Rattle.kql_meaning.specs.Expressions.{val}
use Rattle.kql_meaning.specs.FittingExpressions.{call_or_expr_fits, call_or_expr_fits_step, expr_fits, is_aggregate_call, is_aggregate_call_step, scope_of}
use Rattle.kql_meaning.specs.FittingOperators.{group_item_fits, has_its_names}
use Rattle.kql_meaning.specs.Items.{items_values}
use Rattle.kql_meaning.specs.Results.{results, results_step}
use Rattle.kql_meaning.proofs.ExpressionFitLaws.{call-Aggregate}
use Rattle.summarize_op.specs.Calls.{IsCall}
use Rattle.summarize_op.specs.Columns.{AreColumns}
use Rattle.summarize_op.specs.Grouped.{IsGrouped, over}
use Rattle.summarize_op.specs.Groups.{group_at}
use Rattle.summarize_op.proofs.ColumnFacts.{columns-beside, columns-same, no-columns, one-column}

-- The values of the first items over the rows of a number.
abbrev pub first_values : List BItem → ℕ → Grid → List ℕ → ℕ → List Value
first_values items i t numbers g = items_values (take i items) (group_at t numbers g) 0

pub items-start : (items : List BItem) (t : Grid) (numbers : List ℕ) (count : ℕ) (cs : List (List Value)) → cs ≡ [] → AreColumns count (first_values items 0 t numbers) cs
unfolding items_values
items-start items t numbers count cs e = no-columns count (first_values items 0 t numbers) cs e (λ g. refl)

item-more : (items : List BItem) (i : ℕ) (b : BItem) (u : Grid) → i < length items → b ≡ get_or items i b → items_values (take i items) u 0 ++ results b.expr u 0 [] ≡ items_values (take (i + 1) items) u 0
unfolding items_values
item-more items i b u lt is =
    let f = λ (b : BItem). results b.expr u 0 [] in
    rw (take_more items i b lt, ← is, flat_map-append f (take i items) (b ∷ [])) (ap (λ (vs : List Value). items_values (take i items) u 0 ++ vs) (sym (append-nil (results b.expr u 0 []))))

pub items-step : (items : List BItem) (t : Grid) (numbers : List ℕ) (count i : ℕ) (b : BItem) (old more new : List (List Value)) → i < length items → b ≡ get_or items i b → AreColumns count (first_values items i t numbers) old → AreColumns count (λ g. results b.expr (group_at t numbers g) 0 []) more → new ≡ old ++ more → AreColumns count (first_values items (i + 1) t numbers) new
items-step items t numbers count i b old more new lt is before value after =
    subst (AreColumns count (first_values items (i + 1) t numbers)) (sym after)
    (columns-same count (λ g. first_values items i t numbers g ++ results b.expr (group_at t numbers g) 0 []) (first_values items (i + 1) t numbers) (old ++ more)
    (λ g l. item-more items i b (group_at t numbers g) lt is)
    (columns-beside count (first_values items i t numbers) (λ g. results b.expr (group_at t numbers g) 0 []) old more before value))

pub item-fits : (items : List BItem) (cs : List Column) (i : ℕ) (b : BItem) → list_all (group_item_fits cs) items ≡ true → i < length items → b ≡ get_or items i b → group_item_fits cs b ≡ true
item-fits [] cs i b fits lt is = absurd (omega arith)
item-fits (c ∷ ks) cs zero b fits lt is = subst (λ x. group_item_fits cs x ≡ true) (sym is) (and_parts (group_item_fits cs c) (list_all (group_item_fits cs) ks) fits).0
item-fits (c ∷ ks) cs (suc i) b fits lt is = item-fits ks cs i b (and_parts (group_item_fits cs c) (list_all (group_item_fits cs) ks) fits).1 (omega (arith, lt)) is

pub ruleset item_steps = (item-fits)

-- An item that is a call, and one that is none.

pub item-whole : (cs : List Column) (b : BItem) → group_item_fits cs b ≡ true → call_or_expr_fits b.expr (scope_of cs) position.Group ≡ true
unfolding group_item_fits
item-whole cs b fits = (and_parts (call_or_expr_fits b.expr (scope_of cs) position.Group) (has_its_names b cs) fits).0

pub item-call : (cs : List Column) (b : BItem) (f : Aggregate) (args : List BExpr) → group_item_fits cs b ≡ true → b.expr ≡ V.Aggregate f args → IsCall cs f args
item-call cs b f args fits is =
    record { fits = sym (call-Aggregate f args (scope_of cs) position.Group) ∙ (ap (λ (e : BExpr). call_or_expr_fits e (scope_of cs) position.Group) (sym is) ∙ item-whole cs b fits) }

pub item-results : (b : BItem) (f : Aggregate) (args : List BExpr) (t : Grid) (ns : List ℕ) (count : ℕ) (vs : List (List Value)) → b.expr ≡ V.Aggregate f args → AreColumns count (λ g. results (V.Aggregate f args) (group_at t ns g) 0 []) vs → AreColumns count (λ g. results b.expr (group_at t ns g) 0 []) vs
item-results b f args t ns count vs is h = subst (λ (e : BExpr). AreColumns count (λ g. results e (group_at t ns g) 0 []) vs) (sym is) h

pub ruleset part_steps = (item-whole, item-call, item-results)

fits-step : (y : BExpr-F BExpr) (other : Bool) (cs : List Column) → is_aggregate_call_step y ≡ false → call_or_expr_fits_step y other (scope_of cs) position.Group ≡ true → other ≡ true
fits-step (BExpr-F.Aggregate f args) other cs n h = absurd cc
fits-step _ other cs n h = h

pub expression-grouped : (e : BExpr) (cs : List Column) → is_aggregate_call e ≡ false → call_or_expr_fits e (scope_of cs) position.Group ≡ true → IsGrouped cs e
unfolding is_aggregate_call call_or_expr_fits
expression-grouped e cs n h = record { holds = fits-step (out-BExpr e) (expr_fits e (scope_of cs) position.Group) cs n h }

one-step : (y : BExpr-F BExpr) (v : Value) (u : Grid) → is_aggregate_call_step y ≡ false → results_step y v u [] ≡ v ∷ []
one-step (BExpr-F.Aggregate f args) v u n = absurd cc
one-step _ v u n = refl

one-result : (e : BExpr) (u : Grid) → is_aggregate_call e ≡ false → results e u 0 [] ≡ val e u 0 [] ∷ []
unfolding is_aggregate_call results
one-result e u n = one-step (out-BExpr e) (val e u 0 []) u n

pub expression-column : (e : BExpr) (t : Grid) (ns : List ℕ) (count : ℕ) (v : List Value) (vs : List (List Value)) → is_aggregate_call e ≡ false → v ≡ over e t ns count → vs ≡ [] ++ v ∷ [] → AreColumns count (λ g. results e (group_at t ns g) 0 []) vs
unfolding over
expression-column e t ns count v vs n is made =
    subst (AreColumns count (λ g. results e (group_at t ns g) 0 [])) (sym made)
    (columns-same count (λ g. val e (group_at t ns g) 0 [] ∷ []) (λ g. results e (group_at t ns g) 0 []) (v ∷ []) (λ g lt. sym (one-result e (group_at t ns g) n)) (one-column count (λ g. val e (group_at t ns g) 0 []) v is))

pub ruleset expression_steps = (expression-grouped, expression-column)
