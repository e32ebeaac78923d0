-- Items one after another.
use Rattle.std.proofs.Common.{◌≡◌, ◌<◌, ◌+◌, ◌++◌, ℕ, zero, suc, true, List, [], ◌∷◌, length, get_or, take, refl, sym, subst, arith}
use Rattle.std.specs.List.{list_all}
use Rattle.std.proofs.lemmas.Bool.{and_parts}
use Rattle.std.proofs.lemmas.List.{map-append, take_more}
use Rattle.kql_cells.specs.Table.{Grid}
use Rattle.kql_cells.specs.declared.value.Value.{Value}
use Rattle.kql_bound.specs.declared.parts.BItem.{BItem}
use Rattle.kql_meaning.specs.declared.position.Position.TheVariants as position
use Rattle.kql_meaning.specs.FittingExpressions.{scope_of}
use Rattle.kql_meaning.specs.FittingOperators.{item_fits, items_fit}
use Rattle.row_ops.specs.ItemColumns.{item_columns, values_down}

pub items-start : (t : Grid) → item_columns [] t ≡ []
unfolding item_columns
items-start t = refl

pub items-step : (items : List BItem) (t : Grid) (i : ℕ) (b : BItem) (old new : List (List Value)) (v : List Value) → i < length items → b ≡ get_or items i b → old ≡ item_columns (take i items) t → v ≡ values_down b.expr t → new ≡ old ++ v ∷ [] → new ≡ item_columns (take (i + 1) items) t
unfolding item_columns
items-step items t i b old new v lt is before value after =
    let f = λ (b : BItem). values_down b.expr t in
    rw (take_more items i b lt, ← is, map-append f (take i items) (b ∷ []), ← before, ← value) after

pub item-fits : (items : List BItem) (t : Grid) (i : ℕ) (b : BItem) → items_fit items t.columns position.Window ≡ true → i < length items → b ≡ get_or items i b → item_fits (scope_of t.columns) position.Window b ≡ true
unfolding items_fit
item-fits [] t i b fits lt is = absurd (omega arith)
item-fits (c ∷ cs) t zero b fits lt is = subst (λ x. item_fits (scope_of t.columns) position.Window x ≡ true) (sym is) (and_parts (item_fits (scope_of t.columns) position.Window c) (list_all (item_fits (scope_of t.columns) position.Window) cs) fits).0
item-fits (c ∷ cs) t (suc i) b fits lt is = item-fits cs t i b (and_parts (item_fits (scope_of t.columns) position.Window c) (list_all (item_fits (scope_of t.columns) position.Window) cs) fits).1 (omega (arith, lt)) is

pub ruleset value_steps = (items-start, items-step, item-fits)
