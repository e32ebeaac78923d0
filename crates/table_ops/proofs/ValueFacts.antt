-- The values of items at all rows.
use Rattle.std.proofs.Common.{◌≡◌, ◌<◌, ◌+◌, ◌-◌, ◌++◌, ℕ, zero, suc, true, List, [], ◌∷◌, map, length, get_or, take, refl, sym, ap, ◌∙◌, subst, arith}
use Rattle.std.specs.List.{list_all, range_with_len}
use Rattle.std.proofs.lemmas.Bool.{and_parts}
use Rattle.std.proofs.lemmas.List.{map-append, take_more}
use Rattle.kql_cells.specs.Table.{Grid}
use Rattle.kql_cells.specs.declared.schema.Column.{Column}
use Rattle.kql_cells.specs.declared.value.Kind.TheVariants as kind
use Rattle.kql_cells.specs.declared.value.Value.{Value}
use Rattle.kql_functions.specs.Kinds.{same_kind}
use Rattle.kql_bound.specs.declared.expr.BExpr.{BExpr}
use Rattle.kql_bound.specs.declared.parts.ExpandItem.{ExpandItem}
use Rattle.kql_meaning.specs.declared.position.Position.TheVariants as position
use Rattle.kql_meaning.specs.Expressions.{kind_of, val}
use Rattle.kql_meaning.specs.FittingExpressions.{expr_fits, fits_as, has_kind, scope_of}
use Rattle.kql_meaning.specs.FittingOperators.{expand_item_fits}
use Rattle.kql_meaning.specs.Tables.{places, places_below}
use Rattle.kql_scalar.specs.Rows.{rows}
use Rattle.kql_scalar.specs.Scalar.{IsScalar, is_of_rows}
use Rattle.kql_scalar.proofs.ScalarFitLaws.{scalar_where_fits}
use Rattle.table_ops.specs.Parts.{item_values, values_down}

plain-of-rows : is_of_rows position.Plain ≡ true
unfolding is_of_rows
plain-of-rows = refl

pub item-scalar : (item : ExpandItem) (cs : List Column) → expand_item_fits cs item ≡ true → IsScalar item.expr
unfolding expand_item_fits fits_as
item-scalar item cs fits =
    let parts = and_parts (expr_fits item.expr (scope_of cs) position.Plain) (has_kind (same_kind kind.Dynamic) (kind_of item.expr cs)) fits in
    scalar_where_fits item.expr (scope_of cs) position.Plain plain-of-rows parts.0

all-rows : (t : Grid) (n : ℕ) → n ≡ length t.lines → rows 0 n ≡ places t
unfolding rows places places_below
all-rows t n e = let same : n - 0 ≡ length t.lines = omega (arith, e) in ap (range_with_len 0) same

pub column-down : (e : BExpr) (t : Grid) (n : ℕ) (v : List Value) → n ≡ length t.lines → v ≡ map (λ i. val e t i []) (rows 0 n) → v ≡ values_down e t
unfolding values_down
column-down e t n v len is = is ∙ ap (map (λ i. val e t i [])) (all-rows t n len)

pub ruleset value_facts = (item-scalar, column-down)

-- Items one after another.

pub values-start : (t : Grid) → item_values [] t ≡ []
unfolding item_values
values-start t = refl

pub values-step : (items : List ExpandItem) (t : Grid) (i : ℕ) (b : ExpandItem) (old new : List (List Value)) (v : List Value) → i < length items → b ≡ get_or items i b → old ≡ item_values (take i items) t → v ≡ values_down b.expr t → new ≡ old ++ v ∷ [] → new ≡ item_values (take (i + 1) items) t
unfolding item_values
values-step items t i b old new v lt is before value after =
    let f = λ (b : ExpandItem). values_down b.expr t in
    rw (take_more items i b lt, ← is, map-append f (take i items) (b ∷ []), ← before, ← value) after

pub item-fits : (items : List ExpandItem) (cs : List Column) (i : ℕ) (b : ExpandItem) → list_all (expand_item_fits cs) items ≡ true → i < length items → b ≡ get_or items i b → expand_item_fits cs b ≡ true
item-fits [] cs i b fits lt is = absurd (omega arith)
item-fits (c ∷ items) cs zero b fits lt is = subst (λ x. expand_item_fits cs x ≡ true) (sym is) (and_parts (expand_item_fits cs c) (list_all (expand_item_fits cs) items) fits).0
item-fits (c ∷ items) cs (suc i) b fits lt is = item-fits items cs i b (and_parts (expand_item_fits cs c) (list_all (expand_item_fits cs) items) fits).1 (omega (arith, lt)) is

pub ruleset value_steps = (values-start, values-step, item-fits)
