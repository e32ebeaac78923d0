-- Expressions over all rows of a table.
use Rattle.std.proofs.Common.{◌≡◌, ◌-◌, ℕ, true, List, [], map, filter, length, refl, ap, ◌∙◌, arith}
use Rattle.std.specs.List.{range_with_len}
use Rattle.std.proofs.lemmas.Bool.{and_parts}
use Rattle.kql_cells.specs.Table.{Grid, gathered}
use Rattle.kql_cells.specs.declared.schema.Column.{Column}
use Rattle.kql_cells.specs.declared.value.Kind.TheVariants as kind
use Rattle.kql_cells.specs.declared.value.Value.{Value}
use Rattle.kql_functions.specs.Kinds.{same_kind}
use Rattle.kql_bound.specs.declared.expr.BExpr.{BExpr}
use Rattle.kql_bound.specs.declared.parts.BItem.{BItem}
use Rattle.kql_meaning.specs.declared.position.Position.TheVariants as position
use Rattle.kql_meaning.specs.Expressions.{kind_of, val}
use Rattle.kql_meaning.specs.FittingExpressions.{expr_fits, fits_as, has_kind, scope_of}
use Rattle.kql_meaning.specs.FittingOperators.{has_its_names, item_fits, where_fits}
use Rattle.kql_meaning.specs.Tables.{places, places_below}
use Rattle.kql_meaning.specs.Where.{where_table}
use Rattle.kql_scalar.specs.Rows.{passes, rows}
use Rattle.kql_scalar.specs.Scalar.{IsScalar, is_of_rows}
use Rattle.kql_scalar.proofs.ScalarFitLaws.{scalar_where_fits}
use Rattle.row_ops.specs.ItemColumns.{values_down}

window-of-rows : is_of_rows position.Window ≡ true
unfolding is_of_rows
window-of-rows = refl

pub item-scalar : (b : BItem) (cs : List Column) → item_fits (scope_of cs) position.Window b ≡ true → IsScalar b.expr
unfolding item_fits
item-scalar b cs fits =
    let parts = and_parts (expr_fits b.expr (scope_of cs) position.Window) (has_its_names b cs) fits in
    scalar_where_fits b.expr (scope_of cs) position.Window window-of-rows parts.0

pub where-scalar : (e : BExpr) (cs : List Column) → where_fits e cs ≡ true → IsScalar e
unfolding where_fits fits_as
where-scalar e cs fits =
    let parts = and_parts (expr_fits e (scope_of cs) position.Window) (has_kind (same_kind kind.Bool) (kind_of e cs)) fits in
    scalar_where_fits e (scope_of cs) position.Window window-of-rows parts.0

all-rows : (t : Grid) (n : ℕ) → n ≡ length t.lines → rows 0 n ≡ places t
unfolding rows places places_below
all-rows t n e = let same : n - 0 ≡ length t.lines = omega (arith, e) in ap (range_with_len 0) same

pub column-down : (e : BExpr) (t : Grid) (n : ℕ) (v : List Value) → n ≡ length t.lines → v ≡ map (λ i. val e t i []) (rows 0 n) → v ≡ values_down e t
unfolding values_down
column-down e t n v len is = is ∙ ap (map (λ i. val e t i [])) (all-rows t n len)

pub kept-where : (e : BExpr) (t r : Grid) (n : ℕ) (ps : List ℕ) → n ≡ length t.lines → ps ≡ filter (passes e t) (rows 0 n) → r ≡ gathered t ps → r ≡ where_table e t
unfolding where_table passes
kept-where e t r n ps len is made = made ∙ ap (gathered t) (is ∙ ap (filter (passes e t)) (all-rows t n len))

pub ruleset scalar_steps = (item-scalar, where-scalar, column-down, kept-where)
