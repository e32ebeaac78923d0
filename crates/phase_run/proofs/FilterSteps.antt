-- A filter over a range of rows.
use Rattle.std.proofs.Common.{◌≡◌, ◌≤◌, ◌+◌, ◌*◌, ◌-◌, ℕ, zero, suc, List, [], ◌∷◌, drop, length, map, take, refl, ap, sym, ◌∙◌, arith}
use Rattle.std.specs.Prelude.{filter, min, slice_range, true}
use Rattle.std.specs.List.{range_with_len}
use Rattle.std.proofs.lemmas.Bool.{and_parts}
use Rattle.std.proofs.lemmas.List.{drop_more}
use Rattle.kql_cells.specs.Seen.{row_at}
use Rattle.kql_cells.specs.Table.{Grid, gathered}
use Rattle.kql_cells.specs.declared.schema.Column.{Column}
use Rattle.kql_cells.specs.declared.value.Value.{Value}
use Rattle.kql_bound.specs.declared.expr.BExpr.{BExpr}
use Rattle.kql_cells.specs.declared.value.Kind.TheVariants as kind
use Rattle.kql_functions.specs.Kinds.{same_kind}
use Rattle.kql_meaning.specs.Expressions.{kind_of}
use Rattle.kql_meaning.specs.declared.position.Position.TheVariants as position
use Rattle.kql_meaning.specs.FittingExpressions.{expr_fits, fits_as, has_kind, scope_of}
use Rattle.kql_meaning.specs.FittingOperators.{where_fits}
use Rattle.kql_meaning.specs.LawsOfRows.{WhereOfGathered}
use Rattle.kql_meaning.specs.RowByRow.{is_plain}
use Rattle.kql_meaning.specs.Where.{where_table}
use Rattle.kql_scalar.specs.Rows.{passes, rows}
use Rattle.kql_scalar.specs.Scalar.{IsScalar, is_of_rows}
use Rattle.kql_scalar.proofs.ScalarFitLaws.{scalar_where_fits}
use Rattle.phase_laws.specs.Pieces.{piece_of}

-- The rows of a range are those at its places.
range-rows : (xs : List (List Value)) (n k : ℕ) → k + n ≤ length xs → take n (drop k xs) ≡ map (row_at xs) (range_with_len k n)
range-rows xs zero k le = refl
range-rows xs (suc n) k le = ap (take (suc n)) (drop_more xs k [] (omega (arith, le))) ∙ ap (λ (ls : List (List Value)). row_at xs k ∷ ls) (range-rows xs n (k + 1) (omega (arith, le)))

kept : (law : WhereOfGathered) (e : BExpr) (t r : Grid) (from to : ℕ) (ps : List ℕ) → is_plain e ≡ true → from ≤ to → to ≤ length t.lines → ps ≡ filter (passes e t) (rows from to) → r ≡ gathered t ps → r ≡ where_table e (record t { lines = slice_range t.lines from to })
unfolding passes rows
kept law e t r from to ps plain order within is made =
    made
    ∙ (ap (gathered t) is
    ∙ (sym (law e t (range_with_len from (to - from)) plain)
    ∙ ap (λ (ls : List (List Value)). where_table e (record { columns = t.columns; lines = ls })) (sym (range-rows t.lines (to - from) from (omega (arith, order, within))))))

pub kept-piece : (law : WhereOfGathered) (e : BExpr) (t r : Grid) (n piece from to : ℕ) (ps : List ℕ) → is_plain e ≡ true → from ≡ piece * n → to ≡ min (length t.lines) (piece * n + n) → from ≤ to → to ≤ length t.lines → ps ≡ filter (passes e t) (rows from to) → r ≡ gathered t ps → r ≡ where_table e (piece_of n t piece)
unfolding piece_of
kept-piece law e t r n piece from to ps plain f e' order within is made =
    kept law e t r from to ps plain order within is made
    ∙ (ap (λ (i : ℕ). where_table e (record t { lines = slice_range t.lines i to })) f
    ∙ ap (λ (i : ℕ). where_table e (record t { lines = slice_range t.lines (piece * n) i })) e')

-- What a filter is.

window-of-rows : is_of_rows position.Window ≡ true
unfolding is_of_rows
window-of-rows = refl

pub filter-scalar : (e : BExpr) (cs : List Column) → where_fits e cs ≡ true → IsScalar e
unfolding where_fits fits_as
filter-scalar e cs fits =
    let parts = and_parts (expr_fits e (scope_of cs) position.Window) (has_kind (same_kind kind.Bool) (kind_of e cs)) fits in
    scalar_where_fits e (scope_of cs) position.Window window-of-rows parts.0

pub ruleset filter_steps = (filter-scalar)
