-- A whole column is the values of its cells.
use Rattle.std.proofs.Common.{◌≡◌, ◌<◌, ◌-◌, ℕ, List, length, map, ap, sym, ◌∙◌, arith}
use Rattle.std.specs.Prelude.{Some}
use Rattle.std.proofs.lemmas.List.{length-map, take_all}
use Rattle.kql_cells.specs.Seen.{value_at}
use Rattle.kql_cells.specs.Table.{Grid, IsGrid}
use Rattle.kql_cells.specs.declared.value.Value.{Value}
use Rattle.kql_values.specs.Grids.{column_at}
use Rattle.kql_meaning.specs.Tables.{cell_in}
use Rattle.kql_scalar.specs.Rows.{rows}
use Rattle.kql_scalar.proofs.ColumnSteps.{slice-values}

pub whole-values : (t : Grid) (place : ℕ) (vs : List Value) → IsGrid t → vs ≡ column_at t.lines place → place < length t.columns → vs ≡ map (λ i. cell_in t i (Some place)) (rows 0 (length t.lines))
whole-values t place vs h is w =
    let long : length vs ≡ length t.lines = ap length is ∙ length-map t.lines (λ row. value_at row place) in
    sym (take_all (length t.lines - 0) vs (omega (arith, long))) ∙ slice-values t place 0 (length t.lines) vs h is w (omega arith) (omega arith)

pub ruleset whole_steps = (whole-values)
