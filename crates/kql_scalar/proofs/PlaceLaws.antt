-- What operators make of places and columns: the rows of a whole table, and the rows that `where` keeps.
use Rattle.std.proofs.Common.{◌≡◌, ◌-◌, length, filter, map, [], ap, refl, arith}
use Rattle.kql_cells.specs.Table.{Grid, gathered}
use Rattle.kql_bound.specs.declared.expr.BExpr.{BExpr}
use Rattle.kql_meaning.specs.Expressions.{val}
use Rattle.kql_meaning.specs.Tables.{places, places_below}
use Rattle.kql_meaning.specs.Values.{holds}
use Rattle.kql_meaning.specs.Where.{where_table}
use Rattle.kql_scalar.specs.Rows.{passes, rows}

-- The rows from the first to the end are all.
pub all_rows : (t : Grid) → rows 0 (length t.lines) ≡ places t
unfolding rows places places_below
all_rows t = let all : length t.lines - 0 ≡ length t.lines = omega arith in rw all refl

-- `where` gathers the rows at the places that `places_where` gives for the whole table.
pub where_gathers : (e : BExpr) (t : Grid) → gathered t (filter (passes e t) (rows 0 (length t.lines))) ≡ where_table e t
unfolding passes where_table
where_gathers e t = ap (λ is. gathered t (filter (λ i. holds (val e t i [])) is)) (all_rows t)

-- A column of the whole table has the value of each of its rows.
pub column_values : (e : BExpr) (t : Grid) → map (λ i. val e t i []) (rows 0 (length t.lines)) ≡ map (λ i. val e t i []) (places t)
column_values e t = ap (map (λ i. val e t i [])) (all_rows t)

pub ruleset place_laws = (all_rows, where_gathers, column_values)
