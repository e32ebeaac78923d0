-- Tables of lets of which one is moved out.
use Rattle.std.specs.Prelude.{ℕ, Bool, List, Option, None, Some, slice_set, if◌then◌else◌}
use Rattle.kql_cells.specs.Table.{Grid}
use Rattle.kql_bound.specs.declared.plan.Source.{Source}
use Rattle.kql_bound.specs.declared.plan.Source.TheVariants as source
use Rattle.kql_meaning.specs.Sources.{let_table}
use Rattle.kql_meaning.specs.Tables.{emptied}

-- The let whose table a source takes, which a source does where it is the last reading of a let.
unfoldable pub moved_let : Bool → Source → Option ℕ
moved_let is_last (source.Table name) = None
moved_let is_last (source.Let i) = if is_last then Some i else None
moved_let is_last (source.Range column from to step) = None
moved_let is_last (source.Print items) = None

-- What stays of the tables of lets: of one that is moved out its columns, without rows.
unfoldable pub left_behind : Option ℕ → List Grid → List Grid
left_behind None lets = lets
left_behind (Some i) lets = slice_set lets i (emptied (let_table lets i))
