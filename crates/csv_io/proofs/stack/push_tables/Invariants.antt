use Rattle.std.proofs.Common.{◌≡◌, ◌<◌, ◌^◌, ◌++◌, length, reverse}
use Rattle.std.specs.Prelude.{All}
use Rattle.csv_io.specs.Stacks.{lines_of}
use Rattle.kql_cells.specs.Table.{Grid}
use Rattle.kql_values.specs.Grids.{ColumnsFit, rows_of}
use Rattle.csv_io.proofs.stack.push_tables.Given as goal

abbrev pub invariant-tables : goal.invariant-tables
invariant-tables l = record {
  fits : ColumnsFit l.schema l.rows l.parts.items;
  small : l.rows < 2 ^ 63;
  alike : All (λ (t : Grid). t.columns ≡ l.schema) l.more;
  whole : rows_of l.rows l.parts.items ++ lines_of (reverse l.more) ≡ rows_of l.count l.initial.parts.items ++ lines_of l.fn.more;
}

abbrev pub decreases-tables : goal.decreases-tables
decreases-tables l = length l.more
