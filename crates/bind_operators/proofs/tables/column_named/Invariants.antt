use Rattle.std.proofs.Common.{◌≡◌, length}
use Rattle.std.specs.Prelude.{bytes_eq, find}
use Rattle.kql_cells.specs.declared.schema.Column.{Column}
use Rattle.bind_operators.proofs.tables.column_named.Given as goal

abbrev pub invariant-each : goal.invariant-each
invariant-each l = find (λ (c : Column). bytes_eq c.name l.name) l.left ≡ find (λ (c : Column). bytes_eq c.name l.fn.name) l.fn.columns

abbrev pub decreases-each : goal.decreases-each
decreases-each l = length l.left
