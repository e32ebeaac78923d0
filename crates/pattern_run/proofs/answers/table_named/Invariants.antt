use Rattle.std.proofs.Common.{◌≡◌, length}
use Rattle.std.specs.Prelude.{bytes_eq, find}
use Rattle.kql_cells.specs.Catalogues.{table_name}
use Rattle.kql_values.specs.Kept.{all_named}
use Rattle.pattern_run.proofs.answers.table_named.Given as goal

abbrev pub invariant-tables : goal.invariant-tables
invariant-tables l = find (λ n. bytes_eq (table_name n) l.name) (all_named l.left) ≡ find (λ n. bytes_eq (table_name n) l.fn.name) (all_named l.fn.tables)

abbrev pub decreases-tables : goal.decreases-tables
decreases-tables l = length l.left
