use Rattle.std.proofs.Common.{length}
use Rattle.std.specs.Prelude.{All}
use Rattle.kql_cells.specs.Catalogues.{Named}
use Rattle.kql_values.specs.Kept.{all_named}
use Rattle.kql_fit_laws.specs.LawsOfRows.{IsTable}
use Rattle.kql_program.proofs.evaluate.know_tables.Given as goal

-- where those that are left are tables, all are
abbrev pub invariant-tables : goal.invariant-tables
invariant-tables l = All (λ (n : Named). IsTable n.table) (all_named l.left) → All (λ (n : Named). IsTable n.table) (all_named l.fn.tables)

abbrev pub decreases-tables : goal.decreases-tables
decreases-tables l = length l.left
