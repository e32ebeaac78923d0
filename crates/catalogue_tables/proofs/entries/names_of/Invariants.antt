use Rattle.std.proofs.Common.{◌≡◌, map, take}
use Rattle.kql_cells.specs.Catalogues.{table_name}
use Rattle.kql_values.specs.Kept.{all_named}
use Rattle.catalogue_tables.proofs.entries.names_of.Given as goal

abbrev pub invariant-loop-named : goal.invariant-loop-named
invariant-loop-named l = l.names ≡ map table_name (all_named (take l.named-index l.tables))
