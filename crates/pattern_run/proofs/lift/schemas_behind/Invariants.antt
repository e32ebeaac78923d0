use Rattle.std.proofs.Common.{◌≡◌, ◌++◌, take}
use Rattle.kql_cells.specs.Catalogues.{schemas_of}
use Rattle.kql_values.specs.Kept.{all_named}
use Rattle.pattern_run.proofs.lift.schemas_behind.Given as goal

abbrev pub invariant-loop-known : goal.invariant-loop-known
invariant-loop-known l = l.all ≡ take l.known-index l.schemas

abbrev pub invariant-loop-named : goal.invariant-loop-named
invariant-loop-named l = l.all ≡ l.schemas ++ schemas_of (all_named (take l.named-index l.tables))
