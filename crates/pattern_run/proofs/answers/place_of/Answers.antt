use Rattle.kql_cells.specs.Named.{column_name}
use Rattle.pattern_run.proofs.Distinct.{there-not-absent}
use Rattle.pattern_run.proofs.answers.place_of.Goals as goal

pub unreachable-requires : goal.unreachable-requires
unreachable-requires c = there-not-absent column_name c.args.name.now c.args.schema.now c.requires.there (c.find.ensures.absent.0 c.in-None.is)
