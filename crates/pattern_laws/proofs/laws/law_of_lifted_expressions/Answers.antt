use Rattle.pattern_laws.proofs.LiftedReadings.{lifted_reads}
use Rattle.pattern_laws.proofs.ReadableLaws.{readable_where_fits}
use Rattle.pattern_laws.proofs.laws.law_of_lifted_expressions.Goals as goal

pub returns : goal.returns
returns c = record { reads = lifted_reads; readable = readable_where_fits }
