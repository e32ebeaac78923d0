use Rattle.std.proofs.Common.{length}
use Rattle.phase_run.proofs.ToldSteps.{rounds-told}
use Rattle.phase_run.proofs.alone.run_told_project.Goals as goal

pub returns-clause-told : goal.returns-clause-told
returns-clause-told g c = rounds-told c.args.phases.now c.tell_rounds.new.self c.args.items.now (length c.in_ok-ran.ran.gathered) c.in_ok-ran.ensures.rounds.count c.in_ok-tell_rounds.ensures.told
