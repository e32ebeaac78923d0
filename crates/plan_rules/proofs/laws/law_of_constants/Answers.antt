use Rattle.plan_rules.proofs.FoldingLaws.{folding_fits, folding_programs}
use Rattle.plan_rules.proofs.laws.law_of_constants.Goals as goal

pub returns-clause-fitting : goal.returns-clause-fitting
returns-clause-fitting c = folding_fits

pub returns-clause-programs : goal.returns-clause-programs
returns-clause-programs c = folding_programs
