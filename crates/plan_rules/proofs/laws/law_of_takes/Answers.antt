use Rattle.plan_rules.proofs.RuleLaws.{extend_then_take_law, project_then_take_law, parse_then_take_law}
use Rattle.plan_rules.proofs.laws.law_of_takes.Goals as goal

pub returns-clause-extend_then_take : goal.returns-clause-extend_then_take
returns-clause-extend_then_take c = extend_then_take_law

pub returns-clause-project_then_take : goal.returns-clause-project_then_take
returns-clause-project_then_take c = project_then_take_law

pub returns-clause-parse_then_take : goal.returns-clause-parse_then_take
returns-clause-parse_then_take c = parse_then_take_law
