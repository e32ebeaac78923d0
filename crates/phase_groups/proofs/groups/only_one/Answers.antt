use Rattle.std.proofs.Common.{◌∙◌, sym}
use Rattle.kql_meaning.specs.Summarize.{summarize_table}
use Rattle.phase_groups.proofs.RunSteps.{only-one}
use Rattle.phase_groups.proofs.groups.only_one.Goals as goal

pub unreachable-requires : goal.unreachable-requires
unreachable-requires c = let none = sym c.requires.one ∙ c.in-None.ensures.last.0 in absurd cc

pub returns : goal.returns
returns c = record { table = only-one (summarize_table c.args.plan.now c.args.table.now) c.in-Some.made c.args.results c.pop.new.self c.requires.one c.in-Some.ensures.last }
