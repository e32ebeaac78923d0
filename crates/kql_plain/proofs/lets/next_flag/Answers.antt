use Rattle.kql_plain.proofs.LetLaws.{flag-gone, flag-there}
use Rattle.kql_plain.proofs.lets.next_flag.Goals as goal

pub returns-in-Some : goal.returns-in-Some
returns-in-Some c = record { next = λ b bs e. flag-there c.args.flags.now c.pop.new.self c.in-Some.flag b bs c.in-Some.ensures.last e }

pub returns-in-None : goal.returns-in-None
returns-in-None c = record { next = λ b bs e. flag-gone c.args.flags.now c.pop.new.self _ b bs c.in-None.ensures.last.0 e }
