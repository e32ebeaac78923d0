use Rattle.std.proofs.Common.{◌≡◌, ◌++◌, [], take}
use Rattle.kql_plan_text.specs.Plans.{lets_lines, text_of}
use Rattle.kql_plan_text.proofs.write_plans.write_lets.Given as goal

abbrev pub invariant-loop-number : goal.invariant-loop-number
invariant-loop-number l = l.text ≡ l.initial.text ++ text_of [] (lets_lines 0 (take l.number l.lets))
