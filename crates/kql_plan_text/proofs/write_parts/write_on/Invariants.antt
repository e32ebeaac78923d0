use Rattle.std.proofs.Common.{◌≡◌, ◌++◌, take}
use Rattle.std.specs.Prelude.{codes}
use Rattle.std.specs.List.{flat_map}
use Rattle.kql_plan_text.specs.Operators.{on_text}
use Rattle.kql_plan_text.proofs.write_parts.write_on.Given as goal

abbrev pub invariant-loop-pair : goal.invariant-loop-pair
invariant-loop-pair l = l.text ≡ l.initial.text ++ flat_map (λ x. codes "," ++ on_text x) (take l.pair-index l.others)
