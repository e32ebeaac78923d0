use Rattle.std.proofs.Common.{◌≡◌, ◌++◌, take}
use Rattle.std.specs.Prelude.{codes}
use Rattle.std.specs.List.{flat_map}
use Rattle.kql_plan_text.specs.Operators.{key_text}
use Rattle.kql_plan_text.proofs.write_parts.write_keys.Given as goal

abbrev pub invariant-loop-key : goal.invariant-loop-key
invariant-loop-key l = l.text ≡ l.initial.text ++ flat_map (λ x. codes "," ++ key_text x) (take l.key-index l.others)
