use Rattle.std.proofs.Common.{◌≡◌, ◌++◌, take}
use Rattle.std.specs.Prelude.{codes}
use Rattle.std.specs.List.{flat_map}
use Rattle.kql_plan_text.specs.Literals.{name_text}
use Rattle.kql_plan_text.proofs.write_parts.write_names.Given as goal

abbrev pub invariant-loop-name : goal.invariant-loop-name
invariant-loop-name l = l.text ≡ l.initial.text ++ flat_map (λ x. codes ";" ++ name_text x) (take l.name-index l.others)
