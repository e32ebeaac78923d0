use Rattle.std.proofs.Common.{◌≡◌, ◌++◌, take}
use Rattle.std.specs.Prelude.{codes}
use Rattle.std.specs.List.{flat_map}
use Rattle.kql_plan_text.specs.Operators.{decl_text}
use Rattle.kql_plan_text.proofs.write_parts.write_decls.Given as goal

abbrev pub invariant-loop-decl : goal.invariant-loop-decl
invariant-loop-decl l = l.text ≡ l.initial.text ++ flat_map (λ x. codes "," ++ decl_text x) (take l.decl-index l.others)
