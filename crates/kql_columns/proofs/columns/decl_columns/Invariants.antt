use Rattle.std.proofs.Common.{◌≡◌, map, take}
use Rattle.kql_bound.specs.declared.parts.Decl.{Decl}
use Rattle.kql_columns.proofs.columns.decl_columns.Given as goal

abbrev pub invariant-loop-decl : goal.invariant-loop-decl
invariant-loop-decl l = l.made ≡ map (λ (d : Decl). record { name = d.name; kind = d.default.kind }) (take l.decl-index l.declared)
