use Rattle.std.proofs.Common.{◌≡◌, take}
use Rattle.std.specs.Prelude.{fold}
use Rattle.kql_syntax.specs.declared.query.Decl.{Decl}
use Rattle.bind_groups.specs.Names.{with_written}
use Rattle.bind_query.proofs.scan_faults.with_declared.Given as goal

abbrev pub invariant-loop-d : goal.invariant-loop-d
invariant-loop-d l = l.names ≡ fold (λ w (d : Decl). with_written w d.name) l.fn.start (take l.d-index l.declared)
