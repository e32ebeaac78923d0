use Rattle.std.proofs.Common.{◌≡◌, take}
use Rattle.kql_meaning.specs.Scan.{defaults_of}
use Rattle.kql_fits.proofs.fit_scan.defaults_of.Given as goal

abbrev pub invariant-loop-decl : goal.invariant-loop-decl
invariant-loop-decl l = l.values ≡ defaults_of (take l.decl-index l.declared)
