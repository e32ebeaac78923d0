use Rattle.std.proofs.Common.{◌≡◌, None, take}
use Rattle.kql_dynamic.specs.Parts.{entry_at}
use Rattle.kql_dynamic.proofs.parts.entry_at.Given as goal

abbrev pub invariant-loop-entry : goal.invariant-loop-entry
invariant-loop-entry l = entry_at l.n (take l.entry-index l.entries) ≡ None
