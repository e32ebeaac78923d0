use Rattle.std.proofs.Common.{◌≡◌, ◌++◌, drop}
use Rattle.kql_texts.specs.Marks.{marked, marked_after}
use Rattle.kql_texts.proofs.terms.marked.Given as goal

abbrev pub invariant-loop-byte : goal.invariant-loop-byte
invariant-loop-byte l = l.marks.items ++ marked_after l.before (drop l.byte-index l.bytes) ≡ marked l.bytes
