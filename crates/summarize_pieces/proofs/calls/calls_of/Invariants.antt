use Rattle.std.proofs.Common.{◌≡◌, take}
use Rattle.summarize_pieces.specs.Calls.{calls_of}
use Rattle.summarize_pieces.proofs.calls.calls_of.Given as goal

-- the calls of the items so far
abbrev pub invariant-items : goal.invariant-items
invariant-items l = l.calls.items ≡ calls_of (take l.item-index l.items)
