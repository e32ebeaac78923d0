use Rattle.std.proofs.Common.{◌≡◌, ◌++◌, take}
use Rattle.summarize_pieces.specs.Calls.{firsts}
use Rattle.summarize_pieces.proofs.calls.push_firsts.Given as goal

-- the calls of the columns so far
abbrev pub invariant-columns : goal.invariant-columns
invariant-columns l = l.calls.items ≡ l.fn.calls.items ++ firsts (take l.column-index l.columns)
