use Rattle.std.proofs.Common.{◌≡◌, ◌++◌, take}
use Rattle.summarize_pieces.specs.Calls.{calls_along, calls_in_all}
use Rattle.summarize_pieces.proofs.calls.+push_calls.Given as goal

-- the calls of the parts so far
abbrev pub invariant-push_calls_in-parts : goal.invariant-push_calls_in-parts
invariant-push_calls_in-parts l = l.calls.items ≡ l.fn.calls.items ++ calls_in_all (take l.e-index l.es)

abbrev pub invariant-push_calls_along-links : goal.invariant-push_calls_along-links
invariant-push_calls_along-links l = l.calls.items ≡ l.fn.calls.items ++ calls_along (take l.link-index l.links)
