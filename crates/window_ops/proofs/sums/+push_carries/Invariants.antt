use Rattle.std.proofs.Common.{◌≡◌, ◌++◌, take}
use Rattle.window_ops.specs.Calls.{calls_along, calls_in, carries_of}
use Rattle.window_ops.proofs.sums.+push_carries.Given as goal

-- the carries of the parts so far
abbrev pub invariant-push_several-parts : goal.invariant-push_several-parts
invariant-push_several-parts l = l.carries ≡ l.fn.carries ++ carries_of (calls_in (take l.e-index l.es)) l.t l.from l.to

abbrev pub invariant-push_links-links : goal.invariant-push_links-links
invariant-push_links-links l = l.carries ≡ l.fn.carries ++ carries_of (calls_along (take l.link-index l.links)) l.t l.from l.to
