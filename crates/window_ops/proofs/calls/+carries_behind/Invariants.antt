use Rattle.std.proofs.Common.{◌≡◌, drop, length, take}
use Rattle.window_ops.specs.Calls.{calls_along, calls_in}
use Rattle.window_ops.proofs.calls.+carries_behind.Given as goal

-- the carries behind those of the parts so far
abbrev pub invariant-behind_several-parts : goal.invariant-behind_several-parts
invariant-behind_several-parts l = l.rest ≡ drop (length (calls_in (take l.e-index l.es))) l.carries

abbrev pub invariant-behind_links-links : goal.invariant-behind_links-links
invariant-behind_links-links l = l.rest ≡ drop (length (calls_along (take l.link-index l.links))) l.carries
