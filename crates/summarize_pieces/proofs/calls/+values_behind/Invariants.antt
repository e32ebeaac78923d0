use Rattle.std.proofs.Common.{◌≡◌, drop, length, take}
use Rattle.summarize_pieces.specs.Calls.{calls_along, calls_in_all}
use Rattle.summarize_pieces.proofs.calls.+values_behind.Given as goal

-- the values behind those of the parts so far
abbrev pub invariant-behind_several-parts : goal.invariant-behind_several-parts
invariant-behind_several-parts l = l.rest ≡ drop (length (calls_in_all (take l.e-index l.es))) l.values

abbrev pub invariant-behind_links-links : goal.invariant-behind_links-links
invariant-behind_links-links l = l.rest ≡ drop (length (calls_along (take l.link-index l.links))) l.values
