use Rattle.std.proofs.Common.{◌≡◌, ◌++◌, length, reverse}
use Rattle.std.specs.Prelude.{flat_map}
use Rattle.phase_tops.proofs.places.one_list.Given as goal

-- the lists that are left stand behind the places so far
abbrev pub invariant-lists : goal.invariant-lists
invariant-lists l = l.places ++ flat_map (λ is. is) (reverse l.left) ≡ flat_map (λ is. is) l.fn.lists

abbrev pub decreases-lists : goal.decreases-lists
decreases-lists l = length l.left
