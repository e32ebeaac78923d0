use Rattle.std.proofs.Common.{◌≡◌, length}
use Rattle.std.specs.List.{list_all}
use Rattle.pattern_laws.specs.Tested.{derived_is_sound}
use Rattle.pattern_places.proofs.program.all_are_sound.Given as goal

abbrev pub invariant-derived : goal.invariant-derived
invariant-derived l = list_all (derived_is_sound l.marks l.tables) l.left ≡ list_all (derived_is_sound l.fn.marks l.fn.tables) l.fn.all

abbrev pub decreases-derived : goal.decreases-derived
decreases-derived l = length l.left
