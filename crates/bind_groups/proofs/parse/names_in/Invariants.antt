use Rattle.std.proofs.Common.{◌≡◌, ◌++◌, length, map}
use Rattle.bind_expr.specs.Names.{text_of}
use Rattle.bind_operators.specs.Places.{name_place}
use Rattle.bind_groups.specs.Parse.{pattern_names}
use Rattle.bind_groups.proofs.parse.names_in.Given as goal

abbrev pub invariant-each : goal.invariant-each
invariant-each l =
    (l.names.texts ++ map text_of (pattern_names l.left) ≡ map text_of (pattern_names l.fn.pattern))
    × (l.names.places ++ map name_place (pattern_names l.left) ≡ map name_place (pattern_names l.fn.pattern))

abbrev pub decreases-each : goal.decreases-each
decreases-each l = length l.left
