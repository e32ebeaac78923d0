-- No name of which the marks were made begins with them.
use Rattle.std.specs.Prelude.{◌≡◌, ℕ, false, List, Contains}
use Rattle.pattern_lift.specs.Marks.{begins_with, marks_beyond}

abbrev pub MarksAreBeyond : Type 0
MarksAreBeyond = (names : List (List ℕ)) (n : List ℕ) → Contains names n → begins_with (marks_beyond names) n ≡ false
