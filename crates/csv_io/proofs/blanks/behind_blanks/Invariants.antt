use Rattle.std.specs.Str.{IsUtf8}
use Rattle.std.proofs.Common.{◌≡◌, length}
use Rattle.csv_io.specs.Blanks.{behind_blanks}
use Rattle.csv_io.proofs.blanks.behind_blanks.Given as goal

abbrev pub invariant-blanks : goal.invariant-blanks
invariant-blanks l = (behind_blanks l.left ≡ behind_blanks l.fn.text) × IsUtf8 l.left

abbrev pub decreases-blanks : goal.decreases-blanks
decreases-blanks l = length l.left
