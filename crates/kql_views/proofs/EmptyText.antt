-- A text of no character takes no column.
use Rattle.std.proofs.Common.{◌≡◌, ◌≤◌, ℕ, List, [], refl, arith}
use Rattle.std.specs.Prelude.{false}
use Rattle.std.specs.Str.{chars}
use Rattle.unicode_width.specs.Width.{str_width}

nothing : str_width false (chars []) ≡ 0
unfolding str_width chars
nothing = refl

pub empty_within : (text : List ℕ) (width : ℕ) → text ≡ [] → str_width false (chars text) ≤ width
empty_within text width e = rw (e, nothing) (omega arith)
