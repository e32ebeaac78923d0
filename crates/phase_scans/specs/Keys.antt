-- How many keys a piece has.
use Rattle.std.specs.Prelude.{ℕ, ◌*◌, ◌/◌, max, min}

-- So many that a piece has about as many rows as are asked for, where each key has as many rows as the others; at least one.
unfoldable pub keys_of_piece : ℕ → ℕ → ℕ → ℕ
keys_of_piece keys rows asked = max (min (keys * asked / max rows 1) 4294967295) 1
