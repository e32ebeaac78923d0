-- Lines and columns of a text.
use Rattle.std.specs.Prelude.{ℕ, Bool, ◌||◌, ◌+◌, ◌==◌, nat_lt, nat_le, List, [], ◌∷◌, take, reverse, count_by, if◌then◌else◌}
use Rattle.kql_lexer.specs.declared.place.Place.{Place}

-- the first byte of a character in UTF-8
abbrev pub starts_char : ℕ → Bool
starts_char b = nat_lt b 128 || nat_le 192 b

-- the characters back to the nearest line feed, of bytes in reverse
unfoldable pub chars_back : List ℕ → ℕ
chars_back [] = 0
chars_back (b ∷ bs) = if b == 10 then 0 else (if starts_char b then 1 + chars_back bs else chars_back bs)

-- The place of a byte of a text: one line more than line feeds before it, one column more than characters before
-- it on its line.
unfoldable pub place_at : List ℕ → ℕ → Place
place_at text n = record {
  line = 1 + count_by (λ b. b == 10) (take n text);
  column = 1 + chars_back (reverse (take n text));
  byte = n;
}

-- the place behind one more byte
unfoldable pub place_after : Place → ℕ → Place
place_after p b =
    if b == 10 then record { line = p.line + 1; column = 1; byte = p.byte + 1 }
    else (if starts_char b then record { line = p.line; column = p.column + 1; byte = p.byte + 1 }
    else record { line = p.line; column = p.column; byte = p.byte + 1 })
