-- Cuts of a text by a pattern of `parse`: consecutive pieces of the whole text, one for each item.
use Rattle.std.specs.Prelude.{ℕ, zero, suc, ◌-◌, ◌==◌, nat_le, nat_lt, Bool, true, false, not, ◌&&◌, ◌||◌, List, [], ◌∷◌, Option, None, Some, bytes_eq, drop, find, is_some, length, map, option_map, slice_index, slice_range, if◌then◌else◌}
use Rattle.std.specs.Char.{is_ascii_digit}
use Rattle.std.specs.List.{flat_map, prefix_len, range_with_len}
use Rattle.kql_ticks.specs.Forms.{span_in}
use Rattle.kql_cells.specs.declared.value.Kind.{Kind}
use Rattle.kql_cells.specs.declared.value.Kind.TheVariants as kind
use Rattle.kql_cells.specs.declared.value.Value.{Value}
use Rattle.kql_cells.specs.declared.value.Value.TheVariants as value
use Rattle.kql_dynamic.specs.Json.{parsed}
use Rattle.kql_scalar_fns.specs.Conversion.{moment_written}
use Rattle.kql_cells.specs.Readings.{bool_written, long_written}
use Rattle.kql_bound.specs.declared.parts.PatItem.{PatItem}
use Rattle.kql_bound.specs.declared.parts.PatItem.TheVariants as item

-- What a piece that is not empty reads as, which is what a cell of a table's file reads as.
unfoldable pub filled_piece_read : Kind → List ℕ → Option Value
filled_piece_read kind.Bool piece = option_map value.Bool (bool_written piece)
filled_piece_read kind.Long piece = option_map value.Long (long_written piece)
filled_piece_read kind.Text piece = Some (value.Text piece)
filled_piece_read kind.Moment piece = option_map value.Moment (moment_written piece)
filled_piece_read kind.Span piece = option_map value.Span (span_in piece)
filled_piece_read kind.Dynamic piece = Some (parsed piece)

-- What a piece reads as; the empty piece reads as a string alone.
unfoldable pub piece_read : Kind → List ℕ → Option Value
piece_read kind.Text piece = Some (value.Text piece)
piece_read k [] = None
piece_read k (b ∷ bs) = filled_piece_read k (b ∷ bs)

-- The length of the longest prefix of digits.
unfoldable pub digits_length : List ℕ → ℕ
digits_length t = prefix_len is_ascii_digit t

-- A length behind a `-`, which does not stand alone.
unfoldable pub behind_dash : ℕ → ℕ
behind_dash zero = 0
behind_dash (suc n) = suc (suc n)

-- The length of the longest prefix of the form `-` optional and digits; 0 where there is none.
unfoldable pub number_length : List ℕ → ℕ
number_length [] = 0
number_length (b ∷ bs) = if b == 45 then behind_dash (digits_length bs) else digits_length (b ∷ bs)

-- Whether the first of these items is `*`.
unfoldable pub star_follows : List PatItem → Bool
star_follows (item.Star ∷ items) = true
star_follows _ = false

-- Whether a column is a long directly before `*`.
unfoldable pub is_number_before_star : Kind → List PatItem → Bool
is_number_before_star kind.Long items = star_follows items
is_number_before_star _ items = false

-- Whether a piece is one that an item allows, where these items follow it, and the text from the start of the piece on is `rest`:
-- a literal's piece is the literal, and `*` has any piece. A long column directly before `*` has the longest number that `rest`
-- begins with, and any other column any piece; in kind simple the piece must also read as the column's type.
unfoldable pub is_allowed : Bool → PatItem → List PatItem → List ℕ → List ℕ → Bool
is_allowed relaxed item.Star following piece rest = true
is_allowed relaxed (item.Literal t) following piece rest = bytes_eq piece t
is_allowed relaxed (item.Column name kind) following piece rest =
    (relaxed || is_some (piece_read kind piece)) && (not (is_number_before_star kind following) || (length piece == number_length rest))

-- Whether a place of a text is not within a character.
unfoldable pub is_between_characters : List ℕ → ℕ → Bool
is_between_characters t i = nat_le (length t) i || (nat_lt (slice_index t i) 128 || nat_le 192 (slice_index t i))

-- Whether the end of a piece is not before its start, and is a place of the text between characters.
unfoldable pub is_end : List ℕ → ℕ → ℕ → Bool
is_end t start end = nat_le start end && (nat_le end (length t) && is_between_characters t end)

-- Whether these ends are those of a cut of a text from a place on: one end for each item, which do not fall and of which the last is
-- the text's length, and each piece is one that its item allows.
unfoldable pub is_cut_from : Bool → List PatItem → List ℕ → ℕ → List ℕ → Bool
is_cut_from relaxed [] t start [] = start == length t
is_cut_from relaxed (p ∷ ps) t start (end ∷ ends) =
    is_end t start end && (is_allowed relaxed p ps (slice_range t start end) (drop start t) && is_cut_from relaxed ps t end ends)
is_cut_from relaxed _ t start _ = false

unfoldable pub is_cut : Bool → List PatItem → List ℕ → List ℕ → Bool
is_cut relaxed pattern t ends = is_cut_from relaxed pattern t 0 ends

-- All lists of so many places from a start to a size that do not fall, in lexicographic order.
unfoldable pub rising_lists : ℕ → ℕ → ℕ → List (List ℕ)
rising_lists zero size start = [] ∷ []
rising_lists (suc n) size start = flat_map (λ end. map (λ ends. end ∷ ends) (rising_lists n size end)) (range_with_len start (suc size - start))

-- The cut that is taken: the least list of ends, in lexicographic order, that is a cut, and none where there is none. In kind relaxed
-- where the first argument is true, else in kind simple.
unfoldable pub cut : Bool → List PatItem → List ℕ → Option (List ℕ)
cut relaxed pattern t = find (is_cut relaxed pattern t) (rising_lists (length pattern) (length t) 0)
