-- Numbers and spans.
use Rattle.std.specs.Prelude.{ℕ, ℤ, pos, ◌+◌, ◌-◌, ◌*◌, Bool, ◌&&◌, ◌||◌, ◌==◌, nat_le, List, fold, drop, length, slice_index, Option, Some, None, option_map, if◌then◌else◌}
use Rattle.std.specs.Option.{option_or}
use Rattle.std.specs.List.{list_all, prefix_len}
use Rattle.kql_lexer.specs.Bytes.{is_digit, is_word_char}
use Rattle.kql_lexer.specs.declared.token.TokenForm.{TokenForm}
use Rattle.kql_lexer.specs.declared.token.TokenForm.TheVariants.{Number, Span}
use Rattle.kql_ticks.specs.Forms.{span_in}

-- a whole number within a long's range
abbrev pub in_long : ℕ → Option ℤ
in_long n = if nat_le n 9223372036854775807 then Some (pos n) else None

-- the number that decimal digits spell
unfoldable pub decimal : List ℕ → ℕ
decimal digits = fold (λ n d. n * 10 + (d - 48)) 0 digits

-- the value of decimal digits
unfoldable pub decimal_of : List ℕ → Option ℤ
decimal_of bytes = if list_all is_digit bytes then in_long (decimal bytes) else None

-- `0` to `9`, `a` to `f` or `A` to `F`
unfoldable pub is_hex_digit : ℕ → Bool
is_hex_digit b = is_digit b || (nat_le 65 b && nat_le b 70) || (nat_le 97 b && nat_le b 102)

-- the value of a hexadecimal digit
unfoldable pub hex_value : ℕ → ℕ
hex_value b = if nat_le 97 b then b - 87 else (if nat_le 65 b then b - 55 else b - 48)

-- the number that hexadecimal digits spell
unfoldable pub hexadecimal : List ℕ → ℕ
hexadecimal digits = fold (λ n d. n * 16 + hex_value d) 0 digits

-- the value of `0x` and hexadecimal digits
unfoldable pub hexadecimal_of : List ℕ → Option ℤ
hexadecimal_of bytes =
    if nat_le 3 (length bytes) && slice_index bytes 0 == 48 && slice_index bytes 1 == 120 && list_all is_hex_digit (drop 2 bytes)
    then in_long (hexadecimal (drop 2 bytes))
    else None

-- the number that bytes are, or else the span
unfoldable pub number_form : List ℕ → Option TokenForm
number_form bytes =
    option_or (option_map Number (decimal_of bytes)) (option_or (option_map Number (hexadecimal_of bytes)) (option_map Span (span_in bytes)))

-- a point and a digit stand at n
unfoldable pub has_fraction : List ℕ → ℕ → Bool
has_fraction bytes n = slice_index bytes n == 46 && is_digit (slice_index bytes (n + 1))

-- digits, a point, a digit, and word characters
unfoldable pub is_fraction : List ℕ → Bool
is_fraction bytes = has_fraction bytes (prefix_len is_digit bytes) && list_all is_word_char (drop (prefix_len is_digit bytes + 1) bytes)

-- how many bytes the longest number takes
unfoldable pub number_len : List ℕ → ℕ
number_len bytes =
    if has_fraction bytes (prefix_len is_digit bytes)
    then prefix_len is_digit bytes + 1 + prefix_len is_word_char (drop (prefix_len is_digit bytes + 1) bytes)
    else prefix_len is_word_char bytes
