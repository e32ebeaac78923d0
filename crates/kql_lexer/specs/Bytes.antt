-- The classes of bytes that the tokens are made of.
use Rattle.std.specs.Prelude.{ℕ, Bool, ◌||◌, ◌&&◌, ◌==◌, not, nat_le, if◌then◌else◌}
use Rattle.kql_lexer.specs.declared.classes.Class.{Class}
use Rattle.kql_lexer.specs.declared.classes.Class.TheVariants as class

-- a space, a tab, a carriage return or a line feed
unfoldable pub is_blank : ℕ → Bool
is_blank b = b == 32 || b == 9 || b == 13 || b == 10

-- `0` to `9`
unfoldable pub is_digit : ℕ → Bool
is_digit b = nat_le 48 b && nat_le b 57

-- an ASCII letter or `_`
unfoldable pub is_word_start : ℕ → Bool
is_word_start b = (nat_le 65 b && nat_le b 90) || (nat_le 97 b && nat_le b 122) || b == 95

-- an ASCII letter, a digit or `_`
unfoldable pub is_word_char : ℕ → Bool
is_word_char b = is_word_start b || is_digit b

-- a double or a single quote
unfoldable pub is_quote : ℕ → Bool
is_quote b = b == 34 || b == 39

-- no line feed
unfoldable pub is_inline : ℕ → Bool
is_inline b = not (b == 10)

-- what a byte may begin
unfoldable pub class_of : ℕ → Class
class_of b =
    if is_blank b then class.Blank
    else (if is_word_start b then class.Letter
    else (if is_digit b then class.Digit
    else (if is_quote b then class.Quote
    else (if b == 64 then class.At
    else (if b == 36 then class.Dollar
    else (if b == 33 then class.Bang
    else (if b == 47 then class.Slash
    else class.Other)))))))
