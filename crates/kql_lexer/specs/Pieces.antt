-- What each piece of a text is. These are facts on the whole bytes of a piece; where a piece ends in a text is told
-- in `Lexing`.
use Rattle.std.specs.Prelude.{ℕ, ◌+◌, false, ◌||◌, ◌&&◌, ◌==◌, List, [], ◌∷◌, length, take, drop, slice_index, Option, Some, None, option_map, if◌then◌else◌}
use Rattle.std.specs.Option.{option_or}
use Rattle.std.specs.List.{list_all}
use Rattle.kql_lexer.specs.Bytes.{class_of, is_blank, is_inline, is_quote, is_word_char}
use Rattle.kql_lexer.specs.Literals.{literal_keyword, literal_open, opens_literal, raw_len}
use Rattle.kql_lexer.specs.Numbers.{is_fraction, number_form}
use Rattle.kql_lexer.specs.Strings.{between, halved, in_string, in_verbatim, leaves, unescaped}
use Rattle.kql_lexer.specs.Words.{is_word, joined_words, keyword_of, negated_words, side_words, word_in}
use Rattle.kql_lexer.specs.declared.classes.Class.{Class}
use Rattle.kql_lexer.specs.declared.classes.Class.TheVariants as class
use Rattle.kql_lexer.specs.declared.keyword.Keyword.{Keyword}
use Rattle.kql_lexer.specs.declared.strings.Inside.{Inside}
use Rattle.kql_lexer.specs.declared.strings.Inside.TheVariants.{Open, Kept, Closed}
use Rattle.kql_lexer.specs.declared.token.TokenForm.{TokenForm}
use Rattle.kql_lexer.specs.declared.token.TokenForm.TheVariants as form

-- blanks or a comment; a token; or something that is none, with its code
pub data Piece : Type 0 where
  gap : Piece
  token : TokenForm → Piece
  flaw : ℕ → Piece

-- a token, or else a flaw
abbrev pub or_flaw : ℕ → Option TokenForm → Piece
or_flaw code (Some t) = token t
or_flaw code None = flaw code

-- blanks
unfoldable pub blank_piece : List ℕ → Option Piece
blank_piece bytes = if list_all is_blank bytes then Some gap else None

-- what a typed literal is that has this raw text and what follows: `)` closes it, and nothing follows that
unfoldable pub raw_piece : Keyword → List ℕ → Option Piece
raw_piece k raw =
    if raw_len 0 raw == length raw then Some (flaw 102)
    else (if raw_len 0 raw + 1 == length raw then Some (token (form.Typed k (take (raw_len 0 raw) raw))) else None)

-- a typed literal
unfoldable pub literal_piece : List ℕ → Option Piece
literal_piece bytes = if opens_literal bytes then raw_piece (literal_keyword bytes) (drop (literal_open bytes + 1) bytes) else None

-- a word, or a typed literal
unfoldable pub word_piece : List ℕ → Option Piece
word_piece bytes =
    if is_word bytes then Some (token (form.Word (keyword_of bytes) bytes))
    else option_or (option_map (λ k. token (form.Word k bytes)) (word_in joined_words bytes)) (literal_piece bytes)

-- A number takes in all word characters that stand there, and a point where a digit follows: it is a number, a span,
-- or a flaw.
unfoldable pub number_piece : List ℕ → Option Piece
number_piece bytes = if list_all is_word_char bytes || is_fraction bytes then Some (or_flaw 103 (number_form bytes)) else None

-- a string that its bytes behind the first sign leave so
abbrev pub string_as : List ℕ → Option Inside → Option Piece
string_as bytes None = None
string_as bytes (Some Open) = Some (flaw 102)
string_as bytes (Some Kept) = Some (flaw 102)
string_as bytes (Some Closed) = Some (or_flaw 103 (option_map form.Text (unescaped false (between 0 bytes))))

-- a string with escapes
unfoldable pub string_piece : List ℕ → Option Piece
string_piece [] = None
string_piece (sign ∷ bs) = string_as (sign ∷ bs) (leaves (in_string sign) Open bs)

-- a verbatim string that its bytes behind the first sign leave so
abbrev pub verbatim_as : List ℕ → Option Inside → Option Piece
verbatim_as bytes None = None
verbatim_as bytes (Some Open) = Some (flaw 102)
verbatim_as bytes (Some Kept) = Some (flaw 102)
verbatim_as bytes (Some Closed) = Some (token (form.Text (halved (slice_index bytes 1) false (between 1 bytes))))

-- a verbatim string, or `@` alone
unfoldable pub at_piece : List ℕ → Option Piece
at_piece [] = None
at_piece (a ∷ []) = Some (flaw 101)
at_piece (a ∷ sign ∷ bs) = if is_quote sign then verbatim_as (a ∷ sign ∷ bs) (leaves (in_verbatim sign) Open bs) else None

-- `$left` or `$right`, or `$` alone
unfoldable pub dollar_piece : List ℕ → Option Piece
dollar_piece [] = None
dollar_piece (a ∷ []) = Some (flaw 101)
dollar_piece (a ∷ b ∷ bs) = option_map (λ k. token (form.Word k (a ∷ b ∷ bs))) (word_in side_words (a ∷ b ∷ bs))

-- the signs of two bytes that begin with `!`
abbrev pub bang_sign : ℕ → Option TokenForm
bang_sign b = if b == 61 then Some form.NotEqual else (if b == 126 then Some form.NotAlike else None)

-- a sign that begins with `!`, a negated word, or `!` alone
unfoldable pub bang_piece : List ℕ → Option Piece
bang_piece [] = None
bang_piece (a ∷ []) = Some (flaw 101)
bang_piece (a ∷ b ∷ []) = option_map token (bang_sign b)
bang_piece (a ∷ b ∷ c ∷ cs) = option_map (λ k. token (form.Negated k)) (word_in negated_words (b ∷ c ∷ cs))

-- `/`, or a comment: `//` and all up to the line's end
unfoldable pub slash_piece : List ℕ → Option Piece
slash_piece [] = None
slash_piece (a ∷ []) = Some (token form.Slash)
slash_piece (a ∷ b ∷ bs) = if b == 47 && list_all is_inline bs then Some gap else None

-- the other signs of one byte
unfoldable pub sign : ℕ → Option TokenForm
sign b =
    if b == 124 then Some form.Bar
    else (if b == 40 then Some form.Open
    else (if b == 41 then Some form.Close
    else (if b == 91 then Some form.OpenSquare
    else (if b == 93 then Some form.CloseSquare
    else (if b == 44 then Some form.Comma
    else (if b == 59 then Some form.Semicolon
    else (if b == 58 then Some form.Colon
    else (if b == 46 then Some form.Dot
    else (if b == 61 then Some form.Assign
    else (if b == 60 then Some form.Less
    else (if b == 62 then Some form.Greater
    else (if b == 43 then Some form.Plus
    else (if b == 45 then Some form.Minus
    else (if b == 42 then Some form.Star
    else (if b == 37 then Some form.Percent
    else None)))))))))))))))

-- the other signs of two bytes
unfoldable pub double_sign : ℕ → ℕ → Option TokenForm
double_sign b c =
    if b == 46 && c == 46 then Some form.DotDot
    else (if b == 61 && c == 61 then Some form.Equal
    else (if b == 61 && c == 126 then Some form.Alike
    else (if b == 61 && c == 62 then Some form.Arrow
    else (if b == 60 && c == 61 then Some form.LessEqual
    else (if b == 62 && c == 61 then Some form.GreaterEqual
    else None)))))

-- a sign, or a byte that begins no token
unfoldable pub sign_piece : List ℕ → Option Piece
sign_piece [] = None
sign_piece (b ∷ []) = Some (or_flaw 101 (sign b))
sign_piece (b ∷ c ∷ []) = option_map token (double_sign b c)
sign_piece (b ∷ c ∷ d ∷ ds) = None

-- what bytes are as one piece whose first byte has this class
abbrev pub piece_in : Class → List ℕ → Option Piece
piece_in class.Blank = blank_piece
piece_in class.Letter = word_piece
piece_in class.Digit = number_piece
piece_in class.Quote = string_piece
piece_in class.At = at_piece
piece_in class.Dollar = dollar_piece
piece_in class.Bang = bang_piece
piece_in class.Slash = slash_piece
piece_in class.Other = sign_piece

-- what bytes are as one piece
unfoldable pub piece_of : List ℕ → Option Piece
piece_of [] = None
piece_of (b ∷ bs) = piece_in (class_of b) (b ∷ bs)
