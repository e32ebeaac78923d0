-- What the scanner says of a piece before it copies any text.
use Rattle.std.specs.Prelude.{◌≡◌, ℕ, ◌+◌, ◌-◌, ◌<◌, ◌==◌, ◌&&◌, not, Bool, true, false, List, [], ◌∷◌, ◌++◌, drop, take, length, slice_index, nat_lt, Option, Some, None, IsSome, option_map, if◌then◌else◌}
use Rattle.std.specs.Str.{IsAscii, IsUtf8}
use Rattle.kql_lexer.specs.Bytes.{is_blank}
use Rattle.kql_lexer.specs.Lexing.{IsLongest}
use Rattle.kql_lexer.specs.Literals.{quote_end}
use Rattle.kql_lexer.specs.Pieces.{Piece, gap, token, flaw, or_flaw, bang_sign, double_sign}
use Rattle.kql_lexer.specs.Strings.{between, escape, halved, unescaped}
use Rattle.kql_lexer.specs.declared.token.Front.{Front}
use Rattle.kql_lexer.specs.declared.token.Shape.{Shape}
use Rattle.kql_lexer.specs.declared.token.Shape.TheVariants as shape
use Rattle.kql_lexer.specs.declared.token.TokenForm.{TokenForm}
use Rattle.kql_lexer.specs.declared.token.TokenForm.TheVariants as form

-- the piece that bytes of a shape are
abbrev pub piece_as : Shape → List ℕ → Piece
piece_as shape.Gap bytes = gap
piece_as (shape.Flaw code) bytes = flaw code
piece_as (shape.Plain t) bytes = token t
piece_as (shape.Word k) bytes = token (form.Word k bytes)
piece_as shape.Quoted bytes = or_flaw 103 (option_map form.Text (unescaped false (between 0 bytes)))
piece_as shape.Verbatim bytes = token (form.Text (halved (slice_index bytes 1) false (between 1 bytes)))
piece_as (shape.Typed k n) bytes = token (form.Typed k (between n bytes))

-- the first byte, byte k and the last byte are ASCII
pub record HasEnds (k : ℕ) (bytes : List ℕ) : Type 0 where
  pub first : slice_index bytes 0 < 128
  pub before : slice_index bytes k < 128
  pub last : slice_index bytes (length bytes - 1) < 128
  pub room : k + 1 < length bytes

-- the bytes have what their shape says
abbrev pub Fits : Shape → List ℕ → Type 0
Fits shape.Gap bytes = Unit {0}
Fits (shape.Flaw code) bytes = Unit {0}
Fits (shape.Plain t) bytes = Unit {0}
Fits (shape.Word k) bytes = IsAscii bytes
Fits shape.Quoted bytes = HasEnds 0 bytes × IsSome (unescaped false (between 0 bytes))
Fits shape.Verbatim bytes = HasEnds 1 bytes
Fits (shape.Typed k n) bytes = HasEnds n bytes

-- the text in the bytes is UTF-8
abbrev pub Reads : Shape → List ℕ → Type 0
Reads shape.Gap bytes = Unit {0}
Reads (shape.Flaw code) bytes = Unit {0}
Reads (shape.Plain t) bytes = Unit {0}
Reads (shape.Word k) bytes = IsUtf8 bytes
Reads shape.Quoted bytes = IsUtf8 bytes
Reads shape.Verbatim bytes = IsUtf8 bytes
Reads (shape.Typed k n) bytes = IsUtf8 bytes

-- the longest piece that rest begins with has this size and this shape
pub record IsFront (rest : List ℕ) (front : Front) : Type 0 where
  pub longest : IsLongest rest front.size (piece_as front.shape (take front.size rest))
  pub fits : Fits front.shape (take front.size rest)

-- a double quote that none follows stays so: it is known that each double quote of the bytes is one
abbrev pub IsPlain : Bool → List ℕ → Type 0
IsPlain known bytes = known ≡ true → (i : ℕ) → slice_index bytes i ≡ 34 → quote_end false (drop (i + 1) bytes) ≡ None

-- the fault of a token: one too many, or the valid front of the text ends in it
abbrev pub token_halt : ℕ → ℕ → ℕ → ℕ → Option (ℕ × ℕ)
token_halt valid count at n =
    if count == 65536 then Some (at, 105) else (if nat_lt valid (at + n) then Some (valid, 101) else None)

-- The fault, by its byte and code, that a piece of n bytes at a byte tells, behind so many tokens: its own flaw, one
-- token too many, or a token in which the valid front of the text ends.
abbrev pub halted : ℕ → ℕ → ℕ → ℕ → Piece → Option (ℕ × ℕ)
halted valid count at n gap = None
halted valid count at n (flaw code) = Some (at, code)
halted valid count at n (token t) = token_halt valid count at n

-- the same by the shape
abbrev pub halted_as : ℕ → ℕ → ℕ → ℕ → Shape → Option (ℕ × ℕ)
halted_as valid count at n shape.Gap = None
halted_as valid count at n (shape.Flaw code) = Some (at, code)
halted_as valid count at n (shape.Plain t) = token_halt valid count at n
halted_as valid count at n (shape.Word k) = token_halt valid count at n
halted_as valid count at n shape.Quoted = token_halt valid count at n
halted_as valid count at n shape.Verbatim = token_halt valid count at n
halted_as valid count at n (shape.Typed k m) = token_halt valid count at n

-- the token that a piece is
abbrev pub token_of : Piece → Option TokenForm
token_of gap = None
token_of (flaw code) = None
token_of (token t) = Some t

-- the piece that stands at a byte of a text
abbrev pub front_piece : List ℕ → ℕ → Front → Piece
front_piece text at front = piece_as front.shape (take front.size (drop at text))

-- the sign of two bytes that bytes begin with
unfoldable pub double_front : List ℕ → Option TokenForm
double_front [] = None
double_front (b ∷ []) = None
double_front (b ∷ c ∷ cs) = double_sign b c

-- the sign that `!` and the byte behind it are
unfoldable pub bang_before : List ℕ → Option TokenForm
bang_before [] = None
bang_before (b ∷ []) = None
bang_before (b ∷ c ∷ cs) = bang_sign c

-- what one byte of a string leaves: whether a backslash stands before the next, or nothing behind an unknown escape
unfoldable pub kept_after : Bool → ℕ → Option Bool
kept_after true b = option_map (λ c. false) (escape b)
kept_after false b = Some (b == 92)

-- a text that grew by what one byte of a string means, where it means something
abbrev pub AddsByte : List ℕ → List ℕ → Bool → ℕ → Bool → Type 0
AddsByte before after kept b next =
    (rest : List ℕ) → IsSome (unescaped kept (b ∷ rest))
    → option_map (λ t. after ++ t) (unescaped next rest) ≡ option_map (λ t. before ++ t) (unescaped kept (b ∷ rest))

-- a text that grew by what one byte of a verbatim string means
abbrev pub AddsHalf : List ℕ → List ℕ → ℕ → Bool → ℕ → Bool → Type 0
AddsHalf before after sign half b next = (rest : List ℕ) → after ++ halved sign next rest ≡ before ++ halved sign half (b ∷ rest)

-- whether blanks and comments go on with a byte before another, and whether the next is in a comment
unfoldable pub gap_after : Bool → ℕ → ℕ → Option Bool
gap_after true b c = Some (not (b == 10))
gap_after false b c = if is_blank b then Some false else (if b == 47 && c == 47 then Some true else None)

-- whether a text between quotes goes on, and whether a backslash stands before the next byte
unfoldable pub quote_after : Bool → ℕ → Option Bool
quote_after true b = Some false
quote_after false b = if b == 34 then None else Some (b == 92)
