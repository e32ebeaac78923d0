-- The tokens of a text: it is cut from left to right into its longest pieces.
use Rattle.std.specs.Prelude.{◌≡◌, ℕ, ◌+◌, ◌-◌, ◌<◌, ◌≤◌, ◌==◌, suc, zero, nat_lt, List, [], ◌∷◌, ◌++◌, length, take, drop, map, Option, Some, None, Result, Ok, Err, if◌then◌else◌}
use Rattle.std.specs.Option.{option_map_or}
use Rattle.std.specs.List.{filter_map}
use Rattle.std.specs.Str.Lossy.{utf8_valid_len}
use Rattle.kql_lexer.specs.Pieces.{Piece, gap, token, flaw, piece_of}
use Rattle.kql_lexer.specs.Places.{place_at}
use Rattle.kql_lexer.specs.declared.place.Place.{Place}
use Rattle.kql_lexer.specs.declared.token.Token.{Token}
use Rattle.kql_lexer.specs.declared.token.TokenForm.TheVariants.{End}

-- The first n bytes of rest are this piece, and no longer front of rest is a piece.
pub record IsLongest (rest : List ℕ) (n : ℕ) (piece : Piece) : Type 0 where
  pub some : 0 < n
  pub within : n ≤ length rest
  pub is : piece_of (take n rest) ≡ Some piece
  pub longest : (m : ℕ) → n < m → m ≤ length rest → piece_of (take m rest) ≡ None

-- These pieces, each with the number of its first byte, make up what is left of a text from a byte on: the longest
-- piece stands there, and the others make up what is left behind it.
unfoldable pub IsReading : ℕ → List ℕ → List (ℕ × Piece) → Type 0
IsReading at rest [] = rest ≡ []
IsReading at rest (part ∷ parts) = (n : ℕ) × (part.0 ≡ at) × IsLongest rest n part.1 × IsReading (at + n) (drop n rest) parts

-- a piece and how many bytes it has
pub record Cut : Type 0 where
  pub size : ℕ
  pub piece : Piece

-- the longest front of at most n bytes that is a piece; a byte with none would be one that begins no token
unfoldable pub longest_within : List ℕ → ℕ → Cut
longest_within rest zero = record { size = 1; piece = flaw 101 }
longest_within rest (suc n) = option_map_or (λ piece. record { size = suc n; piece = piece }) (piece_of (take (suc n) rest)) (longest_within rest n)

-- The pieces of what is left of a text from a byte on, each with the number of its first byte. The next k bytes
-- belong to the piece before.
unfoldable pub cut_from : ℕ → ℕ → List ℕ → List (ℕ × Piece)
cut_from at k [] = []
cut_from at zero (b ∷ bs) =
    let front = longest_within (b ∷ bs) (length (b ∷ bs)) in
    (at, front.piece) ∷ cut_from (suc at) (front.size - 1) bs
cut_from at (suc k) (b ∷ bs) = cut_from (suc at) k bs

-- all pieces of a text
unfoldable pub pieces : List ℕ → List (ℕ × Piece)
pieces text = cut_from 0 0 text

-- a refusal: its code, and where it stands
pub record Fault : Type 0 where
  pub code : ℕ
  pub place : Place

-- the token that a piece at a place is
abbrev pub token_as : Place → Piece → Option Token
token_as place gap = None
token_as place (token form) = Some (record { place = place; form = form })
token_as place (flaw code) = None

abbrev pub tokens_in : List ℕ → List (ℕ × Piece) → List Token
tokens_in text parts = filter_map (λ (part : ℕ × Piece). token_as (place_at text part.0) part.1) parts

-- the byte and the code of the flaw that a piece is
abbrev pub flaw_as : ℕ → Piece → Option (ℕ × ℕ)
flaw_as at gap = None
flaw_as at (token form) = None
flaw_as at (flaw code) = Some (at, code)

abbrev pub flaws_in : List (ℕ × Piece) → List (ℕ × ℕ)
flaws_in parts = filter_map (λ (part : ℕ × Piece). flaw_as part.0 part.1) parts

-- the end of the longest front of a text that is UTF-8, if that is not all of it
abbrev pub bad_bytes : List ℕ → List (ℕ × ℕ)
bad_bytes text = if utf8_valid_len text == length text then [] else (utf8_valid_len text, 101) ∷ []

-- the 65,537th token
abbrev pub crowd : List Token → List (ℕ × ℕ)
crowd tokens = map (λ t. (t.place.byte, 105)) (take 1 (drop 65536 tokens))

-- Each byte at which a fault stands, with its code. Of those at one byte the lower code is first.
abbrev pub faults_in : List ℕ → List (ℕ × Piece) → List (ℕ × ℕ)
faults_in text parts = bad_bytes text ++ (flaws_in parts ++ crowd (tokens_in text parts))

-- the leftmost of a fault and others; of several at one byte the first
unfoldable pub leftmost : ℕ × ℕ → List (ℕ × ℕ) → ℕ × ℕ
leftmost f [] = f
leftmost f (g ∷ gs) = leftmost (if nat_lt g.0 f.0 then g else f) gs

abbrev pub fault_at : List ℕ → ℕ × ℕ → Fault
fault_at text f = record { code = f.1; place = place_at text f.0 }

-- the tokens where there is no fault, else the leftmost fault
abbrev pub answer : List ℕ → List (ℕ × ℕ) → List Token → Result (List Token) Fault
answer text [] tokens = Ok tokens
answer text (f ∷ fs) tokens = Err (fault_at text (leftmost f fs))

-- the end mark of a text
abbrev pub end_mark : List ℕ → Token
end_mark text = record { place = place_at text (length text); form = End }

-- what a text is whose pieces are these: its tokens with the end mark, or its fault
abbrev pub told_by : List ℕ → List (ℕ × Piece) → Result (List Token) Fault
told_by text parts = answer text (faults_in text parts) (tokens_in text parts ++ end_mark text ∷ [])

-- the tokens of a text with the end mark, or its fault; a text that is too long has one at its start
unfoldable pub lexed : List ℕ → Result (List Token) Fault
lexed text =
    if nat_lt 262144 (length text) then Err (fault_at text (0, 104))
    else told_by text (pieces text)
