-- What `parse_expr` answers: an expression from a place on, or where it is refused.
use Rattle.std.specs.Prelude.{ℕ, ◌+◌, ◌-◌, ◌≤◌, ◌≡◌, ◌⊎◌, min, if◌then◌else◌, nat_le, List, [], ◌∷◌, length, drop, Option, Some, None, Result, Ok, Err, slice_get}
use Rattle.kql_lexer.specs.declared.place.Place.{Place}
use Rattle.kql_lexer.specs.declared.token.Token.{Token}
use Rattle.kql_syntax.specs.declared.class.Class.{Class}
use Rattle.kql_syntax.specs.declared.class.Class.TheVariants as class
use Rattle.kql_syntax.specs.declared.parse.SyntaxFault.{SyntaxFault}
use Rattle.kql_syntax.specs.declared.parse.SyntaxFault.TheVariants as fault
use Rattle.kql_syntax.specs.Classes.{has}
use Rattle.kql_syntax.specs.Forms.{Form}
use Rattle.kql_syntax.specs.Derives.{IsForm, BeginsForm}

abbrev pub opening : List Class
opening = class.Open ∷ class.OpenSquare ∷ []

abbrev pub closing : List Class
closing = class.Close ∷ class.CloseSquare ∷ []

-- the index of the first bracket that opens where 64 are open, in a list that begins at index i and where so many are open
unfoldable pub too_deep : ℕ → ℕ → List Token → Option ℕ
too_deep i unclosed [] = None
too_deep i unclosed (t ∷ ts) =
    if has opening t.form then (if nat_le 64 unclosed then Some i else too_deep (i + 1) (unclosed + 1) ts)
    else (if has closing t.form then too_deep (i + 1) (unclosed - 1) ts else too_deep (i + 1) unclosed ts)

-- the 65th bracket that is open, of those from i on, opens at w
abbrev pub OpensTooDeep : List Token → ℕ → ℕ → Type 0
OpensTooDeep s i w = too_deep i 0 (drop i s) ≡ Some w

-- the longest tokens from i on that begin the form are of it, with this value, and end here; none of their brackets opens too deep
pub record Whole {A : Type 0} (a : Form A) (s : List Token) (i end : ℕ) (x : A) : Type 0 where
  pub is : IsForm s a i end x
  pub furthest : (j : ℕ) → BeginsForm s a i j → j ≤ end
  pub shallow : (w : ℕ) → OpensTooDeep s i w → end ≤ w

-- the longest tokens from i on that begin the form end here and are not of it; no bracket before this place opens too deep
pub record Unexpected {A : Type 0} (a : Form A) (s : List Token) (i v : ℕ) : Type 0 where
  pub begins : BeginsForm s a i v
  pub furthest : (j : ℕ) → BeginsForm s a i j → j ≤ v
  pub none : (x : A) → IsForm s a i v x → ⊥
  pub shallow : (w : ℕ) → OpensTooDeep s i w → v ≤ w

-- a bracket opens too deep here, and the tokens from i on begin the form with it
pub record TooDeep {A : Type 0} (a : Form A) (s : List Token) (i w : ℕ) : Type 0 where
  pub deep : OpensTooDeep s i w
  pub begins : BeginsForm s a i (w + 1)

-- the place of a token; of none it is the start of a text
abbrev pub place_or_start : Option Token → Place
place_or_start (Some t) = t.place
place_or_start None = record { line = 1; column = 1; byte = 0 }

-- the place of the token with this index, or of the last token where there is none
abbrev pub place_of : List Token → ℕ → Place
place_of s i = place_or_start (slice_get s (min i (length s - 1)))

-- a refusal with this code at this place
pub record Refuses {A : Type 0} (a : Form A) (s : List Token) (i code : ℕ) (p : Place) : Type 0 where
  pub at : ℕ
  pub place : p ≡ place_of s at
  pub cause : ((code ≡ 201) × Unexpected a s i at) ⊎ ((code ≡ 202) × TooDeep a s i at)

-- the tree and its end, or the refusal; want of memory says nothing
abbrev pub Parses : {A : Type 0} → Form A → List Token → ℕ → Result (A × ℕ) SyntaxFault → Type 0
Parses a s i (Ok r) = Whole a s i r.1 r.0
Parses a s i (Err (fault.Refused code p)) = Refuses a s i code p
Parses a s i (Err fault.OutOfMemory) = Unit {0}
