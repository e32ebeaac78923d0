-- A string as it is written: between two signs stand bytes, and backslashes with a byte behind each.
use Rattle.std.specs.Prelude.{◌≡◌, ℕ, Bool, true, not, ◌||◌, ◌==◌, List, [], ◌∷◌, ◌++◌, Option, Some, option_map, option_and_then}
use Rattle.std.specs.List.{list_all}
use Rattle.kql_lexer.specs.Bytes.{is_quote}
use Rattle.kql_lexer.specs.Pieces.{or_flaw, piece_of, token}
use Rattle.kql_lexer.specs.Strings.{escape}
use Rattle.kql_lexer.specs.declared.token.TokenForm.{TokenForm}
use Rattle.kql_lexer.specs.declared.token.TokenForm.TheVariants as form

-- a byte that is itself, or a backslash and a byte
pub data StringItem : Type 0 where
  plain : ℕ → StringItem
  escaped : ℕ → StringItem

-- the bytes of some items
unfoldable pub spelled : List StringItem → List ℕ
spelled [] = []
spelled (plain b ∷ items) = b ∷ spelled items
spelled (escaped b ∷ items) = 92 ∷ b ∷ spelled items

-- a byte that is itself is no line feed, no backslash and not the string's sign; one behind a backslash is no line feed
unfoldable pub may_stand : ℕ → StringItem → Bool
may_stand sign (plain b) = not (b == 10 || b == 92 || b == sign)
may_stand sign (escaped b) = not (b == 10)

-- the text that some items mean, if each escape is known
unfoldable pub meant : List StringItem → Option (List ℕ)
meant [] = Some []
meant (plain b ∷ items) = option_map (λ text. b ∷ text) (meant items)
meant (escaped b ∷ items) = option_and_then (λ c. option_map (λ text. c ∷ text) (meant items)) (escape b)

-- items between two signs are the string of the text that they mean, or a flaw where an escape is unknown
abbrev pub ItemsAreRead : Type 0
ItemsAreRead = (sign : ℕ) (items : List StringItem) → is_quote sign ≡ true → list_all (may_stand sign) items ≡ true
    → piece_of (sign ∷ (spelled items ++ sign ∷ [])) ≡ Some (or_flaw 103 (option_map form.Text (meant items)))

-- some bytes behind a sign are items and the sign again, and the items mean a token's text
pub record IsSpelled (sign : ℕ) (bytes : List ℕ) (t : TokenForm) : Type 0 where
  pub items : List StringItem
  pub is : bytes ≡ spelled items ++ sign ∷ []
  pub stand : list_all (may_stand sign) items ≡ true
  pub means : option_map form.Text (meant items) ≡ Some t

-- there are no other tokens that begin with such a sign
abbrev pub StringsAreItems : Type 0
StringsAreItems = (sign : ℕ) (bytes : List ℕ) (t : TokenForm) → is_quote sign ≡ true → piece_of (sign ∷ bytes) ≡ Some (token t) → IsSpelled sign bytes t
