-- An operator that is one too many is a word.
use Rattle.std.proofs.Common.{ℕ, ◌+◌, ◌≡◌, ◌⊎◌, inl, inr, Bool, true, false, List, [], ◌∷◌, refl}
use Rattle.std.specs.Prelude.{Option, Some, nat_le, if◌then◌else◌}
use Rattle.kql_lexer.specs.declared.keyword.Keyword.{Keyword}
use Rattle.kql_lexer.specs.declared.keyword.Keyword.TheVariants as word
use Rattle.kql_lexer.specs.declared.token.Token.{Token}
use Rattle.kql_lexer.specs.declared.token.TokenForm.{TokenForm}
use Rattle.kql_lexer.specs.declared.token.TokenForm.TheVariants as form
use Rattle.kql_syntax.specs.declared.class.Class.TheVariants as class
use Rattle.kql_syntax.specs.Classes.{has}
use Rattle.kql_syntax.specs.Derives.{Stands}
use Rattle.kql_syntax.proofs.DepthLaws.{Spot, spot_here, spot_later, spot_stands}
use Rattle.kql_parser.specs.declared.count.Next.{Next}
use Rattle.kql_parser.specs.declared.count.Next.TheVariants as next
use Rattle.kql_parser.specs.Operators.{NamesTooMany, after_token, is_operator, is_source_word, is_word, one_too_many}

word_is_word : (k : Keyword) (t : List ℕ) → has (class.Word ∷ []) (form.Word k t) ≡ true
word_is_word word.Other t = refl
word_is_word _ t = refl

is_word_class : (f : TokenForm) → is_word f ≡ true → has (class.Word ∷ []) f ≡ true
unfolding is_word
is_word_class (form.Word k t) e = word_is_word k t
is_word_class _ e = absurd cc

source_word_class : (f : TokenForm) → is_source_word f ≡ true → has (class.Word ∷ []) f ≡ true
unfolding is_source_word
source_word_class (form.Word k t) e = word_is_word k t
source_word_class _ e = absurd cc

operator_class : (n : Next) (f : TokenForm) → is_operator n f ≡ true → has (class.Word ∷ []) f ≡ true
unfolding is_operator
operator_class next.Free f e = source_word_class f e
operator_class next.Operator f e = is_word_class f e
operator_class _ f e = absurd cc

pick_many : (at w : ℕ) (a b : Bool) (X Y : Option ℕ) → (if a then (if b then Some at else X) else Y) ≡ Some w → ((a ≡ true) × (at ≡ w)) ⊎ ((X ≡ Some w) ⊎ (Y ≡ Some w))
pick_many at w true true X Y e = inl (refl, cc)
pick_many at w true false X Y e = inr (inl e)
pick_many at w false b X Y e = inr (inr e)

many_spot : (at n : ℕ) (p : Next) (ts : List Token) (w : ℕ) → one_too_many at n p ts ≡ Some w → Spot (class.Word ∷ []) ts at w
unfolding one_too_many
many_spot at n p [] w e = absurd cc
many_spot at n p (t ∷ ts) w e = elim (pick_many at w (is_operator p t.form) (nat_le 256 n) _ _ e) [
  | inl h ↦ spot_here (class.Word ∷ []) t ts at w (operator_class p t.form h.0) h.1
  | inr q ↦ (elim q [
    | inl h ↦ spot_later t ts at w (many_spot (at + 1) (n + 1) (after_token p t.form) ts w h)
    | inr h ↦ spot_later t ts at w (many_spot (at + 1) n (after_token p t.form) ts w h)
  ])
]

pub many_stands : (s : List Token) (w : ℕ) → NamesTooMany s w → Stands s w (class.Word ∷ [])
many_stands s w e = spot_stands (class.Word ∷ []) s w (many_spot 0 0 next.Free s w e)
