-- What a token of a class is to the automaton that tells operators' names.
use Rattle.std.proofs.Common.{◌≡◌, ◌⊎◌, inl, inr, Bool, true, false, ◌||◌, List, [], ◌∷◌, ℕ, refl, sym, ap, subst, ◌∙◌, true≢false}
use Rattle.kql_lexer.specs.Words.{is_reserved_keyword}
use Rattle.kql_lexer.specs.declared.keyword.Keyword.{Keyword}
use Rattle.kql_lexer.specs.declared.keyword.Keyword.TheVariants as word
use Rattle.kql_lexer.specs.declared.token.TokenForm.{TokenForm}
use Rattle.kql_lexer.specs.declared.token.TokenForm.TheVariants as form
use Rattle.kql_syntax.specs.declared.class.Class.{Class}
use Rattle.kql_syntax.specs.declared.class.Class.TheVariants as class
use Rattle.kql_syntax.specs.Classes.{IsOf, has, holds, spans, number}
use Rattle.kql_syntax.proofs.ClassLaws.{class_means}
use Rattle.kql_syntax.proofs.StartLaws.{and_left, and_right, or_left}
use Rattle.kql_parser.specs.Operators.{after_free, after_operator, after_hint, after_typeof, after_head, after_token, is_operator, is_source_word, is_word}
use Rattle.kql_parser_laws.specs.Counted.{at_first}
use Rattle.kql_parser_laws.proofs.States.{State, next, behind, calm, same_means, all_calm, told, follow}

-- a token is no operator's name, and leads to this
pub record Goes (n : State) (f : TokenForm) (m : State) : Type 0 where
  pub none : told n f ≡ false
  pub leads : follow n f ≡ next m

-- a sign is no operator's name
no_source : (f : TokenForm) → is_word f ≡ false → is_source_word f ≡ false
unfolding is_word is_source_word
no_source (form.Word k t) e = absurd (true≢false e)
no_source _ e = refl

no_word : (n : State) (f : TokenForm) → is_word f ≡ false → told n f ≡ false
unfolding is_operator next at_first after_free after_operator
no_word State.Free f e = no_source f e
no_word State.Operator f e = e
no_word _ f e = refl

-- a token that tells of what follows in no state
plain : TokenForm → Bool
plain (form.Word k t) = false
plain form.Open = false
plain form.Dot = false
plain form.Bar = false
plain form.Colon = false
plain form.Assign = false
plain _ = true

free_plain : (f : TokenForm) → plain f ≡ true → after_free f ≡ next State.Free
unfolding plain after_free next at_first
free_plain (form.Word k t) e = absurd (true≢false (sym e))
free_plain form.Open e = absurd (true≢false (sym e))
free_plain form.Dot e = absurd (true≢false (sym e))
free_plain form.Bar e = absurd (true≢false (sym e))
free_plain form.Colon e = absurd (true≢false (sym e))
free_plain form.Assign e = absurd (true≢false (sym e))
free_plain _ e = refl

operator_plain : (f : TokenForm) → plain f ≡ true → after_operator f ≡ next State.Free
unfolding plain after_operator next at_first after_free
operator_plain (form.Word k t) e = absurd (true≢false (sym e))
operator_plain _ e = refl

hint_plain : (f : TokenForm) → plain f ≡ true → after_hint f ≡ next State.HintSign
unfolding plain after_hint next at_first after_free
hint_plain form.Assign e = absurd (true≢false (sym e))
hint_plain _ e = refl

typeof_plain : (f : TokenForm) → plain f ≡ true → after_typeof f ≡ next State.TypeBracket
unfolding plain after_typeof next at_first after_free
typeof_plain form.Open e = absurd (true≢false (sym e))
typeof_plain _ e = refl

head_plain : (f : TokenForm) → plain f ≡ true → after_head f ≡ next State.PartBracket
unfolding plain after_head next at_first after_operator
head_plain form.Open e = absurd (true≢false (sym e))
head_plain _ e = refl

plain_leads : (n : State) (f : TokenForm) → plain f ≡ true → follow n f ≡ next (behind n class.End)
unfolding after_token next at_first after_free after_operator
plain_leads State.Free f e = free_plain f e
plain_leads State.Operator f e = operator_plain f e
plain_leads State.AnyWord f e = refl
plain_leads State.HintSign f e = hint_plain f e
plain_leads State.TypeBracket f e = typeof_plain f e
plain_leads State.PartBracket f e = head_plain f e

-- a sign that tells of what follows in some state
sign_leads : (n : State) (c : Class) (g : TokenForm) → follow n g ≡ next (behind n c) → (f : TokenForm) → f ≡ g → is_word g ≡ false → Goes n f (behind n c)
sign_leads n c g l f e w = subst (λ (x : TokenForm). Goes n x (behind n c)) (sym e) (record { none = no_word n g w; leads = l })

open_leads : (n : State) → follow n form.Open ≡ next (behind n class.Open)
unfolding after_token next at_first after_free after_operator after_hint after_typeof after_head
open_leads State.Free = refl
open_leads _ = refl

dot_leads : (n : State) → follow n form.Dot ≡ next (behind n class.Dot)
unfolding after_token next at_first after_free after_operator after_hint after_typeof after_head
dot_leads State.Free = refl
dot_leads _ = refl

bar_leads : (n : State) → follow n form.Bar ≡ next (behind n class.Bar)
unfolding after_token next at_first after_free after_operator after_hint after_typeof after_head
bar_leads State.Free = refl
bar_leads _ = refl

colon_leads : (n : State) → follow n form.Colon ≡ next (behind n class.Colon)
unfolding after_token next at_first after_free after_operator after_hint after_typeof after_head
colon_leads State.Free = refl
colon_leads _ = refl

assign_leads : (n : State) → follow n form.Assign ≡ next (behind n class.Assign)
unfolding after_token next at_first after_free after_operator after_hint after_typeof after_head
assign_leads State.Free = refl
assign_leads _ = refl

-- a word leads as its keyword says
free_key : (k : Keyword) (t : List ℕ) → after_free (form.Word k t) ≡ next (behind State.Free (class.Key k))
unfolding after_free next at_first
free_key word.Hint t = refl
free_key word.Typeof t = refl
free_key _ t = refl

operator_key : (k : Keyword) (t : List ℕ) → after_operator (form.Word k t) ≡ next (behind State.Operator (class.Key k))
unfolding after_operator next at_first after_free
operator_key word.Partition t = refl
operator_key _ t = refl

pub key_leads : (n : State) (k : Keyword) (t : List ℕ) → follow n (form.Word k t) ≡ next (behind n (class.Key k))
unfolding after_token next at_first after_free after_operator after_hint after_typeof after_head
key_leads State.Free k t = free_key k t
key_leads State.Operator k t = operator_key k t
key_leads State.AnyWord k t = refl
key_leads State.HintSign k t = refl
key_leads State.TypeBracket k t = refl
key_leads State.PartBracket k t = refl

free_calm : (k : Keyword) (t : List ℕ) → calm State.Free (class.Key k) ≡ true → is_source_word (form.Word k t) ≡ false
unfolding is_source_word
free_calm word.Range t e = absurd (true≢false (sym e))
free_calm word.Print t e = absurd (true≢false (sym e))
free_calm word.Union t e = absurd (true≢false (sym e))
free_calm _ t e = refl

key_calm : (n : State) (k : Keyword) (t : List ℕ) → calm n (class.Key k) ≡ true → told n (form.Word k t) ≡ false
unfolding is_operator next at_first after_free after_operator
key_calm State.Free k t e = free_calm k t e
key_calm State.Operator k t e = absurd (true≢false (sym e))
key_calm _ k t e = refl

-- whether a word of this keyword is an operator's name where this is known
abbrev pub names : State → Keyword → Bool
names State.Free word.Range = true
names State.Free word.Print = true
names State.Free word.Union = true
names State.Operator k = true
names _ _ = false

free_names : (k : Keyword) (t : List ℕ) → names State.Free k ≡ true → is_source_word (form.Word k t) ≡ true
unfolding is_source_word
free_names word.Range t e = refl
free_names word.Print t e = refl
free_names word.Union t e = refl
free_names _ t e = absurd (true≢false (sym e))

pub key_names : (n : State) (k : Keyword) (t : List ℕ) → names n k ≡ true → told n (form.Word k t) ≡ true
unfolding is_operator is_word next at_first after_free after_operator
key_names State.Free k t e = free_names k t e
key_names State.Operator k t e = refl
key_names _ k t e = absurd (true≢false (sym e))

-- a word that is not reserved tells nothing
free_name : (k : Keyword) (t : List ℕ) → is_reserved_keyword k ≡ false → after_free (form.Word k t) ≡ next State.Free
unfolding after_free is_reserved_keyword next at_first
free_name word.Hint t e = absurd (true≢false e)
free_name word.Typeof t e = absurd (true≢false e)
free_name _ t e = refl

no_source_name : (k : Keyword) (t : List ℕ) → is_reserved_keyword k ≡ false → is_source_word (form.Word k t) ≡ false
unfolding is_source_word is_reserved_keyword
no_source_name word.Range t e = absurd (true≢false e)
no_source_name word.Print t e = absurd (true≢false e)
no_source_name word.Union t e = absurd (true≢false e)
no_source_name _ t e = refl

name_goes : (n : State) (k : Keyword) (t : List ℕ) → is_reserved_keyword k ≡ false → calm n class.Name ≡ true → Goes n (form.Word k t) (behind n class.Name)
unfolding after_token is_operator next at_first after_free after_operator after_hint after_typeof after_head
name_goes State.Free k t r e = record { none = no_source_name k t r; leads = free_name k t r }
name_goes State.Operator k t r e = absurd (true≢false (sym e))
name_goes State.AnyWord k t r e = record { none = refl; leads = refl }
name_goes State.HintSign k t r e = record { none = refl; leads = refl }
name_goes State.TypeBracket k t r e = record { none = refl; leads = refl }
name_goes State.PartBracket k t r e = record { none = refl; leads = refl }

-- any word, where all words are one
word_goes : (n : State) (k : Keyword) (t : List ℕ) → calm n class.Word ≡ true → Goes n (form.Word k t) (behind n class.Word)
unfolding after_token is_operator next at_first after_free after_operator after_hint after_typeof after_head
word_goes State.Free k t e = absurd (true≢false (sym e))
word_goes State.Operator k t e = absurd (true≢false (sym e))
word_goes State.AnyWord k t e = record { none = refl; leads = refl }
word_goes State.HintSign k t e = record { none = refl; leads = refl }
word_goes State.TypeBracket k t e = record { none = refl; leads = refl }
word_goes State.PartBracket k t e = record { none = refl; leads = refl }

-- a class whose tokens tell nothing leads as the end mark does
dull : Class → Bool
dull class.Open = false
dull class.Dot = false
dull class.Bar = false
dull class.Colon = false
dull class.Assign = false
dull (class.Key k) = false
dull _ = true

dull_leads : (n : State) (c : Class) → dull c ≡ true → behind n class.End ≡ behind n c
unfolding dull
dull_leads State.Free class.Dot e = absurd (true≢false (sym e))
dull_leads State.Free class.Bar e = absurd (true≢false (sym e))
dull_leads State.Free class.Colon e = absurd (true≢false (sym e))
dull_leads State.Free (class.Key k) e = absurd (true≢false (sym e))
dull_leads State.Free _ e = refl
dull_leads State.Operator (class.Key k) e = absurd (true≢false (sym e))
dull_leads State.Operator _ e = refl
dull_leads State.AnyWord c e = refl
dull_leads State.HintSign class.Assign e = absurd (true≢false (sym e))
dull_leads State.HintSign _ e = refl
dull_leads State.TypeBracket class.Open e = absurd (true≢false (sym e))
dull_leads State.TypeBracket _ e = refl
dull_leads State.PartBracket class.Open e = absurd (true≢false (sym e))
dull_leads State.PartBracket _ e = refl

plain_goes : (n : State) (c : Class) (f g : TokenForm) → f ≡ g → is_word g ≡ false → plain g ≡ true → dull c ≡ true → Goes n f (behind n c)
plain_goes n c f g e w p d = subst (λ (x : TokenForm). Goes n x (behind n c)) (sym e) (record { none = no_word n g w; leads = plain_leads n g p ∙ ap (λ (x : State). next x) (dull_leads n c d) })

pub class_goes : (n : State) (c : Class) (f : TokenForm) → calm n c ≡ true → IsOf c f → Goes n f (behind n c)
unfolding IsOf is_word plain dull
class_goes n class.Open f e h = sign_leads n class.Open form.Open (open_leads n) f h refl
class_goes n class.Dot f e h = sign_leads n class.Dot form.Dot (dot_leads n) f h refl
class_goes n class.Bar f e h = sign_leads n class.Bar form.Bar (bar_leads n) f h refl
class_goes n class.Colon f e h = sign_leads n class.Colon form.Colon (colon_leads n) f h refl
class_goes n class.Assign f e h = sign_leads n class.Assign form.Assign (assign_leads n) f h refl
class_goes n class.End f e h = plain_goes n class.End f form.End h refl refl refl
class_goes n class.Number f e h = plain_goes n class.Number f (form.Number h.0) h.1 refl refl refl
class_goes n class.Span f e h = plain_goes n class.Span f (form.Span h.0) h.1 refl refl refl
class_goes n class.Text f e h = plain_goes n class.Text f (form.Text h.0) h.1 refl refl refl
class_goes n class.Typed f e h = plain_goes n class.Typed f (form.Typed h.0 h.1) h.2 refl refl refl
class_goes n class.OpenSquare f e h = plain_goes n class.OpenSquare f form.OpenSquare h refl refl refl
class_goes n class.Equal f e h = plain_goes n class.Equal f form.Equal h refl refl refl
class_goes n class.NotEqual f e h = plain_goes n class.NotEqual f form.NotEqual h refl refl refl
class_goes n class.Alike f e h = plain_goes n class.Alike f form.Alike h refl refl refl
class_goes n class.NotAlike f e h = plain_goes n class.NotAlike f form.NotAlike h refl refl refl
class_goes n class.Less f e h = plain_goes n class.Less f form.Less h refl refl refl
class_goes n class.LessEqual f e h = plain_goes n class.LessEqual f form.LessEqual h refl refl refl
class_goes n class.Greater f e h = plain_goes n class.Greater f form.Greater h refl refl refl
class_goes n class.GreaterEqual f e h = plain_goes n class.GreaterEqual f form.GreaterEqual h refl refl refl
class_goes n class.Plus f e h = plain_goes n class.Plus f form.Plus h refl refl refl
class_goes n class.Minus f e h = plain_goes n class.Minus f form.Minus h refl refl refl
class_goes n class.Star f e h = plain_goes n class.Star f form.Star h refl refl refl
class_goes n class.Slash f e h = plain_goes n class.Slash f form.Slash h refl refl refl
class_goes n class.Percent f e h = plain_goes n class.Percent f form.Percent h refl refl refl
class_goes n class.Close f e h = plain_goes n class.Close f form.Close h refl refl refl
class_goes n class.CloseSquare f e h = plain_goes n class.CloseSquare f form.CloseSquare h refl refl refl
class_goes n class.Comma f e h = plain_goes n class.Comma f form.Comma h refl refl refl
class_goes n class.Semicolon f e h = plain_goes n class.Semicolon f form.Semicolon h refl refl refl
class_goes n class.DotDot f e h = plain_goes n class.DotDot f form.DotDot h refl refl refl
class_goes n class.Arrow f e h = plain_goes n class.Arrow f form.Arrow h refl refl refl
class_goes n (class.Not k) f e h = plain_goes n (class.Not k) f (form.Negated k) h refl refl refl
class_goes n class.Name f e h = subst (λ (x : TokenForm). Goes n x (behind n class.Name)) (sym h.2) (name_goes n h.0 h.1 h.3 e)
class_goes n class.Word f e h = subst (λ (x : TokenForm). Goes n x (behind n class.Word)) (sym h.2) (word_goes n h.0 h.1 e)
class_goes n (class.Key k) f e h = subst (λ (x : TokenForm). Goes n x (behind n (class.Key k))) (sym h.1) (record { none = key_calm n k h.0 e; leads = key_leads n k h.0 })
class_goes n class.ExprSign f e h = absurd (true≢false (sym e))
class_goes n class.CompareWord f e h = absurd (true≢false (sym e))
class_goes n class.Negated f e h = absurd (true≢false (sym e))

or_either : (a b : Bool) → (a || b) ≡ true → (a ≡ true) ⊎ (b ≡ true)
or_either true b h = inl refl
or_either false b h = inr h

pub tokens_go : (n m : State) (cs : List Class) (f : TokenForm) → all_calm n m cs ≡ true → has cs f ≡ true → Goes n f m
tokens_go n m [] f e h = absurd (true≢false (sym h))
tokens_go n m (c ∷ cs) f e h = elim (or_either (spans c (number f)) (holds cs (number f)) h) [
  | inl a ↦ subst (λ (x : State). Goes n f x) (same_means (behind n c) m (and_left _ _ (and_right _ _ e))) (class_goes n c f (and_left _ _ e) (class_means c f (or_left _ _ a)))
  | inr a ↦ tokens_go n m cs f (and_right _ _ (and_right _ _ e)) a
]
