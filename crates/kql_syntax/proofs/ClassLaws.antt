-- The classes of tokens, without their numbers.
use Rattle.std.proofs.Common.{ℕ, ◌+◌, ◌≤◌, ◌≡◌, Bool, true, false, ◌||◌, ◌&&◌, not, List, [], ◌∷◌, refl, sym, ap, ◌∙◌, arith, true≢false}
use Rattle.std.proofs.lemmas.Bool.{leb-true, le-leb}
use Rattle.std.specs.Prelude.{nat_le, nat_eq, if◌then◌else◌}
use Rattle.kql_lexer.specs.Words.{is_reserved_keyword, keywords}
use Rattle.kql_lexer.specs.declared.keyword.Keyword.{Keyword}
use Rattle.kql_lexer.specs.declared.keyword.Keyword.TheVariants as word
use Rattle.kql_lexer.specs.declared.token.TokenForm.{TokenForm}
use Rattle.kql_lexer.specs.declared.token.TokenForm.TheVariants as form
use Rattle.kql_syntax.specs.declared.class.Class.{Class}
use Rattle.kql_syntax.specs.declared.class.Class.TheVariants as class
use Rattle.kql_syntax.specs.Classes.{word_number, number, low, high, has, goes_on, compares, IsOf}
use Rattle.kql_syntax.proofs.NameFacts.{word_named}

-- the keyword that has a number
abbrev numbered : List Keyword → ℕ → Keyword
numbered [] n = word.Other
numbered (k ∷ ks) n = if nat_eq (word_number k) n then k else numbered ks n

keyword_numbered : ℕ → Keyword
unfolding keywords
keyword_numbered n = numbered keywords n

number_back : (k : Keyword) → keyword_numbered (word_number k) ≡ k
unfolding keyword_numbered
number_back word.Other = refl
number_back _ = refl

-- two words with one number are one word
word_alone : (k l : Keyword) → word_number k ≡ word_number l → k ≡ l
word_alone k l e = sym (number_back k) ∙ ap keyword_numbered e ∙ number_back l

word_least : (k : Keyword) → nat_le 100 (word_number k) ≡ true
word_least word.Other = refl
word_least _ = refl

word_most : (k : Keyword) → nat_le (word_number k) 299 ≡ true
word_most word.Other = refl
word_most _ = refl

from_100 : (k : Keyword) → 100 ≤ word_number k
from_100 k = leb-true _ _ (word_least k)

to_299 : (k : Keyword) → word_number k ≤ 299
to_299 k = leb-true _ _ (word_most k)

-- a number between two
abbrev Between : ℕ → ℕ → ℕ → Type 0
Between a b n = ((nat_le a n && nat_le n b) || false) ≡ true

alone : (x : Bool) → (x || false) ≡ true → x ≡ true
alone true h = refl
alone false h = h

both : (x y : Bool) → (x && y) ≡ true → (x ≡ true) × (y ≡ true)
both true y h = (refl, h)
both false y h = absurd (true≢false (sym h))

above : (a b n : ℕ) → Between a b n → a ≤ n
above a b n h = leb-true _ _ (both _ _ (alone _ h)).0

below : (a b n : ℕ) → Between a b n → n ≤ b
below a b n h = leb-true _ _ (both _ _ (alone _ h)).1

itself : (n : ℕ) → Between n n n
itself n = let e : nat_le n n ≡ true = le-leb _ _ (omega arith) in rw e refl

-- the numbers of words are from 100 to 299, and those of words with `!` from 1100 on
word_high : (k : Keyword) (a b : ℕ) → nat_le b 99 ≡ true → Between a b (word_number k) → ⊥
word_high k a b s h =
    let p : b ≤ 99 = leb-true _ _ s in
    let q : word_number k ≤ b = below a b _ h in
    let r : 100 ≤ word_number k = from_100 k in
    omega arith

word_low : (k : Keyword) (a b : ℕ) → nat_le 300 a ≡ true → Between a b (word_number k) → ⊥
word_low k a b s h =
    let p : 300 ≤ a = leb-true _ _ s in
    let q : a ≤ word_number k = above a b _ h in
    let r : word_number k ≤ 299 = to_299 k in
    omega arith

negated_high : (k : Keyword) (a b : ℕ) → nat_le b 999 ≡ true → Between a b (1000 + word_number k) → ⊥
negated_high k a b s h =
    let p : b ≤ 999 = leb-true _ _ s in
    let q : 1000 + word_number k ≤ b = below a b _ h in
    omega arith

key_high : (k : Keyword) (n : ℕ) → nat_le n 99 ≡ true → Between (word_number k) (word_number k) n → ⊥
key_high k n s h =
    let p : n ≤ 99 = leb-true _ _ s in
    let q : word_number k ≤ n = above _ _ n h in
    let r : 100 ≤ word_number k = from_100 k in
    omega arith

not_high : (k : Keyword) (n : ℕ) → nat_le n 99 ≡ true → Between (1000 + word_number k) (1000 + word_number k) n → ⊥
not_high k n s h =
    let p : n ≤ 99 = leb-true _ _ s in
    let q : 1000 + word_number k ≤ n = above _ _ n h in
    omega arith

key_word : (k l : Keyword) → Between (word_number k) (word_number k) (word_number l) → l ≡ k
key_word k l h =
    let p : word_number k ≤ word_number l = above (word_number k) (word_number k) (word_number l) h in
    let q : word_number l ≤ word_number k = below (word_number k) (word_number k) (word_number l) h in
    word_alone l k (omega arith)

not_negated : (k l : Keyword) → Between (1000 + word_number k) (1000 + word_number k) (1000 + word_number l) → l ≡ k
not_negated k l h =
    let p : 1000 + word_number k ≤ 1000 + word_number l = above (1000 + word_number k) (1000 + word_number k) (1000 + word_number l) h in
    let q : 1000 + word_number l ≤ 1000 + word_number k = below (1000 + word_number k) (1000 + word_number k) (1000 + word_number l) h in
    word_alone l k (omega arith)

key_negated : (k l : Keyword) → Between (word_number k) (word_number k) (1000 + word_number l) → ⊥
key_negated k l h =
    let p : 1000 + word_number l ≤ word_number k = below (word_number k) (word_number k) (1000 + word_number l) h in
    let q : word_number k ≤ 299 = to_299 k in
    omega arith

not_word : (k l : Keyword) → Between (1000 + word_number k) (1000 + word_number k) (word_number l) → ⊥
not_word k l h =
    let p : 1000 + word_number k ≤ word_number l = above (1000 + word_number k) (1000 + word_number k) (word_number l) h in
    let q : word_number l ≤ 299 = to_299 l in
    omega arith

not_true : (b : Bool) → not b ≡ true → b ≡ false
not_true true h = absurd (true≢false (sym h))
not_true false h = refl

-- words that compare, and signs that go on
word_compares : (k : Keyword) → compares k ≡ has (class.CompareWord ∷ []) (form.Word k [])
unfolding compares
word_compares word.In = refl
word_compares _ = refl

word_goes_on : (k : Keyword) → false ≡ has (class.ExprSign ∷ []) (form.Word k [])
word_goes_on word.Other = refl
word_goes_on _ = refl

negated_goes_on : (k : Keyword) → false ≡ has (class.ExprSign ∷ []) (form.Negated k)
negated_goes_on word.Other = refl
negated_goes_on _ = refl

sign_goes_on : (f : TokenForm) → goes_on f ≡ has (class.ExprSign ∷ []) f
unfolding goes_on
sign_goes_on (form.Word k t) = word_goes_on k
sign_goes_on (form.Negated k) = negated_goes_on k
sign_goes_on _ = refl

-- a token that the numbers put into a class is of it
pub class_means : (c : Class) (f : TokenForm) → has (c ∷ []) f ≡ true → IsOf c f
unfolding IsOf
class_means class.End form.End h = refl
class_means class.Number (form.Number n) h = (n, refl)
class_means class.Span (form.Span n) h = (n, refl)
class_means class.Text (form.Text t) h = (t, refl)
class_means class.Typed (form.Typed k t) h = (k, t, refl)
class_means class.Open form.Open h = refl
class_means class.OpenSquare form.OpenSquare h = refl
class_means class.Dot form.Dot h = refl
class_means class.Equal form.Equal h = refl
class_means class.NotEqual form.NotEqual h = refl
class_means class.Alike form.Alike h = refl
class_means class.NotAlike form.NotAlike h = refl
class_means class.Less form.Less h = refl
class_means class.LessEqual form.LessEqual h = refl
class_means class.Greater form.Greater h = refl
class_means class.GreaterEqual form.GreaterEqual h = refl
class_means class.Plus form.Plus h = refl
class_means class.Minus form.Minus h = refl
class_means class.Star form.Star h = refl
class_means class.Slash form.Slash h = refl
class_means class.Percent form.Percent h = refl
class_means class.Bar form.Bar h = refl
class_means class.Close form.Close h = refl
class_means class.CloseSquare form.CloseSquare h = refl
class_means class.Comma form.Comma h = refl
class_means class.Semicolon form.Semicolon h = refl
class_means class.Colon form.Colon h = refl
class_means class.DotDot form.DotDot h = refl
class_means class.Assign form.Assign h = refl
class_means class.Arrow form.Arrow h = refl
class_means class.Name (form.Word k t) h = (k, t, refl, not_true _ (word_named k t ∙ h))
class_means class.Word (form.Word k t) h = (k, t, refl)
class_means (class.Key k) (form.Word l t) h = (t, rw (key_word k l h) refl)
class_means (class.Not k) (form.Negated l) h = rw (not_negated k l h) refl
class_means class.ExprSign f h = sign_goes_on f ∙ h
class_means class.CompareWord (form.Word k t) h = (k, t, refl, word_compares k ∙ h)
class_means class.Negated (form.Negated k) h = (k, refl)
class_means (class.Key k) (form.Negated l) h = absurd (key_negated k l h)
class_means (class.Not k) (form.Word l t) h = absurd (not_word k l h)
class_means (class.Key k) f h = absurd (key_high k (number f) refl h)
class_means (class.Not k) f h = absurd (not_high k (number f) refl h)
class_means class.Negated (form.Word k t) h = absurd (word_low k 1000 1299 refl h)
class_means c (form.Word k t) h = absurd (word_high k (low c) (high c) refl h)
class_means c (form.Negated k) h = absurd (negated_high k (low c) (high c) refl h)
class_means c f h = absurd (true≢false (sym h))

number_of_name : (k : Keyword) (t : List ℕ) → is_reserved_keyword k ≡ false → has (class.Name ∷ []) (form.Word k t) ≡ true
number_of_name k t h = sym (word_named k t) ∙ rw h refl

number_of_word : (k : Keyword) (t : List ℕ) → has (class.Word ∷ []) (form.Word k t) ≡ true
number_of_word word.Other t = refl
number_of_word _ t = refl

number_of_negated : (k : Keyword) → has (class.Negated ∷ []) (form.Negated k) ≡ true
number_of_negated word.Other = refl
number_of_negated _ = refl

-- a token of a class is put into it by the numbers
pub means_class : (c : Class) (f : TokenForm) → IsOf c f → has (c ∷ []) f ≡ true
unfolding IsOf
means_class class.Number f h = rw h.1 refl
means_class class.Span f h = rw h.1 refl
means_class class.Text f h = rw h.1 refl
means_class class.Typed f h = rw h.2 refl
means_class class.Name f h = rw h.2 (number_of_name h.0 h.1 h.3)
means_class class.Word f h = rw h.2 (number_of_word h.0 h.1)
means_class (class.Key k) f h = rw h.1 (itself (word_number k))
means_class (class.Not k) f h = rw h (itself (1000 + word_number k))
means_class class.ExprSign f h = sym (sign_goes_on f) ∙ h
means_class class.CompareWord f h = rw h.2 (sym (word_compares h.0) ∙ h.3)
means_class class.Negated f h = rw h.1 (number_of_negated h.0)
means_class c f h = rw h refl
