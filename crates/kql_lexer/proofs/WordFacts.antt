-- One step of the search for a keyword, and its end.
use Rattle.std.proofs.Common.{◌≡◌, ◌≤◌, ◌<◌, ◌+◌, ℕ, suc, zero, Bool, true, false, ◌&&◌, leb, inl, inr, List, [], ◌∷◌, arith, length, get_or, drop, take, cond, Some, None, refl, sym, ap, ◌∙◌}
use Rattle.std.specs.Str.{bytes_eq}
use Rattle.std.specs.List.{list_all}
use Rattle.std.proofs.lemmas.List.{at_drop_more, at_drop_all}
use Rattle.std.proofs.lemmas.Slice.Eq.{bytes_eq-Decides}
use Rattle.std.proofs.lemmas.Bool.{cases_Bool}
use Rattle.std.proofs.lemmas.Bool.Decides.{nat_tests}
use Rattle.kql_lexer.specs.Bytes.{is_word_start, is_word_char}
use Rattle.kql_lexer.specs.Words.{keyword_among, keyword_text, is_word, rises, word_before}
use Rattle.kql_lexer.specs.declared.keyword.Keyword.{Keyword}
use Rattle.kql_lexer.specs.declared.keyword.Keyword.TheVariants as word

le_of : (n m : ℕ) → leb n m ≡ true → n ≤ m
le_of n m h = grind (arith, nat_tests)

le_self : (n : ℕ) → leb n n ≡ true
le_self n = grind (arith, nat_tests)

-- a longer text is another
longer_other : (t w : List ℕ) → length w < length t → bytes_eq t w ≡ false
longer_other t w h = elim (cases_Bool (bytes_eq t w)) [
  | inl holds ↦ let size : length t ≡ length w = ap length ((bytes_eq-Decides t w).0 holds) in absurd (omega arith)
  | inr fails ↦ fails
]

among_more : (ks : List Keyword) (i : ℕ) (d : Keyword) (w : List ℕ) → i < length ks
    → keyword_among (drop i ks) w ≡ cond (bytes_eq (keyword_text (get_or ks i d)) w) (get_or ks i d) (keyword_among (drop (i + 1) ks) w)
unfolding keyword_among
among_more ks i d w h = at_drop_more (λ xs. keyword_among xs w) ks i d h

-- the keyword at i has the text w
pub among_hit : (ks : List Keyword) (i : ℕ) (d : Keyword) (w t : List ℕ) → i < length ks
    → t ≡ keyword_text (get_or ks i d) → bytes_eq t w ≡ true
    → keyword_among (drop i ks) w ≡ get_or ks i d
among_hit ks i d w t h e b =
    among_more ks i d w h ∙ ap (λ v. cond v (get_or ks i d) (keyword_among (drop (i + 1) ks) w)) (ap (λ s. bytes_eq s w) (sym e) ∙ b)

-- it has another text
pub among_miss : (ks : List Keyword) (i : ℕ) (d : Keyword) (w t : List ℕ) → i < length ks
    → t ≡ keyword_text (get_or ks i d) → bytes_eq t w ≡ false
    → keyword_among (drop i ks) w ≡ keyword_among (drop (i + 1) ks) w
among_miss ks i d w t h e b =
    among_more ks i d w h ∙ ap (λ v. cond v (get_or ks i d) (keyword_among (drop (i + 1) ks) w)) (ap (λ s. bytes_eq s w) (sym e) ∙ b)

pub among_end : (ks : List Keyword) (i : ℕ) (w : List ℕ) → length ks ≤ i → keyword_among (drop i ks) w ≡ word.Other
unfolding keyword_among
among_end ks i w h = at_drop_all (λ xs. keyword_among xs w) ks i h

-- where the shorter ones stand first, none behind a longer one has the text
both : (v w : Bool) → (v && w) ≡ true → (v ≡ true) × (w ≡ true)
both true w h = (refl, h)
both false w h = absurd cc

among_longer : (ks : List Keyword) (n : ℕ) (w : List ℕ) → rises n ks ≡ true → length w < n → keyword_among ks w ≡ word.Other
unfolding keyword_among rises
among_longer [] n w r h = refl
among_longer (k ∷ ks) n w r h =
    let parts = both (leb n (length (keyword_text k))) (rises (length (keyword_text k)) ks) r in
    let le : n ≤ length (keyword_text k) = le_of _ _ parts.0 in
    rw (longer_other (keyword_text k) w (omega arith)) (among_longer ks (length (keyword_text k)) w parts.1 (omega arith))

rises_from : (ks : List Keyword) (n i : ℕ) (d : Keyword) → rises n ks ≡ true → i < length ks → rises (length (keyword_text (get_or ks i d))) (drop i ks) ≡ true
unfolding rises
rises_from [] n i d r h = absurd (omega arith)
rises_from (k ∷ ks) n zero d r h =
    let parts = both (leb n (length (keyword_text k))) (rises (length (keyword_text k)) ks) r in
    rw (le_self (length (keyword_text k)), parts.1) refl
rises_from (k ∷ ks) n (suc i) d r h =
    let parts = both (leb n (length (keyword_text k))) (rises (length (keyword_text k)) ks) r in
    rises_from ks (length (keyword_text k)) i d parts.1 (omega arith)

pub among_past : (ks : List Keyword) (i : ℕ) (d : Keyword) (w t : List ℕ) → rises 0 ks ≡ true → i < length ks
    → t ≡ keyword_text (get_or ks i d) → length w < length t
    → keyword_among (drop i ks) w ≡ word.Other
among_past ks i d w t r h e l =
    among_longer (drop i ks) (length (keyword_text (get_or ks i d))) w (rises_from ks 0 i d r h) (rw (← e) l)

-- the same of a search for the keyword that bytes begin with
starts_with : List ℕ → List ℕ → Bool
starts_with t bytes = bytes_eq t (take (length t) bytes)

before_more : (ks : List Keyword) (i : ℕ) (d : Keyword) (w : List ℕ) → i < length ks
    → word_before (drop i ks) w ≡ cond (starts_with (keyword_text (get_or ks i d)) w) (Some (get_or ks i d)) (word_before (drop (i + 1) ks) w)
unfolding word_before starts_with
before_more ks i d w h = at_drop_more (λ xs. word_before xs w) ks i d h

pub before_hit : (ks : List Keyword) (i : ℕ) (d : Keyword) (w t : List ℕ) → i < length ks
    → t ≡ keyword_text (get_or ks i d) → bytes_eq t (take (length t) w) ≡ true
    → word_before (drop i ks) w ≡ Some (get_or ks i d)
unfolding starts_with
before_hit ks i d w t h e b =
    before_more ks i d w h ∙ ap (λ v. cond v (Some (get_or ks i d)) (word_before (drop (i + 1) ks) w)) (ap (λ s. starts_with s w) (sym e) ∙ b)

pub before_miss : (ks : List Keyword) (i : ℕ) (d : Keyword) (w t : List ℕ) → i < length ks
    → t ≡ keyword_text (get_or ks i d) → bytes_eq t (take (length t) w) ≡ false
    → word_before (drop i ks) w ≡ word_before (drop (i + 1) ks) w
unfolding starts_with
before_miss ks i d w t h e b =
    before_more ks i d w h ∙ ap (λ v. cond v (Some (get_or ks i d)) (word_before (drop (i + 1) ks) w)) (ap (λ s. starts_with s w) (sym e) ∙ b)

pub before_end : (ks : List Keyword) (i : ℕ) (w : List ℕ) → length ks ≤ i → word_before (drop i ks) w ≡ None
unfolding word_before
before_end ks i w h = at_drop_all (λ xs. word_before xs w) ks i h

-- the tests for a word, by the first byte
pub word_none : (xs : List ℕ) → length xs ≡ 0 → false ≡ is_word xs
unfolding is_word
word_none [] h = refl
word_none (b ∷ bs) h = absurd (omega arith)

pub word_other : (xs : List ℕ) → is_word_start (get_or xs 0 0) ≡ false → false ≡ is_word xs
unfolding is_word
word_other [] h = refl
word_other (b ∷ bs) h = rw h refl

pub word_chars : (xs : List ℕ) (r : Bool) → is_word_start (get_or xs 0 0) ≡ true → r ≡ list_all is_word_char xs → r ≡ is_word xs
unfolding is_word is_word_char is_word_start
word_chars [] r h e = absurd cc
word_chars (b ∷ bs) r h e = e ∙ rw h refl

pub ruleset word_tests = (word_none, word_other, word_chars)
