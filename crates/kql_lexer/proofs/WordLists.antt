-- The first keyword of a list that bytes begin with, the longer ones first.
use Rattle.std.proofs.Common.{◌≡◌, ◌≤◌, ◌<◌, ℕ, Bool, true, false, ◌&&◌, ◌||◌, List, [], ◌∷◌, length, get_or, take, cond, eqb, leb, ltb, Some, None, min, refl, sym, ap, ◌∙◌, inl, inr, arith}
use Rattle.std.specs.List.{prefix_len, list_all}
use Rattle.std.specs.Str.{IsAscii, bytes_eq}
use Rattle.std.proofs.lemmas.List.{length-take, length-take-le, take_min, get_or_past}
use Rattle.std.proofs.lemmas.List.Folds.{list_all_at}
use Rattle.std.proofs.lemmas.Slice.Eq.{bytes_eq-Decides}
use Rattle.std.proofs.lemmas.Bool.{cases_Bool, cases_lt}
use Rattle.std.proofs.lemmas.Bool.Decides.{nat_tests}
use Rattle.kql_lexer.specs.Words.{joined_words, keyword_text, negated_words, side_words, word_before, word_in}
use Rattle.kql_lexer.specs.Bytes.{is_digit, is_word_char, is_word_start}
use Rattle.kql_lexer.specs.declared.keyword.Keyword.{Keyword}

same_bytes : (xs ys : List ℕ) → bytes_eq xs ys ≡ true → xs ≡ ys
same_bytes xs ys h = (bytes_eq-Decides xs ys).0 h

bytes_same : (xs ys : List ℕ) → xs ≡ ys → bytes_eq xs ys ≡ true
bytes_same xs ys h = (bytes_eq-Decides xs ys).1 h

-- a text that bytes do not begin with is no front of them
miss : (t rest : List ℕ) (m : ℕ) → bytes_eq t (take (length t) rest) ≡ false → bytes_eq t (take m rest) ≡ false
miss t rest m h = elim (cases_Bool (bytes_eq t (take m rest))) [
  | inl holds ↦
      let is : t ≡ take m rest = same_bytes t (take m rest) holds in
      let size : length t ≡ min m (length rest) = ap length is ∙ length-take m rest in
      let begins : t ≡ take (length t) rest = is ∙ sym (take_min m rest) ∙ ap (λ j. take j rest) (sym size) in
      let eq : bytes_eq t (take (length t) rest) ≡ true = bytes_same t (take (length t) rest) begins in
      absurd cc
  | inr fails ↦ fails
]

-- a text of another length
other_size : (t xs : List ℕ) → length t < length xs → bytes_eq t xs ≡ false
other_size t xs h = elim (cases_Bool (bytes_eq t xs)) [
  | inl holds ↦ let size : length t ≡ length xs = ap length (same_bytes t xs holds) in absurd (omega arith)
  | inr fails ↦ fails
]

size_within : (t rest : List ℕ) → t ≡ take (length t) rest → length t ≤ length rest
size_within t rest h = omega (arith, ap length h, length-take (length t) rest)

pub before_text : (ks : List Keyword) (rest : List ℕ) (k : Keyword) → word_before ks rest ≡ Some k → keyword_text k ≡ take (length (keyword_text k)) rest
unfolding word_before
before_text [] rest k h = absurd cc
before_text (j ∷ js) rest k h =
    elim (bytes_eq (keyword_text j) (take (length (keyword_text j)) rest))
    as (λ v. bytes_eq (keyword_text j) (take (length (keyword_text j)) rest) ≡ v → cond v (Some j) (word_before js rest) ≡ Some k → keyword_text k ≡ take (length (keyword_text k)) rest) [
      | true ↦ λ e h'. let same : j ≡ k = cc in rw (← same) (same_bytes _ _ e)
      | false ↦ λ e h'. before_text js rest k h'
    ] refl h

pub before_within : (ks : List Keyword) (rest : List ℕ) (k : Keyword) → word_before ks rest ≡ Some k → length (keyword_text k) ≤ length rest
before_within ks rest k h = size_within (keyword_text k) rest (before_text ks rest k h)

pub before_in : (ks : List Keyword) (rest : List ℕ) (k : Keyword) → word_before ks rest ≡ Some k → word_in ks (take (length (keyword_text k)) rest) ≡ Some k
unfolding word_before word_in
before_in [] rest k h = absurd cc
before_in (j ∷ js) rest k h =
    elim (bytes_eq (keyword_text j) (take (length (keyword_text j)) rest))
    as (λ v. bytes_eq (keyword_text j) (take (length (keyword_text j)) rest) ≡ v → cond v (Some j) (word_before js rest) ≡ Some k
    → cond (bytes_eq (keyword_text j) (take (length (keyword_text k)) rest)) (Some j) (word_in js (take (length (keyword_text k)) rest)) ≡ Some k) [
      | true ↦ λ e h'. let same : j ≡ k = cc in rw (← same) (rw e refl)
      | false ↦ λ e h'. rw (miss (keyword_text j) rest (length (keyword_text k)) e) (before_in js rest k h')
    ] refl h

pub before_none : (ks : List Keyword) (rest : List ℕ) (m : ℕ) → word_before ks rest ≡ None → word_in ks (take m rest) ≡ None
unfolding word_before word_in
before_none [] rest m h = refl
before_none (j ∷ js) rest m h =
    elim (bytes_eq (keyword_text j) (take (length (keyword_text j)) rest))
    as (λ v. bytes_eq (keyword_text j) (take (length (keyword_text j)) rest) ≡ v → cond v (Some j) (word_before js rest) ≡ None
    → cond (bytes_eq (keyword_text j) (take m rest)) (Some j) (word_in js (take m rest)) ≡ None) [
      | true ↦ λ e h'. absurd cc
      | false ↦ λ e h'. rw (miss (keyword_text j) rest m e) (before_none js rest m h')
    ] refl h

-- the texts of these are no longer than n
abbrev shorter : ℕ → List Keyword → Bool
shorter n [] = true
shorter n (k ∷ ks) = leb (length (keyword_text k)) n && shorter n ks

-- the longer ones stand first
abbrev falls : List Keyword → Bool
falls [] = true
falls (k ∷ ks) = shorter (length (keyword_text k)) ks && falls ks

and_both : (v w : Bool) → (v && w) ≡ true → (v ≡ true) × (w ≡ true)
and_both true w h = (refl, h)
and_both false w h = absurd cc

le_of : (n m : ℕ) → leb n m ≡ true → n ≤ m
le_of n m h = grind (arith, nat_tests)

shorter_none : (ks : List Keyword) (n : ℕ) (xs : List ℕ) → shorter n ks ≡ true → n < length xs → word_in ks xs ≡ None
unfolding word_in
shorter_none [] n xs s h = refl
shorter_none (k ∷ ks) n xs s h =
    let both = and_both (leb (length (keyword_text k)) n) (shorter n ks) s in
    let le : length (keyword_text k) ≤ n = le_of _ _ both.0 in
    rw (other_size (keyword_text k) xs (omega arith)) (shorter_none ks n xs both.1 h)

pub before_past : (ks : List Keyword) (rest : List ℕ) (k : Keyword) (m : ℕ) → falls ks ≡ true → word_before ks rest ≡ Some k → length (keyword_text k) < m → m ≤ length rest
    → word_in ks (take m rest) ≡ None
unfolding word_before word_in
before_past [] rest k m f h l n = refl
before_past (j ∷ js) rest k m f h l n =
    let both = and_both (shorter (length (keyword_text j)) js) (falls js) f in
    elim (bytes_eq (keyword_text j) (take (length (keyword_text j)) rest))
    as (λ v. bytes_eq (keyword_text j) (take (length (keyword_text j)) rest) ≡ v → cond v (Some j) (word_before js rest) ≡ Some k
    → cond (bytes_eq (keyword_text j) (take m rest)) (Some j) (word_in js (take m rest)) ≡ None) [
      | true ↦ λ e h'.
          let same : j ≡ k = cc in
          let size : length (keyword_text j) ≡ length (keyword_text k) = ap (λ i. length (keyword_text i)) same in
          let long : length (keyword_text j) < length (take m rest) = omega (arith, length-take-le m rest n) in
          rw (other_size (keyword_text j) (take m rest) long) (shorter_none js (length (keyword_text j)) (take m rest) both.0 long)
      | false ↦ λ e h'. rw (miss (keyword_text j) rest m e) (before_past js rest k m both.1 h' l n)
    ] refl h

-- what all of a list have its one that is found has
pub before_has : (p : Keyword → Bool) (ks : List Keyword) (rest : List ℕ) (k : Keyword) → list_all p ks ≡ true → word_before ks rest ≡ Some k → p k ≡ true
unfolding word_before
before_has p [] rest k a h = absurd cc
before_has p (j ∷ js) rest k a h =
    let both = and_both (p j) (list_all p js) a in
    elim (bytes_eq (keyword_text j) (take (length (keyword_text j)) rest)) as (λ v. cond v (Some j) (word_before js rest) ≡ Some k → p k ≡ true) [
      | true ↦ λ h'. let same : j ≡ k = cc in rw (← same) both.0
      | false ↦ λ h'. before_has p js rest k both.1 h'
    ] h

-- the three lists
pub joined_falls : falls joined_words ≡ true
unfolding keyword_text
joined_falls = refl

pub side_falls : falls side_words ≡ true
unfolding keyword_text
side_falls = refl

pub negated_falls : falls negated_words ≡ true
unfolding keyword_text
negated_falls = refl

-- the bytes are ASCII
abbrev pub is_ascii_word : Keyword → Bool
is_ascii_word k = list_all (λ b. ltb b 128) (keyword_text k)

pub joined_ascii : list_all is_ascii_word joined_words ≡ true
unfolding keyword_text
joined_ascii = refl

pub side_ascii : list_all is_ascii_word side_words ≡ true
unfolding keyword_text
side_ascii = refl

lt_of : (n m : ℕ) → ltb n m ≡ true → n < m
lt_of n m h = grind (arith, nat_tests)

pub ascii_from : (xs : List ℕ) → list_all (λ b. ltb b 128) xs ≡ true → IsAscii xs
ascii_from xs h i = elim (cases_lt i (length xs)) [
  | inl l ↦ elim (cases_Bool (ltb (get_or xs i 0) 128)) [
    | inl holds ↦ lt_of _ _ holds
    | inr fails ↦ let bad : list_all (λ b. ltb b 128) xs ≡ false = list_all_at (λ b. ltb b 128) xs i 0 l fails in absurd cc
  ]
  | inr g ↦ rw (get_or_past xs i 0 g) (omega arith)
]

-- they have at least two bytes, and three for a negated word with its sign
abbrev pub is_long_word : Keyword → Bool
is_long_word k = leb 2 (length (keyword_text k))

pub joined_long : list_all is_long_word joined_words ≡ true
unfolding keyword_text
joined_long = refl

pub side_long : list_all is_long_word side_words ≡ true
unfolding keyword_text
side_long = refl

pub negated_long : list_all is_long_word negated_words ≡ true
unfolding keyword_text
negated_long = refl

pub long_word : (k : Keyword) → is_long_word k ≡ true → 2 ≤ length (keyword_text k)
long_word k h = le_of _ _ h

-- no negated word begins with a sign
pub negated_sign : (bs : List ℕ) → (word_in negated_words (61 ∷ bs) ≡ None) × (word_in negated_words (126 ∷ bs) ≡ None)
unfolding word_in keyword_text
negated_sign bs = (refl, refl)

-- in a joined word a dash or a tilde follows the first word characters
abbrev pub is_joined : Keyword → Bool
is_joined k =
    let b = get_or (keyword_text k) (prefix_len is_word_char (keyword_text k)) 0 in
    (eqb b 45 || eqb b 126) && ltb (prefix_len is_word_char (keyword_text k)) (length (keyword_text k))

pub joined_joined : list_all is_joined joined_words ≡ true
unfolding keyword_text is_word_char is_word_start is_digit
joined_joined = refl

pub joined_parts : (k : Keyword) → is_joined k ≡ true
    → ((b : ℕ) × (b ≡ get_or (keyword_text k) (prefix_len is_word_char (keyword_text k)) 0) × ((eqb b 45 || eqb b 126) ≡ true))
    × (prefix_len is_word_char (keyword_text k) < length (keyword_text k))
joined_parts k h =
    let both = and_both _ _ h in
    ((get_or (keyword_text k) (prefix_len is_word_char (keyword_text k)) 0, refl, both.0), lt_of _ _ both.1)
