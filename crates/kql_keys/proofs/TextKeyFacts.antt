-- The keys of one column of short texts are these texts, each as three numbers and as a value in a list of one.
use Rattle.std.proofs.Common.{◌≡◌, ◌<◌, ◌≤◌, ◌+◌, ◌-◌, ◌*◌, ◌/◌, ◌%◌, ◌^◌, ◌∷◌, ◌++◌, ◌∙◌, ℕ, zero, suc, true, false, nat_eq, List, [], length, map, take, drop, get_or, min, refl, sym, ap, ap₂, arith, inl, inr, subst, Bor}
use Rattle.std.specs.Prelude.{All, bytes_eq}
use Rattle.std.specs.Bool.{one_answer}
use Rattle.std.specs.Hash as fed
use Rattle.std.specs.List.{AllByRecursion}
use Rattle.std.proofs.Math.Nat.{eq-or-lt_of_le, pow-succ'}
use Rattle.std.proofs.Math.Seq.{drop-length}
use Rattle.std.proofs.lemmas.Bool.{cases_lt}
use Rattle.std.proofs.lemmas.Bool.Decides.{Decides-eqb}
use Rattle.std.proofs.lemmas.List.{drop_all, drop_more, get_or-map, get_or-take, length-drop, length-map, length-take, length-take-le, take-append-drop, take_all, take_min}
use Rattle.std.proofs.lemmas.List.Elements.{All-head}
use Rattle.std.proofs.lemmas.Slice.Eq.{bytes_eq-Decides}
use Rattle.kql_cells.specs.Keys.{same_keys, same_keys-decides}
use Rattle.kql_cells.specs.declared.value.Value.{Value}
use Rattle.kql_cells.specs.declared.value.Value.TheVariants as val
use Rattle.kql_values.specs.Grids.{row_of, rows_of}
use Rattle.kql_values.specs.Stores.{text_value}
use Rattle.kql_values.proofs.GridLaws.{rows_of-are}
use Rattle.kql_keys.specs.Numbers.{first_places, numbers_of}
use Rattle.kql_keys.specs.TextKeys.{AreNumbersOf, AreShort, bytes_of, number_from, number_of, text_of, text_writes}
use Rattle.kql_keys.proofs.MapLaws.{firsts-map, map-agrees, numbers-map}

-- The bytes of a text.
abbrev pub Bytes : List ℕ → Type 0
Bytes bs = AllByRecursion (λ b. b < 256) bs

-- All is index by index.
pub bytes-from : (bs : List ℕ) → ((i : ℕ) → get_or bs i 0 < 256) → Bytes bs
bytes-from [] h = tt
bytes-from (b ∷ bs) h = (h 0, bytes-from bs (λ i. h (suc i)))

pub bytes-each : (bs : List ℕ) → All (λ b. b < 256) bs → Bytes bs
bytes-each [] h = tt
bytes-each (b ∷ bs) h = (h 0 0 (omega arith), bytes-each bs (λ k d lt. h (suc k) d (omega (arith, lt))))

bytes-drop : (n : ℕ) (bs : List ℕ) → Bytes bs → Bytes (drop n bs)
bytes-drop zero bs h = h
bytes-drop (suc n) [] h = tt
bytes-drop (suc n) (b ∷ bs) h = bytes-drop n bs h.1

bytes-take : (n : ℕ) (bs : List ℕ) → Bytes bs → Bytes (take n bs)
bytes-take zero bs h = tt
bytes-take (suc n) [] h = tt
bytes-take (suc n) (b ∷ bs) h = (h.0, bytes-take n bs h.1)

-- A number gives its bytes back.
kept : (k : ℕ) (bs : List ℕ) → Bytes bs → length bs ≤ k → bytes_of k (number_of bs) ≡ bs
unfolding bytes_of number_of
kept zero [] h le = refl
kept zero (b ∷ bs) h le = absurd (omega (arith, le))
kept (suc k) [] h le = refl
kept (suc k) (b ∷ bs) h le =
    let r = number_of bs in
    let low : (b + 256 * r) % 256 ≡ b = omega (arith, h.0) in
    let high : (b + 256 * r) / 256 ≡ r = omega (arith, h.0) in
    ap₂ (λ x xs. x ∷ xs) low (ap (bytes_of k) high ∙ kept k bs h.1 (omega (arith, le)))

drop-twice : (m n : ℕ) (bs : List ℕ) → drop m (drop n bs) ≡ drop (n + m) bs
drop-twice m zero bs = let same : m ≡ 0 + m = omega arith in ap (λ k. drop k bs) same
drop-twice m (suc n) [] = drop_all m [] (omega arith) ∙ sym (drop_all (suc n + m) [] (omega arith))
drop-twice m (suc n) (b ∷ bs) =
    let one : suc (n + m) ≡ suc n + m = omega arith in
    drop-twice m n bs ∙ ap (λ k. drop k (b ∷ bs)) one

-- Three parts are the whole.
whole : (bs : List ℕ) → length bs ≤ 21 → take 7 (drop 0 bs) ++ (take 7 (drop 7 bs) ++ take 7 (drop 14 bs)) ≡ bs
whole bs le =
    let short : length (drop 14 bs) ≤ 7 = omega (arith, le, length-drop 14 bs) in
    let last : take 7 (drop 14 bs) ≡ drop 7 (drop 7 bs) = take_all 7 (drop 14 bs) short ∙ sym (drop-twice 7 7 bs) in
    let middle : take 7 (drop 7 bs) ++ take 7 (drop 14 bs) ≡ drop 7 bs = ap (λ l. take 7 (drop 7 bs) ++ l) last ∙ take-append-drop 7 (drop 7 bs) in
    ap (λ l. take 7 bs ++ l) middle ∙ take-append-drop 7 bs

part-kept : (i : ℕ) (bs : List ℕ) → Bytes bs → bytes_of 7 (number_from i bs) ≡ take 7 (drop i bs)
unfolding number_from
part-kept i bs h =
    kept 7 (take 7 (drop i bs)) (bytes-take 7 (drop i bs) (bytes-drop i bs h)) (omega (arith, length-take 7 (drop i bs)))

-- A short text is what its numbers hold.
pub text-kept : (bs : List ℕ) → Bytes bs → length bs ≤ 21 → text_of (number_from 0 bs) (number_from 7 bs) (number_from 14 bs) ≡ bs
unfolding text_of
text-kept bs h le =
    ap₂ ◌++◌ (part-kept 0 bs h) (ap₂ ◌++◌ (part-kept 7 bs h) (part-kept 14 bs h)) ∙ whole bs le

-- What three numbers hold, where they are those of a short text.
pub key-is : (bs : List ℕ) (a b c : ℕ) → Bytes bs → length bs ≤ 21 → a ≡ number_from 0 bs → b ≡ number_from 7 bs → c ≡ number_from 14 bs → text_of a b c ≡ bs
key-is bs a b c h le e f g = rw (e, f, g) (text-kept bs h le)

pub key-stands : (bs : List ℕ) (a b c : ℕ) → Bytes bs → length bs ≤ 21 → a ≡ number_from 0 bs → b ≡ number_from 7 bs → c ≡ number_from 14 bs → AreNumbersOf (text_of a b c) a b c
unfolding AreNumbersOf
key-stands bs a b c h le e f g =
    let is = key-is bs a b c h le e f g in
    (e ∙ ap (number_from 0) (sym is), f ∙ ap (number_from 7) (sym is), g ∙ ap (number_from 14) (sym is))

-- Two texts that three numbers hold are the same where the numbers are.
module _ (s t : List ℕ) (a b c d e f : ℕ) (is : text_of a b c ≡ s) (that : text_of d e f ≡ t) (own : AreNumbersOf (text_of a b c) a b c) (its : AreNumbersOf (text_of d e f) d e f) where
  numbers-same : s ≡ t → (a ≡ d) × (b ≡ e) × (c ≡ f)
  unfolding AreNumbersOf
  numbers-same p =
      let q : text_of a b c ≡ text_of d e f = is ∙ (p ∙ sym that) in
      (own.0 ∙ (ap (number_from 0) q ∙ sym its.0), own.1 ∙ (ap (number_from 7) q ∙ sym its.1), own.2 ∙ (ap (number_from 14) q ∙ sym its.2))

  texts-same : a ≡ d → b ≡ e → c ≡ f → s ≡ t
  texts-same p q r = let one : text_of a b c ≡ text_of d e f = rw (p, q, r) refl in sym is ∙ (one ∙ that)

  pub third-decides : a ≡ d → nat_eq b e ≡ true → nat_eq c f ≡ bytes_eq s t
  third-decides p q =
      one_answer (nat_eq c f) (bytes_eq s t) (λ y. texts-same p ((Decides-eqb b e).0 q) ((Decides-eqb c f).0 y), λ same. (Decides-eqb c f).1 (numbers-same same).2) (bytes_eq-Decides s t)

  pub second-decides : nat_eq b e ≡ false → false ≡ bytes_eq s t
  second-decides n =
      one_answer false (bytes_eq s t) (λ y. absurd (cc y), λ same. sym n ∙ (Decides-eqb b e).1 (numbers-same same).1) (bytes_eq-Decides s t)

  pub first-decides : (a ≡ d → ⊥) → false ≡ bytes_eq s t
  first-decides n =
      one_answer false (bytes_eq s t) (λ y. absurd (cc y), λ same. absurd (n (numbers-same same).0)) (bytes_eq-Decides s t)

-- What a text feeds to a hasher, by its numbers.
pub writes-are : (s : List ℕ) (a b c : ℕ) → text_of a b c ≡ s → AreNumbersOf (text_of a b c) a b c → text_writes s ≡ fed.u64 a ++ (fed.u64 b ++ fed.u64 c)
unfolding text_writes AreNumbersOf
writes-are s a b c is own =
    let first : number_from 0 s ≡ a = sym (own.0 ∙ ap (number_from 0) is) in
    let second : number_from 7 s ≡ b = sym (own.1 ∙ ap (number_from 7) is) in
    let third : number_from 14 s ≡ c = sym (own.2 ∙ ap (number_from 14) is) in
    rw (first, second, third) refl

-- The number of few bytes is small.
some : (k : ℕ) → 0 < 256 ^ k
some zero = omega arith
some (suc k) = let more = some k in rw (pow-succ' 256 k) (omega (arith, more))

small : (k : ℕ) (bs : List ℕ) → Bytes bs → length bs ≤ k → number_of bs + 2 ≤ 2 * 256 ^ k
unfolding number_of
small zero [] h le = omega arith
small zero (b ∷ bs) h le = absurd (omega (arith, le))
small (suc k) [] h le = let one = some (suc k) in omega (arith, one)
small (suc k) (b ∷ bs) h le =
    let rest = small k bs h.1 (omega (arith, le)) in
    rw (pow-succ' 256 k) (omega (arith, rest, h.0))

-- One byte more at the front.
pub number-none : (bs : List ℕ) → 0 ≡ number_of (drop (length bs) bs)
unfolding number_of
number-none bs = rw (drop-length bs) refl

pub number-more : (bs : List ℕ) (i : ℕ) → i < length bs → number_of (drop i bs) ≡ number_of (drop (i + 1) bs) * 256 + (get_or bs i 0 + 1)
unfolding number_of
number-more bs i lt = rw (drop_more bs i 0 lt) (omega arith)

pub number-small : (bs : List ℕ) (i : ℕ) → Bytes bs → length bs ≤ 7 → 0 < i → number_of (drop i bs) + 2 ≤ 2 * 256 ^ 6
number-small bs i h le lt = small 6 (drop i bs) (bytes-drop i bs h) (omega (arith, le, lt, length-drop i bs))

pub ruleset digit_steps = (number-none, number-more)

-- The part from a place on.
pub part-is : (bs : List ℕ) (s : ℕ) → take (min (length bs) (s + 7) - min s (min (length bs) (s + 7))) (drop (min s (min (length bs) (s + 7))) bs) ≡ take 7 (drop s bs)
part-is bs s = elim (cases_lt (length bs) s) [
  | inr le ↦
      let from : min s (min (length bs) (s + 7)) ≡ s = omega (arith, le) in
      let size : min (length bs) (s + 7) - s ≡ min 7 (length (drop s bs)) = omega (arith, le, length-drop s bs) in
      rw (from, size) (take_min 7 (drop s bs))
  | inl gt ↦
      let none : min (length bs) (s + 7) - min s (min (length bs) (s + 7)) ≡ 0 = omega (arith, gt) in
      rw (none, drop_all s bs (omega (arith, gt))) refl
]

pub ruleset part_facts = (part-is)

-- Texts that are short.
pub none-long : (texts : List (List ℕ)) → AreShort 0 texts
unfolding AreShort
none-long texts i lt = absurd (omega (arith, lt))

pub short-more : (texts : List (List ℕ)) (n : ℕ) → AreShort n texts → length (get_or texts n []) ≤ 21 → AreShort (n + 1) texts
unfolding AreShort
short-more texts n h short i lt = elim (eq-or-lt_of_le {n = i} {m = n} (omega (arith, lt))) [
  | inl e ↦ subst (λ k. length (get_or texts k []) ≤ 21) (sym e) short
  | inr less ↦ h i less
]

pub ruleset short_steps = (none-long, short-more)

pub short-at : (texts : List (List ℕ)) (n i : ℕ) → AreShort n texts → i < n → length (get_or texts i []) ≤ 21
unfolding AreShort
short-at texts n i h lt = h i lt

-- A text as the key of a row.
abbrev key_of : List ℕ → List Value
key_of t = val.Text t ∷ []

key-apart : (a b : List ℕ) → key_of a ≡ key_of b → a ≡ b
key-apart a b e = cc

key-agrees : (a b : List ℕ) → same_keys (key_of a) (key_of b) ≡ bytes_eq a b
key-agrees = map-agrees key_of bytes_eq same_keys bytes_eq-Decides same_keys-decides key-apart

row-at : (texts : List (List ℕ)) (count i : ℕ) → i < count → count ≤ length texts → get_or (map key_of (take count texts)) i [] ≡ row_of (map text_value texts ∷ []) i
unfolding row_of
row-at texts count i lt le =
    let there : i < length (take count texts) = rw (length-take-le count texts le) lt in
    let far : i < length texts = omega (arith, lt, le) in
    get_or-map key_of (take count texts) i [] [] there
    ∙ (ap key_of (get_or-take count texts i [] lt) ∙ ap (λ (v : Value). v ∷ []) (sym (get_or-map text_value texts i [] val.Null far)))

rows-are : (texts : List (List ℕ)) (count : ℕ) → count ≤ length texts → rows_of count (map text_value texts ∷ []) ≡ map key_of (take count texts)
rows-are texts count le =
    rows_of-are count (map text_value texts ∷ []) (map key_of (take count texts)) (length-map (take count texts) key_of ∙ length-take-le count texts le) (λ i lt. row-at texts count i lt le)

-- the keys of the column have the numbers that the texts have
pub texts-numbers : (texts : List (List ℕ)) (columns : List (List Value)) (count : ℕ) → columns ≡ map text_value texts ∷ [] → count ≤ length texts
    → numbers_of same_keys (rows_of count columns) ≡ numbers_of bytes_eq (take count texts)
texts-numbers texts columns count e le = rw (e, rows-are texts count le) (numbers-map key_of bytes_eq same_keys key-agrees (take count texts))

pub texts-firsts : (texts : List (List ℕ)) (columns : List (List Value)) (count : ℕ) → columns ≡ map text_value texts ∷ [] → count ≤ length texts
    → first_places same_keys (rows_of count columns) ≡ first_places bytes_eq (take count texts)
texts-firsts texts columns count e le = rw (e, rows-are texts count le) (firsts-map key_of bytes_eq same_keys key-agrees (take count texts))

-- and they are as many
pub texts-within : (texts : List (List ℕ)) (columns : List (Bor (List Value))) (count : ℕ) → All (λ c. count ≤ length c.now) columns → map (λ c. c.now) columns ≡ map text_value texts ∷ []
    → count ≤ length texts
texts-within texts [] count h e = absurd cc
texts-within texts (c ∷ columns) count h e =
    let first : c.now ≡ map text_value texts = ap (λ l. get_or l 0 []) e in
    let here = All-head (λ (c : Bor (List Value)). count ≤ length c.now) c columns h in
    omega (arith, here, ap length first, length-map texts text_value)
