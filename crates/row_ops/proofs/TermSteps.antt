-- Numbers at equal distances, one after another.
use Rattle.std.proofs.Common.{◌≡◌, ◌<◌, ◌≤◌, ◌+◌, ◌*◌, ◌/◌, ℕ, zero, suc, true, false, List, [], ◌∷◌, ◌++◌, map, refl, sym, ap, ap₂, ◌∙◌, subst, arith, ℤ, pos, negsuc, ◌+ℤ◌, ◌-ℤ◌}
use Rattle.std.specs.Prelude.{◌*ℤ◌, ◌≤ℤ◌, ◌<ℤ◌, int_le, unsigned_abs}
use Rattle.std.specs.Int.{is_positive}
use Rattle.std.specs.List.{range_with_len}
use Rattle.std.proofs.Math.IntN.{pos-*ℤ-pos}
use Rattle.std.proofs.lemmas.Int.{ints}
use Rattle.std.proofs.lemmas.List.FromFn.{map-range_with_len_more}
use Rattle.kql_cells.specs.declared.value.Kind.{Kind}
use Rattle.kql_cells.specs.declared.value.Value.{Value}
use Rattle.kql_meaning.specs.Numbers.{count_of_terms, terms}
use Rattle.kql_meaning.specs.Tables.{places_below}
use Rattle.kql_meaning.specs.Values.{number_as}
use Rattle.kql_meaning.proofs.JoinLaws.{map-map}
use Rattle.kql_meaning.proofs.MemberLaws.{contains-member, member-map, member-range}
use Rattle.kql_meaning.proofs.NumberLaws.{terms_are_those}

-- A positive step is as large as it is without its sign.

positive : (s : ℤ) → is_positive s ≡ true → (m : ℕ) × (s ≡ pos (suc m))
positive (pos zero) e = cc
positive (pos (suc m)) e = (m, refl)
positive (negsuc n) e = cc

above-zero : (m : ℕ) → pos 0 <ℤ pos (suc m)
above-zero m = omega (arith, ints)

pub step-there : (s : ℤ) (m : ℕ) → is_positive s ≡ true → m ≡ unsigned_abs s → 0 < m
step-there s m e is = let q = positive s e in omega (arith, is ∙ ap unsigned_abs q.1)

scaled : (s : ℤ) (k m : ℕ) → is_positive s ≡ true → m ≡ unsigned_abs s → pos (k * m) ≡ pos k *ℤ s
scaled s k m e is =
    let q = positive s e in
    let size : m ≡ suc q.0 = is ∙ ap unsigned_abs q.1 in
    ap (λ n. pos (k * n)) size ∙ (sym (pos-*ℤ-pos k (suc q.0)) ∙ ap (λ x. pos k *ℤ x) (sym q.1))

-- Each term is at most the end.
pub term-inside : (a b s : ℤ) (k m : ℕ) → is_positive s ≡ true → m ≡ unsigned_abs s → k < count_of_terms a b s → (a +ℤ pos (k * m)) ≤ℤ b
unfolding terms places_below
term-inside a b s k m e is lt =
    let q = positive s e in
    let more : pos 0 <ℤ s = subst (λ x. pos 0 <ℤ x) (sym q.1) (above-zero q.0) in
    let n = count_of_terms a b s in
    let there = member-map (λ i. a +ℤ pos i *ℤ s) (range_with_len 0 n) k (member-range 0 n k (omega arith) (omega (arith, lt))) in
    let inside = ((terms_are_those a b s (a +ℤ pos k *ℤ s) more).0 (contains-member (terms a b s) (a +ℤ pos k *ℤ s) there)).0 in
    subst (λ x. (a +ℤ x) ≤ℤ b) (sym (scaled s k m e is)) inside

-- The terms so far.

abbrev pub terms_below : Kind → ℤ → ℤ → ℕ → List Value
terms_below kind a s n = map (λ k. number_as kind (a +ℤ pos k *ℤ s)) (range_with_len 0 n)

pub term-more : (kind : Kind) (a s x : ℤ) (k m : ℕ) (old new : List Value) (v : Value) → is_positive s ≡ true → m ≡ unsigned_abs s → x ≡ a +ℤ pos (k * m) → v ≡ number_as kind x → old ≡ terms_below kind a s k → new ≡ old ++ v ∷ [] → new ≡ terms_below kind a s (k + 1)
term-more kind a s x k m old new v e is at value before after =
    let same : v ≡ number_as kind (a +ℤ pos k *ℤ s) = value ∙ ap (number_as kind) (at ∙ ap (λ y. a +ℤ y) (scaled s k m e is)) in
    after ∙ (ap₂ (λ (vs : List Value) (w : Value). vs ++ w ∷ []) before same ∙ sym (map-range_with_len_more (λ k. number_as kind (a +ℤ pos k *ℤ s)) 0 k k (omega arith)))

pub terms-all : (kind : Kind) (a b s : ℤ) (n : ℕ) (vs : List Value) → n ≡ count_of_terms a b s → vs ≡ terms_below kind a s n → vs ≡ map (number_as kind) (terms a b s)
unfolding terms places_below
terms-all kind a b s n vs many is =
    is ∙ (ap (terms_below kind a s) many ∙ sym (map-map (number_as kind) (λ k. a +ℤ pos k *ℤ s) (range_with_len 0 (count_of_terms a b s))))

pub ruleset term_steps = (step-there, term-inside, term-more, terms-all)

-- How many there are.

pub count-some : (a b s : ℤ) (d m q n : ℕ) → a ≤ℤ b → d ≡ unsigned_abs (b -ℤ a) → m ≡ unsigned_abs s → q ≡ d / m → n ≡ q + 1 → n ≡ count_of_terms a b s
unfolding count_of_terms
count-some a b s d m q n le far size is more =
    let test : int_le a b ≡ true = grind (arith, ints, le) in
    more ∙ (ap (λ x. x + 1) (is ∙ ap₂ (λ x y. x / y) far size) ∙ rw test refl)

pub count-few : (a b s : ℤ) (d m q : ℕ) → a ≤ℤ b → d ≡ unsigned_abs (b -ℤ a) → m ≡ unsigned_abs s → q ≡ d / m → count_of_terms a b s ≤ 1000000 → q < 1000000
count-few a b s d m q le far size is few =
    let many = count-some a b s d m q (q + 1) le far size is refl in
    omega (arith, many, few)

pub count-none : (a b s : ℤ) → b <ℤ a → 0 ≡ count_of_terms a b s
unfolding count_of_terms
count-none a b s lt = let test : int_le a b ≡ false = grind (arith, ints, lt) in rw test refl

pub ruleset count_steps = (step-there, count-some, count-few, count-none)
