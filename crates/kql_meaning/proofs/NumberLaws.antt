-- Numbers at equal distances, and bins.
use Rattle.std.proofs.Common.{◌≡◌, ◌<◌, ◌≤◌, ◌+◌, ◌-◌, ◌*◌, ◌^◌, ◌↔◌, ◌/◌, ◌%◌, ℕ, zero, suc, Bool, true, false, [], map, refl, sym, subst, ap, ◌∙◌, arith, inl, inr, ℤ, pos, negsuc, ◌+ℤ◌, ◌-ℤ◌, ◌*ℤ◌, ◌≤ℤ◌, ◌<ℤ◌, FitsSigned, w64}
use Rattle.std.specs.Prelude.{Bool, Contains, IsTrue, Option, Some, int_le, int_lt}
use Rattle.std.specs.Option.{option_eq}
use Rattle.std.specs.Ordering.{int_eq}
use Rattle.std.specs.Int.{int_rem_euclid}
use Rattle.std.specs.Int.Signed.{le_z}
use Rattle.std.specs.List.{range_with_len}
use Rattle.std.proofs.Math.Nat.{div-lt_iff_lt-mul, div-mul-le_self, le-div_iff_mul-le, mul-lt-mul_of_pos_right}
use Rattle.std.proofs.lemmas.Bool.{and_parts, cases_Bool, lt-ltb}
use Rattle.std.proofs.lemmas.Nat.{div-add-mod'}
use Rattle.std.proofs.lemmas.Bool.Decides.{Decides-int_eq}
use Rattle.std.proofs.lemmas.Int.{ints}
use Rattle.kql_ticks.specs.Bins.{bin_at}
use Rattle.kql_ticks.specs.Ranges.{fit, is_span}
use Rattle.kql_ticks.proofs.BinLaws.{bin_at-positive, bin_is}
use Rattle.kql_meaning.specs.LawsOfNumbers.{FallsBetween, InsideInOneBin, TermsAreThose, TermsRise}
use Rattle.kql_meaning.specs.MakeSeries.{bins, falls_in, is_inside}
use Rattle.kql_meaning.specs.Numbers.{count_of_terms, terms}
use Rattle.kql_meaning.specs.Sources.{number_in}
use Rattle.kql_meaning.specs.Tables.{places_below}
use Rattle.kql_meaning.proofs.MemberLaws.{Member, contains-member, member-contains, member-map, member-of-map, member-of-range, member-range, pairs-of, pairwise-map, pairwise-range}

-- Distances.

abbrev Distance : ℤ → ℤ → Type 0
Distance a b = (n : ℕ) × (b ≡ a +ℤ pos n)

distance : (a b : ℤ) → a ≤ℤ b → Distance a b
distance (pos a) (pos b) le = (b - a, omega (arith, ints))
distance (pos a) (negsuc b) le = absurd (omega (arith, ints))
distance (negsuc a) (pos b) le = (suc a + b, omega (arith, ints))
distance (negsuc a) (negsuc b) le = (a - b, omega (arith, ints))

far : (a : ℤ) (n : ℕ) → (a +ℤ pos n) -ℤ a ≡ pos n
far a n = omega (arith, ints)

further : (a : ℤ) (m n : ℕ) → m < n → (a +ℤ pos m) <ℤ (a +ℤ pos n)
further a m n lt = omega (arith, ints)

not-before : (a : ℤ) (n : ℕ) → a ≤ℤ (a +ℤ pos n)
not-before a n = omega (arith, ints)

up-to : (a : ℤ) (m n : ℕ) → m ≤ n → (a +ℤ pos m) ≤ℤ (a +ℤ pos n)
up-to a m n le = omega (arith, ints)

of-up-to : (a : ℤ) (m n : ℕ) → (a +ℤ pos m) ≤ℤ (a +ℤ pos n) → m ≤ n
of-up-to a m n le = omega (arith, ints)

le-int : (a b : ℤ) → int_le a b ≡ true → a ≤ℤ b
le-int a b e = omega (arith, ints)

int-le : (a b : ℤ) → a ≤ℤ b → int_le a b ≡ true
int-le a b le = grind (arith, ints)

-- Terms, by the number of steps.

count-of : (a : ℤ) (n m : ℕ) → count_of_terms a (a +ℤ pos n) (pos (suc m)) ≡ n / suc m + 1
unfolding count_of_terms
count-of a n m = rw (int-le a (a +ℤ pos n) (not-before a n), far a n) refl

count-none : (a b s : ℤ) → int_le a b ≡ false → count_of_terms a b s ≡ 0
unfolding count_of_terms
count-none a b s no_term = rw no_term refl

abbrev term : ℤ → ℤ → ℕ → ℤ
term a s k = a +ℤ pos k *ℤ s

-- The terms up to a number that is n above the first.
term-of : (a : ℤ) (n m : ℕ) (x : ℤ) → Member x (map (term a (pos (suc m))) (range_with_len 0 (n / suc m + 1))) → (x ≤ℤ (a +ℤ pos n)) × ((k : ℕ) × (x ≡ a +ℤ pos k *ℤ pos (suc m)))
term-of a n m x c =
    let q = member-of-map (term a (pos (suc m))) (range_with_len 0 (n / suc m + 1)) x c in
    let r = member-of-range 0 (n / suc m + 1) q.0 q.1 in
    let few : q.0 ≤ n / suc m = omega (arith, r.1) in
    let within : q.0 * suc m ≤ n = (le-div_iff_mul-le (omega arith)).0 few in
    (subst (λ y. y ≤ℤ (a +ℤ pos n)) q.2 (up-to a (q.0 * suc m) n within), (q.0, sym q.2))

of-term : (a : ℤ) (n m k : ℕ) → (a +ℤ pos k *ℤ pos (suc m)) ≤ℤ (a +ℤ pos n) → Member (term a (pos (suc m)) k) (map (term a (pos (suc m))) (range_with_len 0 (n / suc m + 1)))
of-term a n m k le =
    let within : k * suc m ≤ n = of-up-to a (k * suc m) n le in
    let few : k ≤ n / suc m = (le-div_iff_mul-le (omega arith)).1 within in
    member-map (term a (pos (suc m))) (range_with_len 0 (n / suc m + 1)) k (member-range 0 (n / suc m + 1) k (omega arith) (omega (arith, few)))

some-terms : (a : ℤ) (n m : ℕ) → terms a (a +ℤ pos n) (pos (suc m)) ≡ map (term a (pos (suc m))) (range_with_len 0 (n / suc m + 1))
unfolding terms places_below
some-terms a n m = ap (λ k. map (term a (pos (suc m))) (range_with_len 0 k)) (count-of a n m)

no-terms : (a b s : ℤ) → int_le a b ≡ false → terms a b s ≡ []
unfolding terms places_below
no-terms a b s none = ap (λ k. map (term a s) (range_with_len 0 k)) (count-none a b s none)

before-all : (a b x : ℤ) (k : ℕ) → int_le a b ≡ false → x ≤ℤ b → x ≡ a +ℤ pos k → ⊥
before-all a b x k none le e = omega (arith, ints)

pub terms_are_those : TermsAreThose
terms_are_those a b (pos zero) x more = absurd (omega (arith, ints))
terms_are_those a b (negsuc s) x more = absurd (omega (arith, ints))
terms_are_those a b (pos (suc m)) x more = elim (cases_Bool (int_le a b)) [
  | inl t ↦
      let d = distance a b (le-int a b t) in
      rw (d.1, some-terms a d.0 m) (
        λ c. term-of a d.0 m x (member-contains (map (term a (pos (suc m))) (range_with_len 0 (d.0 / suc m + 1))) x c),
        λ h. contains-member (map (term a (pos (suc m))) (range_with_len 0 (d.0 / suc m + 1))) x
            (subst (λ y. Member y (map (term a (pos (suc m))) (range_with_len 0 (d.0 / suc m + 1)))) (sym h.1.1) (of-term a d.0 m h.1.0 (subst (λ y. y ≤ℤ (a +ℤ pos d.0)) h.1.1 h.0))),
      )
  | inr n ↦ rw (no-terms a b (pos (suc m)) n) (
    λ c. absurd (omega (arith, c.1)),
    λ h. absurd (before-all a b x (h.1.0 * suc m) n h.0 h.1.1),
  )
]

pub terms_rise : TermsRise
unfolding terms places_below
terms_rise a b (pos zero) more = absurd (omega (arith, ints))
terms_rise a b (negsuc s) more = absurd (omega (arith, ints))
terms_rise a b (pos (suc m)) more =
    let n = count_of_terms a b (pos (suc m)) in
    pairs-of (λ x y. x <ℤ y) (map (term a (pos (suc m))) (range_with_len 0 n))
    (pairwise-map (λ i j. i < j) (λ x y. x <ℤ y) (term a (pos (suc m))) (range_with_len 0 n)
    (λ i j lt. further a (i * suc m) (j * suc m) (mul-lt-mul_of_pos_right lt (omega arith)))
    (pairwise-range 0 n))

-- Bins.

span-of : (z : ℤ) → FitsSigned w64 z → is_span z ≡ true
span-of (pos n) fits = lt-ltb n (2 ^ 63) (omega (arith, ints))
span-of (negsuc n) fits = lt-ltb n (2 ^ 63) (omega (arith, ints))

fit-is : (z : ℤ) → FitsSigned w64 z → fit z ≡ Some z
unfolding fit
fit-is z fits = rw (span-of z fits) refl

fits-between : (f : ℤ) (j n : ℕ) → j ≤ n → FitsSigned w64 f → FitsSigned w64 (f +ℤ pos n) → FitsSigned w64 (f +ℤ pos j)
fits-between f j n le first last = omega (arith, ints)

less-rest : (f : ℤ) (n q r : ℕ) → q + r ≡ n → (f +ℤ pos n) -ℤ pos r ≡ f +ℤ pos q
less-rest f n q r e = omega (arith, ints)

is-more : (m : ℕ) → le_z (pos (suc m)) (pos 0) ≡ false
is-more m = elim (cases_Bool (le_z (pos (suc m)) (pos 0))) [
  | inl t ↦ absurd (omega (arith, ints))
  | inr n ↦ n
]

abbrev bin_start : ℤ → ℤ → ℕ → ℤ
bin_start x f m = x -ℤ int_rem_euclid (x -ℤ f) (pos (suc m))

bin-start : (x f : ℤ) (m : ℕ) → bin_at x (pos (suc m)) f ≡ fit (bin_start x f m)
bin-start x f m = bin_at-positive x (pos (suc m)) f (is-more m)

start-of : (f : ℤ) (n m : ℕ) → bin_start (f +ℤ pos n) f m ≡ term f (pos (suc m)) (n / suc m)
start-of f n m = rw (far f n) (less-rest f n (n / suc m * suc m) (n % suc m) (div-add-mod' n (suc m)))

-- The bin of a number that is n above the first bin.
bin-of : (f : ℤ) (n m : ℕ) → FitsSigned w64 f → FitsSigned w64 (f +ℤ pos n) → bin_at (f +ℤ pos n) (pos (suc m)) f ≡ Some (term f (pos (suc m)) (n / suc m))
bin-of f n m first last =
    let start = n / suc m * suc m in
    bin-start (f +ℤ pos n) f m ∙ (ap fit (start-of f n m) ∙ fit-is (f +ℤ pos start) (fits-between f start n (div-mul-le_self n (suc m)) first last))

-- What a number falls in is the bin of the number.
abbrev is_bin : ℤ → Option ℤ → Bool
is_bin b o = option_eq int_eq o (Some b)

is-this-bin : (b c : ℤ) → is_bin b (Some c) ≡ true → c ≡ b
is-this-bin b c e = (Decides-int_eq c b).0 e

this-is-bin : (b c : ℤ) → c ≡ b → is_bin b (Some c) ≡ true
this-is-bin b c e = (Decides-int_eq c b).1 e

fitted-bin : (b r : ℤ) → is_bin b (fit r) ≡ true → r ≡ b
unfolding fit
fitted-bin b r e = elim (cases_Bool (is_span r)) [
  | inl t ↦ let f : is_bin b (Some r) ≡ true = rw t at e in is-this-bin b r f
  | inr n ↦ let f : false ≡ true = rw n at e in cc
]

within-bin : (b x f : ℤ) (m : ℕ) → is_bin b (bin_at x (pos (suc m)) f) ≡ true → (b ≤ℤ x) × (x <ℤ (b +ℤ pos (suc m)))
within-bin b x f m e =
    let same = fitted-bin b (bin_start x f m) (ap (is_bin b) (sym (bin-start x f m)) ∙ e) in
    let bin = bin_is x (pos (suc m)) f (is-more m) in
    (subst (λ y. y ≤ℤ x) same bin.below, subst (λ y. x <ℤ (y +ℤ pos (suc m))) same bin.next)

below-next : (f : ℤ) (n j m : ℕ) → (f +ℤ pos n) <ℤ ((f +ℤ pos j) +ℤ pos (suc m)) → n < j + suc m
below-next f n j m lt = omega (arith, ints)

-- The number of a bin from the numbers between which it lies.
number-of-bin : (n k m : ℕ) → k * suc m ≤ n → n < k * suc m + suc m → n / suc m ≡ k
number-of-bin n k m low high =
    let least : k ≤ n / suc m = (le-div_iff_mul-le (omega arith)).1 low in
    let most : n / suc m < k + 1 = (div-lt_iff_lt-mul (omega arith)).1 (omega (arith, high)) in
    omega (arith, least, most)

far-bin : (f x : ℤ) (k m : ℕ) → FitsSigned w64 f → FitsSigned w64 x → term f (pos (suc m)) k ≤ℤ x → x <ℤ (term f (pos (suc m)) k +ℤ pos (suc m)) → bin_at x (pos (suc m)) f ≡ Some (term f (pos (suc m)) k)
far-bin f x k m first last low high =
    let d = distance f x (first-below f x (k * suc m) low) in
    let here = bin-of f d.0 m first (subst (FitsSigned w64) d.1 last) in
    let number = number-of-bin d.0 k m (of-up-to f (k * suc m) d.0 (subst (λ y. (f +ℤ pos (k * suc m)) ≤ℤ y) d.1 low)) (below-next f d.0 (k * suc m) m (subst (λ y. y <ℤ ((f +ℤ pos (k * suc m)) +ℤ pos (suc m))) d.1 high)) in
    ap (λ y. bin_at y (pos (suc m)) f) d.1 ∙ (here ∙ ap (λ q. Some (term f (pos (suc m)) q)) number)
  where
    first-below : (f x : ℤ) (j : ℕ) → (f +ℤ pos j) ≤ℤ x → f ≤ℤ x
    first-below f x j le = omega (arith, ints)

-- The same with the parts of the plan as numbers.
abbrev in_bin : ℤ → ℤ → ℤ → ℤ → Bool
in_bin f s b x = is_bin b (bin_at x s f)

falls-between : (f l s b x : ℤ) → pos 0 <ℤ s → FitsSigned w64 f → FitsSigned w64 x → Contains (terms f l s) b → IsTrue (in_bin f s b x) ↔ ((b ≤ℤ x) × (x <ℤ (b +ℤ s)))
falls-between f l (pos zero) b x more first last c = absurd (omega (arith, ints))
falls-between f l (negsuc s) b x more first last c = absurd (omega (arith, ints))
falls-between f l (pos (suc m)) b x more first last c =
    let q = (terms_are_those f l (pos (suc m)) b more).0 c in (
      λ e. within-bin b x f m e,
      λ h.
          let found = far-bin f x q.1.0 m first last (subst (λ y. y ≤ℤ x) q.1.1 h.0) (subst (λ y. x <ℤ (y +ℤ pos (suc m))) q.1.1 h.1) in
          ap (is_bin b) found ∙ this-is-bin b (term f (pos (suc m)) q.1.0) (sym q.1.1),
    )

pub falls_between : FallsBetween
unfolding falls_in bins
falls_between p b x more first last c = falls-between (number_in p.from) (number_in p.to -ℤ pos 1) (number_in p.step) b x more first last c

OneBin : ℤ → ℤ → ℤ → ℤ → Type 0
OneBin f l s x = (b : ℤ) × Contains (terms f l s) b × IsTrue (in_bin f s b x) × ((c : ℤ) → IsTrue (in_bin f s c x) → c ≡ b)

last-below : (a x l : ℤ) → a ≤ℤ x → int_lt x l ≡ true → a ≤ℤ (l -ℤ pos 1)
last-below a x l le lt = omega (arith, ints)

one-bin : (f l s x : ℤ) → pos 0 <ℤ s → FitsSigned w64 f → FitsSigned w64 x → int_le f x ≡ true → int_lt x l ≡ true → OneBin f (l -ℤ pos 1) s x
unfolding OneBin
one-bin f l (pos zero) x more first last low high = absurd (omega (arith, ints))
one-bin f l (negsuc s) x more first last low high = absurd (omega (arith, ints))
one-bin f l (pos (suc m)) x more first last low high =
    let d = distance f x (le-int f x low) in
    let b = term f (pos (suc m)) (d.0 / suc m) in
    let here = ap (λ y. bin_at y (pos (suc m)) f) d.1 ∙ bin-of f d.0 m first (subst (FitsSigned w64) d.1 last) in
    let there : b ≤ℤ x = subst (λ y. b ≤ℤ y) (sym d.1) (up-to f (d.0 / suc m * suc m) d.0 (div-mul-le_self d.0 (suc m))) in (
      b,
      (terms_are_those f (l -ℤ pos 1) (pos (suc m)) b more).1 (last-below b x l there high, (d.0 / suc m, refl)),
      ap (is_bin b) here ∙ this-is-bin b b refl,
      λ c e. sym (is-this-bin c b (ap (is_bin c) (sym here) ∙ e)),
    )

pub inside_in_one_bin : InsideInOneBin
unfolding falls_in bins is_inside OneBin
inside_in_one_bin p x more first last inside =
    let parts = and_parts (int_le (number_in p.from) x) (int_lt x (number_in p.to)) inside in
    one-bin (number_in p.from) (number_in p.to) (number_in p.step) x more first last parts.0 parts.1

pub ruleset number_laws = (terms_are_those, terms_rise, falls_between, inside_in_one_bin)
