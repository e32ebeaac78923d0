-- The bins by number.
use Rattle.std.proofs.Common.{◌≡◌, ◌<◌, ◌≤◌, ◌≢◌, ◌+◌, ◌-◌, ◌*◌, ◌/◌, ◌%◌, inl, inr, true, false, List, [], ◌∷◌, ◌++◌, ℕ, zero, suc, ℤ, pos, negsuc, length, get_or, map, refl, ap, ap₂, sym, ◌∙◌, subst, arith, of_z, to_z, ◌^◌, FitsSigned, w64}
use Rattle.std.specs.Prelude.{◌+ℤ◌, ◌-ℤ◌, ◌*ℤ◌, ◌≤ℤ◌, ◌<ℤ◌, ◌&&◌, None, Option, Some, int_le, is_some, nat_le, unsigned_abs}
use Rattle.std.specs.Int.{is_positive, w128}
use Rattle.std.specs.Int.Signed.{lt_z}
use Rattle.std.specs.List.{range_with_len}
use Rattle.std.proofs.Math.IntN.{pos-*ℤ-pos}
use Rattle.std.proofs.Math.Nat.{div-lt_iff_lt-mul, le-div_iff_mul-le}
use Rattle.std.proofs.lemmas.Bool.{and_parts, cases_lt, leb-true}
use Rattle.std.proofs.lemmas.Int.{ints, to_z-of_z}
use Rattle.std.proofs.lemmas.Nat.{div-add-mod'}
use Rattle.std.proofs.lemmas.List.{get_or_push, get_or_append_left}
use Rattle.std.proofs.lemmas.List.FromFn.{map-range_with_len_more}
use Rattle.kql_cells.specs.Seen.{value_at}
use Rattle.kql_cells.specs.Values.{IsMoment, IsWellFormed}
use Rattle.kql_cells.specs.declared.dynamic.Dyn.{Dyn}
use Rattle.kql_cells.specs.declared.dynamic.Dyn.TheVariants as dyn
use Rattle.kql_cells.specs.declared.schema.Column.{Column}
use Rattle.kql_cells.specs.declared.value.Kind.{Kind}
use Rattle.kql_cells.specs.declared.value.Kind.TheVariants as kind
use Rattle.kql_cells.specs.declared.value.Value.{Value}
use Rattle.kql_cells.specs.declared.value.Value.TheVariants as value
use Rattle.kql_dynamic.specs.Arrays.{array}
use Rattle.kql_scalar_fns.specs.Dynamic.{element}
use Rattle.kql_bound.specs.declared.literal.Lit.{Lit}
use Rattle.kql_bound.specs.declared.parts.SeriesPlan.{SeriesPlan}
use Rattle.kql_meaning.specs.FittingOperators.{bins_fit, has_at_most, is_given, is_step_of}
use Rattle.kql_meaning.specs.Literals.{is_of_kind, is_well_formed, literal_fits}
use Rattle.kql_meaning.specs.MakeSeries.{axis_of, bins}
use Rattle.kql_meaning.specs.Numbers.{added, count_of_terms, terms}
use Rattle.kql_meaning.specs.Sources.{number_in}
use Rattle.kql_meaning.specs.Tables.{places_below}
use Rattle.kql_meaning.specs.Values.{number_as, number_of}
use Rattle.kql_meaning.proofs.JoinLaws.{map-map}
use Rattle.kql_meaning.proofs.LiteralLaws.{is_well_formed-decides}
use Rattle.kql_meaning.proofs.MemberLaws.{contains-member, member-map, member-range}
use Rattle.kql_meaning.proofs.NumberLaws.{terms_are_those}
use Rattle.series_op.specs.Bins.{AreBins, ArePlaces, IsPlace, start_of}
use Rattle.series_op.proofs.BinKeys.{IsNumber, bins-parts, number-given}

-- A positive step is as large as it is without its sign.

positive : (s : ℤ) → is_positive s ≡ true → (m : ℕ) × (s ≡ pos (suc m))
positive (pos zero) e = cc
positive (pos (suc m)) e = (m, refl)
positive (negsuc n) e = cc

above-zero : (m : ℕ) → pos 0 <ℤ pos (suc m)
above-zero m = omega (arith, ints)

pub size-of : (s : ℤ) (m : ℕ) → is_positive s ≡ true → m ≡ unsigned_abs s → 0 < m
size-of s m e is = let q = positive s e in omega (arith, is ∙ ap unsigned_abs q.1)

scaled : (s : ℤ) (k m : ℕ) → is_positive s ≡ true → m ≡ unsigned_abs s → pos k *ℤ s ≡ pos (k * m)
scaled s k m e is =
    let q = positive s e in
    let size : m ≡ suc q.0 = is ∙ ap unsigned_abs q.1 in
    ap (λ x. pos k *ℤ x) q.1 ∙ (pos-*ℤ-pos k (suc q.0) ∙ ap (λ n. pos (k * n)) (sym size))

-- How far a number lies above another.
abbrev Above : ℤ → ℤ → Type 0
Above a b = (n : ℕ) × (b ≡ a +ℤ pos n)

above : (a b : ℤ) → a ≤ℤ b → Above a b
above (pos a) (pos b) le = (b - a, omega (arith, ints))
above (pos a) (negsuc b) le = absurd (omega (arith, ints))
above (negsuc a) (pos b) le = (suc a + b, omega (arith, ints))
above (negsuc a) (negsuc b) le = (a - b, omega (arith, ints))

far : (a : ℤ) (n : ℕ) → (a +ℤ pos n) -ℤ a ≡ pos n
far a n = omega (arith, ints)

pub distance-of : (a x s : ℤ) (k d m : ℕ) → is_positive s ≡ true → m ≡ unsigned_abs s → d ≡ unsigned_abs (x -ℤ a) → x ≡ a +ℤ pos k *ℤ s → d ≡ k * m
distance-of a x s k d m e size far_away is =
    far_away ∙ ap unsigned_abs (ap (λ y. y -ℤ a) (is ∙ ap (λ y. a +ℤ y) (scaled s k m e size)) ∙ far a (k * m))

pub of-distance : (a x s : ℤ) (k d m : ℕ) → is_positive s ≡ true → m ≡ unsigned_abs s → a ≤ℤ x → d ≡ unsigned_abs (x -ℤ a) → d ≡ k * m → x ≡ a +ℤ pos k *ℤ s
of-distance a x s k d m e size le far_away is =
    let q = above a x le in
    let n : d ≡ q.0 = far_away ∙ ap unsigned_abs (ap (λ y. y -ℤ a) q.1 ∙ far a q.0) in
    q.1 ∙ (ap (λ j. a +ℤ pos j) (sym n ∙ is) ∙ ap (λ y. a +ℤ y) (sym (scaled s k m e size)))

-- Multiples.

quotient-is : (d k m : ℕ) → 0 < m → d ≡ k * m → d / m ≡ k
quotient-is d k zero some is = absurd (omega (arith, some))
quotient-is d k (suc m) some is =
    let least : k ≤ d / suc m = (le-div_iff_mul-le (omega arith)).1 (omega (arith, is)) in
    let next : (k + 1) * suc m ≡ k * suc m + suc m = omega arith in
    let most : d / suc m < k + 1 = (div-lt_iff_lt-mul (omega arith)).1 (omega (arith, is, next)) in
    omega (arith, least, most)

remainder-is : (d k m : ℕ) → 0 < m → d ≡ k * m → d % m ≡ 0
remainder-is d k m some is =
    let q = quotient-is d k m some is in
    let all = div-add-mod' d m in
    let product : d / m * m ≡ k * m = ap (λ n. n * m) q in
    omega (arith, all, product, is)

whole : (d m : ℕ) → d % m ≡ 0 → d ≡ d / m * m
whole d m none = let all = div-add-mod' d m in omega (arith, all, none)

-- The place of the bin that a number starts.

pub place-no-number : (p : SeriesPlan) (n : ℕ) (x : Option ℤ) → x ≡ None → IsPlace p n x None
place-no-number p n x none = record {
  there = λ k e. cc;
  starts = λ k e. cc;
  all = λ k lt e. let f : None ≡ Some (start_of p k) = sym none ∙ e in cc;
}

some-same : (x y : ℤ) → Some x ≡ Some y → x ≡ y
some-same x y e = cc

not-before : (a : ℤ) (n : ℕ) → (a +ℤ pos n) <ℤ a → ⊥
not-before a n lt = omega (arith, ints)

pub place-before : (p : SeriesPlan) (n : ℕ) (o : Option ℤ) (a x : ℤ) → is_positive (number_in p.step) ≡ true → o ≡ Some x → a ≡ number_in p.from → x <ℤ a → IsPlace p n o None
place-before p n o a x e is from lt = record {
  there = λ k f. cc;
  starts = λ k f. cc;
  all = λ k inside f.
      let at : x ≡ start_of p k = some-same x (start_of p k) (sym is ∙ f) in
      let here : x ≡ number_in p.from +ℤ pos (k * unsigned_abs (number_in p.step)) = at ∙ ap (λ y. number_in p.from +ℤ y) (scaled (number_in p.step) k (unsigned_abs (number_in p.step)) e refl) in
      absurd (not-before (number_in p.from) (k * unsigned_abs (number_in p.step)) (subst (λ y. y <ℤ number_in p.from) here (subst (λ y. x <ℤ y) from lt)));
}

-- A number that is not below another.
pub not-below : (x a : ℤ) → lt_z x a ≡ false → a ≤ℤ x
not-below x a e = omega (arith, ints, e)

pub place-found : (p : SeriesPlan) (n : ℕ) (o : Option ℤ) (a x : ℤ) (d m q : ℕ) → is_positive (number_in p.step) ≡ true → o ≡ Some x → a ≡ number_in p.from → a ≤ℤ x → d ≡ unsigned_abs (x -ℤ a) → m ≡ unsigned_abs (number_in p.step) → q ≡ d / m → d % m ≡ 0 → q < n → IsPlace p n o (Some q)
place-found p n o a x d m q e is from le far_away size quotient none few =
    let s = number_in p.step in
    let away : d ≡ unsigned_abs (x -ℤ number_in p.from) = subst (λ y. d ≡ unsigned_abs (x -ℤ y)) from far_away in
    let at : x ≡ start_of p q = of-distance (number_in p.from) x s q d m e size (subst (λ y. y ≤ℤ x) from le) away (whole d m none ∙ ap (λ k. k * m) (sym quotient)) in
    record {
      there = λ k f. let same : q ≡ k = cc in subst (λ j. j < n) same few;
      starts = λ k f. let same : q ≡ k = cc in is ∙ ap Some (at ∙ ap (start_of p) same);
      all = λ k inside f.
          let here : d ≡ k * m = distance-of (number_in p.from) x s k d m e size away (some-same x (start_of p k) (sym is ∙ f)) in
          ap Some (quotient ∙ quotient-is d k m (size-of s m e size) here);
    }

pub place-between : (p : SeriesPlan) (n : ℕ) (o : Option ℤ) (a x : ℤ) (d m : ℕ) → is_positive (number_in p.step) ≡ true → o ≡ Some x → a ≡ number_in p.from → d ≡ unsigned_abs (x -ℤ a) → m ≡ unsigned_abs (number_in p.step) → d % m ≢ 0 → IsPlace p n o None
place-between p n o a x d m e is from far_away size some =
    let s = number_in p.step in
    let away : d ≡ unsigned_abs (x -ℤ number_in p.from) = subst (λ y. d ≡ unsigned_abs (x -ℤ y)) from far_away in
    record {
      there = λ k f. cc;
      starts = λ k f. cc;
      all = λ k inside f.
          let here : d ≡ k * m = distance-of (number_in p.from) x s k d m e size away (some-same x (start_of p k) (sym is ∙ f)) in
          absurd (some (remainder-is d k m (size-of s m e size) here));
    }

pub place-beyond : (p : SeriesPlan) (n : ℕ) (o : Option ℤ) (a x : ℤ) (d m q : ℕ) → is_positive (number_in p.step) ≡ true → o ≡ Some x → a ≡ number_in p.from → d ≡ unsigned_abs (x -ℤ a) → m ≡ unsigned_abs (number_in p.step) → q ≡ d / m → n ≤ q → IsPlace p n o None
place-beyond p n o a x d m q e is from far_away size quotient many =
    let s = number_in p.step in
    let away : d ≡ unsigned_abs (x -ℤ number_in p.from) = subst (λ y. d ≡ unsigned_abs (x -ℤ y)) from far_away in
    record {
      there = λ k f. cc;
      starts = λ k f. cc;
      all = λ k inside f.
          let here : d ≡ k * m = distance-of (number_in p.from) x s k d m e size away (some-same x (start_of p k) (sym is ∙ f)) in
          let same : q ≡ k = quotient ∙ quotient-is d k m (size-of s m e size) here in
          absurd (omega (arith, same, inside, many));
    }

pub ruleset place_steps = (size-of, place-no-number, place-before, place-found, place-between, place-beyond)

-- The places of all.

pub places-more : (p : SeriesPlan) (n i : ℕ) (vs : List Value) (v : Value) (x : Option ℤ) (place : Option ℕ) (old new : List (Option ℕ)) → v ≡ value_at vs i → x ≡ number_of v → IsPlace p n x place → length old ≡ i → ((r : ℕ) → r < i → IsPlace p n (number_of (value_at vs r)) (get_or old r None)) → new ≡ old ++ place ∷ [] → (r : ℕ) → r < i + 1 → IsPlace p n (number_of (value_at vs r)) (get_or new r None)
places-more p n i vs v x place old new value number here long before after r lt =
    let seen : IsPlace p n (number_of (value_at vs i)) place = subst (λ o. IsPlace p n o place) (number ∙ ap number_of value) here in
    subst (λ (ps : List (Option ℕ)). IsPlace p n (number_of (value_at vs r)) (get_or ps r None)) (sym after)
    (elim (cases_lt r i) [
      | inl below ↦ subst (λ o. IsPlace p n (number_of (value_at vs r)) o) (sym (get_or_append_left old (place ∷ []) None r (omega (arith, below, long)))) (before r below)
      | inr up ↦
          let same : i ≡ r = omega (arith, up, lt) in
          subst (λ k. IsPlace p n (number_of (value_at vs k)) (get_or (old ++ place ∷ []) k None)) same
          (subst (λ o. IsPlace p n (number_of (value_at vs i)) o) (sym (get_or_push old place None i long)) seen)
    ])

pub places-all : (p : SeriesPlan) (n i : ℕ) (vs : List Value) (ps : List (Option ℕ)) → i ≡ length vs → length ps ≡ i → ((r : ℕ) → r < i → IsPlace p n (number_of (value_at vs r)) (get_or ps r None)) → ArePlaces p n vs ps
places-all p n i vs ps all long each = record { long = long ∙ all; each = λ r lt. each r (omega (arith, lt, all)) }

pub no-places : (p : SeriesPlan) (n : ℕ) (vs : List Value) (ps : List (Option ℕ)) → (r : ℕ) → r < 0 → IsPlace p n (number_of (value_at vs r)) (get_or ps r None)
no-places p n vs ps r lt = absurd (omega (arith, lt))

pub ruleset places_steps = (places-more, places-all, no-places)

-- How many there are.

less : (a : ℤ) (n : ℕ) → 0 < n → ((a +ℤ pos n) -ℤ pos 1) -ℤ a ≡ pos (n - 1)
less a n some = omega (arith, ints, some)

pub count-some : (a b s : ℤ) (d e m q n : ℕ) → a <ℤ b → d ≡ unsigned_abs (b -ℤ a) → e ≡ d - 1 → m ≡ unsigned_abs s → q ≡ e / m → n ≡ q + 1 → n ≡ count_of_terms a (b -ℤ pos 1) s
unfolding count_of_terms
count-some a b s d e m q n lt far_away less_one size is more =
    let up = above a b (omega (arith, ints, lt)) in
    let test : int_le a (b -ℤ pos 1) ≡ true = grind (arith, ints, lt) in
    let here : d ≡ up.0 = far_away ∙ ap unsigned_abs (ap (λ y. y -ℤ a) up.1 ∙ far a up.0) in
    let some : 0 < up.0 = omega (arith, ints, lt, up.1) in
    let rest : unsigned_abs ((b -ℤ pos 1) -ℤ a) ≡ up.0 - 1 = ap unsigned_abs (ap (λ y. (y -ℤ pos 1) -ℤ a) up.1 ∙ less a up.0 some) in
    more ∙ (ap (λ k. k + 1) (is ∙ ap₂ (λ x y. x / y) (less_one ∙ (ap (λ k. k - 1) here ∙ sym rest)) size) ∙ rw test refl)

pub count-few : (a b s : ℤ) (d e m q : ℕ) → a <ℤ b → d ≡ unsigned_abs (b -ℤ a) → e ≡ d - 1 → m ≡ unsigned_abs s → q ≡ e / m → count_of_terms a (b -ℤ pos 1) s ≤ 100000 → q < 100000
count-few a b s d e m q lt far_away less_one size is few =
    let many = count-some a b s d e m q (q + 1) lt far_away less_one size is refl in
    omega (arith, many, few)

pub some-distance : (a b : ℤ) (d : ℕ) → a <ℤ b → d ≡ unsigned_abs (b -ℤ a) → 1 ≤ d
some-distance a b d lt far_away =
    let up = above a b (omega (arith, ints, lt)) in
    let here : d ≡ up.0 = far_away ∙ ap unsigned_abs (ap (λ y. y -ℤ a) up.1 ∙ far a up.0) in
    let some : 0 < up.0 = omega (arith, ints, lt, up.1) in
    omega (arith, here, some)

pub count-none : (a b s : ℤ) → b ≤ℤ a → 0 ≡ count_of_terms a (b -ℤ pos 1) s
unfolding count_of_terms
count-none a b s le = let test : int_le a (b -ℤ pos 1) ≡ false = grind (arith, ints, le) in rw test refl

-- Each bin starts between the ends.

not-less : (a : ℤ) (n : ℕ) → a ≤ℤ (a +ℤ pos n)
not-less a n = omega (arith, ints)

start-inside : (a b s : ℤ) (k : ℕ) → is_positive s ≡ true → k < count_of_terms a b s → (a ≤ℤ (a +ℤ pos k *ℤ s)) × ((a +ℤ pos k *ℤ s) ≤ℤ b)
unfolding terms places_below
start-inside a b s k e lt =
    let q = positive s e in
    let more : pos 0 <ℤ s = subst (λ x. pos 0 <ℤ x) (sym q.1) (above-zero q.0) in
    let n = count_of_terms a b s in
    let there = member-map (λ i. a +ℤ pos i *ℤ s) (range_with_len 0 n) k (member-range 0 n k (omega arith) (omega (arith, lt))) in
    let inside = ((terms_are_those a b s (a +ℤ pos k *ℤ s) more).0 (contains-member (terms a b s) (a +ℤ pos k *ℤ s) there)).0 in
    (subst (λ x. a ≤ℤ (a +ℤ x)) (sym (scaled s k (unsigned_abs s) e refl)) (not-less a (k * unsigned_abs s)), inside)

between-fits : (a b x : ℤ) → FitsSigned w64 a → FitsSigned w64 b → a ≤ℤ x → x ≤ℤ (b -ℤ pos 1) → FitsSigned w64 x
between-fits a b x ha hb low high = omega (arith, ints, ha, hb, low, high)

between-moment : (a b x : ℤ) → IsMoment a → IsMoment b → a ≤ℤ x → x ≤ℤ (b -ℤ pos 1) → IsMoment x
between-moment a b x ha hb low high = (omega (arith, ints, ha.0, low), omega (arith, ints, hb.1, high))

no-truth : false ≡ true → ⊥
no-truth e = cc

moment-value : (v : Value) → is_of_kind kind.Moment v ≡ true → is_well_formed v ≡ true → IsNumber kind.Moment v → IsMoment (added (number_of v))
unfolding is_of_kind number_of added
moment-value (value.Moment x) e f g = (is_well_formed-decides (value.Moment x)).0 f
moment-value value.Null e f g = absurd (no-truth g.given)
moment-value (value.Bool b) e f g = cc
moment-value (value.Long n) e f g = cc
moment-value (value.Text t) e f g = cc
moment-value (value.Span n) e f g = cc
moment-value (value.Dynamic d) e f g = cc

moment-in : (l : Lit) → is_given l ≡ true → kind.Moment ≡ l.kind → IsMoment (number_in l)
unfolding is_given literal_fits number_in
moment-in l e same =
    let number = number-given l e in
    let parts = and_parts (is_of_kind l.kind l.value && is_well_formed l.value) (is_some (number_of l.value)) e in
    let tests = and_parts (is_of_kind l.kind l.value) (is_well_formed l.value) parts.0 in
    moment-value l.value (subst (λ (k : Kind). is_of_kind k l.value ≡ true) (sym same) tests.0) tests.1 (subst (λ (k : Kind). IsNumber k l.value) (sym same) number)

number-form : (k step : Kind) (n : ℤ) → is_step_of k step ≡ true → (kind.Moment ≡ k → IsMoment n) → IsWellFormed (number_as k n)
unfolding is_step_of number_as
number-form kind.Long step n e h = tt
number-form kind.Moment step n e h = h refl
number-form kind.Span step n e h = tt
number-form kind.Bool step n e h = cc
number-form kind.Text step n e h = cc
number-form kind.Dynamic step n e h = cc

pub bins-are : (p : SeriesPlan) (columns : List Column) (n : ℕ) → bins_fit p columns ≡ true → FitsSigned w64 (number_in p.from) → FitsSigned w64 (number_in p.to) → n ≡ count_of_terms (number_in p.from) (number_in p.to -ℤ pos 1) (number_in p.step) → AreBins p n
unfolding has_at_most
bins-are p columns n e from to is =
    let f = bins-parts p columns e in
    let more = (and_parts (is_positive (number_in p.step)) (nat_le (count_of_terms (number_in p.from) (number_in p.to -ℤ pos 1) (number_in p.step)) 100000) f.few).0 in
    let inside : (k : ℕ) → k < n → (number_in p.from ≤ℤ start_of p k) × (start_of p k ≤ℤ (number_in p.to -ℤ pos 1)) = λ k lt. start-inside (number_in p.from) (number_in p.to -ℤ pos 1) (number_in p.step) k more (subst (λ c. k < c) is lt) in
    record {
      counted = is;
      positive = more;
      fits = λ k lt. between-fits (number_in p.from) (number_in p.to) (start_of p k) from to (inside k lt).0 (inside k lt).1;
      form = λ k lt. number-form p.from.kind p.step.kind (start_of p k) f.stepped (λ same. between-moment (number_in p.from) (number_in p.to) (start_of p k) (moment-in p.from f.from same) (moment-in p.to f.to (same ∙ f.ends)) (inside k lt).0 (inside k lt).1);
    }

terms-few : (p : SeriesPlan) (columns : List Column) → bins_fit p columns ≡ true → count_of_terms (number_in p.from) (number_in p.to -ℤ pos 1) (number_in p.step) ≤ 100000
unfolding has_at_most
terms-few p columns e =
    let f = bins-parts p columns e in
    let few = (and_parts (is_positive (number_in p.step)) (nat_le (count_of_terms (number_in p.from) (number_in p.to -ℤ pos 1) (number_in p.step)) 100000) f.few).1 in
    leb-true (count_of_terms (number_in p.from) (number_in p.to -ℤ pos 1) (number_in p.step)) 100000 few

pub step-positive : (p : SeriesPlan) (columns : List Column) → bins_fit p columns ≡ true → is_positive (number_in p.step) ≡ true
unfolding has_at_most
step-positive p columns e = (and_parts (is_positive (number_in p.step)) (nat_le (count_of_terms (number_in p.from) (number_in p.to -ℤ pos 1) (number_in p.step)) 100000) (bins-parts p columns e).few).0

pub asked-positive : (p : SeriesPlan) (columns : List Column) (s : ℤ) → bins_fit p columns ≡ true → s ≡ number_in p.step → is_positive s ≡ true
asked-positive p columns s e is = ap is_positive is ∙ step-positive p columns e

pub asked-few : (p : SeriesPlan) (columns : List Column) (a b s : ℤ) → bins_fit p columns ≡ true → a ≡ number_in p.from → b ≡ number_in p.to → s ≡ number_in p.step → count_of_terms a (b -ℤ pos 1) s ≤ 100000
asked-few p columns a b s e first last each =
    subst (λ x. count_of_terms x (b -ℤ pos 1) s ≤ 100000) (sym first)
    (subst (λ y. count_of_terms (number_in p.from) (y -ℤ pos 1) s ≤ 100000) (sym last)
    (subst (λ z. count_of_terms (number_in p.from) (number_in p.to -ℤ pos 1) z ≤ 100000) (sym each) (terms-few p columns e)))

pub asked-bins : (p : SeriesPlan) (columns : List Column) (a b s : ℤ) (n : ℕ) → bins_fit p columns ≡ true → FitsSigned w64 a → FitsSigned w64 b → a ≡ number_in p.from → b ≡ number_in p.to → s ≡ number_in p.step → n ≡ count_of_terms a (b -ℤ pos 1) s → AreBins p n
asked-bins p columns a b s n e fa fb first last each is =
    bins-are p columns n e (subst (FitsSigned w64) first fa) (subst (FitsSigned w64) last fb)
    (is ∙ (ap (λ x. count_of_terms x (b -ℤ pos 1) s) first ∙ ap₂ (λ y z. count_of_terms (number_in p.from) (y -ℤ pos 1) z) last each))

pub ruleset asked_steps = (asked-positive, asked-few)

pub ruleset count_steps = (size-of, count-some, count-few, count-none, some-distance)

-- The bins as elements.

abbrev pub parts_below : SeriesPlan → ℕ → List Dyn
parts_below p n = map (λ k. element (number_as p.from.kind (start_of p k))) (range_with_len 0 n)

pub part-more : (p : SeriesPlan) (k : ℕ) (x : ℤ) (v : Value) (d : Dyn) (old new : List Dyn) → x ≡ start_of p k → v ≡ number_as p.from.kind x → d ≡ element v → old ≡ parts_below p k → new ≡ old ++ d ∷ [] → new ≡ parts_below p (k + 1)
part-more p k x v d old new at value part before after =
    let same : d ≡ element (number_as p.from.kind (start_of p k)) = part ∙ ap element (value ∙ ap (number_as p.from.kind) at) in
    after ∙ (ap₂ (λ (ds : List Dyn) (e : Dyn). ds ++ e ∷ []) before same ∙ sym (map-range_with_len_more (λ k. element (number_as p.from.kind (start_of p k))) 0 k k (omega arith)))

pub parts-all : (p : SeriesPlan) (n : ℕ) (ds : List Dyn) → AreBins p n → ds ≡ parts_below p n → ds ≡ map (λ b. element (number_as p.from.kind b)) (bins p)
unfolding bins terms places_below
parts-all p n ds b is =
    is ∙ (ap (parts_below p) b.counted ∙ sym (map-map (λ x. element (number_as p.from.kind x)) (start_of p) (range_with_len 0 (count_of_terms (number_in p.from) (number_in p.to -ℤ pos 1) (number_in p.step)))))

pub ruleset parts_steps = (part-more, parts-all)

pub axis-one : (p : SeriesPlan) (ds : List Dyn) (v : Value) → ds ≡ map (λ b. element (number_as p.from.kind b)) (bins p) → v ≡ value.Dynamic (dyn.Array ds) → v ≡ axis_of p
unfolding axis_of
axis-one p ds v e is = is ∙ ap array e

pub ruleset axis_steps = (axis-one)

-- The start of a bin, as it is worked out in 128 bits.

product-fits : (a y : ℤ) → FitsSigned w64 a → FitsSigned w64 (a +ℤ y) → FitsSigned w128 y
product-fits a y fa fb = omega (arith, ints, fa, fb)

wider : (a : ℤ) → FitsSigned w64 a → FitsSigned w128 a
wider a f = omega (arith, ints, f)

natural-fits : (k : ℕ) → k < 2 ^ 64 → FitsSigned w128 (pos k)
natural-fits k h = omega (arith, ints, h)

pub start-cast : (a s : ℤ) (k : ℕ) → FitsSigned w64 a → FitsSigned w64 s → k < 2 ^ 64 → FitsSigned w64 (a +ℤ pos k *ℤ s) → to_z w128 (of_z w128 (to_z w128 (of_z w128 (to_z w64 (of_z w64 a))) +ℤ to_z w128 (of_z w128 (to_z w128 k *ℤ to_z w128 (of_z w128 (to_z w64 (of_z w64 s))))))) ≡ a +ℤ pos k *ℤ s
start-cast a s k fa fs h f =
    let first : to_z w128 (of_z w128 (to_z w64 (of_z w64 a))) ≡ a = ap (λ z. to_z w128 (of_z w128 z)) (to_z-of_z w64 a fa) ∙ to_z-of_z w128 a (wider a fa) in
    let each : to_z w128 (of_z w128 (to_z w64 (of_z w64 s))) ≡ s = ap (λ z. to_z w128 (of_z w128 z)) (to_z-of_z w64 s fs) ∙ to_z-of_z w128 s (wider s fs) in
    let times : to_z w128 k ≡ pos k = to_z-of_z w128 (pos k) (natural-fits k h) in
    let product : to_z w128 (of_z w128 (to_z w128 k *ℤ to_z w128 (of_z w128 (to_z w64 (of_z w64 s))))) ≡ pos k *ℤ s = ap₂ (λ x y. to_z w128 (of_z w128 (x *ℤ y))) times each ∙ to_z-of_z w128 (pos k *ℤ s) (product-fits a (pos k *ℤ s) fa f) in
    ap₂ (λ x y. to_z w128 (of_z w128 (x +ℤ y))) first product ∙ to_z-of_z w128 (a +ℤ pos k *ℤ s) (wider (a +ℤ pos k *ℤ s) f)
