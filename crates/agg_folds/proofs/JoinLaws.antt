-- What is kept of values is joined with what is kept of values behind them.
use Rattle.std.proofs.Common.{◌≡◌, ◌⊎◌, ◌<◌, ◌≤◌, ◌^◌, ◌||◌, ◌++◌, ◌∷◌, ◌∙◌, ℕ, zero, suc, ℤ, Bool, true, false, not, List, [], fold, filter, length, take, drop, refl, sym, ap, inl, inr, arith}
use Rattle.std.specs.Prelude.{FitsSigned, Option, None, Some, pos, ◌+ℤ◌, filter_map}
use Rattle.std.specs.Int.{cast_signed, cast_unsigned, w64}
use Rattle.std.specs.Int.Bits.{and_lt, bit_and, bit_or, bit_xor, xor_assoc}
use Rattle.std.specs.List.{AllByRecursion, IsDistinct, list_any, reduce}
use Rattle.std.proofs.lemmas.Bool.{cases_Bool}
use Rattle.std.proofs.lemmas.Int.{ints, of_z-to_z}
use Rattle.std.proofs.lemmas.Nat.{and_assoc, or_lt, xor_lt}
use Rattle.std.proofs.lemmas.Nat.Bits.{bit_at_or, same_from_bits}
use Rattle.std.proofs.lemmas.List.{append-nil, append_assoc, length-append, length-take-le, take-append-drop, take-append-le, take_all}
use Rattle.std.proofs.lemmas.List.Elements.{filter-append, filter_map-append}
use Rattle.std.proofs.lemmas.List.Sums.{fold-append}
use Rattle.std.proofs.lemmas.Map.Made.{length-le_from_is_member}
use Rattle.indexmap.specs.IndexSet.{insert_key}
use Rattle.kql_cells.specs.Keys.{is_null, same_key, same_key-decides}
use Rattle.kql_cells.specs.declared.value.Value.{Value}
use Rattle.kql_meaning.specs.Aggregates.{distinct_given, given}
use Rattle.kql_meaning.specs.Numbers.{added, sum_of}
use Rattle.kql_meaning.specs.Tables.{distinct_by}
use Rattle.kql_meaning.specs.Values.{number_of}
use Rattle.agg_folds.specs.declared.bits.BitOp.{BitOp}
use Rattle.agg_folds.specs.declared.bits.BitOp.TheVariants as op
use Rattle.agg_folds.specs.Folds.{up_to}
use Rattle.agg_folds.specs.Keys.{same_key-equiv}
use Rattle.agg_folds.specs.Kept.{bits_of, both_of, has_room, joined_list, joined_set, with_listed, with_member}
use Rattle.agg_folds.proofs.ListLaws.{cases-lt, distinct-push, inserted-beyond, inserted-within, lt-false, lt-true, or-right}

-- Sums.

sum-shift : (s : ℤ) (vs : List Value) → fold (λ n w. n +ℤ added (number_of w)) s vs ≡ s +ℤ fold (λ n w. n +ℤ added (number_of w)) (pos 0) vs
sum-shift s [] = omega (arith, ints)
sum-shift s (v ∷ vs) =
    let x = added (number_of v) in
    let here = sum-shift (s +ℤ x) vs in
    let there = sum-shift (pos 0 +ℤ x) vs in
    omega (arith, ints, here, there)

pub sum-join : (vs ws : List Value) → sum_of (vs ++ ws) ≡ sum_of vs +ℤ sum_of ws
unfolding sum_of
sum-join vs ws = fold-append (λ n w. n +ℤ added (number_of w)) (pos 0) vs ws ∙ sum-shift (fold (λ n w. n +ℤ added (number_of w)) (pos 0) vs) ws

-- Bits.

or-assoc : (a b c : ℕ) → bit_or (bit_or a b) c ≡ bit_or a (bit_or b c)
or-assoc a b c = same_from_bits (bit_or (bit_or a b) c) (bit_or a (bit_or b c)) (λ i.
    let left = bit_at_or (bit_or a b) c i in
    let first = bit_at_or a b i in
    let right = bit_at_or a (bit_or b c) i in
    let second = bit_at_or b c i in
    omega (arith, left, first, right, second))

-- A number of 64 bits, in the bits that it is stored as.
abbrev pub Fits : ℤ → Type 0
Fits x = cast_unsigned w64 x < 2 ^ 64

pub fits-stored : (x : ℤ) → FitsSigned w64 x → Fits x
fits-stored x h = grind (arith, ints, h)

fits-both : (o : BitOp) (a b : ℤ) → Fits a → Fits b → Fits (bits_of o a b)
unfolding bits_of
fits-both op.And a b p q = let r = and_lt 64 (cast_unsigned w64 a) (cast_unsigned w64 b) p q in rw (of_z-to_z w64 (bit_and (cast_unsigned w64 a) (cast_unsigned w64 b)) r) r
fits-both op.Or a b p q = let r = or_lt 64 (cast_unsigned w64 a) (cast_unsigned w64 b) p q in rw (of_z-to_z w64 (bit_or (cast_unsigned w64 a) (cast_unsigned w64 b)) r) r
fits-both op.Xor a b p q = let r = xor_lt 64 (cast_unsigned w64 a) (cast_unsigned w64 b) p q in rw (of_z-to_z w64 (bit_xor (cast_unsigned w64 a) (cast_unsigned w64 b)) r) r

bits-assoc : (o : BitOp) (a b c : ℤ) → Fits a → Fits b → Fits c → bits_of o (bits_of o a b) c ≡ bits_of o a (bits_of o b c)
unfolding bits_of
bits-assoc op.And a b c p q r =
    let x = cast_unsigned w64 a in
    let y = cast_unsigned w64 b in
    let z = cast_unsigned w64 c in
    rw (of_z-to_z w64 (bit_and x y) (and_lt 64 x y p q), of_z-to_z w64 (bit_and y z) (and_lt 64 y z q r)) (ap (cast_signed w64) (and_assoc z x y))
bits-assoc op.Or a b c p q r =
    let x = cast_unsigned w64 a in
    let y = cast_unsigned w64 b in
    let z = cast_unsigned w64 c in
    rw (of_z-to_z w64 (bit_or x y) (or_lt 64 x y p q), of_z-to_z w64 (bit_or y z) (or_lt 64 y z q r)) (ap (cast_signed w64) (or-assoc x y z))
bits-assoc op.Xor a b c p q r =
    let x = cast_unsigned w64 a in
    let y = cast_unsigned w64 b in
    let z = cast_unsigned w64 c in
    rw (of_z-to_z w64 (bit_xor x y) (xor_lt 64 x y p q), of_z-to_z w64 (bit_xor y z) (xor_lt 64 y z q r)) (ap (cast_signed w64) (xor_assoc x y z))

fits-all : (o : BitOp) (a : ℤ) (ns : List ℤ) → Fits a → AllByRecursion Fits ns → Fits (fold (bits_of o) a ns)
fits-all o a [] p h = p
fits-all o a (n ∷ ns) p h = fits-all o (bits_of o a n) ns (fits-both o a n p h.0) h.1

fold-out : (o : BitOp) (a n : ℤ) (ns : List ℤ) → Fits a → Fits n → AllByRecursion Fits ns → fold (bits_of o) (bits_of o a n) ns ≡ bits_of o a (fold (bits_of o) n ns)
fold-out o a n [] p q h = refl
fold-out o a n (m ∷ ns) p q h = ap (λ k. fold (bits_of o) k ns) (bits-assoc o a n m p q h.0) ∙ fold-out o a (bits_of o n m) ns p (fits-both o n m q h.0) h.1

reduce-join : (o : BitOp) (ms ns : List ℤ) → AllByRecursion Fits ms → AllByRecursion Fits ns → reduce (bits_of o) (ms ++ ns) ≡ both_of o (reduce (bits_of o) ms) (reduce (bits_of o) ns)
unfolding both_of
reduce-join o [] ns h k = refl
reduce-join o (m ∷ ms) [] h k = ap (reduce (bits_of o)) (append-nil (m ∷ ms))
reduce-join o (m ∷ ms) (n ∷ ns) h k = ap Some (fold-append (bits_of o) m ms (n ∷ ns) ∙ fold-out o (fold (bits_of o) m ms) n ns (fits-all o m ms h.0 h.1) k.0 k.1)

pub bits-join : (o : BitOp) (vs ws : List Value) → AllByRecursion Fits (filter_map number_of vs) → AllByRecursion Fits (filter_map number_of ws) → reduce (bits_of o) (filter_map number_of (vs ++ ws)) ≡ both_of o (reduce (bits_of o) (filter_map number_of vs)) (reduce (bits_of o) (filter_map number_of ws))
bits-join o vs ws h k = ap (reduce (bits_of o)) (filter_map-append number_of vs ws) ∙ reduce-join o (filter_map number_of vs) (filter_map number_of ws) h k

-- Values of which none is null.

abbrev AreGiven : List Value → Type 0
AreGiven vs = AllByRecursion (λ v. is_null v ≡ false) vs

null-or-not : (v : Value) → (is_null v ≡ true) ⊎ (is_null v ≡ false)
null-or-not v = cases_Bool (is_null v)

given-are : (vs : List Value) → AreGiven (given vs)
unfolding given
given-are [] = tt
given-are (v ∷ vs) = elim (null-or-not v) [
  | inl t ↦ rw t (given-are vs)
  | inr f ↦ rw f (f, given-are vs)
]

filtered-are : (p : Value → Bool) (vs : List Value) → AreGiven vs → AreGiven (filter p vs)
filtered-are p [] h = tt
filtered-are p (v ∷ vs) h = elim (cases_Bool (p v)) [
  | inl t ↦ rw t (h.0, filtered-are p vs h.1)
  | inr f ↦ rw f (filtered-are p vs h.1)
]

distinct-are : (vs : List Value) → AreGiven vs → AreGiven (distinct_by same_key vs)
unfolding distinct_by
distinct-are [] h = tt
distinct-are (v ∷ vs) h = (h.0, filtered-are (λ w. not (same_key v w)) (distinct_by same_key vs) (distinct-are vs h.1))

taken-are : (n : ℕ) (vs : List Value) → AreGiven vs → AreGiven (take n vs)
taken-are zero vs h = tt
taken-are (suc n) [] h = tt
taken-are (suc n) (v ∷ vs) h = (h.0, taken-are n vs h.1)

given-append : (vs ws : List Value) → given (vs ++ ws) ≡ given vs ++ given ws
unfolding given
given-append vs ws = filter-append (λ v. not (is_null v)) vs ws

-- Lists.

list-all : (A more : List Value) → AreGiven more → joined_list None A more ≡ A ++ more
unfolding joined_list with_listed has_room
list-all A [] h = sym (append-nil A)
list-all A (v ∷ more) h = rw h.0 (list-all (A ++ v ∷ []) more h.1 ∙ append_assoc A (v ∷ []) more)

listed-one : (n : ℕ) (A : List Value) (v : Value) → is_null v ≡ false → with_listed (Some n) (take n A) v ≡ take n (A ++ v ∷ [])
unfolding with_listed has_room
listed-one n A v f = elim (cases-lt (length A) n) [
  | inl lt ↦
      let whole : take n A ≡ A = take_all n A (omega (arith, lt)) in
      let room = lt-true (length A) n lt in
      let long : length (A ++ v ∷ []) ≤ n = omega (arith, lt, length-append A (v ∷ [])) in
      rw (f, whole, room) (sym (take_all n (A ++ v ∷ []) long))
  | inr le ↦
      let full : length (take n A) ≡ n = length-take-le n A le in
      let room = lt-false n n (omega arith) in
      rw (f, full, room) (sym (take-append-le n A (v ∷ []) le))
]

list-some : (n : ℕ) (A more : List Value) → AreGiven more → joined_list (Some n) (take n A) more ≡ take n (A ++ more)
unfolding joined_list
list-some n A [] h = ap (take n) (sym (append-nil A))
list-some n A (v ∷ more) h =
    ap (λ vs. fold (with_listed (Some n)) vs more) (listed-one n A v h.0) ∙ (list-some n (A ++ v ∷ []) more h.1 ∙ ap (take n) (append_assoc A (v ∷ []) more))

take-behind : (n : ℕ) (A B : List Value) → take n (A ++ take n B) ≡ take n (A ++ B)
take-behind n A B = elim (cases-lt (length B) n) [
  | inl lt ↦ ap (λ C. take n (A ++ C)) (take_all n B (omega (arith, lt)))
  | inr le ↦
      let full : length (take n B) ≡ n = length-take-le n B le in
      let long : n ≤ length (A ++ take n B) = omega (arith, full, length-append A (take n B)) in
      sym (ap (λ C. take n (A ++ C)) (sym (take-append-drop n B)) ∙ (ap (take n) (sym (append_assoc A (take n B) (drop n B))) ∙ take-append-le n (A ++ take n B) (drop n B) long))
]

pub list-join : (limit : Option ℕ) (vs ws : List Value) → up_to limit (given (vs ++ ws)) ≡ joined_list limit (up_to limit (given vs)) (up_to limit (given ws))
unfolding up_to
list-join None vs ws = given-append vs ws ∙ sym (list-all (given vs) (given ws) (given-are ws))
list-join (Some n) vs ws =
    ap (take n) (given-append vs ws) ∙ (sym (take-behind n (given vs) (given ws)) ∙ sym (list-some n (given vs) (take n (given ws)) (taken-are n (given ws) (given-are ws))))

-- Sets.

abbrev all_in : List Value → List Value → List Value
all_in E vs = fold (insert_key same_key) E vs

same-self : (v : Value) → same_key v v ≡ true
same-self v = (same_key-decides v v).1 refl

any-append : (p : Value → Bool) (vs ws : List Value) → list_any p (vs ++ ws) ≡ (list_any p vs || list_any p ws)
any-append p [] ws = refl
any-append p (v ∷ vs) ws = elim (cases_Bool (p v)) [ inl t ↦ rw t refl | inr f ↦ rw f (any-append p vs ws) ]

or-left : (a b : Bool) → a ≡ true → (a || b) ≡ true
or-left true b e = refl
or-left false b e = cc

-- What is in stays in, and what is put in is in.
stays-in : (p : Value → Bool) (E : List Value) (v : Value) → list_any p E ≡ true → list_any p (insert_key same_key E v) ≡ true
stays-in p E v h = elim (cases_Bool (list_any (same_key v) E)) [
  | inl t ↦ rw t h
  | inr f ↦ rw f (any-append p E (v ∷ []) ∙ or-left (list_any p E) (list_any p (v ∷ [])) h)
]

put-in : (E : List Value) (v : Value) → list_any (same_key v) (insert_key same_key E v) ≡ true
put-in E v = elim (cases_Bool (list_any (same_key v) E)) [
  | inl t ↦ rw t t
  | inr f ↦
      let here : list_any (same_key v) (v ∷ []) ≡ true = rw (same-self v) refl in
      rw f (any-append (same_key v) E (v ∷ []) ∙ or-right (list_any (same_key v) E) (list_any (same_key v) (v ∷ [])) here)
]

all-stay-in : (p : Value → Bool) (E vs : List Value) → list_any p E ≡ true → list_any p (all_in E vs) ≡ true
all-stay-in p E [] h = h
all-stay-in p E (v ∷ vs) h = all-stay-in p (insert_key same_key E v) vs (stays-in p E v h)

-- Each of those that are put in is in.
each-in : (q : Value) (E vs : List Value) → list_any (same_key q) vs ≡ true → list_any (same_key q) (all_in E vs) ≡ true
each-in q E [] h = cc
each-in q E (v ∷ vs) h = elim (cases_Bool (same_key q v)) [
  | inl t ↦
      let e : q ≡ v = (same_key-decides q v).0 t in
      all-stay-in (same_key q) (insert_key same_key E v) vs (rw e (put-in E v))
  | inr f ↦ let later : list_any (same_key q) vs ≡ true = rw f at h in each-in q (insert_key same_key E v) vs later
]

-- Where one is in, it need not be put in again.
without-one : (E vs : List Value) (y : Value) → list_any (same_key y) E ≡ true → all_in E (filter (λ z. not (same_key y z)) vs) ≡ all_in E vs
without-one E [] y h = refl
without-one E (v ∷ vs) y h = elim (cases_Bool (same_key y v)) [
  | inl t ↦
      let e : y ≡ v = (same_key-decides y v).0 t in
      let inside : list_any (same_key v) E ≡ true = rw (← e) h in
      rw (t, inside) (without-one E vs y h)
  | inr f ↦ rw f (without-one (insert_key same_key E v) vs y (stays-in (same_key y) E v h))
]

once-is-all : (E vs : List Value) → all_in E (distinct_by same_key vs) ≡ all_in E vs
unfolding distinct_by
once-is-all E [] = refl
once-is-all E (v ∷ vs) = without-one (insert_key same_key E v) (distinct_by same_key vs) v (put-in E v) ∙ once-is-all (insert_key same_key E v) vs

pub distinct-append : (vs ws : List Value) → distinct_by same_key (vs ++ ws) ≡ all_in (distinct_by same_key vs) ws
distinct-append vs [] = ap (distinct_by same_key) (append-nil vs)
distinct-append vs (w ∷ ws) =
    ap (distinct_by same_key) (sym (append_assoc vs (w ∷ []) ws))
    ∙ (distinct-append (vs ++ w ∷ []) ws ∙ ap (λ E. all_in E ws) (distinct-push same_key same_key-decides vs w))

set-append : (vs ws : List Value) → distinct_given (vs ++ ws) ≡ all_in (distinct_given vs) (distinct_given ws)
unfolding distinct_given
set-append vs ws =
    ap (distinct_by same_key) (given-append vs ws) ∙ (distinct-append (given vs) (given ws) ∙ sym (once-is-all (distinct_by same_key (given vs)) (given ws)))

set-given : (vs : List Value) → AreGiven (distinct_given vs)
unfolding distinct_given
set-given vs = distinct-are (given vs) (given-are vs)

set-all : (E more : List Value) → AreGiven more → joined_set None E more ≡ all_in E more
unfolding joined_set with_member has_room
set-all E [] h = refl
set-all E (v ∷ more) h = rw h.0 (set-all (insert_key same_key E v) more h.1)

member-one : (n : ℕ) (D : List Value) (v : Value) → is_null v ≡ false → with_member (Some n) (take n D) v ≡ take n (insert_key same_key D v)
unfolding with_member has_room
member-one n D v f = elim (cases-lt (length D) n) [
  | inl lt ↦
      let whole : take n D ≡ D = take_all n D (omega (arith, lt)) in
      let room = lt-true (length D) n lt in
      rw (f, whole, room) (sym (inserted-within n D v lt))
  | inr le ↦
      let full : length (take n D) ≡ n = length-take-le n D le in
      let room = lt-false n n (omega arith) in
      rw (f, full, room) (sym (inserted-beyond n D v le))
]

set-some : (n : ℕ) (D more : List Value) → AreGiven more → joined_set (Some n) (take n D) more ≡ take n (all_in D more)
unfolding joined_set
set-some n D [] h = refl
set-some n D (v ∷ more) h = ap (λ E. fold (with_member (Some n)) E more) (member-one n D v h.0) ∙ set-some n (insert_key same_key D v) more h.1

-- Inserts into a list that is long enough do not change its first elements.
insert-longer : (n : ℕ) (E : List Value) (v : Value) → n ≤ length E → n ≤ length (insert_key same_key E v)
insert-longer n E v le = elim (cases_Bool (list_any (same_key v) E)) [
  | inl t ↦ rw t le
  | inr f ↦ rw f (omega (arith, le, length-append E (v ∷ [])))
]

beyond : (n : ℕ) (E vs : List Value) → n ≤ length E → take n (all_in E vs) ≡ take n E
beyond n E [] le = refl
beyond n E (v ∷ vs) le = beyond n (insert_key same_key E v) vs (insert-longer n E v le) ∙ inserted-beyond n E v le

-- The distinct ones differ.
differ-filter : (x : Value) (p : Value → Bool) (vs : List Value) → AllByRecursion (λ y. same_key x y ≡ false) vs → AllByRecursion (λ y. same_key x y ≡ false) (filter p vs)
differ-filter x p [] h = tt
differ-filter x p (v ∷ vs) h = elim (cases_Bool (p v)) [
  | inl t ↦ rw t (h.0, differ-filter x p vs h.1)
  | inr f ↦ rw f (differ-filter x p vs h.1)
]

distinct-filter : (p : Value → Bool) (vs : List Value) → IsDistinct same_key vs → IsDistinct same_key (filter p vs)
unfolding IsDistinct
distinct-filter p [] h = tt
distinct-filter p (v ∷ vs) h = elim (cases_Bool (p v)) [
  | inl t ↦ rw t (differ-filter v p vs h.0, distinct-filter p vs h.1)
  | inr f ↦ rw f (distinct-filter p vs h.1)
]

others-differ : (x : Value) (vs : List Value) → AllByRecursion (λ y. same_key x y ≡ false) (filter (λ y. not (same_key x y)) vs)
others-differ x [] = tt
others-differ x (v ∷ vs) = elim (cases_Bool (same_key x v)) [
  | inl t ↦ rw t (others-differ x vs)
  | inr f ↦ rw f (f, others-differ x vs)
]

are-distinct : (vs : List Value) → IsDistinct same_key (distinct_by same_key vs)
unfolding distinct_by IsDistinct
are-distinct [] = tt
are-distinct (v ∷ vs) = (others-differ v (distinct_by same_key vs), distinct-filter (λ w. not (same_key v w)) (distinct_by same_key vs) (are-distinct vs))

differ-take : (x : Value) (n : ℕ) (vs : List Value) → AllByRecursion (λ y. same_key x y ≡ false) vs → AllByRecursion (λ y. same_key x y ≡ false) (take n vs)
differ-take x zero vs h = tt
differ-take x (suc n) [] h = tt
differ-take x (suc n) (v ∷ vs) h = (h.0, differ-take x n vs h.1)

distinct-take : (n : ℕ) (vs : List Value) → IsDistinct same_key vs → IsDistinct same_key (take n vs)
unfolding IsDistinct
distinct-take zero vs h = tt
distinct-take (suc n) [] h = tt
distinct-take (suc n) (v ∷ vs) h = (differ-take v n vs h.0, distinct-take n vs h.1)

set-behind : (n : ℕ) (D W : List Value) → IsDistinct same_key W → take n (all_in D (take n W)) ≡ take n (all_in D W)
set-behind n D W h = elim (cases-lt (length W) n) [
  | inl lt ↦ ap (λ C. take n (all_in D C)) (take_all n W (omega (arith, lt)))
  | inr le ↦
      let T = take n W in
      let full : length T ≡ n = length-take-le n W le in
      let more : length T ≤ length (all_in D T) = length-le_from_is_member same_key-equiv T (all_in D T) (distinct-take n W h) (λ q m. each-in q D T m) in
      let long : n ≤ length (all_in D T) = omega (arith, full, more) in
      sym (ap (λ C. take n (all_in D C)) (sym (take-append-drop n W)) ∙ (ap (take n) (fold-append (insert_key same_key) D T (drop n W)) ∙ beyond n (all_in D T) (drop n W) long))
]

set-distinct : (vs : List Value) → IsDistinct same_key (distinct_given vs)
unfolding distinct_given
set-distinct vs = are-distinct (given vs)

pub set-join : (limit : Option ℕ) (vs ws : List Value) → up_to limit (distinct_given (vs ++ ws)) ≡ joined_set limit (up_to limit (distinct_given vs)) (up_to limit (distinct_given ws))
unfolding up_to
set-join None vs ws = set-append vs ws ∙ sym (set-all (distinct_given vs) (distinct_given ws) (set-given ws))
set-join (Some n) vs ws =
    ap (take n) (set-append vs ws)
    ∙ (sym (set-behind n (distinct_given vs) (distinct_given ws) (set-distinct ws))
    ∙ sym (set-some n (distinct_given vs) (take n (distinct_given ws)) (taken-are n (distinct_given ws) (set-given ws))))

pub distinct-join : (vs ws : List Value) → distinct_given (vs ++ ws) ≡ joined_set None (distinct_given vs) (distinct_given ws)
distinct-join vs ws = set-append vs ws ∙ sym (set-all (distinct_given vs) (distinct_given ws) (set-given ws))
