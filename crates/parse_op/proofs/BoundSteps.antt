-- Where pieces can end, and where items cannot begin.
use Rattle.std.proofs.Common.{◌≡◌, ◌≤◌, ◌+◌, ◌-◌, ◌||◌, ◌==◌, ℕ, zero, suc, Bool, true, false, List, [], ◌∷◌, length, take, drop, refl, sym, ap, ◌∙◌, arith, inl, inr, length-drop, length-take-le, take_all}
use Rattle.std.specs.Prelude.{None, Some, bytes_eq, is_some, min, not, slice_get, slice_range}
use Rattle.std.proofs.lemmas.Bool.{and_parts, cases_Bool, eq-eqb, eqb-true}
use Rattle.std.proofs.lemmas.Slice.Eq.{bytes_eq-Decides}
use Rattle.kql_cells.specs.declared.value.Kind.{Kind}
use Rattle.kql_bound.specs.declared.parts.PatItem.{PatItem}
use Rattle.kql_bound.specs.declared.parts.PatItem.TheVariants as item
use Rattle.kql_meaning.specs.Cuts.{behind_dash, digits_length, is_allowed, is_end, is_number_before_star, number_length, piece_read}
use Rattle.parse_op.specs.Search.{HasNoCut, LimitsPieces, NoPieceBelow, NoneBefore, NoneBehind, cut_by, cut_from, first_fits}
use Rattle.parse_op.proofs.CutSteps.{before-start, end-parts, none-at, not-at-end, place-within}
use Rattle.parse_op.proofs.PieceSteps.{digits-short}

-- Pieces of one length.

piece-length : (t : List ℕ) (start end : ℕ) → start ≤ end → end ≤ length t → length (slice_range t start end) ≡ end - start
piece-length t start end low high =
    let rest = length-drop start t in
    length-take-le (end - start) (drop start t) (omega (arith, rest, high))

only-end : (relaxed : Bool) (p : PatItem) (ps : List PatItem) (t : List ℕ) (start n : ℕ) → ((piece : List ℕ) → is_allowed relaxed p ps piece (drop start t) ≡ true → length piece ≡ n) → (end : ℕ) → (end ≡ start + n → ⊥) → cut_by relaxed p ps t start end ≡ None
unfolding cut_by
only-end relaxed p ps t start n one end other = elim (cases_Bool (is_end t start end)) [
  | inl inside ↦ elim (cases_Bool (is_allowed relaxed p ps (slice_range t start end) (drop start t))) [
    | inl fits ↦
        let parts = end-parts t start end inside in
        let size = piece-length t start end parts.0 (place-within t end parts.1) in
        let long = one (slice_range t start end) fits in
        absurd (other (omega (arith, size, long, parts.0)))
    | inr not ↦ rw (inside, not) refl
  ]
  | inr out ↦ rw out refl
]

only-before : (relaxed : Bool) (p : PatItem) (ps : List PatItem) (t : List ℕ) (start n : ℕ) → ((piece : List ℕ) → is_allowed relaxed p ps piece (drop start t) ≡ true → length piece ≡ n) → NoneBefore relaxed p ps t start (start + n)
unfolding NoneBefore
only-before relaxed p ps t start n one = λ end lt. only-end relaxed p ps t start n one end (λ e. omega (arith, e, lt))

only-behind : (relaxed : Bool) (p : PatItem) (ps : List PatItem) (t : List ℕ) (start n : ℕ) → ((piece : List ℕ) → is_allowed relaxed p ps piece (drop start t) ≡ true → length piece ≡ n) → NoneBehind relaxed p ps t start (start + n + 1)
unfolding NoneBehind
only-behind relaxed p ps t start n one = λ end low. only-end relaxed p ps t start n one end (λ e. omega (arith, e, low))

-- A literal.

literal-length : (relaxed : Bool) (x : List ℕ) (ps : List PatItem) (piece rest : List ℕ) → is_allowed relaxed (item.Literal x) ps piece rest ≡ true → length piece ≡ length x
unfolding is_allowed
literal-length relaxed x ps piece rest h = ap (λ (xs : List ℕ). length xs) ((bytes_eq-Decides piece x).0 h)

pub literal-before : (relaxed : Bool) (p : PatItem) (ps : List PatItem) (t : List ℕ) (start n : ℕ) (x y : List ℕ) → p ≡ item.Literal x → n ≡ length y → y ≡ x → NoneBefore relaxed p ps t start (start + n)
literal-before relaxed p ps t start n x y is len same =
    only-before relaxed p ps t start n (λ piece h. literal-length relaxed x ps piece (drop start t) (ap (λ q. is_allowed relaxed q ps piece (drop start t)) (sym is) ∙ h) ∙ sym (len ∙ ap (λ (xs : List ℕ). length xs) same))

pub literal-behind : (relaxed : Bool) (p : PatItem) (ps : List PatItem) (t : List ℕ) (start n : ℕ) (x y : List ℕ) → p ≡ item.Literal x → n ≡ length y → y ≡ x → NoneBehind relaxed p ps t start (start + n + 1)
literal-behind relaxed p ps t start n x y is len same =
    only-behind relaxed p ps t start n (λ piece h. literal-length relaxed x ps piece (drop start t) (ap (λ q. is_allowed relaxed q ps piece (drop start t)) (sym is) ∙ h) ∙ sym (len ∙ ap (λ (xs : List ℕ). length xs) same))

-- A long before a star.

number-piece : (relaxed : Bool) (name : List ℕ) (k : Kind) (ps : List PatItem) (piece rest : List ℕ) → is_number_before_star k ps ≡ true → is_allowed relaxed (item.Column name k) ps piece rest ≡ true → length piece ≡ number_length rest
unfolding is_allowed
number-piece relaxed name k ps piece rest before h =
    let parts = and_parts (relaxed || is_some (piece_read k piece)) (not (is_number_before_star k ps) || (length piece == number_length rest)) h in
    let test : (length piece == number_length rest) ≡ true = rw before at parts.1 in
    eqb-true (length piece) (number_length rest) test

pub number-before : (relaxed : Bool) (p : PatItem) (name : List ℕ) (k : Kind) (ps : List PatItem) (t : List ℕ) (start n : ℕ) (b : Bool) (rest : List ℕ) → p ≡ item.Column name k → b ≡ is_number_before_star k ps → b ≡ true → rest ≡ drop start t → n ≡ number_length rest → NoneBefore relaxed p ps t start (start + n)
number-before relaxed p name k ps t start n b rest is test holds at size =
    only-before relaxed p ps t start n (λ piece h. number-piece relaxed name k ps piece (drop start t) (sym test ∙ holds) (ap (λ q. is_allowed relaxed q ps piece (drop start t)) (sym is) ∙ h) ∙ sym (size ∙ ap number_length at))

pub number-behind : (relaxed : Bool) (p : PatItem) (name : List ℕ) (k : Kind) (ps : List PatItem) (t : List ℕ) (start n : ℕ) (b : Bool) (rest : List ℕ) → p ≡ item.Column name k → b ≡ is_number_before_star k ps → b ≡ true → rest ≡ drop start t → n ≡ number_length rest → NoneBehind relaxed p ps t start (start + n + 1)
number-behind relaxed p name k ps t start n b rest is test holds at size =
    only-behind relaxed p ps t start n (λ piece h. number-piece relaxed name k ps piece (drop start t) (sym test ∙ holds) (ap (λ q. is_allowed relaxed q ps piece (drop start t)) (sym is) ∙ h) ∙ sym (size ∙ ap number_length at))

dash-short : (n m : ℕ) → n ≤ m → behind_dash n ≤ m + 1
unfolding behind_dash
dash-short zero m le = omega arith
dash-short (suc n) m le = omega (arith, le)

pub number-short : (t : List ℕ) → number_length t ≤ length t
unfolding number_length
number-short [] = omega arith
number-short (b ∷ bs) = elim (cases_Bool (b == 45)) [
  | inl dash ↦ rw dash (omega (arith, dash-short (digits_length bs) (length bs) (digits-short bs)))
  | inr other ↦ rw other (digits-short (b ∷ bs))
]

pub end-behind : (relaxed : Bool) (p : PatItem) (ps : List PatItem) (t : List ℕ) (start : ℕ) → NoneBehind relaxed p ps t start (length t + 1)
unfolding NoneBehind cut_by
end-behind relaxed p ps t start = λ end low. elim (cases_Bool (is_end t start end)) [
  | inl inside ↦ absurd (omega (arith, place-within t end (end-parts t start end inside).1, low))
  | inr out ↦ rw out refl
]

-- A piece that reads.

pub typed-behind : (relaxed : Bool) (p : PatItem) (name : List ℕ) (k : Kind) (ps : List PatItem) (t : List ℕ) (start n size : ℕ) (rest : List ℕ) → p ≡ item.Column name k → relaxed ≡ false → rest ≡ drop start t → LimitsPieces k rest n → size ≡ min n (length rest) → NoneBehind relaxed p ps t start (start + size + 1)
unfolding NoneBehind LimitsPieces cut_by is_allowed
typed-behind relaxed p name k ps t start n size rest is simple at limit least = rw (is, simple) (λ end low. elim (cases_Bool (is_end t start end)) [
  | inl inside ↦ elim (cases_Bool (is_some (piece_read k (slice_range t start end)))) [
    | inl some ↦
        let parts = end-parts t start end inside in
        let high = place-within t end parts.1 in
        let long : length rest ≡ length t - start = ap (λ (xs : List ℕ). length xs) at ∙ length-drop start t in
        let read : is_some (piece_read k (take (end - start) rest)) ≡ true = ap (λ (xs : List ℕ). is_some (piece_read k (take (end - start) xs))) at ∙ some in
        let under = limit (end - start) (omega (arith, long, high)) read in
        absurd (omega (arith, under, low, least, long, high, parts.0))
    | inr none ↦ rw (inside, none) refl
  ]
  | inr out ↦ rw out refl
])

pub typed-before : (relaxed : Bool) (p : PatItem) (name : List ℕ) (k : Kind) (ps : List PatItem) (t : List ℕ) (start n : ℕ) (rest : List ℕ) → p ≡ item.Column name k → relaxed ≡ false → rest ≡ drop start t → NoPieceBelow k rest n → NoneBefore relaxed p ps t start (start + n)
unfolding NoneBefore NoPieceBelow cut_by is_allowed
typed-before relaxed p name k ps t start n rest is simple at least = rw (is, simple) (λ end lt. elim (cases_Bool (is_end t start end)) [
  | inl inside ↦ elim (cases_Bool (is_some (piece_read k (slice_range t start end)))) [
    | inl some ↦
        let parts = end-parts t start end inside in
        let high = place-within t end parts.1 in
        let long : length rest ≡ length t - start = ap (λ (xs : List ℕ). length xs) at ∙ length-drop start t in
        let read : is_some (piece_read k (take (end - start) rest)) ≡ true = ap (λ (xs : List ℕ). is_some (piece_read k (take (end - start) xs))) at ∙ some in
        let over = least (end - start) (omega (arith, long, high)) read in
        absurd (omega (arith, over, lt, parts.0))
    | inr none ↦ rw (inside, none) refl
  ]
  | inr out ↦ rw out refl
])

pub rest-is : (xs t : List ℕ) (n : ℕ) → xs ≡ t → take (length xs - n) (drop n xs) ≡ drop n t
rest-is xs t n e = take_all (length xs - n) (drop n xs) (omega (arith, length-drop n xs)) ∙ ap (drop n) e

pub ruleset bound_steps = (before-start, end-behind, literal-before, literal-behind, number-before, number-behind, number-short, typed-behind, place-within)

-- Where items begin.

first-of-range : (t : List ℕ) (i n b : ℕ) (bs : List ℕ) → take n (drop i t) ≡ b ∷ bs → slice_get t i ≡ Some b
first-of-range [] zero zero b bs e = cc
first-of-range [] zero (suc n) b bs e = cc
first-of-range [] (suc i) zero b bs e = cc
first-of-range [] (suc i) (suc n) b bs e = cc
first-of-range (c ∷ t) zero zero b bs e = cc
first-of-range (c ∷ t) zero (suc n) b bs e = let same : c ≡ b = cc in ap Some same
first-of-range (c ∷ t) (suc i) n b bs e = first-of-range t i n b bs e

fits-where-begun : (x : List ℕ) (t : List ℕ) (i end : ℕ) → slice_range t i end ≡ x → first_fits x (slice_get t i) ≡ true
unfolding first_fits
fits-where-begun [] t i end e = refl
fits-where-begun (b ∷ bs) t i end e = rw (first-of-range t i (end - i) b bs e) (eq-eqb b b refl)

no-literal : (relaxed : Bool) (x : List ℕ) (ps : List PatItem) (t : List ℕ) (i : ℕ) → first_fits x (slice_get t i) ≡ false → cut_from relaxed (item.Literal x ∷ ps) t i ≡ None
unfolding NoneBehind cut_by is_allowed
no-literal relaxed x ps t i other = none-at relaxed (item.Literal x) ps t i (λ end low. elim (cases_Bool (is_end t i end)) [
  | inl inside ↦ elim (cases_Bool (bytes_eq (slice_range t i end) x)) [
    | inl same ↦ let clash : false ≡ true = sym other ∙ fits-where-begun x t i end ((bytes_eq-Decides (slice_range t i end) x).0 same) in cc
    | inr not ↦ rw (inside, not) refl
  ]
  | inr out ↦ rw out refl
])

pub no-items : (items : List PatItem) (t : List ℕ) (i : ℕ) → length items ≡ 0 → (i == length t) ≡ false → HasNoCut items t i
unfolding HasNoCut
no-items [] t i none out = λ relaxed. not-at-end relaxed t i (λ e. let clash : false ≡ true = sym out ∙ eq-eqb i (length t) e in cc)
no-items (p ∷ ps) t i none out = absurd (omega (arith, none))

pub no-first : (items ps : List PatItem) (p : PatItem) (x y : List ℕ) (t : List ℕ) (i : ℕ) → items ≡ p ∷ ps → p ≡ item.Literal x → y ≡ x → first_fits y (slice_get t i) ≡ false → HasNoCut items t i
unfolding HasNoCut
no-first items ps p x y t i is at same other =
    λ relaxed. ap (λ qs. cut_from relaxed qs t i) (is ∙ ap (λ q. q ∷ ps) at) ∙ no-literal relaxed x ps t i (ap (λ z. first_fits z (slice_get t i)) (sym same) ∙ other)

pub not-last : (items ps : List PatItem) (p : PatItem) (b c : Bool) → items ≡ p ∷ ps → length items ≡ 0 → b ≡ c
not-last [] ps p b c is none = cc
not-last (q ∷ qs) ps p b c is none = absurd (omega (arith, none))

pub ruleset begin_steps = (no-items, no-first, not-last)
