-- Places of rows, in pieces and together.
use Rattle.std.proofs.Common.{◌≡◌, ◌≤◌, ◌+◌, ◌*◌, ◌-◌, ℕ, zero, suc, List, [], ◌∷◌, ◌++◌, drop, length, map, reverse, take, refl, ap, ap₂, sym, ◌∙◌, arith}
use Rattle.std.specs.Prelude.{flat_map, min, slice_range}
use Rattle.std.specs.List.{range_with_len}
use Rattle.std.specs.declared.cmp.Ordering.{Ordering}
use Rattle.std.proofs.lemmas.List.{append-nil, append_assoc, map-id, reverse-append, reverse-reverse}
use Rattle.std.proofs.lemmas.List.FromFn.{length-range_with_len, map-range_with_len_more}
use Rattle.kql_meaning.specs.Tables.{places_below}
use Rattle.order_ops.specs.Order.{places_cmp}
use Rattle.order_ops.specs.Tops.{top_of}
use Rattle.order_ops.specs.declared.keys.KeyColumn.{KeyColumn}
use Rattle.phase_laws.specs.Pieces.{slice_of}

-- One place more.

pub place-more : (from n i : ℕ) (old new : List ℕ) → i ≡ from + n → old ≡ range_with_len from n → new ≡ old ++ i ∷ [] → new ≡ range_with_len from (n + 1)
place-more from n i old new at before added =
    added ∙ (ap (λ (xs : List ℕ). xs ++ i ∷ []) (before ∙ sym (map-id (range_with_len from n)))
    ∙ (sym (map-range_with_len_more (λ (x : ℕ). x) from n i (sym at)) ∙ map-id (range_with_len from (n + 1))))

pub ruleset range_steps = (place-more)

-- The places of a piece.

first-places : (a m n : ℕ) → m ≤ n → take m (range_with_len a n) ≡ range_with_len a m
first-places a zero n le = refl
first-places a (suc m) zero le = absurd (omega (arith, le))
first-places a (suc m) (suc n) le = ap (λ (xs : List ℕ). a ∷ xs) (first-places (a + 1) m n (omega (arith, le)))

places-there : (a k m n : ℕ) → k + m ≤ n → take m (drop k (range_with_len a n)) ≡ range_with_len (a + k) m
places-there a zero m n le = let none : a ≡ a + 0 = omega arith in first-places a m n (omega (arith, le)) ∙ ap (λ (b : ℕ). range_with_len b m) none
places-there a (suc k) m zero le = absurd (omega (arith, le))
places-there a (suc k) m (suc n) le =
    let next : (a + 1) + k ≡ a + suc k = omega arith in
    places-there (a + 1) k m n (omega (arith, le)) ∙ ap (λ (b : ℕ). range_with_len b m) next

places-between : (n from to : ℕ) → from ≤ to → to ≤ n → slice_range (range_with_len 0 n) from to ≡ range_with_len from (to - from)
places-between n from to order within =
    let none : 0 + from ≡ from = omega arith in
    places-there 0 from (to - from) n (omega (arith, order, within)) ∙ ap (λ (b : ℕ). range_with_len b (to - from)) none

places-of-piece : (n rows piece from to : ℕ) → from ≡ piece * rows → to ≡ min n (piece * rows + rows) → from ≤ to → to ≤ n → slice_of rows (places_below n) piece ≡ range_with_len from (to - from)
unfolding places_below
places-of-piece n rows piece from to f e order within =
    let size : length (range_with_len 0 n) ≡ n = length-range_with_len 0 n in
    ap₂ (λ (a b : ℕ). slice_range (range_with_len 0 n) a b) (sym f) (ap (λ (m : ℕ). min m (piece * rows + rows)) size ∙ sym e) ∙ places-between n from to order within

pub top-of-piece : (cs : List KeyColumn) (k n rows piece from to : ℕ) (all given made : List ℕ) → from ≡ piece * rows → to ≡ min n (piece * rows + rows) → from ≤ to → to ≤ n
    → all ≡ range_with_len from (to - from) → given ≡ all → made ≡ top_of (places_cmp cs) k given → made ≡ top_of (places_cmp cs) k (slice_of rows (places_below n) piece)
top-of-piece cs k n rows piece from to all given made f e order within is same top =
    top ∙ ap (top_of (places_cmp cs) k) (same ∙ (is ∙ sym (places-of-piece n rows piece from to f e order within)))

pub ruleset piece_steps = (top-of-piece)

-- Lists put together.

pub start-rest : (lists left : List (List ℕ)) → left ≡ reverse lists → [] ++ flat_map (λ is. is) (reverse left) ≡ flat_map (λ is. is) lists
start-rest lists left is = ap (flat_map (λ is. is)) (ap reverse is ∙ reverse-reverse lists)

pub next-rest : (made new next all : List ℕ) (left rest : List (List ℕ)) → left ≡ rest ++ next ∷ [] → new ≡ made ++ next → made ++ flat_map (λ is. is) (reverse left) ≡ all → new ++ flat_map (λ is. is) (reverse rest) ≡ all
next-rest made new next all left rest is added h =
    ap (λ (xs : List ℕ). xs ++ flat_map (λ is. is) (reverse rest)) added
    ∙ (append_assoc made next (flat_map (λ is. is) (reverse rest))
    ∙ (ap (λ (ls : List (List ℕ)). made ++ flat_map (λ is. is) ls) (sym (ap reverse is ∙ reverse-append rest (next ∷ []))) ∙ h))

pub all-listed : (made all : List ℕ) (left : List (List ℕ)) → left ≡ [] → made ++ flat_map (λ is. is) (reverse left) ≡ all → made ≡ all
all-listed made all left none h = sym (ap (λ (ls : List (List ℕ)). made ++ flat_map (λ is. is) (reverse ls)) none ∙ append-nil made) ∙ h
