-- The first cut from a place on, by the end of its first piece.
use Rattle.std.proofs.Common.{◌≡◌, ◌<◌, ◌≤◌, ◌+◌, ◌-◌, ◌&&◌, ◌||◌, ℕ, zero, suc, Bool, true, false, List, [], ◌∷◌, map, length, refl, sym, ap, ◌∙◌, arith, inl, inr}
use Rattle.std.specs.Prelude.{Option, Some, None, find, nat_le, nat_lt, option_map, slice_index, slice_range, drop}
use Rattle.std.specs.List.{flat_map, range_with_len}
use Rattle.std.specs.Str.{IsCharBoundary}
use Rattle.std.proofs.lemmas.Bool.{and_parts, cases_Bool, eq-eqb, le-leb, leb-false, leb-true, ltb-false, ltb-true, ne_eqb}
use Rattle.std.proofs.lemmas.List.Folds.{find-append}
use Rattle.kql_bound.specs.declared.parts.PatItem.{PatItem}
use Rattle.kql_meaning.specs.Cuts.{is_allowed, is_between_characters, is_cut_from, is_end, rising_lists}
use Rattle.parse_op.specs.Search.{NoneBefore, NoneBehind, cut_by, cut_from, is_place}

-- Places.

pub place-boundary : (t : List ℕ) (i : ℕ) → is_place t i ≡ true → IsCharBoundary t i
unfolding is_place is_between_characters
place-boundary t i h =
    let outer = and_parts (nat_le i (length t)) (nat_le (length t) i || (nat_lt (slice_index t i) 128 || nat_le 192 (slice_index t i))) h in (
      leb-true i (length t) outer.0,
      λ lt high. elim (cases_Bool (nat_le (length t) i)) [
        | inl end ↦ absurd (omega (arith, lt, leb-true (length t) i end))
        | inr more ↦ elim (cases_Bool (nat_lt (slice_index t i) 128)) [
          | inl low ↦ absurd (omega (arith, high, ltb-true (slice_index t i) 128 low))
          | inr other ↦ let test : nat_le 192 (slice_index t i) ≡ true = rw (more, other) at outer.1 in leb-true 192 (slice_index t i) test
        ]
      ],
    )

pub boundary-place : (t : List ℕ) (i : ℕ) → IsCharBoundary t i → is_place t i ≡ true
unfolding is_place is_between_characters
boundary-place t i h = elim (cases_Bool (nat_le (length t) i)) [
  | inl end ↦ rw (le-leb i (length t) h.0, end) refl
  | inr more ↦ elim (cases_Bool (nat_lt (slice_index t i) 128)) [
    | inl low ↦ rw (le-leb i (length t) h.0, more, low) refl
    | inr other ↦ rw (le-leb i (length t) h.0, more, other, le-leb 192 (slice_index t i) (h.1 (leb-false (length t) i more) (ltb-false (slice_index t i) 128 other))) refl
  ]
]

-- A search in lists with one head.

never : {X Y : Type 0} (p : Y → Bool) (f : X → Y) (xs : List X) → ((x : X) → p (f x) ≡ false) → find p (map f xs) ≡ None
never p f [] h = refl
never p f (x ∷ xs) h = rw (h x) (never p f xs h)

in-map : {X Y : Type 0} (p : Y → Bool) (q : X → Bool) (f : X → Y) (xs : List X) → ((x : X) → p (f x) ≡ q x) → find p (map f xs) ≡ option_map f (find q xs)
in-map p q f [] h = refl
in-map p q f (x ∷ xs) h = elim (cases_Bool (q x)) [
  | inl t ↦ rw (h x, t) refl
  | inr n ↦ rw (h x, n) (in-map p q f xs h)
]

by-end : (relaxed : Bool) (p : PatItem) (ps : List PatItem) (t : List ℕ) (start end : ℕ) → find (is_cut_from relaxed (p ∷ ps) t start) (map (λ es. end ∷ es) (rising_lists (length ps) (length t) end)) ≡ cut_by relaxed p ps t start end
unfolding is_cut_from cut_by cut_from
by-end relaxed p ps t start end =
    let lists = rising_lists (length ps) (length t) end in
    let whole : List ℕ → Bool = is_cut_from relaxed (p ∷ ps) t start in
    elim (cases_Bool (is_end t start end)) [
      | inl inside ↦ elim (cases_Bool (is_allowed relaxed p ps (slice_range t start end) (drop start t))) [
        | inl fits ↦ rw (inside, fits) (in-map whole (is_cut_from relaxed ps t end) (λ es. end ∷ es) lists (λ es. rw (inside, fits) refl))
        | inr not ↦ rw (inside, not) (never whole (λ es. end ∷ es) lists (λ es. rw (inside, not) refl))
      ]
      | inr out ↦ rw out (never whole (λ es. end ∷ es) lists (λ es. rw out refl))
    ]

-- A search in a chain of lists.

in-chain : {X : Type 0} (p : X → Bool) (g : ℕ → List X) (f : ℕ → Option X) (a n e : ℕ) (x : X) → ((j : ℕ) → find p (g j) ≡ f j) → a ≤ e → e < a + n → ((j : ℕ) → j < e → f j ≡ None) → f e ≡ Some x → find p (flat_map g (range_with_len a n)) ≡ Some x
in-chain p g f a zero e x is low high none found = absurd (omega arith)
in-chain p g f a (suc n) e x is low high none found =
    find-append p (g a) (flat_map g (range_with_len (a + 1) n)) ∙
    elim (cases_Bool (nat_le e a)) [
      | inl le ↦
          let same : e ≡ a = omega (arith, leb-true e a le) in
          let here : find p (g a) ≡ Some x = is a ∙ (ap f (sym same) ∙ found) in
          rw here refl
      | inr gt ↦
          let here : find p (g a) ≡ None = is a ∙ none a (leb-false e a gt) in
          rw here (in-chain p g f (a + 1) n e x is (omega (arith, leb-false e a gt)) (omega (arith, high)) none found)
    ]

nowhere : {X : Type 0} (p : X → Bool) (g : ℕ → List X) (f : ℕ → Option X) (a n : ℕ) → ((j : ℕ) → find p (g j) ≡ f j) → ((j : ℕ) → f j ≡ None) → find p (flat_map g (range_with_len a n)) ≡ None
nowhere p g f a zero is none = refl
nowhere p g f a (suc n) is none =
    let here : find p (g a) ≡ None = is a ∙ none a in
    find-append p (g a) (flat_map g (range_with_len (a + 1) n)) ∙ rw here (nowhere p g f (a + 1) n is none)

-- The end of the first piece.

pub end-parts : (t : List ℕ) (start end : ℕ) → is_end t start end ≡ true → (start ≤ end) × (is_place t end ≡ true)
unfolding is_end is_place
end-parts t start end h =
    let parts = and_parts (nat_le start end) (nat_le end (length t) && is_between_characters t end) h in
    (leb-true start end parts.0, parts.1)

pub place-within : (t : List ℕ) (i : ℕ) → is_place t i ≡ true → i ≤ length t
unfolding is_place
place-within t i h = leb-true i (length t) (and_parts (nat_le i (length t)) (is_between_characters t i) h).0

-- A cut has an end that is one.
some-end : (relaxed : Bool) (p : PatItem) (ps : List PatItem) (t : List ℕ) (start end : ℕ) (x : List ℕ) → cut_by relaxed p ps t start end ≡ Some x → is_end t start end ≡ true
unfolding cut_by
some-end relaxed p ps t start end x h = elim (cases_Bool (is_end t start end)) [
  | inl inside ↦ inside
  | inr out ↦ let clash : None ≡ Some x = rw out at h in cc
]

pub found-at : (relaxed : Bool) (p : PatItem) (ps : List PatItem) (t : List ℕ) (start end : ℕ) (x : List ℕ) → NoneBefore relaxed p ps t start end → cut_by relaxed p ps t start end ≡ Some x → cut_from relaxed (p ∷ ps) t start ≡ Some x
unfolding NoneBefore cut_from rising_lists
found-at relaxed p ps t start end x none found =
    let parts = end-parts t start end (some-end relaxed p ps t start end x found) in
    let high = place-within t end parts.1 in
    in-chain (is_cut_from relaxed (p ∷ ps) t start) (λ e. map (λ es. e ∷ es) (rising_lists (length ps) (length t) e)) (cut_by relaxed p ps t start) start (suc (length t) - start) end x
    (by-end relaxed p ps t start) parts.0 (omega (arith, high, parts.0)) none found

pub none-at : (relaxed : Bool) (p : PatItem) (ps : List PatItem) (t : List ℕ) (start : ℕ) → NoneBehind relaxed p ps t start 0 → cut_from relaxed (p ∷ ps) t start ≡ None
unfolding NoneBehind cut_from rising_lists
none-at relaxed p ps t start none =
    nowhere (is_cut_from relaxed (p ∷ ps) t start) (λ e. map (λ es. e ∷ es) (rising_lists (length ps) (length t) e)) (cut_by relaxed p ps t start) start (suc (length t) - start)
    (by-end relaxed p ps t start) (λ j. none j (omega arith))

pub at-end : (relaxed : Bool) (t : List ℕ) (start : ℕ) → start ≡ length t → cut_from relaxed [] t start ≡ Some []
unfolding cut_from rising_lists is_cut_from
at-end relaxed t start e = rw (eq-eqb start (length t) e) refl

pub not-at-end : (relaxed : Bool) (t : List ℕ) (start : ℕ) → (start ≡ length t → ⊥) → cut_from relaxed [] t start ≡ None
unfolding cut_from rising_lists is_cut_from
not-at-end relaxed t start ne = rw (ne_eqb start (length t) ne) refl

-- Where a cut with an end is one of the later items, and where there is none.

pub no-place : (relaxed : Bool) (p : PatItem) (ps : List PatItem) (t : List ℕ) (start end : ℕ) → is_place t end ≡ false → cut_by relaxed p ps t start end ≡ None
unfolding cut_by
no-place relaxed p ps t start end out = elim (cases_Bool (is_end t start end)) [
  | inl inside ↦ let clash : false ≡ true = sym out ∙ (end-parts t start end inside).1 in cc
  | inr other ↦ rw other refl
]

pub before-start : (relaxed : Bool) (p : PatItem) (ps : List PatItem) (t : List ℕ) (start : ℕ) → NoneBefore relaxed p ps t start start
unfolding NoneBefore cut_by
before-start relaxed p ps t start = λ end lt. elim (cases_Bool (is_end t start end)) [
  | inl inside ↦ absurd (omega (arith, (end-parts t start end inside).0))
  | inr other ↦ rw other refl
]

pub not-allowed : (relaxed : Bool) (p : PatItem) (ps : List PatItem) (t : List ℕ) (start end : ℕ) → is_allowed relaxed p ps (slice_range t start end) (drop start t) ≡ false → cut_by relaxed p ps t start end ≡ None
unfolding cut_by
not-allowed relaxed p ps t start end refused = elim (cases_Bool (is_end t start end)) [
  | inl inside ↦ rw (inside, refused) refl
  | inr out ↦ rw out refl
]

end-of : (t : List ℕ) (start end : ℕ) → start ≤ end → is_place t end ≡ true → is_end t start end ≡ true
unfolding is_end is_place
end-of t start end le here = rw (le-leb start end le, here) refl

pub by-later : (relaxed : Bool) (p : PatItem) (ps : List PatItem) (t : List ℕ) (start end : ℕ) → start ≤ end → is_place t end ≡ true → is_allowed relaxed p ps (slice_range t start end) (drop start t) ≡ true → cut_by relaxed p ps t start end ≡ option_map (λ ends. end ∷ ends) (cut_from relaxed ps t end)
unfolding cut_by
by-later relaxed p ps t start end le here fits = rw (end-of t start end le here, fits) refl

option-none : {X Y : Type 0} (f : X → Y) (o : Option X) → option_map f o ≡ None → o ≡ None
option-none f None h = refl
option-none f (Some x) h = cc

pub none-later : (relaxed : Bool) (p : PatItem) (ps : List PatItem) (t : List ℕ) (start end : ℕ) → start ≤ end → is_place t end ≡ true → is_allowed relaxed p ps (slice_range t start end) (drop start t) ≡ true → cut_by relaxed p ps t start end ≡ None → cut_from relaxed ps t end ≡ None
none-later relaxed p ps t start end le here fits none =
    option-none (λ ends. end ∷ ends) (cut_from relaxed ps t end) (sym (by-later relaxed p ps t start end le here fits) ∙ none)

pub later-none : (relaxed : Bool) (p : PatItem) (ps : List PatItem) (t : List ℕ) (start end : ℕ) → (is_place t end ≡ true → cut_from relaxed ps t end ≡ None) → cut_by relaxed p ps t start end ≡ None
unfolding cut_by
later-none relaxed p ps t start end none = elim (cases_Bool (is_end t start end)) [
  | inl inside ↦ elim (cases_Bool (is_allowed relaxed p ps (slice_range t start end) (drop start t))) [
    | inl fits ↦ rw (inside, fits, none (end-parts t start end inside).1) refl
    | inr not ↦ rw (inside, not) refl
  ]
  | inr out ↦ rw out refl
]
