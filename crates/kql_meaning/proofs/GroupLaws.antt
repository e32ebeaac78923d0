-- The keys of groups, and where a run begins.
use Rattle.std.proofs.Common.{◌≡◌, ◌≢◌, ◌<◌, ◌≤◌, ◌+◌, ◌-◌, ◌&&◌, ℕ, zero, suc, Bool, true, false, not, List, [], ◌∷◌, map, length, filter, refl, sym, subst, ap, ap₂, ◌∙◌, arith, inl, inr}
use Rattle.std.specs.Prelude.{Contains}
use Rattle.std.specs.Bool.{Decides}
use Rattle.std.specs.List.{AllByRecursion, list_any, range_with_len}
use Rattle.std.proofs.Math.Nat.{eq-or-lt_of_le}
use Rattle.std.proofs.lemmas.Bool.{cases_Bool}
use Rattle.kql_cells.specs.declared.value.Value.{Value}
use Rattle.kql_meaning.specs.Groups.{distinct_keys, group_of, is_first_of_key}
use Rattle.kql_meaning.specs.LawsOfGroups.{GroupHasItsRows, GroupIsOfPlaces, GroupKeepsOrder, KeysAreOfRows, KeysByFirstRow, KeysDiffer, RowInOneGroup, RunBegins}
use Rattle.kql_meaning.specs.Tables.{distinct_by, places, places_below}
use Rattle.kql_meaning.specs.Values.{same_keys}
use Rattle.kql_meaning.specs.Windows.{last_where}
use Rattle.kql_cells.specs.Keys.{same_keys-decides}
use Rattle.kql_meaning.proofs.ListLaws.{every-range}
use Rattle.kql_meaning.proofs.MemberLaws.{Member, contains-member, every-of-members, member-contains, member-filter, member-map, member-of-filter, member-of-map, member-of-range, member-range, Pairwise, pairs-of, pairwise-filter, pairwise-range}

-- The first of each kind, where a test decides whether two elements have the same of something.
module _ {X Y : Type 0} (of : X → Y) (same : X → X → Bool) (decides : (x y : X) → Decides (same x y) (of x ≡ of y)) where
  pub distinct-differ : (xs : List X) → Pairwise (λ x y. of x ≢ of y) (distinct_by same xs)
  unfolding distinct_by
  distinct-differ [] = tt
  distinct-differ (x ∷ xs) = (
    every-of-members (λ y. of x ≢ of y) (filter (λ y. not (same x y)) (distinct_by same xs)) (λ y m e. let q = member-of-filter (λ z. not (same x z)) (distinct_by same xs) y m in let t : not (same x y) ≡ false = ap not ((decides x y).1 e) in let c : false ≡ true = sym t ∙ q.1 in cc),
    pairwise-filter (λ y z. of y ≢ of z) (λ y. not (same x y)) (distinct_by same xs) (distinct-differ xs),
  )

  pub in-distinct : (xs : List X) (z : X) → Member z xs → (w : X) × Member w (distinct_by same xs) × (of w ≡ of z)
  unfolding distinct_by
  in-distinct [] z m = absurd m
  in-distinct (x ∷ xs) z (inl e) = (x, inl refl, ap of e)
  in-distinct (x ∷ xs) z (inr m) =
      let q = in-distinct xs z m in
      elim (cases_Bool (same x q.0)) [
        | inl t ↦ (x, inl refl, (decides x q.0).0 t ∙ q.2)
        | inr n ↦ (q.0, inr (member-filter (λ y. not (same x y)) (distinct_by same xs) q.0 q.1 (ap not n)), q.2)
      ]

  pub of-distinct : (xs : List X) (z : X) → Member z (distinct_by same xs) → Member z xs
  unfolding distinct_by
  of-distinct [] z m = absurd m
  of-distinct (x ∷ xs) z (inl e) = inl e
  of-distinct (x ∷ xs) z (inr m) = inr (of-distinct xs z (member-of-filter (λ y. not (same x y)) (distinct_by same xs) z m).0)

abbrev itself : List Value → List Value
itself k = k

pub keys_differ : KeysDiffer
unfolding distinct_keys
keys_differ key t = pairs-of (λ k l. k ≢ l) (distinct_by same_keys (map key (places t))) (distinct-differ itself same_keys same_keys-decides (map key (places t)))

key-among : (key : ℕ → List Value) (n i : ℕ) → i < n → Contains (distinct_by same_keys (map key (range_with_len 0 n))) (key i)
key-among key n i lt =
    let rows = range_with_len 0 n in
    let q = in-distinct itself same_keys same_keys-decides (map key rows) (key i) (member-map key rows i (member-range 0 n i (omega arith) (omega arith))) in
    contains-member (distinct_by same_keys (map key rows)) (key i) (subst (λ k. Member k (distinct_by same_keys (map key rows))) q.2 q.1)

pub keys_are_of_rows : KeysAreOfRows
unfolding distinct_keys places places_below
keys_are_of_rows key t =
    let rows = range_with_len 0 (length t.lines) in (
      λ i lt. key-among key (length t.lines) i lt,
      λ k c.
          let m = of-distinct itself same_keys same_keys-decides (map key rows) k (member-contains (distinct_by same_keys (map key rows)) k c) in
          let q = member-of-map key rows k m in
          let r = member-of-range 0 (length t.lines) q.0 q.1 in
          (q.0, omega (arith, r.1), q.2),
    )

-- Whether no row from a on and before i has the key of row i.
abbrev first_since : (ℕ → List Value) → ℕ → ℕ → Bool
first_since key a i = not (list_any (λ j. same_keys (key j) (key i)) (range_with_len a (i - a)))

since-next : (key : ℕ → List Value) (a i : ℕ) → a + 1 ≤ i → first_since key a i ≡ (not (same_keys (key a) (key i)) && first_since key (a + 1) i)
since-next key a i le =
    let e : i - a ≡ suc (i - (a + 1)) = omega arith in
    rw e (elim (cases_Bool (same_keys (key a) (key i))) [ inl t ↦ rw t refl | inr n ↦ rw n refl ])

since-itself : (key : ℕ → List Value) (a : ℕ) → first_since key a a ≡ true
since-itself key a = let e : a - a ≡ 0 = omega arith in rw e refl

-- The keys of the rows that are first from the next row on, without that of row a, are those of the rows that are first from a on.
kept-since : (key : ℕ → List Value) (a : ℕ) (is : List ℕ) → AllByRecursion (λ i. a + 1 ≤ i) is → filter (λ k. not (same_keys (key a) k)) (map key (filter (first_since key (a + 1)) is)) ≡ map key (filter (first_since key a) is)
kept-since key a [] h = refl
kept-since key a (i ∷ is) h =
    let e = since-next key a i h.0 in
    let rest = kept-since key a is h.1 in
    elim (cases_Bool (first_since key (a + 1) i)) [
      | inl t ↦ elim (cases_Bool (not (same_keys (key a) (key i)))) [
        | inl u ↦ let f : first_since key a i ≡ true = e ∙ ap₂ (λ b c. b && c) u t in rw (t, f, u, rest) refl
        | inr v ↦ let f : first_since key a i ≡ false = e ∙ ap₂ (λ b c. b && c) v t in rw (t, f, v) rest
      ]
      | inr n ↦
          let f : first_since key a i ≡ false = e ∙ (ap (λ c. not (same_keys (key a) (key i)) && c) n ∙ and-no (not (same_keys (key a) (key i)))) in
          rw (n, f) rest
    ]
  where
    and-no : (b : Bool) → (b && false) ≡ false
    and-no true = refl
    and-no false = refl

distinct-first : (key : ℕ → List Value) (a n : ℕ) → distinct_by same_keys (map key (range_with_len a n)) ≡ map key (filter (first_since key a) (range_with_len a n))
unfolding distinct_by
distinct-first key a zero = refl
distinct-first key a (suc n) =
    rw (since-itself key a)
    (ap (λ ks. key a ∷ ks)
    (ap (filter (λ k. not (same_keys (key a) k))) (distinct-first key (a + 1) n)
    ∙ kept-since key a (range_with_len (a + 1) n) (every-range (λ i. a + 1 ≤ i) (a + 1) n (λ i low high. low))))

filter-same : (p q : ℕ → Bool) (is : List ℕ) → ((i : ℕ) → p i ≡ q i) → filter p is ≡ filter q is
filter-same p q [] h = refl
filter-same p q (i ∷ is) h = elim (cases_Bool (q i)) [
  | inl t ↦ let s : p i ≡ true = h i ∙ t in rw (s, t, filter-same p q is h) refl
  | inr n ↦ let s : p i ≡ false = h i ∙ n in rw (s, n) (filter-same p q is h)
]

since-start : (key : ℕ → List Value) (i : ℕ) → first_since key 0 i ≡ is_first_of_key key i
unfolding is_first_of_key places_below
since-start key i = let e : i - 0 ≡ i = omega arith in rw e refl

pub keys_by_first_row : KeysByFirstRow
unfolding distinct_keys places places_below
keys_by_first_row key t = distinct-first key 0 (length t.lines) ∙ ap (λ is. map key is) (filter-same (first_since key 0) (is_first_of_key key) (range_with_len 0 (length t.lines)) (since-start key))

-- Groups.

pub group_is_of_places : GroupIsOfPlaces
unfolding group_of
group_is_of_places key t k = refl

pub group_has_its_rows : GroupHasItsRows
unfolding places places_below
group_has_its_rows key t k i =
    let rows = range_with_len 0 (length t.lines) in
    let p = λ (j : ℕ). same_keys (key j) k in (
      λ c.
          let m = member-of-filter p rows i (member-contains (filter p rows) i c) in
          let r = member-of-range 0 (length t.lines) i m.0 in
          (omega (arith, r.1), (same_keys-decides (key i) k).0 m.1),
      λ h. contains-member (filter p rows) i (member-filter p rows i (member-range 0 (length t.lines) i (omega arith) (omega (arith, h.0))) ((same_keys-decides (key i) k).1 h.1)),
    )

pub group_keeps_order : GroupKeepsOrder
unfolding places places_below
group_keeps_order key t k =
    let rows = range_with_len 0 (length t.lines) in
    let p = λ (j : ℕ). same_keys (key j) k in
    pairs-of (λ i j. i < j) (filter p rows) (pairwise-filter (λ i j. i < j) p rows (pairwise-range 0 (length t.lines)))

pub row_in_one_group : RowInOneGroup
row_in_one_group key t i lt =
    (key i, (keys_are_of_rows key t).0 i lt, (group_has_its_rows key t (key i) i).1 (lt, refl), λ l c. sym ((group_has_its_rows key t l i).0 c).1)

pub run_begins : RunBegins
unfolding last_where
run_begins test zero = (omega arith, λ j low high. absurd (omega arith), λ some. absurd (omega arith))
run_begins test (suc i) = elim (cases_Bool (test (suc i))) [
  | inl t ↦ rw t (omega arith, λ j low high. absurd (omega arith), λ some. t)
  | inr n ↦
      let before = run_begins test i in
      rw n (omega (arith, before.0), λ j low high. elim (eq-or-lt_of_le high) [ inl e ↦ rw e n | inr l ↦ before.1 j low (omega (arith, l)) ], before.2)
]

pub ruleset group_laws = (keys_differ, keys_are_of_rows, keys_by_first_row, group_is_of_places, group_has_its_rows, group_keeps_order, row_in_one_group, run_begins)
