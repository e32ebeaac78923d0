-- The rows of a group in a bin are those of one key: the bin and the group's.
use Rattle.std.proofs.Common.{◌≡◌, ◌<◌, Bool, true, false, List, [], ◌∷◌, ℕ, zero, suc, ℤ, filter, map, refl, ap, sym, ◌∙◌, subst, inl, inr, length, arith}
use Rattle.std.specs.Prelude.{◌&&◌, Contains, slice_index_or}
use Rattle.std.specs.List.{AllByRecursion, range_with_len}
use Rattle.std.proofs.lemmas.Bool.{cases_Bool}
use Rattle.kql_cells.specs.Keys.{same_key, same_keys}
use Rattle.kql_cells.specs.Seen.{row_at}
use Rattle.kql_cells.specs.Table.{Grid, gathered}
use Rattle.kql_cells.specs.declared.value.Value.{Value}
use Rattle.kql_bound.specs.declared.parts.SeriesPlan.{SeriesPlan}
use Rattle.kql_meaning.specs.Groups.{distinct_keys, group_of}
use Rattle.kql_meaning.specs.MakeSeries.{falls_in, rows_in_bin}
use Rattle.kql_meaning.specs.Tables.{cell, places, places_below}
use Rattle.kql_meaning.specs.Values.{number_of}
use Rattle.kql_meaning.proofs.GroupLaws.{group_has_its_rows, keys_are_of_rows}
use Rattle.kql_meaning.proofs.ListLaws.{every-range}
use Rattle.kql_meaning.proofs.MemberLaws.{Member, contains-member, member-contains}
use Rattle.kql_meaning.proofs.RowByRowLaws.{cell-alone}
use Rattle.kql_row_laws.proofs.GatheredLaws.{where-each}

-- A filter of a filter.

and-no : (b : Bool) → (b && false) ≡ false
and-no true = refl
and-no false = refl

filter-twice : (p q : ℕ → Bool) (is : List ℕ) → filter p (filter q is) ≡ filter (λ i. p i && q i) is
filter-twice p q [] = refl
filter-twice p q (i ∷ is) = elim (cases_Bool (q i)) [
  | inl t ↦ elim (cases_Bool (p i)) [
    | inl s ↦ rw (t, s) (ap (λ js. i ∷ js) (filter-twice p q is))
    | inr n ↦ rw (t, n) (filter-twice p q is)
  ]
  | inr n ↦ rw (n, and-no (p i)) (filter-twice p q is)
]

pub filter-each : (p q : ℕ → Bool) (is : List ℕ) → AllByRecursion (λ i. p i ≡ q i) is → filter p is ≡ filter q is
filter-each p q [] h = refl
filter-each p q (i ∷ is) h = elim (cases_Bool (q i)) [
  | inl t ↦ let s : p i ≡ true = h.0 ∙ t in rw (s, t) (ap (λ js. i ∷ js) (filter-each p q is h.1))
  | inr n ↦ let s : p i ≡ false = h.0 ∙ n in rw (s, n) (filter-each p q is h.1)
]

-- Rows that are gathered.

row-of-map : (lines : List (List Value)) (rows : List ℕ) (k : ℕ) → k < length rows → row_at (map (row_at lines) rows) k ≡ row_at lines (slice_index_or rows k 0)
row-of-map lines [] k lt = absurd (omega arith)
row-of-map lines (r ∷ rs) zero lt = refl
row-of-map lines (r ∷ rs) (suc k) lt = row-of-map lines rs k (omega (arith, lt))

cell-of-gathered : (t : Grid) (rows : List ℕ) (k : ℕ) (n : List ℕ) → k < length rows → cell (gathered t rows) k n ≡ cell t (slice_index_or rows k 0) n
cell-of-gathered t rows k n lt =
    cell-alone (gathered t rows) k n
    ∙ (ap (λ (line : List Value). cell (record { columns = t.columns; lines = line ∷ [] }) 0 n) (row-of-map t.lines rows k lt)
    ∙ sym (cell-alone t (slice_index_or rows k 0) n))

length-rows : (lines : List (List Value)) (rs : List ℕ) → length (map (row_at lines) rs) ≡ length rs
length-rows lines [] = refl
length-rows lines (r ∷ rs) = ap suc (length-rows lines rs)

places-gathered : (t : Grid) (rows : List ℕ) → places (gathered t rows) ≡ range_with_len 0 (length rows)
unfolding places places_below
places-gathered t rows = ap (range_with_len 0) (length-rows t.lines rows)

-- The rows in a bin of rows that are gathered.
bin-of-gathered : (p : SeriesPlan) (t : Grid) (rows : List ℕ) (b : ℤ) → rows_in_bin p (gathered t rows) b ≡ gathered t (filter (λ i. falls_in p b (number_of (cell t i p.axis))) rows)
unfolding rows_in_bin
bin-of-gathered p t rows b =
    let f = λ (k : ℕ). falls_in p b (number_of (cell (gathered t rows) k p.axis)) in
    let g = λ (i : ℕ). falls_in p b (number_of (cell t i p.axis)) in
    let lines : map (row_at (map (row_at t.lines) rows)) (filter f (places (gathered t rows))) ≡ map (row_at t.lines) (filter g rows) =
    ap (λ ks. map (row_at (map (row_at t.lines) rows)) (filter f ks)) (places-gathered t rows)
    ∙ where-each f g (row_at (map (row_at t.lines) rows)) (row_at t.lines) rows
    (λ k lt. ap (λ (v : Value). falls_in p b (number_of v)) (cell-of-gathered t rows k p.axis lt))
    (λ k lt. row-of-map t.lines rows k lt) in
    ap (λ (ls : List (List Value)). record { columns = t.columns; lines = ls }) lines

-- The key of a row with a value before it.
abbrev pub with_start : (ℕ → Value) → (ℕ → List Value) → ℕ → List Value
with_start start key i = start i ∷ key i

same-both : (v w : Value) (vs ws : List Value) → same_keys (v ∷ vs) (w ∷ ws) ≡ (same_key v w && same_keys vs ws)
unfolding same_keys
same-both v w vs ws = refl

inside-all : (t : Grid) (P : ℕ → Type 0) → ((i : ℕ) → i < length t.lines → P i) → AllByRecursion P (places t)
unfolding places places_below
inside-all t P h = every-range P 0 (length t.lines) (λ i low high. h i (omega (arith, high)))

pub bin-rows : (p : SeriesPlan) (t : Grid) (start : ℕ → Value) (key : ℕ → List Value) (b : ℤ) (v : Value) (k : List Value) → ((i : ℕ) → i < length t.lines → same_key (start i) v ≡ falls_in p b (number_of (cell t i p.axis))) → rows_in_bin p (group_of key t k) b ≡ group_of (with_start start key) t (v ∷ k)
unfolding group_of
bin-rows p t start key b v k h =
    bin-of-gathered p t (filter (λ i. same_keys (key i) k) (places t)) b
    ∙ ap (gathered t)
    (filter-twice (λ i. falls_in p b (number_of (cell t i p.axis))) (λ i. same_keys (key i) k) (places t)
    ∙ filter-each (λ i. falls_in p b (number_of (cell t i p.axis)) && same_keys (key i) k) (λ i. same_keys (start i ∷ key i) (v ∷ k)) (places t)
    (inside-all t (λ i. (falls_in p b (number_of (cell t i p.axis)) && same_keys (key i) k) ≡ same_keys (start i ∷ key i) (v ∷ k))
    (λ i lt. ap (λ c. c && same_keys (key i) k) (sym (h i lt)) ∙ sym (same-both (start i) v (key i) k))))

-- A group has rows exactly where its key is one of the table's.

some-lines : (t : Grid) (rows : List ℕ) (i : ℕ) → Member i rows → (n : ℕ) × (length (map (row_at t.lines) rows) ≡ suc n)
some-lines t [] i m = absurd m
some-lines t (r ∷ rs) i m = (length (map (row_at t.lines) rs), refl)

no-lines : (t : Grid) (rows : List ℕ) → ((i : ℕ) → Member i rows → ⊥) → length (map (row_at t.lines) rows) ≡ 0
no-lines t [] h = refl
no-lines t (r ∷ rs) h = absurd (h r (inl refl))

pub group-some : (key : ℕ → List Value) (t : Grid) (k : List Value) → Contains (distinct_keys key t) k → (n : ℕ) × (length (group_of key t k).lines ≡ suc n)
unfolding group_of
group-some key t k c =
    let q = (keys_are_of_rows key t).1 k c in
    let m = (group_has_its_rows key t k q.0).1 (q.1, q.2) in
    some-lines t (filter (λ i. same_keys (key i) k) (places t)) q.0 (member-contains (filter (λ i. same_keys (key i) k) (places t)) q.0 m)

pub group-none : (key : ℕ → List Value) (t : Grid) (k : List Value) → (Contains (distinct_keys key t) k → ⊥) → length (group_of key t k).lines ≡ 0
unfolding group_of
group-none key t k none =
    no-lines t (filter (λ i. same_keys (key i) k) (places t))
    (λ i m.
    let c = contains-member (filter (λ i. same_keys (key i) k) (places t)) i m in
    let r = (group_has_its_rows key t k i).0 c in
    none (subst (Contains (distinct_keys key t)) r.1 ((keys_are_of_rows key t).0 i r.0)))
