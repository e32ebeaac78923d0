-- A table that grows cell by cell: what is stored after each step.
use Rattle.std.proofs.Common.{◌≡◌, ◌<◌, ◌≤◌, ◌+◌, ◌^◌, ◌∙◌, ◌⊎◌, inl, inr, ℕ, zero, suc, get_or, List, [], ◌∷◌, ◌++◌, take, drop, length, refl, sym, ap, arith, length-append}
use Rattle.std.specs.Prelude.{All, IsSomeAnd, slice_get}
use Rattle.std.proofs.Math.ListN.{set}
use Rattle.std.proofs.Math.Seq.{get_or-append_seam}
use Rattle.std.proofs.lemmas.Bool.{cases_lt}
use Rattle.std.proofs.lemmas.List.{drop-set-lt, drop_more, get_or_append_left, length-set, length-take-le, take_all, take_more_set}
use Rattle.std.proofs.lemmas.List.Elements.{All-append, All-nil, All-cons}
use Rattle.kql_cells.specs.Seen.{value_at}
use Rattle.kql_cells.specs.Table.{CellFits, RowFits}
use Rattle.kql_cells.specs.declared.schema.Column.{Column}
use Rattle.kql_cells.specs.declared.value.Value.{Value}
use Rattle.kql_cells.specs.declared.value.Value.TheVariants as val
use Rattle.kql_values.proofs.GridLaws.{HaveLength-push, row_of-length, row_of-more, rows_of-are, rows_of-at, rows_of-length, rows_of-none}
use Rattle.kql_values.proofs.TableLaws.{fits-HaveLength, fits-length, grid-fits}
use Rattle.kql_values.specs.Grids.{ColumnsFit, HaveLength, row_of, rows_of}
use Rattle.kql_values.specs.Growing.{IsStored}

-- no row and no cell
pub stored-none : (s : List Column) (cs : List (List Value)) → ColumnsFit s 0 cs → IsStored s cs 0 0
unfolding IsStored HaveLength RowFits row_of
stored-none s cs f = (fits-length s 0 cs f, omega arith, omega arith, tt, fits-HaveLength s 0 cs f, rw (rows_of-none cs) (All-nil (RowFits s)), tt)

-- so many cells are open
pub open-length : (s : List Column) (cs : List (List Value)) (n k : ℕ) → IsStored s cs n k → length (row_of (take k cs) n) ≡ k
unfolding IsStored
open-length s cs n k h =
    let low : k ≤ length cs = omega (arith, h.0, h.1) in
    row_of-length (take k cs) n ∙ length-take-le k cs low

pub stored-small : (s : List Column) (cs : List (List Value)) (n k : ℕ) → IsStored s cs n k → n < 2 ^ 63
unfolding IsStored
stored-small s cs n k h = h.2

-- ---- one cell more

within : (s : List Column) (k : ℕ) (P : Column → Type 0) → IsSomeAnd (slice_get s k) P → k < length s
within [] k P h = absurd h
within (c ∷ s) zero P h = omega arith
within (c ∷ s) (suc k) P h = let w = within s k P h in omega arith

-- there is a column for it
pub next-within : (s : List Column) (cs : List (List Value)) (n k : ℕ) (v : Value) → IsStored s cs n k
    → IsSomeAnd (slice_get s (length (row_of (take k cs) n))) (λ c. CellFits c v) → k < length cs
unfolding IsStored
next-within s cs n k v h next =
    let size = open-length s cs n k h in
    let lt = within s (length (row_of (take k cs) n)) (λ c. CellFits c v) next in
    omega (arith, h.0)

fits-next : (s : List Column) (k : ℕ) (row : List Value) (v : Value) → RowFits (take k s) row → IsSomeAnd (slice_get s k) (λ c. CellFits c v) → RowFits (take (suc k) s) (row ++ v ∷ [])
unfolding RowFits
fits-next [] k row v f h = absurd h
fits-next (c ∷ s) zero [] v f h = (h, tt)
fits-next (c ∷ s) zero (w ∷ row) v f h = absurd f
fits-next (c ∷ s) (suc k) [] v f h = absurd f
fits-next (c ∷ s) (suc k) (w ∷ row) v f h = (f.0, fits-next s k row v f.1 h)

-- the rows before it stay
row_of-longer : (cs : List (List Value)) (k i : ℕ) (v : Value) → i < length (get_or cs k []) → row_of (set cs k (get_or cs k [] ++ v ∷ [])) i ≡ row_of cs i
unfolding row_of
row_of-longer [] k i v lt = refl
row_of-longer (c ∷ cs) zero i v lt = rw (get_or_append_left c (v ∷ []) val.Null i lt) refl
row_of-longer (c ∷ cs) (suc k) i v lt = ap (λ l. value_at c i ∷ l) (row_of-longer cs k i v lt)

next-size : (cs : List (List Value)) (n k : ℕ) → k < length cs → HaveLength n (drop k cs) → length (get_or cs k []) ≡ n
unfolding HaveLength
next-size cs n k lt h = (rw (drop_more cs k [] lt) at h).0

last-value : (c : List Value) (n : ℕ) (v : Value) → length c ≡ n → get_or (c ++ v ∷ []) n val.Null ≡ v
last-value c n v e = rw (← e) (get_or-append_seam c v [] val.Null)

HaveLength-rest : (n : ℕ) (c : List Value) (cs : List (List Value)) → HaveLength n (c ∷ cs) → HaveLength n cs
unfolding HaveLength
HaveLength-rest n c cs h = h.1

abbrev Pushed : List Column → List (List Value) → ℕ → ℕ → Value → List (List Value) → Type 0
Pushed s cs n k v new = IsStored s new n (k + 1) × (rows_of n new ≡ rows_of n cs) × (row_of (take (k + 1) new) n ≡ row_of (take k cs) n ++ v ∷ [])

pub stored-push : (s : List Column) (cs new : List (List Value)) (n k : ℕ) (v : Value) → IsStored s cs n k
    → IsSomeAnd (slice_get s (length (row_of (take k cs) n))) (λ c. CellFits c v) → new ≡ set cs k (get_or cs k [] ++ v ∷ []) → Pushed s cs n k v new
unfolding IsStored
stored-push s cs new n k v h next e =
    let lt = next-within s cs n k v h next in
    let held = open-length s cs n k h in
    let size = next-size cs n k lt h.4 in
    let c = get_or cs k [] ++ v ∷ [] in
    let front : take (k + 1) new ≡ take k cs ++ c ∷ [] = rw e (take_more_set cs k c lt) in
    let back : drop (k + 1) new ≡ drop (k + 1) cs = rw e (drop-set-lt (k + 1) cs k c (omega arith)) in
    let rest = (rw (drop_more cs k [] lt) at h.4) in
    let longer : length c ≡ n + 1 = omega (arith, length-append (get_or cs k []) (v ∷ []), size) in
    let rows : rows_of n new ≡ rows_of n cs = rows_of-are n new (rows_of n cs) (rows_of-length n cs) (λ i below.
    let in' : i < length (get_or cs k []) = omega arith in
    rows_of-at n cs i [] below ∙ sym (rw e (row_of-longer cs k i v in'))) in
    let row : row_of (take (k + 1) new) n ≡ row_of (take k cs) n ++ v ∷ [] = rw front (row_of-more (take k cs) n c ∙ ap (λ w. row_of (take k cs) n ++ w ∷ []) (last-value (get_or cs k []) n v size)) in
    let on : k + 1 ≡ suc k = omega arith in
    let fits : RowFits (take (k + 1) s) (row_of (take k cs) n ++ v ∷ []) = rw on (fits-next s k (row_of (take k cs) n) v h.6 (rw held at next)) in
    let many : length new ≡ length cs = rw e (length-set cs k c) in
    ((many ∙ h.0, omega (arith, h.0), h.2, rw front (HaveLength-push (n + 1) (take k cs) c h.3 longer), rw back (HaveLength-rest n (get_or cs k []) (drop (k + 1) cs) rest), rw rows h.5, rw row fits), rows, row)

-- ---- a row more

rows-more : (n : ℕ) (cs : List (List Value)) → rows_of (n + 1) cs ≡ rows_of n cs ++ row_of cs n ∷ []
rows-more n cs =
    let many = rows_of-length n cs in
    let size : length (rows_of n cs ++ row_of cs n ∷ []) ≡ n + 1 = omega (arith, length-append (rows_of n cs) (row_of cs n ∷ [])) in
    rows_of-are (n + 1) cs (rows_of n cs ++ row_of cs n ∷ []) size (λ i lt. at n cs many i lt (cases_lt i n))
  where
    at : (n : ℕ) (cs : List (List Value)) → length (rows_of n cs) ≡ n → (i : ℕ) → i < n + 1 → (i < n) ⊎ (n ≤ i) → get_or (rows_of n cs ++ row_of cs n ∷ []) i [] ≡ row_of cs i
    at n cs many i lt (inl low) = get_or_append_left (rows_of n cs) (row_of cs n ∷ []) [] i (omega arith) ∙ rows_of-at n cs i [] low
    at n cs many i lt (inr high) =
        let same : i ≡ length (rows_of n cs) = omega arith in
        let last : i ≡ n = omega arith in
        rw same (get_or-append_seam (rows_of n cs) (row_of cs n) [] []) ∙ ap (row_of cs) (sym last)

whole : (s : List Column) (cs : List (List Value)) (n k : ℕ) → IsStored s cs n k → length (row_of (take k cs) n) ≡ length s → take k cs ≡ cs
unfolding IsStored
whole s cs n k h full = take_all k cs (omega (arith, open-length s cs n k h, h.0))

whole-schema : (s : List Column) (cs : List (List Value)) (n k : ℕ) → IsStored s cs n k → length (row_of (take k cs) n) ≡ length s → take k s ≡ s
whole-schema s cs n k h full = take_all k s (omega (arith, open-length s cs n k h))

abbrev Ended : List Column → List (List Value) → ℕ → ℕ → Type 0
Ended s cs n k = IsStored s cs (n + 1) 0 × (rows_of (n + 1) cs ≡ rows_of n cs ++ row_of (take k cs) n ∷ []) × (row_of (take 0 cs) (n + 1) ≡ [])

pub none-open : (i : ℕ) → row_of [] i ≡ []
unfolding row_of
none-open i = refl

none-fits : (cs : List Column) → RowFits (take 0 cs) []
unfolding RowFits
none-fits cs = tt

none-long : (n : ℕ) (cs : List (List Value)) → HaveLength n (take 0 cs)
unfolding HaveLength
none-long n cs = tt

pub stored-row : (s : List Column) (cs : List (List Value)) (n k : ℕ) → IsStored s cs n k → length (row_of (take k cs) n) ≡ length s → n + 1 < 2 ^ 63 → Ended s cs n k
unfolding IsStored
stored-row s cs n k h full small =
    let all = whole s cs n k h full in
    let schema = whole-schema s cs n k h full in
    let row : RowFits s (row_of (take k cs) n) = rw schema at h.6 in
    let rows : rows_of (n + 1) cs ≡ rows_of n cs ++ row_of (take k cs) n ∷ [] = rw all (rows-more n cs) in
    let fit = All-append (RowFits s) (rows_of n cs) (row_of (take k cs) n ∷ []) h.5 (All-cons (RowFits s) (row_of (take k cs) n) [] row (All-nil (RowFits s))) in
    let long : HaveLength (n + 1) cs = rw all at h.3 in
    ((h.0, omega arith, small, none-long (n + 1 + 1) cs, long, rw rows fit, rw (none-open (n + 1)) (none-fits s)), rows, none-open (n + 1))

-- ---- the end

none-within : (c : Column) (v : List Value) → length v ≡ 0 → All (CellFits c) v
none-within c [] e = All-nil (CellFits c)
none-within c (w ∷ v) e = cc

none-fit : (s : List Column) (cs : List (List Value)) → HaveLength 0 cs → length cs ≡ length s → ColumnsFit s 0 cs
unfolding ColumnsFit HaveLength
none-fit [] [] h e = tt
none-fit [] (v ∷ cs) h e = cc
none-fit (c ∷ s) [] h e = cc
none-fit (c ∷ s) (v ∷ cs) h e = ((h.0, none-within c v h.0), none-fit s cs h.1 (omega arith))

columns-fit : (s : List Column) (cs : List (List Value)) (n : ℕ) → HaveLength n cs → length cs ≡ length s → All (RowFits s) (rows_of n cs) → ColumnsFit s n cs
columns-fit s cs zero h e f = none-fit s cs h e
columns-fit s cs (suc n) h e f = grid-fits s (suc n) cs (omega arith) h f

pub stored-whole : (s : List Column) (cs : List (List Value)) (n k : ℕ) → IsStored s cs n k → row_of (take k cs) n ≡ [] → ColumnsFit s n cs
unfolding IsStored
stored-whole s cs n k h none =
    let size = open-length s cs n k h in
    let zero : k ≡ 0 = sym size ∙ ap length none in
    let long : HaveLength n (drop 0 cs) = rw zero at h.4 in
    columns-fit s cs n long h.0 h.5

-- a step that failed
pub stored-kept : (s : List Column) (cs new : List (List Value)) (n k : ℕ) → IsStored s cs n k → new ≡ cs → IsStored s new n k
stored-kept s cs new n k h e = rw e h

pub ruleset builder_facts = (stored-none, open-length, stored-small, next-within, stored-kept, rows_of-length, rows_of-none, none-open)
