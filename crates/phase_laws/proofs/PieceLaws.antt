-- What is made of pieces that hold all rows, put together, is what is made of all rows.
use Rattle.std.proofs.Common.{◌≡◌, ◌≤◌, ◌+◌, ◌*◌, ◌-◌, ℕ, zero, suc, List, [], ◌∷◌, ◌++◌, drop, length, map, take, refl, ap, ap₂, sym, ◌∙◌, subst, inl, inr, arith}
use Rattle.std.specs.Prelude.{flat_map, min}
use Rattle.std.specs.List.{range_with_len}
use Rattle.std.proofs.Math.Nat.{min-eq_left, min-eq_right}
use Rattle.std.proofs.lemmas.Bool.{cases_lt}
use Rattle.std.proofs.lemmas.List.{drop-drop, drop_all, length-append, length-drop, nil_from_length, take-append-drop, take_all}
use Rattle.kql_cells.specs.Table.{Grid}
use Rattle.kql_cells.specs.declared.value.Value.{Value}
use Rattle.kql_meaning.specs.LawsOfRows.{ExpandTakesEachRow, ExtendTakesEachRow, ParseTakesEachRow, ProjectTakesEachRow, WhereTakesEachRow}
use Rattle.kql_meaning.specs.RowByRow.{grid_of}
use Rattle.kql_meaning.specs.Tables.{emptied}
use Rattle.phase_laws.specs.LawsOfRuns.{OfPieces}
use Rattle.phase_laws.specs.Pieces.{of_pieces, piece_of, put_together, slice_of}
use Rattle.phase_laws.specs.Runs.{made_of}
use Rattle.phase_laws.proofs.RunLaws.{IsByRow, run_by_row}

-- Of nothing nothing is made.

twice-none : {X : Type 0} (xs : List X) → xs ≡ xs ++ xs → xs ≡ []
twice-none xs e = let n = ap length e ∙ length-append xs xs in nil_from_length xs (omega arith)

abbrev IsByPart : {X Y : Type 0} → (List X → List Y) → Type 0
IsByPart {X} h = (xs ys : List X) → h (xs ++ ys) ≡ h xs ++ h ys

of-none : {X Y : Type 0} (h : List X → List Y) → IsByPart h → h [] ≡ []
of-none h by = twice-none (h []) (by [] [])

-- The first rows of a rest, and what stands behind them.
first-rows : {X : Type 0} (xs : List X) (at n : ℕ) → take (min (length xs) (at + n) - at) (drop at xs) ≡ take n (drop at xs)
first-rows xs at n = elim (cases_lt (at + n) (length xs)) [
  | inl less ↦ let m : min (length xs) (at + n) ≡ at + n = min-eq_right (omega (arith, less)) in
      let k : min (length xs) (at + n) - at ≡ n = ap (λ i. i - at) m ∙ omega arith in
      ap (λ i. take i (drop at xs)) k
  | inr most ↦ let m : min (length xs) (at + n) ≡ length xs = min-eq_left most in
      let long = length-drop at xs in
      ap (λ i. take (i - at) (drop at xs)) m
      ∙ (take_all (length xs - at) (drop at xs) (omega (arith, long)) ∙ sym (take_all n (drop at xs) (omega (arith, long, most))))
]

cut : {X : Type 0} (xs : List X) (at n : ℕ) → drop at xs ≡ take (min (length xs) (at + n) - at) (drop at xs) ++ drop (at + n) xs
cut xs at n = sym (take-append-drop n (drop at xs)) ∙ ap₂ (λ ys zs. ys ++ zs) (sym (first-rows xs at n)) (drop-drop n at xs)

-- From a piece on.
from : {X Y : Type 0} (h : List X → List Y) → IsByPart h → (xs : List X) (n a k : ℕ) → length xs ≤ (a + k) * n → h (drop (a * n) xs) ≡ flat_map (λ p. h (slice_of n xs p)) (range_with_len a k)
from h by xs n a zero le =
    let all : length xs ≤ a * n = subst (λ (i : ℕ). length xs ≤ i * n) (omega arith) le in
    ap h (drop_all (a * n) xs all) ∙ of-none h by
from h by xs n a (suc k) le =
    let next : a * n + n ≡ (a + 1) * n = omega arith in
    let rest : length xs ≤ ((a + 1) + k) * n = subst (λ (i : ℕ). length xs ≤ i * n) (omega arith) le in
    ap h (cut xs (a * n) n)
    ∙ (by (slice_of n xs a) (drop (a * n + n) xs)
    ∙ ap (λ ys. h (slice_of n xs a) ++ ys) (ap (λ (i : ℕ). h (drop i xs)) next ∙ from h by xs n (a + 1) k rest))

-- What is made of a list, part by part, is what is made of pieces that hold all of it, one after another: of the rows of a table, of the rows that
-- lead a join, or of the rows that an operator fills range by range.
pub of_pieces_of_list : {X Y : Type 0} (h : List X → List Y) → ((xs ys : List X) → h (xs ++ ys) ≡ h xs ++ h ys) → (xs : List X) (n pieces : ℕ) → length xs ≤ pieces * n → h xs ≡ flat_map (λ piece. h (slice_of n xs piece)) (range_with_len 0 pieces)
of_pieces_of_list h by xs n k le =
    let none : 0 ≡ 0 * n = omega arith in
    let all : length xs ≤ (0 + k) * n = subst (λ (i : ℕ). length xs ≤ i * n) (omega arith) le in
    ap (λ (i : ℕ). h (drop i xs)) none ∙ from h by xs n 0 k all

-- Tables.

flat-mapped : {X Y Z : Type 0} (f : Y → List Z) (g : X → Y) (xs : List X) → flat_map f (map g xs) ≡ flat_map (λ x. f (g x)) xs
flat-mapped f g [] = refl
flat-mapped f g (x ∷ xs) = ap (λ zs. f (g x) ++ zs) (flat-mapped f g xs)

pub whole : (f : Grid → Grid) → IsByRow f → (t : Grid) (n k : ℕ) → length t.lines ≤ k * n → f t ≡ put_together (f (emptied t)) (of_pieces f n t k)
unfolding put_together of_pieces emptied piece_of
whole f by t n k le =
    let h = λ (xs : List (List Value)). (f (grid_of t.columns xs)).lines in
    let parts = by.rows t.columns in
    ap₂ grid_of
    (by.columns t (grid_of t.columns []) refl)
    (of_pieces_of_list h parts t.lines n k le
    ∙ (sym (flat-mapped (λ (u : Grid). u.lines) (λ p. f (piece_of n t p)) (range_with_len 0 k))
    ∙ ap (λ (xs : List (List Value)). xs ++ flat_map (λ (u : Grid). u.lines) (map (λ p. f (piece_of n t p)) (range_with_len 0 k))) (sym (of-none h parts))))

module _ (kept : WhereTakesEachRow) (extended : ExtendTakesEachRow) (projected : ProjectTakesEachRow) (expanded : ExpandTakesEachRow) (parsed : ParseTakesEachRow) where
  pub of_pieces_all : OfPieces
  of_pieces_all ops w t rows pieces r le = whole (made_of ops w) (run_by_row kept extended projected expanded parsed ops w r) t rows pieces le
