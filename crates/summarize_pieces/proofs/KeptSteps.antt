-- What is kept of the groups of a piece, and of two groups together.
use Rattle.std.proofs.Common.{◌≡◌, ◌<◌, ◌≤◌, ◌+◌, ◌==◌, ◌++◌, ℕ, zero, suc, Bool, true, false, List, [], ◌∷◌, drop, get_or, length, map, reverse, refl, ap, ap₂, sym, ◌∙◌, subst, inl, inr, arith}
use Rattle.std.specs.Prelude.{All, None, Option, Some, nat_lt, slice_get, slice_index_or}
use Rattle.std.specs.List.{AllByRecursion, range_with_len}
use Rattle.std.proofs.lemmas.Bool.{cases_Bool}
use Rattle.std.proofs.lemmas.Bool.Decides.{nat_tests}
use Rattle.std.proofs.lemmas.List.{drop_more, reverse-append, reverse-reverse}
use Rattle.std.proofs.lemmas.List.Elements.{All-from_recursion}
use Rattle.std.proofs.lemmas.List.FromFn.{get_or-map-range_with_len, length-map-range_with_len, map-range_with_len_more}
use Rattle.kql_cells.specs.declared.value.Value.{Value}
use Rattle.kql_values.specs.Grids.{HaveLength, row_of}
use Rattle.kql_keys.specs.Numbers.{places_from}
use Rattle.kql_keys.specs.Places.{places_by, places_of}
use Rattle.agg_folds.specs.Folds.{chosen_row}
use Rattle.agg_folds.specs.States.{Kept, fold_of, place_in, with_fold}
use Rattle.agg_folds.proofs.RowLaws.{place-of-fold}
use Rattle.summarize_op.specs.Passes.{folds_of, group_args}
use Rattle.summarize_pieces.specs.Joined.{with_kept}
use Rattle.summarize_pieces.specs.Pieces.{Called, GroupKept, cells_of, group_of, group_state, group_states, numbers_read}
use Rattle.summarize_pieces.proofs.PassSteps.{folds-many, place-inside}

-- Two groups together.

pub from-second : (a b x : GroupKept) (place count : ℕ) → x.kept ≡ with_fold a.kept b.kept → x.further ≡ b.further → place ≡ place_in (with_fold a.kept b.kept).state → count ≡ a.kept.count → count ≤ place → x ≡ with_kept a b
unfolding with_kept
from-second a b x place count kept further at size le =
    let t : nat_lt (place_in (with_fold a.kept b.kept).state) a.kept.count ≡ false = grind (arith, nat_tests) in
    ap₂ (λ (k : Kept) (vs : List Value). record { kept = k; further = vs }) kept further ∙ rw t refl

pub from-first : (a b x : GroupKept) (place count : ℕ) → x.kept ≡ with_fold a.kept b.kept → x.further ≡ a.further → place ≡ place_in (with_fold a.kept b.kept).state → count ≡ a.kept.count → place < count → x ≡ with_kept a b
unfolding with_kept
from-first a b x place count kept further at size lt =
    let t : nat_lt (place_in (with_fold a.kept b.kept).state) a.kept.count ≡ true = grind (arith, nat_tests) in
    ap₂ (λ (k : Kept) (vs : List Value). record { kept = k; further = vs }) kept further ∙ rw t refl

pub ruleset join_steps = (from-second, from-first)

-- What columns have at a row that stands at a place of a list.

pub cells-there : (columns : List (List Value)) (rows : List ℕ) (at : ℕ) → at < length rows → cells_of columns (slice_get rows at) ≡ row_of columns (get_or rows at 0)
unfolding cells_of
cells-there columns [] at lt = absurd (omega (arith, lt))
cells-there columns (r ∷ rows) zero lt = refl
cells-there columns (r ∷ rows) (suc at) lt = cells-there columns rows at (omega (arith, lt))

pub cells-gone : (columns : List (List Value)) (rows : List ℕ) (at : ℕ) → length rows ≤ at → cells_of columns (slice_get rows at) ≡ []
unfolding cells_of
cells-gone columns [] at le = refl
cells-gone columns (r ∷ rows) zero le = absurd (omega (arith, le))
cells-gone columns (r ∷ rows) (suc at) le = cells-gone columns rows at (omega (arith, le))

pub ruleset cell_steps = (cells-there, cells-gone)

-- The rows of a number.

abbrev Inside : List (List Value) → ℕ → Type 0
Inside columns i = All (λ (v : List Value). i < length v) columns

from-inside : (columns : List (List Value)) (m : ℕ) (p : ℕ → Bool) (ns : List ℕ) (a : ℕ) → HaveLength m columns → a + length ns ≤ m → AllByRecursion (Inside columns) (places_from a p ns)
from-inside columns m p [] a h le = tt
from-inside columns m p (n ∷ ns) a h le =
    let rest = from-inside columns m p ns (suc a) h (omega (arith, le)) in
    elim (cases_Bool (p n)) [
      | inl t ↦ rw t (place-inside columns m a h (omega (arith, le)), rest)
      | inr f ↦ rw f rest
    ]

places-inside : (columns : List (List Value)) (ns : List ℕ) (g : ℕ) → HaveLength (length ns) columns → All (Inside columns) (places_of ns g)
unfolding places_of
places-inside columns ns g h = All-from_recursion (Inside columns) (places_of ns g) (from-inside columns (length ns) (λ x. x == g) ns 0 h (omega arith))

no-places : (columns : List (List Value)) (g : ℕ) → All (Inside columns) (places_of [] g)
unfolding places_of
no-places columns g = λ k d lt. absurd (omega (arith, lt))

read-inside : (columns : List (List Value)) (ns : List ℕ) (g : ℕ) → HaveLength (length ns) columns → All (Inside columns) (places_of (numbers_read columns ns) g)
unfolding numbers_read
read-inside [] ns g h = no-places [] g
read-inside (v ∷ columns) ns g h = places-inside (v ∷ columns) ns g h

list-is : (ns list : List ℕ) (lists : List (List ℕ)) (g count : ℕ) → g < count → lists ≡ places_by ns count → list ≡ slice_index_or lists g [] → list ≡ places_of ns g
unfolding places_by
list-is ns list lists g count lt all is = is ∙ (ap (λ (xs : List (List ℕ)). slice_index_or xs g []) all ∙ get_or-map-range_with_len (places_of ns) 0 count g g [] lt (omega arith))

pub rows-inside : (c : Called) (columns : List (List Value)) (ns read list : List ℕ) (lists : List (List ℕ)) (g count : ℕ) → HaveLength (length ns) c.further → columns ≡ c.further → g < count → read ≡ numbers_read columns ns → lists ≡ places_by read count → list ≡ slice_index_or lists g [] → All (Inside columns) list
rows-inside c columns ns read list lists g count h own lt er all is =
    subst (All (Inside columns)) (sym (list-is read list lists g count lt all is ∙ ap (λ (xs : List ℕ). places_of xs g) er)) (read-inside columns ns g (subst (HaveLength (length ns)) (sym own) h))

pub lists-many : (ns : List ℕ) (count : ℕ) (lists : List (List ℕ)) → lists ≡ places_by ns count → length lists ≡ count
unfolding places_by
lists-many ns count lists is = ap (λ (xs : List (List ℕ)). length xs) is ∙ length-map-range_with_len (places_of ns) 0 count

none-read : (columns : List (List Value)) (ns : List ℕ) (count : ℕ) → All (λ n. n < count) ns → All (λ n. n < count) (numbers_read columns ns)
unfolding numbers_read
none-read [] ns count h = λ k d lt. absurd (omega (arith, lt))
none-read (v ∷ columns) ns count h = h

pub read-below : (columns : List (List Value)) (ns read : List ℕ) (count : ℕ) → All (λ n. n < count) ns → read ≡ numbers_read columns ns → All (λ n. n < count) read
read-below columns ns read count h is = subst (All (λ n. n < count)) (sym is) (none-read columns ns count h)

no-cells : (o : Option ℕ) → cells_of [] o ≡ []
unfolding cells_of row_of
no-cells None = refl
no-cells (Some i) = refl

cells-read : (columns : List (List Value)) (ns : List ℕ) (g at : ℕ) → cells_of columns (slice_get (places_of (numbers_read columns ns) g) at) ≡ cells_of columns (slice_get (places_of ns g) at)
unfolding numbers_read
cells-read [] ns g at = no-cells (slice_get (places_of [] g) at) ∙ sym (no-cells (slice_get (places_of ns g) at))
cells-read (v ∷ columns) ns g at = refl

pub numbers-none : (columns : List (List Value)) (ns : List ℕ) → length columns ≤ 0 → [] ≡ numbers_read columns ns
unfolding numbers_read
numbers-none [] ns le = refl
numbers-none (v ∷ columns) ns le = absurd (omega (arith, le))

pub numbers-all : (columns : List (List Value)) (ns : List ℕ) → 0 < length columns → ns ≡ numbers_read columns ns
unfolding numbers_read
numbers-all [] ns lt = absurd (omega (arith, lt))
numbers-all (v ∷ columns) ns lt = refl

pub ruleset read_steps = (numbers-none, numbers-all)

-- One group after another.

pub record Grouping (c : Called) (ns : List ℕ) (count g : ℕ) (made : List GroupKept) (left : List Kept) : Type 0 where
  pub done : made ≡ map (group_state c ns) (range_with_len 0 g)
  pub rest : reverse left ≡ drop g (folds_of c.call c.columns ns count)

pub grouping-start : (c : Called) (ns : List ℕ) (count : ℕ) (made : List GroupKept) (folds left : List Kept) → folds ≡ folds_of c.call c.columns ns count → left ≡ reverse folds → made ≡ [] → Grouping c ns count 0 made left
grouping-start c ns count made folds left is turned none = record {
  done = none;
  rest = ap (λ (ks : List Kept). reverse ks) turned ∙ (reverse-reverse folds ∙ is);
}

fold-here : (c : Called) (ns : List ℕ) (count g : ℕ) (fold : Kept) (left : List Kept) → g < count → fold ∷ reverse left ≡ drop g (folds_of c.call c.columns ns count) → (fold ≡ fold_of c.call (group_args c.columns ns g)) × (reverse left ≡ drop (g + 1) (folds_of c.call c.columns ns count))
unfolding folds_of
fold-here c ns count g fold left lt is =
    let all = folds_of c.call c.columns ns count in
    let size : length all ≡ count = folds-many c.call c.columns ns count all refl in
    let next : drop g all ≡ get_or all g fold ∷ drop (g + 1) all = drop_more all g fold (omega (arith, size, lt)) in
    let same : fold ∷ reverse left ≡ get_or all g fold ∷ drop (g + 1) all = is ∙ next in
    let first : fold ≡ get_or all g fold = cc in
    let others : reverse left ≡ drop (g + 1) all = cc in
    (first ∙ get_or-map-range_with_len (λ g. fold_of c.call (group_args c.columns ns g)) 0 count g g fold lt (omega arith), others)

state-is : (c : Called) (columns : List (List Value)) (ns read list : List ℕ) (lists : List (List ℕ)) (count g : ℕ) (fold : Kept) → g < count → fold ≡ fold_of c.call (group_args c.columns ns g) → columns ≡ c.further → read ≡ numbers_read columns ns → lists ≡ places_by read count → list ≡ slice_index_or lists g [] → group_of columns list fold ≡ group_state c ns g
unfolding group_state group_of
state-is c columns ns read list lists count g fold lt is own er all at =
    let rows = group_args c.columns ns g in
    let place : place_in fold.state ≡ chosen_row c.call rows = place-of-fold c.call rows fold is in
    let listed : list ≡ places_of (numbers_read columns ns) g = list-is read list lists g count lt all at ∙ ap (λ (xs : List ℕ). places_of xs g) er in
    ap₂ (λ (k : Kept) (vs : List Value). record { kept = k; further = vs }) is
    (ap₂ (λ (xs : List ℕ) n. cells_of columns (slice_get xs n)) listed place
    ∙ (cells-read columns ns g (chosen_row c.call rows)
    ∙ ap (λ (cols : List (List Value)). cells_of cols (slice_get (places_of ns g) (chosen_row c.call rows))) own))

pub grouping-next : (c : Called) (columns : List (List Value)) (ns read list : List ℕ) (lists : List (List ℕ)) (count g : ℕ) (old new : List GroupKept) (before left : List Kept) (fold : Kept) → Grouping c ns count g old before → g < count → columns ≡ c.further → read ≡ numbers_read columns ns → lists ≡ places_by read count → list ≡ slice_index_or lists g [] → before ≡ left ++ fold ∷ [] → new ≡ old ++ group_of columns list fold ∷ [] → Grouping c ns count (g + 1) new left
grouping-next c columns ns read list lists count g old new before left fold h lt own er all at el after =
    let turned : reverse before ≡ fold ∷ reverse left = ap (λ (ks : List Kept). reverse ks) el ∙ reverse-append left (fold ∷ []) in
    let q = fold-here c ns count g fold left lt (sym turned ∙ h.rest) in
    record {
      done = after ∙ (ap₂ (λ (xs : List GroupKept) (x : GroupKept). xs ++ x ∷ []) h.done (state-is c columns ns read list lists count g fold lt q.0 own er all at) ∙ sym (map-range_with_len_more (group_state c ns) 0 g g (omega arith)));
      rest = q.1;
    }

drop-some : (ks : List Kept) (g : ℕ) → g < length ks → drop g ks ≡ [] → ⊥
drop-some [] g lt e = omega (arith, lt)
drop-some (k ∷ ks) zero lt e = cc
drop-some (k ∷ ks) (suc g) lt e = drop-some ks g (omega (arith, lt)) e

pub grouping-none : (c : Called) (ns : List ℕ) (count g : ℕ) (made : List GroupKept) (left : List Kept) → Grouping c ns count g made left → g < count → left ≡ [] → ⊥
grouping-none c ns count g made left h lt none =
    let all = folds_of c.call c.columns ns count in
    let size : length all ≡ count = folds-many c.call c.columns ns count all refl in
    drop-some all g (omega (arith, size, lt)) (sym h.rest ∙ ap (λ (ks : List Kept). reverse ks) none)

pub grouping-end : (c : Called) (ns : List ℕ) (count g : ℕ) (made : List GroupKept) (left : List Kept) → Grouping c ns count g made left → count ≤ g → g ≤ count → made ≡ group_states c ns count
unfolding group_states
grouping-end c ns count g made left h le ge = let e : g ≡ count = omega (arith, le, ge) in h.done ∙ ap (λ n. map (group_state c ns) (range_with_len 0 n)) e

pub ruleset group_steps = (grouping-start, lists-many)
