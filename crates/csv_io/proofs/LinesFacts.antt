-- The lines of a range of rows.
use Rattle.std.proofs.Common.{◌≡◌, ◌≤◌, ◌<◌, ◌+◌, ◌-◌, ◌++◌, ◌∷◌, ◌∙◌, ℕ, List, [], length, drop, get_or, take, refl, sym, ap, subst, arith, append_assoc, length-drop, get_or-drop}
use Rattle.std.specs.Prelude.{All, flat_map, slice_range}
use Rattle.std.proofs.Math.Seq.{take-add}
use Rattle.std.proofs.lemmas.Grind.{flat_map-append}
use Rattle.std.proofs.lemmas.List.{append-nil, take_all, take_more}
use Rattle.std.proofs.lemmas.List.Elements.{All-append, All-nil, All-push}
use Rattle.csv_io.specs.Reload.{ReadsBack}
use Rattle.csv_io.specs.Text.{line_text, lines_text}
use Rattle.kql_cells.specs.Seen.{row_at}
use Rattle.kql_cells.specs.Table.{Grid}
use Rattle.kql_cells.specs.declared.value.Value.{Value}

pub slice-none : {X : Type 0} (xs : List X) (from : ℕ) → slice_range xs from from ≡ []
slice-none xs from = let none : from - from ≡ 0 = omega arith in rw none refl

pub slice-push : {X : Type 0} (xs : List X) (from i : ℕ) (d : X) → from ≤ i → i < length xs → slice_range xs from (i + 1) ≡ slice_range xs from i ++ get_or xs i d ∷ []
slice-push xs from i d order lt =
    let count : i + 1 - from ≡ (i - from) + 1 = omega arith in
    let place : from + (i - from) ≡ i = omega arith in
    let inside : i - from < length (drop from xs) = omega (arith, length-drop from xs) in
    rw count (take_more (drop from xs) (i - from) d inside ∙ ap (λ x. take (i - from) (drop from xs) ++ x ∷ []) (rw (get_or-drop, place) refl))

slice-front : {X : Type 0} (xs : List X) (n : ℕ) → slice_range xs 0 n ≡ take n xs
slice-front xs n = let none : n - 0 ≡ n = omega arith in rw none refl

slice-more : {X : Type 0} (xs : List X) (at to : ℕ) → at ≤ to → slice_range xs 0 to ≡ slice_range xs 0 at ++ slice_range xs at to
slice-more xs at to le =
    let sum : at + (to - at) ≡ to = omega arith in
    slice-front xs to ∙ (ap (λ n. take n xs) (sym sum) ∙ (take-add at (to - at) xs ∙ ap (λ r. r ++ slice_range xs at to) (sym (slice-front xs at))))

pub slice-all : {X : Type 0} (xs : List X) → slice_range xs 0 (length xs) ≡ xs
slice-all xs = slice-front xs (length xs) ∙ take_all (length xs) xs (omega arith)

-- ---- row by row

-- no line
pub lines-none : (g : Grid) (from : ℕ) (out : List ℕ) → out ≡ out ++ lines_text g from from
lines-none g from out = sym (ap (λ t. out ++ t) (ap (flat_map line_text) (slice-none g.lines from)) ∙ append-nil out)

pub back-none : (ls : List (List Value)) (from : ℕ) → All (All ReadsBack) (slice_range ls from from)
back-none ls from = subst (All (All ReadsBack)) (sym (slice-none ls from)) (All-nil (All ReadsBack))

-- a line more
pub lines-more : (g : Grid) (from i : ℕ) (base out new : List ℕ) → from ≤ i → i < length g.lines → out ≡ base ++ lines_text g from i → new ≡ out ++ line_text (row_at g.lines i)
    → new ≡ base ++ lines_text g from (i + 1)
lines-more g from i base out new order lt eo en =
    let last = append-nil (line_text (row_at g.lines i)) in
    let lines : lines_text g from (i + 1) ≡ lines_text g from i ++ line_text (row_at g.lines i) =
    ap (flat_map line_text) (slice-push g.lines from i [] order lt)
    ∙ (flat_map-append line_text (slice_range g.lines from i) (row_at g.lines i ∷ []) ∙ ap (λ r. lines_text g from i ++ r) last) in
    en ∙ (ap (λ o. o ++ line_text (row_at g.lines i)) eo ∙ (append_assoc base (lines_text g from i) (line_text (row_at g.lines i)) ∙ ap (λ l. base ++ l) (sym lines)))

pub back-more : (ls : List (List Value)) (from i : ℕ) → from ≤ i → i < length ls → All (All ReadsBack) (slice_range ls from i) → All ReadsBack (row_at ls i) → All (All ReadsBack) (slice_range ls from (i + 1))
back-more ls from i order lt all row =
    subst (All (All ReadsBack)) (sym (slice-push ls from i [] order lt)) (All-push (All ReadsBack) (slice_range ls from i) (row_at ls i) all row)

-- ---- range by range

-- a range more
pub ranges-more : (g : Grid) (at to : ℕ) (base out new t : List ℕ) → out ≡ base ++ lines_text g 0 at → at ≤ to → t ≡ lines_text g at to → new ≡ out ++ t → new ≡ base ++ lines_text g 0 to
ranges-more g at to base out new t eo le et en =
    let lines : lines_text g 0 to ≡ lines_text g 0 at ++ lines_text g at to =
    ap (flat_map line_text) (slice-more g.lines at to le) ∙ flat_map-append line_text (slice_range g.lines 0 at) (slice_range g.lines at to) in
    en ∙ (rw (eo, et, lines) (append_assoc base (lines_text g 0 at) (lines_text g at to)))

pub backs-more : (ls : List (List Value)) (at to : ℕ) → at ≤ to → All (All ReadsBack) (slice_range ls 0 at) → All (All ReadsBack) (slice_range ls at to) → All (All ReadsBack) (slice_range ls 0 to)
backs-more ls at to le all more =
    subst (All (All ReadsBack)) (sym (slice-more ls at to le)) (All-append (All ReadsBack) (slice_range ls 0 at) (slice_range ls at to) all more)

-- all of them
pub lines-all : (g : Grid) (base out : List ℕ) (n : ℕ) → n ≡ length g.lines → out ≡ base ++ lines_text g 0 n → out ≡ base ++ flat_map line_text g.lines
lines-all g base out n en e = rw (en, slice-all g.lines) at e

pub backs-all : (ls : List (List Value)) (n : ℕ) → n ≡ length ls → All (All ReadsBack) (slice_range ls 0 n) → All (All ReadsBack) ls
backs-all ls n en all = rw (en, slice-all ls) at all

pub ruleset no_lines = (lines-none, back-none)
