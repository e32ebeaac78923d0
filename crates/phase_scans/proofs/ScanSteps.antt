-- Scans of the rows of keys, piece by piece.
use Rattle.std.proofs.Common.{◌≡◌, ◌<◌, ◌≤◌, ◌*◌, ◌+◌, ◌-◌, ℕ, zero, suc, true, List, [], ◌∷◌, ◌++◌, length, map, refl, ap, ap₂, sym, ◌∙◌, subst, arith}
use Rattle.std.specs.Prelude.{All, flat_map, min, slice_range}
use Rattle.std.specs.List.{range_with_len}
use Rattle.std.proofs.lemmas.Grind.{flat_map-append}
use Rattle.std.proofs.lemmas.List.Elements.{All-cons, All-nil}
use Rattle.kql_cells.specs.Table.{Grid}
use Rattle.kql_cells.specs.declared.schema.Column.{Column}
use Rattle.kql_cells.specs.declared.value.Value.{Value}
use Rattle.kql_values.specs.Moves.{kinds_of}
use Rattle.kql_bound.specs.declared.parts.ScanPlan.{ScanPlan}
use Rattle.kql_meaning.specs.Partition.{partition_table}
use Rattle.kql_meaning.specs.Scan.{scan_columns, scan_table, with_declared}
use Rattle.phase_laws.specs.Pieces.{put_together, slice_of}
use Rattle.phase_laws.proofs.PieceLaws.{of_pieces_of_list}
use Rattle.phase_pieces.proofs.CutLaws.{to-within}
use Rattle.phase_pieces.proofs.TogetherLaws.{Alike}
use Rattle.phase_scans.specs.Works.{scanned_piece}
use Rattle.phase_scans.proofs.KeySteps.{cut-all, cut-each}
use Rattle.scan_ops.specs.Scans.{rows_by_key, rows_scanned, scans_of}
use Rattle.scan_ops.specs.Steps.{scan_answers}
use Rattle.scan_ops.proofs.FitFacts.{steps-plain}
use Rattle.scan_ops.proofs.KeyedFacts.{bare-declared, none-between, partition-scanned}

abbrev answer_of : ScanPlan → Grid → Grid → List (List ℕ) → Grid
answer_of s t u lists = record { columns = scan_columns s t.columns; lines = scans_of s u lists }

-- A piece.

pub piece-scanned : (s : ScanPlan) (t u made : Grid) (lists : List (List ℕ)) (n piece count from to : ℕ) → count ≡ length lists → from ≡ piece * n → to ≡ min count (piece * n + n) → made ≡ record { columns = scan_columns s t.columns; lines = scans_of s u (slice_range lists from to) } → made ≡ scanned_piece s t u lists n piece
unfolding scanned_piece
piece-scanned s t u made lists n piece count from to is f e all =
    all
    ∙ (ap (λ (i : ℕ). answer_of s t u (slice_range lists i to)) f
    ∙ ap (λ (i : ℕ). answer_of s t u (slice_range lists (piece * n) i)) (e ∙ ap (λ (i : ℕ). min i (piece * n + n)) is))

pub ruleset piece_steps = (to-within, piece-scanned)

-- All pieces.

alike-from : (s : ScanPlan) (t u first : Grid) (lists : List (List ℕ)) (n a k : ℕ) → first.columns ≡ scan_columns s t.columns → Alike first (map (scanned_piece s t u lists n) (range_with_len a k))
unfolding scanned_piece
alike-from s t u first lists n a zero is = All-nil (λ (g : Grid). kinds_of g.columns ≡ kinds_of first.columns)
alike-from s t u first lists n a (suc k) is =
    All-cons (λ (g : Grid). kinds_of g.columns ≡ kinds_of first.columns) (scanned_piece s t u lists n a) (map (scanned_piece s t u lists n) (range_with_len (a + 1) k))
    (sym (ap kinds_of is))
    (alike-from s t u first lists n (a + 1) k is)

pub scans-alike : (s : ScanPlan) (t u first : Grid) (lists : List (List ℕ)) (n pieces : ℕ) (parts : List Grid) → first ≡ record { columns = scan_columns s t.columns; lines = scans_of s u (slice_range lists 0 0) } → parts ≡ map (scanned_piece s t u lists n) (range_with_len 0 pieces) → Alike first parts
scans-alike s t u first lists n pieces parts is all = subst (Alike first) (sym all) (alike-from s t u first lists n 0 pieces (ap (λ (g : Grid). g.columns) is))

scans-apart : (s : ScanPlan) (u : Grid) (xs ys : List (List ℕ)) → scans_of s u (xs ++ ys) ≡ scans_of s u xs ++ scans_of s u ys
unfolding scans_of
scans-apart s u xs ys = flat_map-append (rows_scanned s u) xs ys

none-scanned : (s : ScanPlan) (u : Grid) (lists : List (List ℕ)) → scans_of s u (slice_range lists 0 0) ≡ []
unfolding scans_of
none-scanned s u lists = refl

pub flat-mapped : {X Y Z : Type 0} (f : Y → List Z) (g : X → Y) (xs : List X) → flat_map f (map g xs) ≡ flat_map (λ x. f (g x)) xs
flat-mapped f g [] = refl
flat-mapped f g (x ∷ xs) = ap (λ zs. f (g x) ++ zs) (flat-mapped f g xs)

rows-of-pieces : (s : ScanPlan) (t u : Grid) (lists : List (List ℕ)) (n pieces : ℕ) → length lists ≤ pieces * n → flat_map (λ (g : Grid). g.lines) (map (scanned_piece s t u lists n) (range_with_len 0 pieces)) ≡ scans_of s u lists
unfolding scanned_piece
rows-of-pieces s t u lists n pieces le =
    flat-mapped (λ (g : Grid). g.lines) (scanned_piece s t u lists n) (range_with_len 0 pieces)
    ∙ sym (of_pieces_of_list (scans_of s u) (scans-apart s u) lists n pieces le)

pub whole-scans : (s : ScanPlan) (t u first made : Grid) (lists : List (List ℕ)) (n pieces : ℕ) (parts : List Grid) → first ≡ record { columns = scan_columns s t.columns; lines = scans_of s u (slice_range lists 0 0) } → parts ≡ map (scanned_piece s t u lists n) (range_with_len 0 pieces) → length lists ≤ pieces * n → made ≡ put_together first parts → made ≡ record { columns = scan_columns s t.columns; lines = scans_of s u lists }
unfolding put_together
whole-scans s t u first made lists n pieces parts is all le put =
    put
    ∙ (ap (λ (g : Grid). record { columns = g.columns; lines = g.lines ++ flat_map (λ (h : Grid). h.lines) parts }) is
    ∙ ap (λ (ls : List (List Value)). record { columns = scan_columns s t.columns; lines = ls })
    (ap (λ (ls : List (List Value)). ls ++ flat_map (λ (h : Grid). h.lines) parts) (none-scanned s u lists)
    ∙ (ap (flat_map (λ (h : Grid). h.lines)) all ∙ rows-of-pieces s t u lists n pieces le)))

pub ruleset list_steps = (cut-all, cut-each, scans-alike, whole-scans)

-- The partition.

pub scans-made : (s : ScanPlan) (c : List ℕ) (t u made : Grid) (lists : List (List ℕ)) → scan_answers s t.columns ≡ true → lists ≡ rows_by_key c t → u ≡ with_declared s t → made ≡ record { columns = scan_columns s t.columns; lines = scans_of s u lists } → made ≡ partition_table c (scan_table s) t
scans-made s c t u made lists fits is extended e =
    e ∙ (ap₂ (answer_of s t) extended is ∙ sym (partition-scanned s c t (steps-plain s t.columns fits)))

pub ruleset scan_steps = (bare-declared, scans-made)
