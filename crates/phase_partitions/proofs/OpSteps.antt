-- What operators make of the rows of keys, piece by piece.
use Rattle.std.proofs.Common.{◌≡◌, ◌<◌, ◌≤◌, ◌*◌, ◌+◌, ◌-◌, ℕ, zero, suc, true, List, [], ◌∷◌, ◌++◌, append-nil, get_or, length, map, refl, ap, ap₂, sym, ◌∙◌, subst, arith}
use Rattle.std.specs.Prelude.{All, flat_map, min, slice_range}
use Rattle.std.specs.List.{range_with_len}
use Rattle.std.proofs.lemmas.Grind.{flat_map-append}
use Rattle.std.proofs.lemmas.List.Elements.{All-cons, All-nil}
use Rattle.kql_cells.specs.Table.{Grid, gathered}
use Rattle.kql_cells.specs.declared.schema.Column.{Column}
use Rattle.kql_cells.specs.declared.value.Value.{Value}
use Rattle.kql_values.specs.Moves.{kinds_of}
use Rattle.kql_bound.specs.declared.plan.Op.{Op}
use Rattle.kql_meaning.specs.Partition.{partition_table}
use Rattle.kql_meaning.specs.Plans.{World}
use Rattle.kql_meaning.specs.Tables.{emptied}
use Rattle.kql_plain.specs.AtHand.{OpsFit}
use Rattle.kql_plain.proofs.PartitionSteps.{all-rows, emptied-fits, rows-fit, same-kinds}
use Rattle.phase_laws.specs.Pieces.{put_together, slice_of}
use Rattle.phase_laws.specs.Runs.{made_of}
use Rattle.phase_laws.proofs.PieceLaws.{of_pieces_of_list}
use Rattle.phase_pieces.proofs.CutLaws.{to-within}
use Rattle.phase_pieces.proofs.TogetherLaws.{Alike}
use Rattle.phase_partitions.specs.Works.{made_piece, rows_made}
use Rattle.phase_scans.proofs.KeySteps.{cut-all, cut-each}
use Rattle.phase_scans.proofs.ScanSteps.{flat-mapped}
use Rattle.scan_ops.specs.Scans.{rows_by_key}
use Rattle.scan_ops.proofs.KeyedFacts.{list-within, more-between, none-between}

abbrev columns_made : List Op → World → Grid → List Column
columns_made ops w t = (made_of ops w (emptied t)).columns

-- A piece.

pub piece-made : (ops : List Op) (w : World) (t none made : Grid) (lists : List (List ℕ)) (n piece count from to : ℕ) → count ≡ length lists → from ≡ piece * n → to ≡ min count (piece * n + n) → none.columns ≡ (made_of ops w (emptied t)).columns → made.columns ≡ none.columns → made.lines ≡ rows_made ops w t (slice_range lists from to) → made ≡ made_piece ops w t lists n piece
unfolding made_piece
piece-made ops w t none made lists n piece count from to is f e named columns lines =
    ap₂ (λ (cs : List Column) (ls : List (List Value)). record { columns = cs; lines = ls })
    (columns ∙ named)
    (lines
    ∙ (ap (λ (i : ℕ). rows_made ops w t (slice_range lists i to)) f
    ∙ ap (λ (i : ℕ). rows_made ops w t (slice_range lists (piece * n) i)) (e ∙ ap (λ (i : ℕ). min i (piece * n + n)) is)))

pub ruleset piece_steps = (to-within, piece-made)

-- One list after another.

pub made-start : (ops : List Op) (w : World) (t none made : Grid) (lists : List (List ℕ)) (from : ℕ) → made ≡ emptied none → (made.columns ≡ none.columns) × (made.lines ≡ rows_made ops w t (slice_range lists from from))
unfolding emptied rows_made
made-start ops w t none made lists from is = (
  ap (λ (g : Grid). g.columns) is,
  ap (λ (g : Grid). g.lines) is ∙ sym (ap (flat_map (λ ps. (made_of ops w (gathered t ps)).lines)) (none-between lists from)),
)

pub list-kinds : (ops : List Op) (w : World) (t none rows part made : Grid) (ps : List ℕ) → OpsFit ops w t → rows ≡ gathered t ps → part ≡ made_of ops w rows → All (λ i. i < length t.lines) ps → none.columns ≡ (made_of ops w (emptied t)).columns → made.columns ≡ none.columns → kinds_of part.columns ≡ kinds_of made.columns
list-kinds ops w t none rows part made ps f is m h named columns = same-kinds ops w t rows part made ps f is m h (columns ∙ named)

pub list-fits : (ops : List Op) (w : World) (t rows : Grid) (ps : List ℕ) → OpsFit ops w t → rows ≡ gathered t ps → All (λ i. i < length t.lines) ps → OpsFit ops w rows
list-fits ops w t rows ps f is h = subst (OpsFit ops w) (sym is) (rows-fit ops w t ps f h)

pub made-more : (ops : List Op) (w : World) (t rows part old new : Grid) (lists : List (List ℕ)) (from k : ℕ) (ps : List ℕ) → from ≤ k → k < length lists → ps ≡ get_or lists k [] → rows ≡ gathered t ps → part ≡ made_of ops w rows → old.lines ≡ rows_made ops w t (slice_range lists from k) → new ≡ record old { lines = old.lines ++ part.lines } → new.lines ≡ rows_made ops w t (slice_range lists from (k + 1))
unfolding rows_made
made-more ops w t rows part old new lists from k ps order lt at is m so_far added =
    let f = λ (qs : List ℕ). (made_of ops w (gathered t qs)).lines in
    let own : part.lines ≡ f (get_or lists k []) = ap (λ (g : Grid). g.lines) m ∙ (ap (λ (g : Grid). (made_of ops w g).lines) is ∙ ap f at) in
    ap (λ (g : Grid). g.lines) added
    ∙ (ap₂ (λ (ls ms : List (List Value)). ls ++ ms) so_far (own ∙ sym (append-nil (f (get_or lists k []))))
    ∙ (sym (flat_map-append f (slice_range lists from k) (get_or lists k [] ∷ [])) ∙ ap (flat_map f) (sym (more-between lists from k order lt))))

pub made-columns : (none old new : Grid) (more : List (List Value)) → old.columns ≡ none.columns → new ≡ record old { lines = more } → new.columns ≡ none.columns
made-columns none old new more is added = ap (λ (g : Grid). g.columns) added ∙ is

pub made-end : (ops : List Op) (w : World) (t : Grid) (lists : List (List ℕ)) (from to k : ℕ) (lines : List (List Value)) → k ≡ to → lines ≡ rows_made ops w t (slice_range lists from k) → lines ≡ rows_made ops w t (slice_range lists from to)
made-end ops w t lists from to k lines is e = e ∙ ap (λ (i : ℕ). rows_made ops w t (slice_range lists from i)) is

pub ruleset list_steps = (list-within, list-fits)

-- All pieces.

alike-from : (ops : List Op) (w : World) (t first : Grid) (lists : List (List ℕ)) (n a k : ℕ) → first.columns ≡ (made_of ops w (emptied t)).columns → Alike first (map (made_piece ops w t lists n) (range_with_len a k))
unfolding made_piece
alike-from ops w t first lists n a zero is = All-nil (λ (g : Grid). kinds_of g.columns ≡ kinds_of first.columns)
alike-from ops w t first lists n a (suc k) is =
    All-cons (λ (g : Grid). kinds_of g.columns ≡ kinds_of first.columns) (made_piece ops w t lists n a) (map (made_piece ops w t lists n) (range_with_len (a + 1) k))
    (sym (ap kinds_of is))
    (alike-from ops w t first lists n (a + 1) k is)

first-columns : (ops : List Op) (w : World) (t none first : Grid) → none.columns ≡ (made_of ops w (emptied t)).columns → first ≡ emptied none → first.columns ≡ (made_of ops w (emptied t)).columns
unfolding emptied
first-columns ops w t none first named is = ap (λ (g : Grid). g.columns) is ∙ named

pub keys-alike : (ops : List Op) (w : World) (t none first : Grid) (lists : List (List ℕ)) (n pieces : ℕ) (parts : List Grid) → none.columns ≡ (made_of ops w (emptied t)).columns → first ≡ emptied none → parts ≡ map (made_piece ops w t lists n) (range_with_len 0 pieces) → Alike first parts
keys-alike ops w t none first lists n pieces parts named is all = subst (Alike first) (sym all) (alike-from ops w t first lists n 0 pieces (first-columns ops w t none first named is))

rows-apart : (ops : List Op) (w : World) (t : Grid) (xs ys : List (List ℕ)) → rows_made ops w t (xs ++ ys) ≡ rows_made ops w t xs ++ rows_made ops w t ys
unfolding rows_made
rows-apart ops w t xs ys = flat_map-append (λ ps. (made_of ops w (gathered t ps)).lines) xs ys

rows-of-pieces : (ops : List Op) (w : World) (t : Grid) (lists : List (List ℕ)) (n pieces : ℕ) → length lists ≤ pieces * n → flat_map (λ (g : Grid). g.lines) (map (made_piece ops w t lists n) (range_with_len 0 pieces)) ≡ rows_made ops w t lists
unfolding made_piece
rows-of-pieces ops w t lists n pieces le =
    flat-mapped (λ (g : Grid). g.lines) (made_piece ops w t lists n) (range_with_len 0 pieces)
    ∙ sym (of_pieces_of_list (rows_made ops w t) (rows-apart ops w t) lists n pieces le)

pub keys-columns : (ops : List Op) (w : World) (t none first made : Grid) (parts : List Grid) → none.columns ≡ (made_of ops w (emptied t)).columns → first ≡ emptied none → made ≡ put_together first parts → made.columns ≡ (made_of ops w (emptied t)).columns
unfolding put_together
keys-columns ops w t none first made parts named is put = ap (λ (g : Grid). g.columns) put ∙ first-columns ops w t none first named is

pub keys-lines : (ops : List Op) (w : World) (t none first made : Grid) (lists : List (List ℕ)) (n pieces : ℕ) (parts : List Grid) → first ≡ emptied none → parts ≡ map (made_piece ops w t lists n) (range_with_len 0 pieces) → length lists ≤ pieces * n → made ≡ put_together first parts → made.lines ≡ rows_made ops w t lists
unfolding put_together emptied
keys-lines ops w t none first made lists n pieces parts is all le put =
    ap (λ (g : Grid). g.lines) put
    ∙ (ap (λ (g : Grid). g.lines ++ flat_map (λ (h : Grid). h.lines) parts) is
    ∙ (ap (flat_map (λ (h : Grid). h.lines)) all ∙ rows-of-pieces ops w t lists n pieces le))

pub ruleset key_steps = (cut-all, cut-each, keys-alike, keys-columns, keys-lines)

-- The partition.

pub none-made : (ops : List Op) (w : World) (t u made none : Grid) → u ≡ emptied t → made ≡ made_of ops w u → none ≡ emptied made → none.columns ≡ (made_of ops w (emptied t)).columns
unfolding emptied
none-made ops w t u made none is m e = ap (λ (g : Grid). g.columns) e ∙ (ap (λ (g : Grid). g.columns) m ∙ ap (λ (g : Grid). (made_of ops w g).columns) is)

pub partition-made : (c : List ℕ) (ops : List Op) (w : World) (t made : Grid) (lists : List (List ℕ)) → lists ≡ rows_by_key c t → made.columns ≡ (made_of ops w (emptied t)).columns → made.lines ≡ rows_made ops w t lists → made ≡ partition_table c (made_of ops w) t
unfolding rows_made
partition-made c ops w t made lists is columns lines = all-rows c ops w t lists made (emptied t) is refl columns lines

pub ruleset run_steps = (emptied-fits, none-made, partition-made)
