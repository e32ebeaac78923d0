-- The round that computes items.
use Rattle.std.proofs.Common.{◌≡◌, ◌<◌, ◌≤◌, ◌+◌, ◌*◌, ◌-◌, ℕ, zero, suc, true, List, [], ◌∷◌, drop, get_or, length, map, take, refl, ap, ap₂, sym, ◌∙◌, subst, arith}
use Rattle.std.specs.Prelude.{All, min, slice_range}
use Rattle.std.specs.List.{range_with_len}
use Rattle.std.proofs.lemmas.List.Elements.{All-cons, All-drop, All-nil, All-take}
use Rattle.std.proofs.lemmas.List.FromFn.{length-map-range_with_len}
use Rattle.kql_cells.specs.Named.{HasDistinctNames, column_name}
use Rattle.kql_cells.specs.Table.{Grid, IsGrid, RowFits}
use Rattle.kql_cells.specs.declared.schema.Column.{Column}
use Rattle.kql_cells.specs.declared.value.Value.{Value}
use Rattle.kql_values.specs.Moves.{kinds_of}
use Rattle.kql_bound.specs.declared.parts.BItem.{BItem}
use Rattle.kql_meaning.specs.declared.position.Position.TheVariants as position
use Rattle.kql_meaning.specs.FittingOperators.{items_fit}
use Rattle.kql_meaning.specs.Items.{items_columns, items_values}
use Rattle.kql_meaning.specs.Project.{project_table}
use Rattle.kql_meaning.specs.Tables.{emptied, places, places_below}
use Rattle.row_ops.proofs.ProjectFacts.{project-fits}
use Rattle.phase_laws.specs.Pieces.{of_pieces, piece_of, put_together}
use Rattle.phase_laws.proofs.PieceLaws.{whole}
use Rattle.phase_pieces.proofs.CutLaws.{to-within}
use Rattle.phase_pieces.proofs.TogetherLaws.{Alike}
use Rattle.phase_windows.specs.Works.{AreBeforePieces, carries_before}
use Rattle.window_ops.specs.Calls.{calls_of_items, carries_of}
use Rattle.window_ops.specs.Carries.{Carried}

-- The carries of the rows before a piece.

pub before-piece : (items : List BItem) (t : Grid) (n pieces piece : ℕ) (lists : List (List Carried)) (cs : List Carried) → AreBeforePieces items t n pieces lists → piece < pieces → cs ≡ get_or lists piece [] → cs ≡ carries_before items t n piece
unfolding AreBeforePieces
before-piece items t n pieces piece lists cs h lt is = is ∙ h piece lt

pub ruleset run_steps = (before-piece)

-- The rows of a piece.

pub before-rows : (items : List BItem) (t : Grid) (n piece from : ℕ) (cs : List Carried) → cs ≡ carries_before items t n piece → from ≡ piece * n → cs ≡ carries_of (calls_of_items items) t 0 from
unfolding carries_before
before-rows items t n piece from cs is f = is ∙ ap (carries_of (calls_of_items items) t 0) (sym f)

pub piece-rows-fit : (items : List BItem) (t : Grid) (cs : List Column) (from to : ℕ) (rows : List (List Value)) → HasDistinctNames column_name t.columns → IsGrid t → items_fit items t.columns position.Window ≡ true → cs ≡ items_columns items t.columns → rows ≡ slice_range (project_table items t).lines from to → All (RowFits cs) rows
unfolding project_table
piece-rows-fit items t cs from to rows names fits here named is =
    let row = RowFits (items_columns items t.columns) in
    let lines = (project_table items t).lines in
    subst (λ (ds : List Column). All (RowFits ds) rows) (sym named)
    (subst (All row) (sym is) (All-take row (to - from) (drop from lines) (All-drop row from lines (project-fits items t (names, fits) here))))

lines-long : (items : List BItem) (t : Grid) → length (project_table items t).lines ≡ length t.lines
unfolding project_table places places_below
lines-long items t = length-map-range_with_len (λ i. items_values items t i) 0 (length t.lines)

pub piece-made : (items : List BItem) (t made : Grid) (n piece count from to : ℕ) (cs : List Column) (rows : List (List Value)) → count ≡ length t.lines → from ≡ piece * n → to ≡ min count (piece * n + n) → cs ≡ items_columns items t.columns → rows ≡ slice_range (project_table items t).lines from to → made ≡ record { columns = cs; lines = rows } → made ≡ piece_of n (project_table items t) piece
unfolding piece_of project_table
piece-made items t made n piece count from to cs rows is f e named there all =
    let lines = (project_table items t).lines in
    let long : count ≡ length lines = is ∙ sym (lines-long items t) in
    all
    ∙ (ap₂ (λ (ds : List Column) (ls : List (List Value)). record { columns = ds; lines = ls }) named there
    ∙ (ap (λ (i : ℕ). record { columns = items_columns items t.columns; lines = slice_range lines i to }) f
    ∙ ap (λ (i : ℕ). record { columns = items_columns items t.columns; lines = slice_range lines (piece * n) i }) (e ∙ ap (λ (i : ℕ). min i (piece * n + n)) long)))

pub ruleset piece_steps = (to-within, before-rows, piece-rows-fit, piece-made)

-- All pieces.

alike-from : (p first : Grid) (n a k : ℕ) → first.columns ≡ p.columns → Alike first (map (λ piece. piece_of n p piece) (range_with_len a k))
unfolding piece_of
alike-from p first n a zero is = All-nil (λ (u : Grid). kinds_of u.columns ≡ kinds_of first.columns)
alike-from p first n a (suc k) is =
    All-cons (λ (u : Grid). kinds_of u.columns ≡ kinds_of first.columns) (piece_of n p a) (map (λ piece. piece_of n p piece) (range_with_len (a + 1) k))
    (sym (ap kinds_of is))
    (alike-from p first n (a + 1) k is)

first-columns : (items : List BItem) (t first : Grid) (cs : List Column) → cs ≡ items_columns items t.columns → first ≡ record { columns = cs; lines = [] } → first.columns ≡ (project_table items t).columns
unfolding project_table
first-columns items t first cs named is = ap (λ (u : Grid). u.columns) is ∙ named

pub pieces-alike : (items : List BItem) (t first : Grid) (cs : List Column) (n pieces : ℕ) (made : List Grid) → cs ≡ items_columns items t.columns → first ≡ record { columns = cs; lines = [] } → made ≡ map (λ piece. piece_of n (project_table items t) piece) (range_with_len 0 pieces) → Alike first made
pieces-alike items t first cs n pieces made named is all = subst (Alike first) (sym all) (alike-from (project_table items t) first n 0 pieces (first-columns items t first cs named is))

first-emptied : (items : List BItem) (t first : Grid) (cs : List Column) → cs ≡ items_columns items t.columns → first ≡ record { columns = cs; lines = [] } → first ≡ emptied (project_table items t)
unfolding project_table emptied
first-emptied items t first cs named is = is ∙ ap (λ (ds : List Column). record { columns = ds; lines = [] }) named

pub whole-table : (items : List BItem) (t first made : Grid) (cs : List Column) (n pieces : ℕ) (parts : List Grid) → cs ≡ items_columns items t.columns → first ≡ record { columns = cs; lines = [] } → parts ≡ map (λ piece. piece_of n (project_table items t) piece) (range_with_len 0 pieces) → length t.lines ≤ pieces * n → made ≡ put_together first parts → made ≡ project_table items t
unfolding of_pieces
whole-table items t first made cs n pieces parts named is all le put =
    let p = project_table items t in
    let long : length p.lines ≤ pieces * n = let k = lines-long items t in omega (arith, k, le) in
    put
    ∙ (ap₂ put_together (first-emptied items t first cs named is) all
    ∙ sym (whole (λ (u : Grid). u) (record { rows = λ columns xs ys. refl; columns = λ u v e. e }) p n pieces long))

pub ruleset round_steps = (pieces-alike, whole-table)
