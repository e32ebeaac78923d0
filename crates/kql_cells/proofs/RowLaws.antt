-- Rows that fit.
use Rattle.std.proofs.Common.{◌≡◌, ◌<◌, ℕ, zero, suc, get_or, List, [], ◌∷◌, map, length, refl, ap}
use Rattle.std.specs.Prelude.{All, Some, slice_get}
use Rattle.std.proofs.lemmas.List.Elements.{All-map}
use Rattle.kql_cells.specs.Seen.{row_at, cell_at}
use Rattle.kql_cells.specs.declared.schema.Column.{Column}
use Rattle.kql_cells.specs.declared.value.Value.{Value}
use Rattle.kql_cells.specs.declared.value.Value.TheVariants as value
use Rattle.kql_cells.specs.Table.{CellFits, RowFits}

-- a row that fits is as long as the schema
pub length-RowFits : (cs : List Column) (vs : List Value) → RowFits cs vs → length vs ≡ length cs
unfolding RowFits
length-RowFits [] [] f = refl
length-RowFits [] (v ∷ vs) f = absurd f
length-RowFits (c ∷ cs) [] f = absurd f
length-RowFits (c ∷ cs) (v ∷ vs) f = ap suc (length-RowFits cs vs f.1)

-- each cell of a row that fits does
pub RowFits-at : (cs : List Column) (vs : List Value) (j : ℕ) (c : Column) → RowFits cs vs → slice_get cs j ≡ Some c → CellFits c (get_or vs j value.Null)
unfolding RowFits
RowFits-at [] vs j c f e = cc
RowFits-at (d ∷ cs) [] j c f e = absurd f
RowFits-at (d ∷ cs) (v ∷ vs) zero c f e = let same : d ≡ c = cc in rw (← same) f.0
RowFits-at (d ∷ cs) (v ∷ vs) (suc j) c f e = RowFits-at cs vs j c f.1 e

-- each cell of a table fits its column
pub cell-fits : (cs : List Column) (rows : List (List Value)) (i j : ℕ) (c : Column) → All (RowFits cs) rows → i < length rows → slice_get cs j ≡ Some c → CellFits c (cell_at rows i j)
cell-fits cs rows i j c f lt e = RowFits-at cs (row_at rows i) j c (f i [] lt) e

-- what holds of each row holds of the rows at places
pub all-gathered : (P : List Value → Type 0) (rows : List (List Value)) (places : List ℕ) → All P rows → All (λ i. i < length rows) places → All P (map (row_at rows) places)
all-gathered P rows places h w = All-map P (row_at rows) places (λ k d lt. h (get_or places k d) [] (w k d lt))

pub ruleset grid_facts = (length-RowFits, all-gathered)
