-- Rows that fit are of one width.
use Rattle.std.proofs.Common.{List, [], ◌∷◌, length, sym, ◌∙◌}
use Rattle.std.specs.Prelude.{All}
use Rattle.std.proofs.lemmas.List.Elements.{All-head, All-tail}
use Rattle.kql_cells.specs.declared.schema.Column.{Column}
use Rattle.kql_cells.specs.declared.value.Value.{Value}
use Rattle.kql_cells.specs.Table.{RowFits}
use Rattle.kql_cells.proofs.RowLaws.{length-RowFits, all-gathered}
use Rattle.kql_values.specs.Grids.{HaveLength}

-- rows that fit are all as wide as one that fits
pub fits-width : (cs : List Column) (rows : List (List Value)) (row : List Value) → All (RowFits cs) rows → RowFits cs row → HaveLength (length row) rows
unfolding HaveLength
fits-width cs [] row h f = tt
fits-width cs (r ∷ rows) row h f =
    (length-RowFits cs r (All-head (RowFits cs) r rows h) ∙ sym (length-RowFits cs row f), fits-width cs rows row (All-tail (RowFits cs) r rows h) f)

pub ruleset grid_facts = (length-RowFits, all-gathered, fits-width)
