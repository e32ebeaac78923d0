use Rattle.std.proofs.Common.{◌≡◌, ◌<◌, [], length, map, ap, sym, ◌∙◌}
use Rattle.std.proofs.lemmas.List.{length-map}
use Rattle.kql_values.specs.Grids.{rows_of, row_of}
use Rattle.kql_cells.specs.Seen.{row_at, seen}
use Rattle.kql_values.proofs.GridLaws.{rows_of-at, rows_of-length}
use Rattle.kql_values.proofs.rows.Rows.push_from.Goals as goal

pub push_cells-requires : goal.push_cells-requires
push_cells-requires c =
    let n = c.other.inside.count in
    let cs = c.other.inside.columns.items in
    let within : c.args.i < length (rows_of n cs) = rw (← c.other.view_is) at c.requires.within in
    let lt : c.args.i < n = rw (rows_of-length n cs) at within in
    let row : row_at c.args.other.now c.args.i ≡ row_of cs c.args.i = rw (← c.other.view_is) (rows_of-at n cs c.args.i [] lt) in
    let size : length c.as_slice.result.now ≡ length (row_at c.args.other.now c.args.i) =
    ap length c.as_slice.ensures.value ∙ sym (length-map _ seen) ∙ ap length c.in_ok-cells.ensures ∙ ap length (sym row) in
    rw size c.requires.width

pub returns-clause-added : goal.returns-clause-added
returns-clause-added c =
    let n = c.other.inside.count in
    let cs = c.other.inside.columns.items in
    let within : c.args.i < length (rows_of n cs) = rw (← c.other.view_is) at c.requires.within in
    let lt : c.args.i < n = rw (rows_of-length n cs) at within in
    let row : row_at c.args.other.now c.args.i ≡ row_of cs c.args.i = rw (← c.other.view_is) (rows_of-at n cs c.args.i [] lt) in
    let same : map seen c.as_slice.result.now ≡ row_at c.args.other.now c.args.i = ap (map seen) c.as_slice.ensures.value ∙ c.in_ok-cells.ensures ∙ sym row in
    rw (← same) c.push_cells.ensures.added
