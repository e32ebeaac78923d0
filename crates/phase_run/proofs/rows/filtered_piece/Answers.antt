use Rattle.std.proofs.Common.{◌≤◌, ◌+◌, ◌*◌, ◌∙◌, ℕ, ap, arith, length}
use Rattle.std.specs.Prelude.{filter, min}
use Rattle.kql_cells.specs.Table.{gathered}
use Rattle.kql_scalar.specs.Rows.{passes, rows}
use Rattle.phase_run.proofs.FilterSteps.{kept-piece}
use Rattle.phase_run.proofs.rows.filtered_piece.Goals as goal

pub returns : goal.returns
returns c =
    let t = c.args.table.now in
    let from = c.bounds_of-bounds.result.from in
    let to = c.bounds_of-bounds.result.to in
    let ends = c.bounds_of-bounds.ensures.to ∙ ap (λ (n : ℕ). min n (c.args.piece * c.args.rows + c.args.rows)) c.len.ensures.count in
    let within : to ≤ length t.lines = omega (arith, c.bounds_of-bounds.ensures.within, c.len.ensures.count) in
    let places = c.in_ok-places.ensures.places ∙ ap (λ x. filter (passes x.expr t) (rows from to)) c.in_ok-located.ensures.parts in
    let made = c.in_ok-kept.ensures.rows ∙ ap (gathered t) c.as_slice.ensures.value in
    record { table = kept-piece c.law_of_rows.ensures.kept c.args.e.now t c.in_ok-kept.kept c.args.rows c.args.piece from to _ c.requires.plain c.bounds_of-bounds.ensures.from ends c.bounds_of-bounds.ensures.order within places made }
