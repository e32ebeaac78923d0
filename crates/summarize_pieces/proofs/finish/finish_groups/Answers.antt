use Rattle.std.proofs.Common.{◌∙◌, ap, subst, sym}
use Rattle.kql_cells.specs.Table.{Grid}
use Rattle.kql_meaning.specs.Summarize.{group_columns}
use Rattle.summarize_pieces.proofs.FinishSteps.{table-fits, table-is}
use Rattle.summarize_pieces.proofs.PlanSteps.{Fits}
use Rattle.summarize_pieces.proofs.finish.finish_groups.Goals as goal

pub group_rows-requires-clause-none : goal.group_rows-requires-clause-none
group_rows-requires-clause-none c = c.into_parts-named.ensures.lines ∙ ap (λ (y : Grid). y.lines) c.in_ok-none.ensures.parts

pub new-requires : goal.new-requires
new-requires c =
    let g = c.args.g.now in
    let h = c.requires.groups in
    let named = c.into_parts-named.ensures.columns ∙ (ap (λ (y : Grid). y.columns) c.in_ok-none.ensures.parts ∙ (c.from_items.ensures.columns ∙ (c.in_ok-named.ensures.columns ∙ ap (group_columns g) (c.columns.ensures.columns ∙ sym h.named)))) in
    table-fits g h.table c.into_parts-named.result.0 c.in_ok-rows.rows h.whole (subst (Fits g) (sym h.named) c.requires.fits) named (c.in_ok-rows.ensures.rows h.table h.whole h.named h.groups)

pub returns : goal.returns
returns c = record {
  rows = λ t whole same is.
      let g = c.args.g.now in
      let named = c.into_parts-named.ensures.columns ∙ (ap (λ (y : Grid). y.columns) c.in_ok-none.ensures.parts ∙ (c.from_items.ensures.columns ∙ (c.in_ok-named.ensures.columns ∙ ap (group_columns g) (c.columns.ensures.columns ∙ sym same)))) in
      table-is g t c.in_ok-made.made c.into_parts-named.result.0 c.in_ok-rows.rows named (c.in_ok-rows.ensures.rows t whole same is) c.in_ok-made.ensures.parts;
}
