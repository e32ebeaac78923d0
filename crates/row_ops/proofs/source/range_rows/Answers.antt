use Rattle.std.proofs.Common.{rules, ◌∙◌, FitsSigned, w64}
use Rattle.std.proofs.lemmas.Int.{to_z-of_z}
use Rattle.row_ops.proofs.SourceSteps.{range-fit, range-made, range-rows}
use Rattle.row_ops.proofs.source.range_rows.Goals as goal

-- src/source.rt:59:16
pub new-requires : goal.new-requires
new-requires c =
    let a : FitsSigned w64 c.number_in.result = search rules in
    let b : FitsSigned w64 c.number_in-2.result = search rules in
    let s : FitsSigned w64 c.number_in-3.result = search rules in
    let numbers = simp to_z-of_z at c.in_ok-numbers.ensures.terms in
    let rows = range-rows c.args.column.now c.args.from.now c.args.to.now c.args.step.now c.number_in.result c.number_in-2.result c.number_in-3.result c.len-count.result c.in_ok-numbers.numbers c.push.new.self.items c.from_columns-rows.result c.number_in.ensures.number c.number_in-2.ensures.number c.number_in-3.ensures.number numbers c.len-count.ensures.count (search rules) c.from_columns-rows.ensures.rows in
    range-fit c.args.column.now c.args.from.now c.args.to.now c.args.step.now c.from_items.result c.from_columns-rows.result c.requires.fits (c.from_items.ensures.columns ∙ c.in_ok-columns.ensures.columns) rows

-- src/source.rt:36:1
pub returns : goal.returns
returns c =
    let a : FitsSigned w64 c.number_in.result = search rules in
    let b : FitsSigned w64 c.number_in-2.result = search rules in
    let s : FitsSigned w64 c.number_in-3.result = search rules in
    let numbers = simp to_z-of_z at c.in_ok-numbers.ensures.terms in
    let rows = range-rows c.args.column.now c.args.from.now c.args.to.now c.args.step.now c.number_in.result c.number_in-2.result c.number_in-3.result c.len-count.result c.in_ok-numbers.numbers c.push.new.self.items c.from_columns-rows.result c.number_in.ensures.number c.number_in-2.ensures.number c.number_in-3.ensures.number numbers c.len-count.ensures.count (search rules) c.from_columns-rows.ensures.rows in
    record {
      rows = range-made c.args.column.now c.args.from.now c.args.to.now c.args.step.now c.from_items.result c.from_columns-rows.result c.in_ok-made.made (c.from_items.ensures.columns ∙ c.in_ok-columns.ensures.columns) rows c.in_ok-made.ensures.parts;
    }
