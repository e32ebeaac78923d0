use Rattle.std.proofs.Common.{rules, FitsSigned, w64}
use Rattle.std.proofs.lemmas.Int.{to_z-of_z}
use Rattle.series_op.proofs.BinSteps.{asked-bins}
use Rattle.series_op.proofs.bins.count_of_bins.Goals as goal

pub returns : goal.returns
returns c =
    let a : FitsSigned w64 c.number_in-from.result = search rules in
    let b : FitsSigned w64 c.number_in-to.result = search rules in
    let s : FitsSigned w64 c.number_in-step.result = search rules in
    let many = simp to_z-of_z at c.count_below-count.ensures.count in
    record {
      bins = asked-bins c.args.series.now c.args._columns.now c.number_in-from.result c.number_in-to.result c.number_in-step.result c.count_below-count.result c.requires.fits a b c.number_in-from.ensures.number c.number_in-to.ensures.number c.number_in-step.ensures.number many;
    }
