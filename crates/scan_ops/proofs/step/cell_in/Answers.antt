use Rattle.std.proofs.Common.{◌<◌, length, subst}
use Rattle.std.specs.Prelude.{IfSome}
use Rattle.kql_cells.specs.Seen.{seen}
use Rattle.scan_ops.proofs.StepFacts.{cell-formed}
use Rattle.scan_ops.proofs.step.cell_in.Goals as goal

pub returns-in-Some-clause-form : goal.returns-in-Some-clause-form
returns-in-Some-clause-form c =
    cell-formed c.args.t.now c.in-Some.j (seen c.cell.result) (subst (λ o. IfSome o (λ j. j < length c.args.t.now.columns)) c.in-Some.is c.requires.column) c.cell.ensures.fits
