use Rattle.std.proofs.Common.{arith, refl}
use Rattle.kql_scalar_fns.proofs.ArgumentFacts.{cons-form, none-form, tail-form}
use Rattle.kql_scalar_fns.proofs.well_formed.are_well_formed.Goals as goal

pub cells-preserved : goal.cells-preserved
cells-preserved c = (
  λ h. c.cells.invariant.0 (cons-form c.cells.left.now c.cell-item.result c.cell-item.is (omega arith) (c.if-not-is_well_formed.ensures.0 refl) h),
  λ h. tail-form c.cells.left.now (c.cells.invariant.1 h),
)

pub returns : goal.returns
returns c = record { form = (λ t. c.cells.invariant.0 (none-form c.cells.left.now (omega arith)), λ h. refl) }
