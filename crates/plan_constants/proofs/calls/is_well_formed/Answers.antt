use Rattle.plan_constants.proofs.CallSteps.{form-told}
use Rattle.plan_constants.proofs.calls.is_well_formed.Goals as goal

pub returns : goal.returns
returns c = record { form = form-told c.is_well_formed.result c.args.value.now c.is_well_formed.ensures.form }
