use Rattle.plan_constants.proofs.CallSteps.{call-formed}
use Rattle.plan_constants.proofs.calls.literal_of_call.Goals as goal

pub literal_called-requires : goal.literal_called-requires
literal_called-requires c =
    record { sound = call-formed c.args.args.now c.in_ok-literals.field-0 c.in-Some.literals c.as_slice.result.now c.in_ok-literals.ensures.literals c.in-Some.is c.as_slice.ensures.items }
