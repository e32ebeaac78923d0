use Rattle.std.proofs.Common.{sym}
use Rattle.kql_cells.specs.declared.value.Value.TheVariants as value
use Rattle.bind_expr.proofs.StepFacts.{nothing-there}
use Rattle.bind_expr.proofs.steps.default_at.Goals as goal

pub returns-in-None : goal.returns-in-None
returns-in-None c = record { value = nothing-there c.args.steps.now.defaults c.args.place value.Null (sym c.in-None.ensures.value) }
