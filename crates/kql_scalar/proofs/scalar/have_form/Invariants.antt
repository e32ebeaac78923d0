use Rattle.std.proofs.Common.{take}
use Rattle.kql_scalar_fns.specs.Arguments.{AreWellFormed}
use Rattle.kql_scalar.proofs.scalar.have_form.Given as goal

abbrev pub invariant-values : goal.invariant-values
invariant-values l = AreWellFormed (take l.value-index l.values)
