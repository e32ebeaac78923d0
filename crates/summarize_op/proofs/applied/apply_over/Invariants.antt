use Rattle.std.proofs.Common.{◌≡◌}
use Rattle.kql_scalar_fns.specs.Arguments.{AreWellFormed}
use Rattle.summarize_op.specs.Grouped.{applied_over}
use Rattle.summarize_op.proofs.applied.apply_over.Given as goal

abbrev pub invariant-loop-g : goal.invariant-loop-g
invariant-loop-g l = record {
  made : l.made ≡ applied_over l.f l.vectors l.g;
  form : AreWellFormed l.made;
}
