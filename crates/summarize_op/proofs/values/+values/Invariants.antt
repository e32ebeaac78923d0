use Rattle.std.proofs.Common.{◌≡◌, length, take}
use Rattle.kql_scalar_fns.specs.Arguments.{AreWellFormed}
use Rattle.summarize_op.specs.Grouped.{AreFormed, all_over, along, down}
use Rattle.summarize_op.proofs.values.+values.Given as goal

abbrev pub invariant-values_of_all-parts : goal.invariant-values_of_all-parts
invariant-values_of_all-parts l = record {
  made : l.vectors.items ≡ all_over (take l.e-index l.es) l.t l.numbers l.count;
  form : AreFormed l.vectors.items;
}

abbrev pub invariant-values_along-links : goal.invariant-values_along-links
invariant-values_along-links l = record {
  made : l.left ≡ along (take l.link-index l.links) l.t l.numbers l.count l.fn.first;
  long : length l.left ≡ l.count;
  form : AreWellFormed l.left;
}

abbrev pub invariant-values_down-steps : goal.invariant-values_down-steps
invariant-values_down-steps l = record {
  made : l.left ≡ down (take l.step-index l.steps) l.t l.numbers l.count l.fn.first;
  long : length l.left ≡ l.count;
  form : AreWellFormed l.left;
}
