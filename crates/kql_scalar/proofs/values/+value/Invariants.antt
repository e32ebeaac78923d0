use Rattle.std.proofs.Common.{◌≡◌, ◌-◌, ◌*◌, drop, map, take}
use Rattle.kql_cells.specs.Values.{IsWellFormed}
use Rattle.kql_scalar_fns.specs.Arguments.{AreWellFormed}
use Rattle.kql_scalar_fns.specs.Choice.{first_case, first_given}
use Rattle.kql_scalar_fns.specs.Logic.{conjunction, disjunction}
use Rattle.kql_meaning.specs.Windows.{last_where}
use Rattle.kql_scalar.specs.Evaluated.{along, down, is_restart, sum_over, values_of}
use Rattle.kql_scalar.specs.Shown.{shown}
use Rattle.kql_scalar.specs.Sums.{IsSumOf}
use Rattle.kql_scalar.proofs.values.+value.Given as goal

abbrev pub invariant-values_of-arguments : goal.invariant-values_of-arguments
invariant-values_of-arguments l = record {
  made : map shown l.values.items ≡ values_of (take l.arg-index l.args) l.t l.i l.s;
  form : AreWellFormed (map shown l.values.items);
}

abbrev pub invariant-value_along-links : goal.invariant-value_along-links
invariant-value_along-links l = record {
  made : shown l.left ≡ along (take l.link-index l.links) l.t l.i l.s (shown l.fn.first);
  form : IsWellFormed (shown l.left);
}

abbrev pub invariant-value_down-steps : goal.invariant-value_down-steps
invariant-value_down-steps l = record {
  made : shown l.left ≡ down (take l.step-index l.steps) l.t l.i l.s (shown l.fn.whole);
  form : IsWellFormed (shown l.left);
}

abbrev pub invariant-conjunction-terms : goal.invariant-conjunction-terms
invariant-conjunction-terms l = l.known ≡ conjunction (values_of (take l.arg-index l.args) l.t l.i l.s)

abbrev pub invariant-disjunction-terms : goal.invariant-disjunction-terms
invariant-disjunction-terms l = l.known ≡ disjunction (values_of (take l.arg-index l.args) l.t l.i l.s)

abbrev pub invariant-case_place-conditions : goal.invariant-case_place-conditions
invariant-case_place-conditions l = first_case (values_of l.args l.t l.i l.s) ≡ first_case (drop (2 * l.k) (values_of l.args l.t l.i l.s))

abbrev pub invariant-first_given-arguments : goal.invariant-first_given-arguments
invariant-first_given-arguments l = first_given (values_of l.args l.t l.i l.s) ≡ first_given (drop l.k (values_of l.args l.t l.i l.s))

abbrev pub invariant-last_restart-rows : goal.invariant-last_restart-rows
invariant-last_restart-rows l = last_where (is_restart l.restart l.t l.s) l.i ≡ last_where (is_restart l.restart l.t l.s) (l.i - l.k)

abbrev pub invariant-sum_between-rows : goal.invariant-sum_between-rows
invariant-sum_between-rows l = record {
  made : l.sum ≡ sum_over l.term l.t l.s l.from l.j;
  bounded : IsSumOf (l.j - l.from) l.sum;
}
