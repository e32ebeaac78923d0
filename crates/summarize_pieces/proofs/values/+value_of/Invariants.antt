use Rattle.std.proofs.Common.{◌≡◌, [], drop, take}
use Rattle.kql_cells.specs.Table.{Grid}
use Rattle.kql_cells.specs.Values.{IsWellFormed}
use Rattle.kql_scalar_fns.specs.Arguments.{AreWellFormed}
use Rattle.kql_meaning.specs.Expressions.{value_along, value_down, values_in}
use Rattle.summarize_pieces.specs.Calls.{AreGiven, calls_along, calls_in_all}
use Rattle.summarize_pieces.proofs.values.+value_of.Given as goal

-- the values of the parts so far, and what is given to the others
abbrev pub invariant-values_of-parts : goal.invariant-values_of-parts
invariant-values_of-parts l = record {
  made : (u : Grid) → AreGiven (calls_in_all l.es) u l.fn.values → (l.made ≡ values_in (take l.e-index l.es) u 0 []) × AreGiven (calls_in_all (drop l.e-index l.es)) u l.rest;
  form : AreWellFormed l.made;
  rest : AreWellFormed l.rest;
}

abbrev pub invariant-value_along-links : goal.invariant-value_along-links
invariant-value_along-links l = record {
  made : (u : Grid) → AreGiven (calls_along l.links) u l.fn.values → (l.left ≡ value_along (take l.link-index l.links) u 0 [] l.fn.first) × AreGiven (calls_along (drop l.link-index l.links)) u l.rest;
  form : IsWellFormed l.left;
  rest : AreWellFormed l.rest;
}

abbrev pub invariant-value_down-steps : goal.invariant-value_down-steps
invariant-value_down-steps l = record {
  made : (u : Grid) → AreGiven (calls_in_all l.steps) u l.fn.values → (l.left ≡ value_down (take l.step-index l.steps) u 0 [] l.fn.whole) × AreGiven (calls_in_all (drop l.step-index l.steps)) u l.rest;
  form : IsWellFormed l.left;
  rest : AreWellFormed l.rest;
}
