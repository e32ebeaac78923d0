use Rattle.std.proofs.Common.{◌≡◌, ◌++◌, [], drop, take}
use Rattle.kql_cells.specs.Table.{Grid}
use Rattle.kql_scalar_fns.specs.Arguments.{AreWellFormed}
use Rattle.kql_meaning.specs.Expressions.{values_in}
use Rattle.summarize_pieces.specs.Calls.{AreGiven, firsts}
use Rattle.summarize_pieces.proofs.finish.push_firsts.Given as goal

-- what the columns so far are, and what is given to the others
abbrev pub invariant-columns : goal.invariant-columns
invariant-columns l = record {
  made : (u : Grid) → AreGiven (firsts l.columns) u l.fn.values → (l.line ≡ l.fn.line ++ values_in (take l.j l.columns) u 0 []) × AreGiven (firsts (drop l.j l.columns)) u l.rest;
  form : AreWellFormed l.rest;
}
