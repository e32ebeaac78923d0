use Rattle.std.proofs.Common.{◌≡◌, ◌++◌, length, map}
use Rattle.std.specs.List.{flat_map}
use Rattle.kql_cells.specs.Seen.{seen}
use Rattle.kql_scalar_fns.specs.Arguments.{AreWellFormed}
use Rattle.kql_scalar_fns.specs.Readings.{text_of}
use Rattle.kql_scalar_fns.proofs.text.push_behind.Given as goal

abbrev pub invariant-values : goal.invariant-values
invariant-values l = record {
  form : AreWellFormed (map seen l.left);
  text : l.text ++ flat_map (λ v. l.between ++ text_of v) (map seen l.left) ≡ l.fn.text ++ flat_map (λ v. l.fn.between ++ text_of v) (map seen l.fn.args);
}

abbrev pub decreases-values : goal.decreases-values
decreases-values l = length l.left
