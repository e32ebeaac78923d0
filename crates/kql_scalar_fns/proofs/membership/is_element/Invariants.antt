use Rattle.std.proofs.Common.{◌≡◌, true, length, map}
use Rattle.std.specs.List.{list_all, list_any}
use Rattle.kql_cells.specs.Dynamic.{is_well_formed_dynamic}
use Rattle.kql_cells.specs.Seen.{seen}
use Rattle.kql_dynamic.specs.Parts.{value_of}
use Rattle.kql_scalar_fns.specs.Comparison.{is_match}
use Rattle.kql_scalar_fns.proofs.membership.is_element.Given as goal

abbrev pub invariant-elements : goal.invariant-elements
invariant-elements l = record {
  form : list_all is_well_formed_dynamic l.left ≡ true;
  among : list_any (is_match l.fold (seen l.x)) (map value_of l.left) ≡ list_any (is_match l.fn.fold (seen l.fn.x)) (map value_of l.fn.parts);
}

abbrev pub decreases-elements : goal.decreases-elements
decreases-elements l = length l.left
