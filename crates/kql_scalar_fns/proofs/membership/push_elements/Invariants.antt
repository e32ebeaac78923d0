use Rattle.std.proofs.Common.{◌≡◌, ◌++◌, true, length, map}
use Rattle.std.specs.List.{list_all}
use Rattle.kql_cells.specs.Dynamic.{is_well_formed_dynamic}
use Rattle.kql_dynamic.specs.Parts.{value_of}
use Rattle.kql_scalar_fns.specs.Comparison.{in_kind}
use Rattle.kql_scalar_fns.proofs.membership.push_elements.Given as goal

abbrev pub invariant-elements : goal.invariant-elements
invariant-elements l = record {
  form : list_all is_well_formed_dynamic l.left ≡ true;
  values : l.values.items ++ map (in_kind l.kind) (map value_of l.left) ≡ l.fn.values.items ++ map (in_kind l.fn.kind) (map value_of l.fn.parts);
}

abbrev pub decreases-elements : goal.decreases-elements
decreases-elements l = length l.left
