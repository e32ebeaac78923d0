use Rattle.std.proofs.Common.{◌≡◌, true, length, map, take}
use Rattle.std.specs.List.{list_all}
use Rattle.kql_cells.specs.Dynamic.{is_well_formed_dynamic}
use Rattle.kql_cells.specs.Seen.{seen}
use Rattle.kql_scalar_fns.specs.Dynamic.{element, held}
use Rattle.kql_scalar_fns.proofs.dynamic.elements.Given as goal

abbrev pub invariant-arguments : goal.invariant-arguments
invariant-arguments l = record {
  value : map held l.elements.items ≡ map element (map seen (take l.arg-index l.args));
  form : list_all is_well_formed_dynamic (map held l.elements.items) ≡ true;
  count : length l.elements.items ≡ l.arg-index;
}
