use Rattle.std.proofs.Common.{◌≡◌, ◌++◌, take, map, true}
use Rattle.std.specs.List.{list_all}
use Rattle.kql_cells.specs.Dynamic.{has_form}
use Rattle.kql_dynamic.specs.Json.{entry_of, part_of}
use Rattle.kql_dynamic.proofs.json.+dyn_of.Given as goal

abbrev pub invariant-parts_of-loop-item : goal.invariant-parts_of-loop-item
invariant-parts_of-loop-item l = record {
  value : l.parts ≡ map part_of (take l.item-index l.item-items);
  form : list_all has_form l.parts ≡ true;
}

abbrev pub invariant-entries_of-loop-key : goal.invariant-entries_of-loop-key
invariant-entries_of-loop-key l = record {
  value : l.entries ++ map entry_of l.key-iterator ≡ map entry_of l.members.entries;
  form : list_all (λ e. has_form e.1) l.entries ≡ true;
}
