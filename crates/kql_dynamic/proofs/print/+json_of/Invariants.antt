use Rattle.std.proofs.Common.{◌≡◌, ◌&&◌, false, true, take, map}
use Rattle.std.specs.List.{list_all, list_any}
use Rattle.serde_json.specs.Data.{no_members}
use Rattle.serde_json.specs.View.{members_view, view}
use Rattle.serde_json.specs.Written.{members_have_float}
use Rattle.kql_cells.specs.Dynamic.{ascends, has_form}
use Rattle.kql_dynamic.specs.Json.{entry_of, part_of}
use Rattle.kql_dynamic.specs.Printed.{data_of, entry_data, is_float_value, puts}
use Rattle.kql_dynamic.proofs.print.+json_of.Given as goal

abbrev pub invariant-items_of-loop-part : goal.invariant-items_of-loop-part
invariant-items_of-loop-part l = record {
  data' : map view l.items.items ≡ map data_of (take l.part-index l.parts);
  whole : list_any is_float_value l.items.items ≡ false;
  back : list_all has_form (take l.part-index l.parts) ≡ true → map part_of l.items.items ≡ take l.part-index l.parts;
}

abbrev pub invariant-members_of-loop-entry : goal.invariant-members_of-loop-entry
invariant-members_of-loop-entry l = record {
  data' : members_view l.members.entries ≡ puts no_members (map entry_data (take l.entry-index l.entries));
  whole : members_have_float (members_view l.members.entries) ≡ false;
  back : (ascends (take l.entry-index l.entries) && list_all (λ e. has_form e.1) (take l.entry-index l.entries)) ≡ true → map entry_of l.members.entries ≡ take l.entry-index l.entries;
}
