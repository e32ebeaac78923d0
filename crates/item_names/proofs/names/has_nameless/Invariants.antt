use Rattle.std.proofs.Common.{◌≡◌, length, map}
use Rattle.std.specs.Prelude.{is_none}
use Rattle.std.specs.List.{list_any}
use Rattle.item_names.specs.ItemNames.{own_name}
use Rattle.item_names.proofs.names.has_nameless.Given as goal

abbrev pub invariant-list : goal.invariant-list
invariant-list l = list_any is_none (map own_name l.left) ≡ list_any is_none (map own_name l.fn.args)

abbrev pub decreases-list : goal.decreases-list
decreases-list l = length l.left
