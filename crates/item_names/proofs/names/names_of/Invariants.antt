use Rattle.std.proofs.Common.{◌≡◌, map, take}
use Rattle.item_names.specs.ItemNames.{or_numbered, own_name}
use Rattle.item_names.proofs.names.names_of.Given as goal

abbrev pub invariant-loop-arg : goal.invariant-loop-arg
invariant-loop-arg l = l.names ≡ map (or_numbered l.number) (map own_name (take l.arg-index l.args))
