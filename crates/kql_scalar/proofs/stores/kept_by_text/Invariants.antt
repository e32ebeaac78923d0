use Rattle.std.proofs.Common.{◌≡◌, filter, map, take}
use Rattle.kql_cells.specs.declared.value.Value.TheVariants as value
use Rattle.kql_values.specs.Stores.{text_value}
use Rattle.kql_scalar.specs.Stores.{value_compares}
use Rattle.kql_scalar.proofs.stores.kept_by_text.Given as goal

abbrev pub invariant-places : goal.invariant-places
invariant-places l = l.kept.items ≡ filter (value_compares l.f (map text_value l.texts) (value.Text l.text)) (take l.place-index l.places)
