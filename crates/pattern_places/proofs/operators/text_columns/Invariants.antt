use Rattle.std.proofs.Common.{◌≡◌, take}
use Rattle.pattern_laws.specs.Liftable.{text_columns}
use Rattle.pattern_places.proofs.operators.text_columns.Given as goal

abbrev pub invariant-columns : goal.invariant-columns
invariant-columns l = l.all ≡ text_columns (take l.column-index l.columns)
