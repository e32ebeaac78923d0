-- A run that follows a script.
use Rattle.std.specs.Prelude.{List}
use Rattle.kql_cells.specs.Table.{Grid}
use Rattle.live_catalogue.specs.Rule.{StartsWith}

-- the batches that are published are the first ones of the script, whatever the value is that opens
abbrev pub is_scripted : {V : Type 0} → List Grid → V → List Grid → Type 0
is_scripted batches first published = StartsWith batches published
