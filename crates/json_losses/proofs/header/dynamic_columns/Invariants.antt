use Rattle.std.proofs.Common.{◌≡◌, map, take}
use Rattle.csv.specs.Records.{fields_of}
use Rattle.json_losses.specs.Losses.{names_dynamic}
use Rattle.json_losses.proofs.header.dynamic_columns.Given as goal

abbrev pub invariant-loop-j : goal.invariant-loop-j
invariant-loop-j l = l.columns.items ≡ map names_dynamic (take l.j (fields_of l.header))
