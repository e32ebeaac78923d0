use Rattle.std.proofs.Common.{◌≡◌, [], take}
use Rattle.std.specs.Prelude.{fold}
use Rattle.indexmap.specs.IndexSet.{insert_key}
use Rattle.kql_cells.specs.Keys.{same_key}
use Rattle.agg_folds.proofs.own.set_of.Given as goal

abbrev pub invariant-loop-value : goal.invariant-loop-value
invariant-loop-value l = l.set ≡ fold (insert_key same_key) [] (take l.value-index l.values)
