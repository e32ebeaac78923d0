use Rattle.std.proofs.Common.{◌≡◌, take}
use Rattle.summarize_op.specs.Passes.{folds_of}
use Rattle.summarize_pieces.specs.Pieces.{ColumnsStored}
use Rattle.summarize_pieces.proofs.folds.fold_groups.Given as goal

-- the folds of the rows so far
abbrev pub invariant-rows : goal.invariant-rows
invariant-rows l = (l.folds.items ≡ folds_of l.fn.call l.columns (take l.i l.numbers) l.count) × ColumnsStored l.i l.columns
