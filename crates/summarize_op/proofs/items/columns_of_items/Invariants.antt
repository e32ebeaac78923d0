use Rattle.summarize_op.specs.Columns.{AreColumns}
use Rattle.summarize_op.proofs.ItemSteps.{first_values}
use Rattle.summarize_op.proofs.items.columns_of_items.Given as goal

-- the values of the items so far
abbrev pub invariant-items : goal.invariant-items
invariant-items l = AreColumns l.count (first_values l.items l.item-index l.t l.numbers) l.vectors.items
