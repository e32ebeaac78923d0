use Rattle.std.proofs.Common.{◌≡◌, ◌≤◌, ◌-◌, ◌++◌, drop, length, take}
use Rattle.kql_cells.specs.Table.{Grid}
use Rattle.kql_scalar_fns.specs.Arguments.{AreWellFormed}
use Rattle.kql_meaning.specs.Items.{items_values}
use Rattle.summarize_pieces.specs.Calls.{AreFurther, AreGiven, calls_of}
use Rattle.summarize_pieces.specs.Pieces.{kept_rows}
use Rattle.summarize_pieces.proofs.finish.item_values.Given as goal

-- what the items so far give, and what is given to the others
abbrev pub invariant-items : goal.invariant-items
invariant-items l = record {
  made : (u : Grid) → AreGiven (calls_of l.items) u l.fn.values → AreFurther l.schema (calls_of l.items) u (kept_rows l.folds l.k) → (l.line ≡ l.fn.key ++ items_values (take l.item-index l.items) u 0) × AreGiven (calls_of (drop l.item-index l.items)) u l.rest × AreFurther l.schema (calls_of (drop l.item-index l.items)) u (drop (length l.fn.values - length l.rest) (kept_rows l.folds l.k));
  form : AreWellFormed l.rest;
  low : length l.rest ≤ length l.fn.values;
}
