-- What `summarize` that fits gives.
use Rattle.std.specs.Prelude.{◌<◌, ℕ, [], ◌∷◌, Contains, IsTrue, length}
use Rattle.kql_cells.specs.Table.{Grid, RowFits}
use Rattle.kql_bound.specs.declared.parts.BItem.{BItem}
use Rattle.kql_bound.specs.declared.parts.GroupPlan.{GroupPlan}
use Rattle.kql_bound.specs.declared.plan.Op.TheVariants as op
use Rattle.kql_meaning.specs.Expressions.{val}
use Rattle.kql_meaning.specs.Fits.{Known}
use Rattle.kql_meaning.specs.FittingOperators.{group_item_fits, key_item_fits}
use Rattle.kql_meaning.specs.Items.{named_columns}
use Rattle.kql_meaning.specs.Results.{result_kinds, results}
use Rattle.kql_meaning.specs.Plans.{World}
use Rattle.kql_fit_laws.specs.LawsOfRows.{IsTable, OpKeeps}

-- The key that an item gives at a row of a table that it fits fits its column.
abbrev pub KeyItemKeeps : BItem → Type 0
KeyItemKeeps b = (t : Grid) (i : ℕ) → IsTable t → i < length t.lines → IsTrue (key_item_fits t.columns b) → RowFits (named_columns b.names (result_kinds b.expr t.columns)) (val b.expr t i [] ∷ [])

-- What an item gives of a group fits its columns, also where the group has no row.
abbrev pub GroupItemKeeps : BItem → Type 0
GroupItemKeeps b = (t : Grid) → IsTable t → IsTrue (group_item_fits t.columns b) → RowFits (named_columns b.names (result_kinds b.expr t.columns)) (results b.expr t 0 [])

-- `summarize`, and so `distinct`, which has no items.
abbrev pub SummarizeKeeps : Type 0
SummarizeKeeps = (k : Known) (w : World) (g : GroupPlan) → ((b : BItem) → Contains g.keys b → KeyItemKeeps b) → ((b : BItem) → Contains g.items b → GroupItemKeeps b) → OpKeeps k w (op.Summarize g)
