-- How many rows and which columns `union` and `mv-expand` give.
use Rattle.std.specs.Prelude.{◌≡◌, ◌≢◌, ◌≤◌, ◌⊎◌, ◌∷◌, Bool, false, ℕ, List, length, AllPairs, Contains}
use Rattle.std.specs.List.{sum_by}
use Rattle.kql_cells.specs.Table.{Grid}
use Rattle.kql_cells.specs.declared.schema.Column.{Column}
use Rattle.kql_bound.specs.declared.parts.Expand.{Expand}
use Rattle.kql_bound.specs.declared.parts.ExpandItem.{ExpandItem}
use Rattle.kql_meaning.specs.MvExpand.{expand_table, item_parts, rows_given}
use Rattle.kql_meaning.specs.Tables.{places}
use Rattle.kql_meaning.specs.Union.{union_columns, union_table}

-- Union.

-- Of kind outer no two columns have one name.
abbrev pub UnionNamesDiffer : Type 0
UnionNamesDiffer = (first : List Column) (others : List (List Column)) → AllPairs (λ c d. c.name ≢ d.name) (union_columns false first others)

-- Each column of each table stands there by its name.
abbrev pub UnionHasEachColumn : Type 0
UnionHasEachColumn = (first : List Column) (others : List (List Column)) (columns : List Column) (c : Column) → Contains (first ∷ others) columns → Contains columns c → (d : Column) × Contains (union_columns false first others) d × (d.name ≡ c.name)

-- And each that stands there is a column of one of the tables.
abbrev pub UnionHasNoOther : Type 0
UnionHasNoOther = (first : List Column) (others : List (List Column)) (d : Column) → Contains (union_columns false first others) d → (columns : List Column) × Contains (first ∷ others) columns × Contains columns d

-- There are as many rows as all tables have.
abbrev pub UnionHasAllRows : Type 0
UnionHasAllRows = (inner : Bool) (a : Grid) (others : List Grid) → length (union_table inner a others).lines ≡ sum_by (λ (t : Grid). length t.lines) (a ∷ others)

-- Mv-expand.

-- A row gives as many rows as the longest list of parts is long: none is longer, and one is as long, where any row is given.
abbrev pub RowsGivenAreLongest : Type 0
RowsGivenAreLongest = (x : Expand) (t : Grid) (i : ℕ) → ((item : ExpandItem) → Contains x.items item → length (item_parts x t i item) ≤ rows_given x t i) × ((rows_given x t i ≡ 0) ⊎ ((item : ExpandItem) × Contains x.items item × (length (item_parts x t i item) ≡ rows_given x t i)))

-- The table has the rows that its rows give.
abbrev pub ExpandCounts : Type 0
ExpandCounts = (x : Expand) (t : Grid) → length (expand_table x t).lines ≡ sum_by (rows_given x t) (places t)
