-- `partition by c (subquery)`: the subquery applied to the rows of each key of c, and the results one after another, keys in order of
-- first occurrence. Its columns are those of the subquery on no rows.
use Rattle.std.specs.Prelude.{ℕ, List, [], ◌∷◌}
use Rattle.std.specs.List.{flat_map}
use Rattle.kql_cells.specs.Table.{Grid}
use Rattle.kql_cells.specs.declared.value.Value.{Value}
use Rattle.kql_meaning.specs.Groups.{distinct_keys, group_of}
use Rattle.kql_meaning.specs.Tables.{cell, emptied}

-- The key of a row.
unfoldable pub key_in_column : List ℕ → Grid → ℕ → List Value
key_in_column c t i = cell t i c ∷ []

unfoldable pub partition_table : List ℕ → (Grid → Grid) → Grid → Grid
partition_table c subquery t = record {
  columns = (subquery (emptied t)).columns;
  lines = flat_map (λ k. (subquery (group_of (key_in_column c t) t k)).lines) (distinct_keys (key_in_column c t) t);
}
