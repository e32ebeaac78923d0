use Rattle.std.proofs.Common.{◌≡◌, map, take}
use Rattle.table_ops.specs.InColumns.{tables_lent}
use Rattle.kql_plain.specs.Inputs.{input_table}
use Rattle.kql_plain.proofs.input.lent_tables.Given as goal

-- the tables so far
abbrev pub invariant-loop-k : goal.invariant-loop-k
invariant-loop-k l = tables_lent l.tables.items ≡ map input_table (take l.k l.inputs)
