use Rattle.std.proofs.Common.{◌≡◌, take}
use Rattle.bind_query.specs.TablesRead.{ops_tables, plans_tables, with_tables_read}
use Rattle.bind_query.proofs.tables_read.+read.Given as goal

abbrev pub invariant-read_ops-each : goal.invariant-read_ops-each
invariant-read_ops-each l = l.tables ≡ with_tables_read l.schemas l.fn.made (ops_tables (take l.op-index l.ops))

abbrev pub invariant-read_plans-each : goal.invariant-read_plans-each
invariant-read_plans-each l = l.tables ≡ with_tables_read l.schemas l.fn.made (plans_tables (take l.plan-index l.plans))
