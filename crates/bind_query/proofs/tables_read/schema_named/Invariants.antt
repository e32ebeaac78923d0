use Rattle.std.proofs.Common.{◌≡◌, length}
use Rattle.bind_query.specs.TablesRead.{schema_named}
use Rattle.bind_query.proofs.tables_read.schema_named.Given as goal

abbrev pub invariant-each : goal.invariant-each
invariant-each l = schema_named l.left l.name ≡ schema_named l.fn.schemas l.fn.name

abbrev pub decreases-each : goal.decreases-each
decreases-each l = length l.left
