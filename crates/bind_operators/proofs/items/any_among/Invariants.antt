use Rattle.std.proofs.Common.{◌≡◌, length}
use Rattle.std.specs.List.{list_any}
use Rattle.kql_meaning.specs.Tables.{is_name_among}
use Rattle.bind_operators.proofs.items.any_among.Given as goal

abbrev pub invariant-each : goal.invariant-each
invariant-each l = list_any (is_name_among l.before) l.left ≡ list_any (is_name_among l.fn.before) l.fn.names

abbrev pub decreases-each : goal.decreases-each
decreases-each l = length l.left
