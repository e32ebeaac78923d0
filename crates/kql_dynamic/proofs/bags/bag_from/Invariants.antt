use Rattle.std.proofs.Common.{◌≡◌, ◌++◌}
use Rattle.kql_dynamic.specs.Bags.{entries_seen}
use Rattle.kql_dynamic.proofs.bags.bag_from.Given as goal

abbrev pub invariant-loop-key : goal.invariant-loop-key
invariant-loop-key l = l.bag ++ entries_seen l.key-iterator ≡ entries_seen l.fn.entries.entries
