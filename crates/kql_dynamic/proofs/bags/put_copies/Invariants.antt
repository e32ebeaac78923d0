use Rattle.std.proofs.Common.{◌≡◌, fold, take}
use Rattle.kql_dynamic.specs.Bags.{entries_seen, put}
use Rattle.kql_dynamic.proofs.bags.put_copies.Given as goal

abbrev pub invariant-loop-entry : goal.invariant-loop-entry
invariant-loop-entry l = entries_seen l.bag.entries ≡ fold put (entries_seen l.initial.bag.entries) (take l.entry-index l.entries)
