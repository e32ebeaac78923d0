use Rattle.std.proofs.Common.{◌≡◌, length, map, fold, option_map}
use Rattle.kql_dynamic.specs.Bags.{bag_of, entries_seen, pairs, put}
use Rattle.kql_dynamic.proofs.bags.packed_entries.Given as goal

abbrev pub invariant-pairs : goal.invariant-pairs
invariant-pairs l = option_map (fold put (entries_seen l.packed.entries)) (pairs (map (λ d. d.now) l.left)) ≡ option_map bag_of (pairs (map (λ d. d.now) l.fn.args))

abbrev pub decreases-pairs : goal.decreases-pairs
decreases-pairs l = length l.left
