use Rattle.std.proofs.Common.{◌≡◌, ◌≤◌, length, map, take, fold, option_map}
use Rattle.kql_dynamic.specs.Bags.{bag_of, entries_backwards, entries_seen, put}
use Rattle.kql_dynamic.proofs.bags.bag_merge.Given as goal

abbrev pub invariant-bags : goal.invariant-bags
invariant-bags l = record {
  within : l.count ≤ length l.args;
  merged : option_map (fold put (entries_seen l.merged.entries)) (entries_backwards (map (λ d. d.now) (take l.count l.args))) ≡ option_map bag_of (entries_backwards (map (λ d. d.now) l.args));
}

abbrev pub decreases-bags : goal.decreases-bags
decreases-bags l = l.count
