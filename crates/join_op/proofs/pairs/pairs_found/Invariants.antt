use Rattle.std.proofs.Common.{◌≡◌, map, take}
use Rattle.kql_keys.specs.Matches.{matches_in}
use Rattle.kql_values.specs.Grids.{row_of}
use Rattle.join_op.specs.Pairs.{pairs_by}
use Rattle.join_op.proofs.pairs.pairs_found.Given as goal

-- the pairs of the rows so far
abbrev pub invariant-loop-k : goal.invariant-loop-k
invariant-loop-k l = record {
  leads : l.made ≡ map (λ q. q.0) (pairs_by l.rule (λ i. matches_in l.probe (row_of (map (λ c. c.now) l.columns) i)) (take l.k l.leads));
  others : l.others ≡ map (λ q. q.1) (pairs_by l.rule (λ i. matches_in l.probe (row_of (map (λ c. c.now) l.columns) i)) (take l.k l.leads));
}
