use Rattle.std.proofs.Common.{◌≡◌, ◌++◌, map, take}
use Rattle.std.specs.Prelude.{Some}
use Rattle.join_op.proofs.pairs.push_matches.Given as goal

abbrev pub invariant-loop-j : goal.invariant-loop-j
invariant-loop-j l = record {
  leads : l.leads ≡ l.initial.leads ++ map (λ j. l.lead) (take l.j l.found);
  others : l.others ≡ l.initial.others ++ map (λ j. Some j) (take l.j l.found);
}
