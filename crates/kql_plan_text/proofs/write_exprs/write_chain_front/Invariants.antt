use Rattle.std.proofs.Common.{◌≡◌, ◌≤◌, ◌++◌, drop, length}
use Rattle.kql_plan_text.specs.Exprs.{chain_front}
use Rattle.kql_plan_text.proofs.write_exprs.write_chain_front.Given as goal

abbrev pub invariant-loop-left : goal.invariant-loop-left
invariant-loop-left l = record {
  within : l.left ≤ length l.links;
  written : l.text ≡ l.initial.text ++ chain_front (drop l.left l.links);
}

abbrev pub decreases-loop-left : goal.decreases-loop-left
decreases-loop-left l = l.left
