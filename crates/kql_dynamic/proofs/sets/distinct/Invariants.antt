use Rattle.std.proofs.Common.{◌≡◌, take, map}
use Rattle.std.specs.HashSet.{contains}
use Rattle.kql_cells.specs.declared.dynamic.Dyn.{Dyn}
use Rattle.kql_cells.specs.Same.{same}
use Rattle.kql_dynamic.specs.Sets.{distinct, is_among}
use Rattle.kql_dynamic.proofs.sets.distinct.Given as goal

abbrev pub invariant-loop-part : goal.invariant-loop-part
invariant-loop-part l = record {
  seen : (d : Dyn) → contains same l.seen d ≡ is_among (map (λ d. d.now) (take l.part-index l.parts)) d;
  list : l.list ≡ distinct (map (λ d. d.now) (take l.part-index l.parts));
}
