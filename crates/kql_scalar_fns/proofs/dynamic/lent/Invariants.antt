use Rattle.std.proofs.Common.{◌≡◌, length, map, take}
use Rattle.kql_scalar_fns.specs.Dynamic.{held}
use Rattle.kql_scalar_fns.proofs.dynamic.lent.Given as goal

abbrev pub invariant-elements : goal.invariant-elements
invariant-elements l = record {
  value : map (λ d. d.now) l.values.items ≡ map held (take l.element-index l.elements);
  count : length l.values.items ≡ l.element-index;
}
