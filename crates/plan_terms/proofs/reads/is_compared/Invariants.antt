use Rattle.std.proofs.Common.{◌≡◌, length, map}
use Rattle.kql_bound.specs.declared.parts.OnPair.{OnPair}
use Rattle.kql_meaning.specs.Tables.{is_name_among}
use Rattle.plan_terms.proofs.reads.is_compared.Given as goal

abbrev pub invariant-pairs : goal.invariant-pairs
invariant-pairs l = is_name_among (map (λ (pair : OnPair). pair.left) l.left) l.name ≡ is_name_among (map (λ (pair : OnPair). pair.left) l.fn.on) l.fn.name

abbrev pub decreases-pairs : goal.decreases-pairs
decreases-pairs l = length l.left
