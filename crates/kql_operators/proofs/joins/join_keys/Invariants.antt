use Rattle.std.proofs.Common.{◌-◌, ◌≤◌, ◌<◌, length, [], ◌∷◌}
use Rattle.kql_syntax.specs.declared.class.Class.TheVariants as class
use Rattle.kql_syntax.specs.Grammar.{join_key}
use Rattle.kql_syntax.proofs.ReadingLaws.{Listing}
use Rattle.kql_operators.proofs.joins.join_keys.Given as goal

abbrev pub invariant-list : goal.invariant-list
invariant-list l = record { order : l.fn.at < l.end; within : l.end ≤ length l.ts; listing : Listing (class.Comma ∷ []) (join_key) l.ts l.fn.at l.end l.items }

abbrev pub decreases-list : goal.decreases-list
decreases-list l = length l.ts - l.end
