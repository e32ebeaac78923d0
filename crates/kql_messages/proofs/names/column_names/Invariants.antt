use Rattle.std.proofs.Common.{◌≡◌, ◌++◌, map, length}
use Rattle.kql_near.specs.Nearest.{texts}
use Rattle.kql_messages.proofs.names.column_names.Given as goal

-- the names so far, and those of the columns that are left, are all
abbrev pub invariant-loop-left : goal.invariant-loop-left
invariant-loop-left l = texts l.names.items ++ map (λ c. c.name.now) l.left ≡ map (λ c. c.name.now) l.fn.columns

abbrev pub decreases-loop-left : goal.decreases-loop-left
decreases-loop-left l = length l.left
