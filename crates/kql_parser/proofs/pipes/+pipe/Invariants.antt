use Rattle.std.proofs.Common.{◌+◌, ◌-◌, ◌*◌, ◌≤◌, ◌<◌, length, [], ◌∷◌}
use Rattle.kql_syntax.specs.declared.class.Class.TheVariants as class
use Rattle.kql_syntax.specs.Levels.{Level}
use Rattle.kql_syntax.specs.Forms.{level, after}
use Rattle.kql_syntax.proofs.ReadingLaws.{Ahead, Listing}
use Rattle.kql_parser.proofs.pipes.+pipe.Given as goal

abbrev pub invariant-tables-list : goal.invariant-tables-list
invariant-tables-list l = record { order : l.fn.at < l.end; within : l.end ≤ length l.ts; listing : Listing (class.Comma ∷ []) (level Level.TableArg) l.ts l.fn.at l.end l.items }

abbrev pub decreases-tables-list : goal.decreases-tables-list
decreases-tables-list l = length l.ts - l.end

abbrev pub decreases-tables : goal.decreases-tables
decreases-tables l = 32 * (length l.ts.now - l.at) + 6

abbrev pub decreases-table_arg : goal.decreases-table_arg
decreases-table_arg l = 32 * (length l.ts.now - l.at) + 5

abbrev pub decreases-union : goal.decreases-union
decreases-union l = 32 * (length l.ts.now - l.at) + 7

abbrev pub decreases-partition : goal.decreases-partition
decreases-partition l = 32 * (length l.ts.now - l.at) + 8

abbrev pub decreases-partition_rest : goal.decreases-partition_rest
decreases-partition_rest l = 32 * (length l.ts.now - l.at) + 7

abbrev pub decreases-part_body : goal.decreases-part_body
decreases-part_body l = 32 * (length l.ts.now - l.at) + 6

abbrev pub decreases-join_rest : goal.decreases-join_rest
decreases-join_rest l = 32 * (length l.ts.now - l.at) + 6

abbrev pub invariant-part_ops-list : goal.invariant-part_ops-list
invariant-part_ops-list l = record { order : l.fn.at < l.end; within : l.end ≤ length l.ts; listing : Listing (class.Bar ∷ []) (level Level.Op) l.ts l.fn.at l.end l.items }

abbrev pub decreases-part_ops-list : goal.decreases-part_ops-list
decreases-part_ops-list l = length l.ts - l.end

abbrev pub decreases-part_ops : goal.decreases-part_ops
decreases-part_ops l = 32 * (length l.ts.now - l.at) + 10

abbrev pub invariant-ops-chain : goal.invariant-ops-chain
invariant-ops-chain l = record { order : l.fn.at ≤ l.end; within : l.end ≤ length l.ts; ahead : Ahead (after (class.Bar ∷ []) (level Level.Op)) l.ts l.fn.at l.end l.more }

abbrev pub decreases-ops-chain : goal.decreases-ops-chain
decreases-ops-chain l = length l.ts - l.end

abbrev pub decreases-ops : goal.decreases-ops
decreases-ops l = 32 * (length l.ts.now - l.at) + 1

abbrev pub decreases-boxed_pipe : goal.decreases-boxed_pipe
decreases-boxed_pipe l = 32 * (length l.ts.now - l.at) + 11

abbrev pub decreases-pipe : goal.decreases-pipe
decreases-pipe l = 32 * (length l.ts.now - l.at) + 10

abbrev pub decreases-join : goal.decreases-join
decreases-join l = 32 * (length l.ts.now - l.at) + 8

abbrev pub decreases-join_kinded : goal.decreases-join_kinded
decreases-join_kinded l = 32 * (length l.ts.now - l.at) + 7

abbrev pub decreases-table_op : goal.decreases-table_op
decreases-table_op l = 32 * (length l.ts.now - l.at) + 8

abbrev pub decreases-op : goal.decreases-op
decreases-op l = 32 * (length l.ts.now - l.at) + 9

abbrev pub decreases-source : goal.decreases-source
decreases-source l = 32 * (length l.ts.now - l.at) + 9
