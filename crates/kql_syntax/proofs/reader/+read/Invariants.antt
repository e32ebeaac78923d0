use Rattle.std.proofs.Common.{◌+◌, ◌-◌, ◌*◌, ◌≤◌, ◌<◌, length, [], ◌∷◌}
use Rattle.kql_syntax.specs.declared.class.Class.TheVariants as class
use Rattle.kql_syntax.specs.Levels.{Level}
use Rattle.kql_syntax.specs.Forms.{level}
use Rattle.kql_syntax.specs.Grammar.{or_more, and_more, sum_more, prod_more}
use Rattle.kql_syntax.proofs.ReadingLaws.{Ahead, Listing}
use Rattle.kql_syntax.proofs.reader.+read.Given as goal

abbrev pub decreases-expr : goal.decreases-expr
decreases-expr l = 16 * (length l.ts.now - l.at) + 11

abbrev pub decreases-boxed_expr : goal.decreases-boxed_expr
decreases-boxed_expr l = 16 * (length l.ts.now - l.at) + 12

abbrev pub decreases-boxed_sum : goal.decreases-boxed_sum
decreases-boxed_sum l = 16 * (length l.ts.now - l.at) + 9

abbrev pub decreases-low_sum : goal.decreases-low_sum
decreases-low_sum l = 16 * (length l.ts.now - l.at) + 9

abbrev pub decreases-two_sums : goal.decreases-two_sums
decreases-two_sums l = 16 * (length l.ts.now - l.at) + 10

abbrev pub decreases-and : goal.decreases-and
decreases-and l = 16 * (length l.ts.now - l.at) + 10

abbrev pub decreases-cmp : goal.decreases-cmp
decreases-cmp l = 16 * (length l.ts.now - l.at) + 9

abbrev pub decreases-sum : goal.decreases-sum
decreases-sum l = 16 * (length l.ts.now - l.at) + 8

abbrev pub decreases-prod : goal.decreases-prod
decreases-prod l = 16 * (length l.ts.now - l.at) + 7

abbrev pub decreases-sign : goal.decreases-sign
decreases-sign l = 16 * (length l.ts.now - l.at) + 6

abbrev pub decreases-post : goal.decreases-post
decreases-post l = 16 * (length l.ts.now - l.at) + 5

abbrev pub decreases-term : goal.decreases-term
decreases-term l = 16 * (length l.ts.now - l.at) + 4

abbrev pub decreases-access : goal.decreases-access
decreases-access l = 16 * (length l.ts.now - l.at) + 2

abbrev pub decreases-accesses : goal.decreases-accesses
decreases-accesses l = 16 * (length l.ts.now - l.at) + 3

abbrev pub decreases-or_more : goal.decreases-or_more
decreases-or_more l = 16 * (length l.ts.now - l.at) + 1

abbrev pub decreases-and_more : goal.decreases-and_more
decreases-and_more l = 16 * (length l.ts.now - l.at) + 1

abbrev pub decreases-sum_more : goal.decreases-sum_more
decreases-sum_more l = 16 * (length l.ts.now - l.at) + 1

abbrev pub decreases-prod_more : goal.decreases-prod_more
decreases-prod_more l = 16 * (length l.ts.now - l.at) + 1

abbrev pub decreases-round_exprs : goal.decreases-round_exprs
decreases-round_exprs l = 16 * (length l.ts.now - l.at) + 1

abbrev pub decreases-exprs : goal.decreases-exprs
decreases-exprs l = 16 * (length l.ts.now - l.at) + 12

abbrev pub decreases-regex_sum : goal.decreases-regex_sum
decreases-regex_sum l = 16 * (length l.ts.now - l.at) + 1

abbrev pub decreases-bounds : goal.decreases-bounds
decreases-bounds l = 16 * (length l.ts.now - l.at) + 1

abbrev pub decreases-arguments : goal.decreases-arguments
decreases-arguments l = 16 * (length l.ts.now - l.at) + 1

abbrev pub decreases-args : goal.decreases-args
decreases-args l = 16 * (length l.ts.now - l.at) + 13

abbrev pub decreases-arg : goal.decreases-arg
decreases-arg l = 16 * (length l.ts.now - l.at) + 12

abbrev pub invariant-or_more-chain : goal.invariant-or_more-chain
invariant-or_more-chain l = record { order : l.fn.at ≤ l.end; within : l.end ≤ length l.ts; ahead : Ahead or_more l.ts l.fn.at l.end l.more }

abbrev pub decreases-or_more-chain : goal.decreases-or_more-chain
decreases-or_more-chain l = length l.ts - l.end

abbrev pub invariant-and_more-chain : goal.invariant-and_more-chain
invariant-and_more-chain l = record { order : l.fn.at ≤ l.end; within : l.end ≤ length l.ts; ahead : Ahead and_more l.ts l.fn.at l.end l.more }

abbrev pub decreases-and_more-chain : goal.decreases-and_more-chain
decreases-and_more-chain l = length l.ts - l.end

abbrev pub invariant-sum_more-chain : goal.invariant-sum_more-chain
invariant-sum_more-chain l = record { order : l.fn.at ≤ l.end; within : l.end ≤ length l.ts; ahead : Ahead sum_more l.ts l.fn.at l.end l.more }

abbrev pub decreases-sum_more-chain : goal.decreases-sum_more-chain
decreases-sum_more-chain l = length l.ts - l.end

abbrev pub invariant-prod_more-chain : goal.invariant-prod_more-chain
invariant-prod_more-chain l = record { order : l.fn.at ≤ l.end; within : l.end ≤ length l.ts; ahead : Ahead prod_more l.ts l.fn.at l.end l.more }

abbrev pub decreases-prod_more-chain : goal.decreases-prod_more-chain
decreases-prod_more-chain l = length l.ts - l.end

abbrev pub invariant-accesses-chain : goal.invariant-accesses-chain
invariant-accesses-chain l = record { order : l.fn.at ≤ l.end; within : l.end ≤ length l.ts; ahead : Ahead (level Level.Access) l.ts l.fn.at l.end l.more }

abbrev pub decreases-accesses-chain : goal.decreases-accesses-chain
decreases-accesses-chain l = length l.ts - l.end

abbrev pub invariant-exprs-list : goal.invariant-exprs-list
invariant-exprs-list l = record { order : l.fn.at < l.end; within : l.end ≤ length l.ts; listing : Listing (class.Comma ∷ []) (level Level.Expr) l.ts l.fn.at l.end l.items }

abbrev pub decreases-exprs-list : goal.decreases-exprs-list
decreases-exprs-list l = length l.ts - l.end

abbrev pub invariant-args-list : goal.invariant-args-list
invariant-args-list l = record { order : l.fn.at < l.end; within : l.end ≤ length l.ts; listing : Listing (class.Comma ∷ []) (level Level.Arg) l.ts l.fn.at l.end l.items }

abbrev pub decreases-args-list : goal.decreases-args-list
decreases-args-list l = length l.ts - l.end
