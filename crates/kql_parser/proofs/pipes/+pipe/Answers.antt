use Rattle.std.proofs.Common.{refl, arith}
use Rattle.kql_syntax.specs.Levels.{Level}
use Rattle.kql_syntax.proofs.ReadingLaws.{level_found, level_refused, makes_found, makes_refused, pair_found, pair_refused, pair_refused_late, after_found, after_refused, after_none, before_found, before_refused, before_none, either_left, either_right, either_refused_left, either_refused_right, found_other, missing_both, none_starts, passes, raises, ahead_more, ahead_end, ahead_refused, listed_start, listed_more, listed_end, listed_refused, listed_refused_first, refused_after}
use Rattle.kql_parser.proofs.pipes.+pipe.Goals as goal

pub tables-returns-in_err-first-clause-read : goal.tables-returns-in_err-first-clause-read
tables-returns-in_err-first-clause-read t c = raises _ c.from_residual.ensures.1 c.in_err-first.ensures.read (λ e r. listed_refused_first r refl)

pub tables-list-init : goal.tables-list-init
tables-list-init t c = record { order = grind arith; within = grind arith; listing = listed_start (rw (c.in_ok-push.ensures.added, c.new-items.ensures.empty) refl) c.in_ok-first.ensures.read refl }

pub tables-returns-in_err-item-clause-read : goal.tables-returns-in_err-item-clause-read
tables-returns-in_err-item-clause-read t c = raises _ c.from_residual-in_err-item.ensures.1 c.in_err-item.ensures.read (λ e r. listed_refused c.list.invariant.listing c.in-Some.ensures.some r refl)

pub tables-list-preserved : goal.tables-list-preserved
tables-list-preserved t c = record { order = grind arith; within = grind arith; listing = listed_more c.in_ok-push-2.ensures.added c.list.invariant.listing c.in-Some.ensures.some c.in_ok-item.ensures.read refl }

pub tables-returns-clause-read : goal.tables-returns-clause-read
tables-returns-clause-read t c = listed_end c.list.invariant.listing c.in_default.ensures.none

pub table_arg-returns-in_err-inner-clause-read : goal.table_arg-returns-in_err-inner-clause-read
table_arg-returns-in_err-inner-clause-read t c = raises _ c.from_residual.ensures.1 c.in_err-inner.ensures.read (λ e r. level_refused Level.TableArg (either_refused_right (makes_refused (pair_refused_late c.in-Some.ensures.some (before_refused r refl) refl)) (found_other c.in-Some.ensures.some refl refl) refl))

pub table_arg-returns-in_err-_close-clause-read : goal.table_arg-returns-in_err-_close-clause-read
table_arg-returns-in_err-_close-clause-read t c = raises _ c.from_residual-in_err-_close.ensures.1 c.in_err-_close.ensures.read (λ e r. level_refused Level.TableArg (either_refused_right (makes_refused (pair_refused_late c.in-Some.ensures.some (before_none c.in_ok-inner.ensures.read r refl) refl)) (found_other c.in-Some.ensures.some refl refl) refl))

pub table_arg-returns-in-Some-clause-read : goal.table_arg-returns-in-Some-clause-read
table_arg-returns-in-Some-clause-read t c = level_found Level.TableArg (either_right (makes_found (pair_found c.in-Some.ensures.some (before_found c.in_ok-inner.ensures.read c.in_ok-_close.ensures.read refl) refl)) (found_other c.in-Some.ensures.some refl refl) refl)

pub table_arg-returns-in_err-table-clause-read : goal.table_arg-returns-in_err-table-clause-read
table_arg-returns-in_err-table-clause-read t c = raises _ c.from_residual-in_err-table.ensures.1 c.in_err-table.ensures.read (λ e r. level_refused Level.TableArg (either_refused_left (makes_refused r) c.in_default.ensures.none refl))

pub table_arg-returns-clause-read : goal.table_arg-returns-clause-read
table_arg-returns-clause-read t c = level_found Level.TableArg (either_left (makes_found c.in_ok-table.ensures.read) c.in_default.ensures.none refl)

pub union-returns-in_err-kind-clause-read : goal.union-returns-in_err-kind-clause-read
union-returns-in_err-kind-clause-read t c = raises _ c.from_residual.ensures.1 c.in_err-kind.ensures.read (λ e r. (makes_refused (pair_refused r refl)))

pub union-returns-in_err-tables-clause-read : goal.union-returns-in_err-tables-clause-read
union-returns-in_err-tables-clause-read t c = raises _ c.from_residual-in_err-tables.ensures.1 c.in_err-tables.ensures.read (λ e r. (makes_refused (pair_refused_late c.in_ok-kind.ensures.read r refl)))

pub union-returns-clause-read : goal.union-returns-clause-read
union-returns-clause-read t c = (makes_found (pair_found c.in_ok-kind.ensures.read c.in_ok-tables.ensures.read refl))

pub part_ops-returns-in_err-first-clause-read : goal.part_ops-returns-in_err-first-clause-read
part_ops-returns-in_err-first-clause-read t c = raises _ c.from_residual.ensures.1 c.in_err-first.ensures.read (λ e r. listed_refused_first r refl)

pub part_ops-list-init : goal.part_ops-list-init
part_ops-list-init t c = record { order = grind arith; within = grind arith; listing = listed_start (rw (c.in_ok-push.ensures.added, c.new-items.ensures.empty) refl) c.in_ok-first.ensures.read refl }

pub part_ops-returns-in_err-item-clause-read : goal.part_ops-returns-in_err-item-clause-read
part_ops-returns-in_err-item-clause-read t c = raises _ c.from_residual-in_err-item.ensures.1 c.in_err-item.ensures.read (λ e r. listed_refused c.list.invariant.listing c.in-Some.ensures.some r refl)

pub part_ops-list-preserved : goal.part_ops-list-preserved
part_ops-list-preserved t c = record { order = grind arith; within = grind arith; listing = listed_more c.in_ok-push-2.ensures.added c.list.invariant.listing c.in-Some.ensures.some c.in_ok-item.ensures.read refl }

pub part_ops-returns-clause-read : goal.part_ops-returns-clause-read
part_ops-returns-clause-read t c = listed_end c.list.invariant.listing c.in_default.ensures.none

pub ops-returns-in_err-term-clause-read : goal.ops-returns-in_err-term-clause-read
ops-returns-in_err-term-clause-read t c = raises _ c.from_residual.ensures.1 c.in_err-term.ensures.read (λ e r. ahead_refused c.chain.invariant.ahead (refused_after r) (after_refused c.in-Some.ensures.some r) refl)

pub ops-chain-preserved : goal.ops-chain-preserved
ops-chain-preserved t c = record { order = grind arith; within = grind arith; ahead = ahead_more c.in_ok-push.ensures.added c.chain.invariant.ahead (after_found c.in-Some.ensures.some c.in_ok-term.ensures.read) refl refl }

pub ops-returns-clause-read : goal.ops-returns-clause-read
ops-returns-clause-read t c = ahead_end c.chain.invariant.ahead c.in_default.ensures.none refl

pub pipe-returns-in_err-source-clause-read : goal.pipe-returns-in_err-source-clause-read
pipe-returns-in_err-source-clause-read t c = raises _ c.from_residual.ensures.1 c.in_err-source.ensures.read (λ e r. (level_refused Level.Pipe (makes_refused (pair_refused r refl))))

pub pipe-returns-in-Err-clause-read : goal.pipe-returns-in-Err-clause-read
pipe-returns-in-Err-clause-read t c = passes (λ e r. (level_refused Level.Pipe (makes_refused (pair_refused_late c.in_ok-source.ensures.read r refl)))) c.in-Err.ensures.read

pub pipe-returns-in-Ok-clause-read : goal.pipe-returns-in-Ok-clause-read
pipe-returns-in-Ok-clause-read t c = (level_found Level.Pipe (makes_found (pair_found c.in_ok-source.ensures.read c.in-Ok.ensures.read refl)))

pub table_op-returns-in_err-joined-clause-read : goal.table_op-returns-in_err-joined-clause-read
table_op-returns-in_err-joined-clause-read t c = raises _ c.from_residual.ensures.1 c.in_err-joined.ensures.read (λ e r. (either_refused_left (makes_refused (pair_refused_late c.in-Some.ensures.some r refl)) (found_other c.in-Some.ensures.some refl refl) refl))

pub table_op-returns-in-Some-clause-read : goal.table_op-returns-in-Some-clause-read
table_op-returns-in-Some-clause-read t c = (either_left (makes_found (pair_found c.in-Some.ensures.some c.in_ok-joined.ensures.read refl)) (found_other c.in-Some.ensures.some refl refl) refl)

pub table_op-returns-in_err-looked_up-clause-read : goal.table_op-returns-in_err-looked_up-clause-read
table_op-returns-in_err-looked_up-clause-read t c = raises _ c.from_residual-in_err-looked_up.ensures.1 c.in_err-looked_up.ensures.read (λ e r. (either_refused_right (either_refused_left (makes_refused (pair_refused_late c.in-Some-take.ensures.some r refl)) (found_other c.in-Some-take.ensures.some refl refl) refl) (found_other c.in-Some-take.ensures.some refl refl) refl))

pub table_op-returns-in-Some-take-clause-read : goal.table_op-returns-in-Some-take-clause-read
table_op-returns-in-Some-take-clause-read t c = (either_right (either_left (makes_found (pair_found c.in-Some-take.ensures.some c.in_ok-looked_up.ensures.read refl)) (found_other c.in-Some-take.ensures.some refl refl) refl) (found_other c.in-Some-take.ensures.some refl refl) refl)

pub table_op-returns-in_err-tables-clause-read : goal.table_op-returns-in_err-tables-clause-read
table_op-returns-in_err-tables-clause-read t c = raises _ c.from_residual-in_err-tables.ensures.1 c.in_err-tables.ensures.read (λ e r. (either_refused_right (either_refused_right (either_refused_left (makes_refused (pair_refused_late c.in-Some-take-2.ensures.some r refl)) (found_other c.in-Some-take-2.ensures.some refl refl) refl) (found_other c.in-Some-take-2.ensures.some refl refl) refl) (found_other c.in-Some-take-2.ensures.some refl refl) refl))

pub table_op-returns-in-Some-take-2-clause-read : goal.table_op-returns-in-Some-take-2-clause-read
table_op-returns-in-Some-take-2-clause-read t c = (either_right (either_right (either_left (makes_found (pair_found c.in-Some-take-2.ensures.some c.in_ok-tables.ensures.read refl)) (found_other c.in-Some-take-2.ensures.some refl refl) refl) (found_other c.in-Some-take-2.ensures.some refl refl) refl) (found_other c.in-Some-take-2.ensures.some refl refl) refl)

pub table_op-returns-in_err-steps-clause-read : goal.table_op-returns-in_err-steps-clause-read
table_op-returns-in_err-steps-clause-read t c = raises _ c.from_residual-in_err-steps.ensures.1 c.in_err-steps.ensures.read (λ e r. (either_refused_right (either_refused_right (either_refused_right (either_refused_left (makes_refused (pair_refused_late c.in-Some-take-3.ensures.some r refl)) (found_other c.in-Some-take-3.ensures.some refl refl) refl) (found_other c.in-Some-take-3.ensures.some refl refl) refl) (found_other c.in-Some-take-3.ensures.some refl refl) refl) (found_other c.in-Some-take-3.ensures.some refl refl) refl))

pub table_op-returns-in-Some-take-3-clause-read : goal.table_op-returns-in-Some-take-3-clause-read
table_op-returns-in-Some-take-3-clause-read t c = (either_right (either_right (either_right (either_left (makes_found (pair_found c.in-Some-take-3.ensures.some c.in_ok-steps.ensures.read refl)) (found_other c.in-Some-take-3.ensures.some refl refl) refl) (found_other c.in-Some-take-3.ensures.some refl refl) refl) (found_other c.in-Some-take-3.ensures.some refl refl) refl) (found_other c.in-Some-take-3.ensures.some refl refl) refl)

pub table_op-returns-in_err-parts-clause-read : goal.table_op-returns-in_err-parts-clause-read
table_op-returns-in_err-parts-clause-read t c = raises _ c.from_residual-in_err-parts.ensures.1 c.in_err-parts.ensures.read (λ e r. (either_refused_right (either_refused_right (either_refused_right (either_refused_right (makes_refused (pair_refused_late c.in-Some-take-4.ensures.some r refl)) (found_other c.in-Some-take-4.ensures.some refl refl) refl) (found_other c.in-Some-take-4.ensures.some refl refl) refl) (found_other c.in-Some-take-4.ensures.some refl refl) refl) (found_other c.in-Some-take-4.ensures.some refl refl) refl))

pub table_op-returns-in-Some-take-4-clause-read : goal.table_op-returns-in-Some-take-4-clause-read
table_op-returns-in-Some-take-4-clause-read t c = (either_right (either_right (either_right (either_right (makes_found (pair_found c.in-Some-take-4.ensures.some c.in_ok-parts.ensures.read refl)) (found_other c.in-Some-take-4.ensures.some refl refl) refl) (found_other c.in-Some-take-4.ensures.some refl refl) refl) (found_other c.in-Some-take-4.ensures.some refl refl) refl) (found_other c.in-Some-take-4.ensures.some refl refl) refl)

pub table_op-returns-clause-read : goal.table_op-returns-clause-read
table_op-returns-clause-read t c = record { place = none_starts (missing_both c.in_default.ensures.none (missing_both c.in_default-take.ensures.none (missing_both c.in_default-take-2.ensures.none (missing_both c.in_default-take-3.ensures.none c.in_default-take-4.ensures.none)))) refl }

pub op-returns-in_err-columns-clause-read : goal.op-returns-in_err-columns-clause-read
op-returns-in_err-columns-clause-read t c = raises _ c.from_residual.ensures.1 c.in_err-columns.ensures.read (λ e r. level_refused Level.Op (either_refused_left (makes_refused r) (found_other c.in-Some.ensures.some refl refl) refl))

pub op-returns-in-Some-clause-read : goal.op-returns-in-Some-clause-read
op-returns-in-Some-clause-read t c = level_found Level.Op (either_left (makes_found c.in_ok-columns.ensures.read) (found_other c.in-Some.ensures.some refl refl) refl)

pub op-returns-in_err-rows-clause-read : goal.op-returns-in_err-rows-clause-read
op-returns-in_err-rows-clause-read t c = raises _ c.from_residual-in_err-rows.ensures.1 c.in_err-rows.ensures.read (λ e r. level_refused Level.Op (either_refused_right (either_refused_left (makes_refused r) (found_other c.in-Some-take.ensures.some refl refl) refl) (found_other c.in-Some-take.ensures.some refl refl) refl))

pub op-returns-in-Some-take-clause-read : goal.op-returns-in-Some-take-clause-read
op-returns-in-Some-take-clause-read t c = level_found Level.Op (either_right (either_left (makes_found c.in_ok-rows.ensures.read) (found_other c.in-Some-take.ensures.some refl refl) refl) (found_other c.in-Some-take.ensures.some refl refl) refl)

pub op-returns-in_err-groups-clause-read : goal.op-returns-in_err-groups-clause-read
op-returns-in_err-groups-clause-read t c = raises _ c.from_residual-in_err-groups.ensures.1 c.in_err-groups.ensures.read (λ e r. level_refused Level.Op (either_refused_right (either_refused_right (either_refused_left (makes_refused r) (found_other c.in-Some-take-2.ensures.some refl refl) refl) (found_other c.in-Some-take-2.ensures.some refl refl) refl) (found_other c.in-Some-take-2.ensures.some refl refl) refl))

pub op-returns-in-Some-take-2-clause-read : goal.op-returns-in-Some-take-2-clause-read
op-returns-in-Some-take-2-clause-read t c = level_found Level.Op (either_right (either_right (either_left (makes_found c.in_ok-groups.ensures.read) (found_other c.in-Some-take-2.ensures.some refl refl) refl) (found_other c.in-Some-take-2.ensures.some refl refl) refl) (found_other c.in-Some-take-2.ensures.some refl refl) refl)

pub op-returns-in_err-tables-clause-read : goal.op-returns-in_err-tables-clause-read
op-returns-in_err-tables-clause-read t c = raises _ c.from_residual-in_err-tables.ensures.1 c.in_err-tables.ensures.read (λ e r. level_refused Level.Op (either_refused_right (either_refused_right (either_refused_right (makes_refused r) c.in_default-take-2.ensures.none refl) c.in_default-take.ensures.none refl) c.in_default.ensures.none refl))

pub op-returns-clause-read : goal.op-returns-clause-read
op-returns-clause-read t c = level_found Level.Op (either_right (either_right (either_right (makes_found c.in_ok-tables.ensures.read) c.in_default-take-2.ensures.none refl) c.in_default-take.ensures.none refl) c.in_default.ensures.none refl)

pub source-returns-in_err-numbers-clause-read : goal.source-returns-in_err-numbers-clause-read
source-returns-in_err-numbers-clause-read t c = raises _ c.from_residual.ensures.1 c.in_err-numbers.ensures.read (λ e r. level_refused Level.Source (either_refused_right (either_refused_left (makes_refused (pair_refused_late c.in-Some.ensures.some r refl)) (found_other c.in-Some.ensures.some refl refl) refl) (found_other c.in-Some.ensures.some refl refl) refl))

pub source-returns-in-Some-clause-read : goal.source-returns-in-Some-clause-read
source-returns-in-Some-clause-read t c = rw c.in_ok-boxed.ensures.value (level_found Level.Source (either_right (either_left (makes_found (pair_found c.in-Some.ensures.some c.in_ok-numbers.ensures.read refl)) (found_other c.in-Some.ensures.some refl refl) refl) (found_other c.in-Some.ensures.some refl refl) refl))

pub source-returns-in_err-columns-clause-read : goal.source-returns-in_err-columns-clause-read
source-returns-in_err-columns-clause-read t c = raises _ c.from_residual-in_err-columns.ensures.1 c.in_err-columns.ensures.read (λ e r. level_refused Level.Source (either_refused_right (either_refused_right (either_refused_left (makes_refused (pair_refused_late c.in-Some-take.ensures.some r refl)) (found_other c.in-Some-take.ensures.some refl refl) refl) (found_other c.in-Some-take.ensures.some refl refl) refl) (found_other c.in-Some-take.ensures.some refl refl) refl))

pub source-returns-in-Some-take-clause-read : goal.source-returns-in-Some-take-clause-read
source-returns-in-Some-take-clause-read t c = level_found Level.Source (either_right (either_right (either_left (makes_found (pair_found c.in-Some-take.ensures.some c.in_ok-columns.ensures.read refl)) (found_other c.in-Some-take.ensures.some refl refl) refl) (found_other c.in-Some-take.ensures.some refl refl) refl) (found_other c.in-Some-take.ensures.some refl refl) refl)

pub source-returns-in_err-tables-clause-read : goal.source-returns-in_err-tables-clause-read
source-returns-in_err-tables-clause-read t c = raises _ c.from_residual-in_err-tables.ensures.1 c.in_err-tables.ensures.read (λ e r. level_refused Level.Source (either_refused_right (either_refused_right (either_refused_right (makes_refused (pair_refused_late c.in-Some-take-2.ensures.some r refl)) (found_other c.in-Some-take-2.ensures.some refl refl) refl) (found_other c.in-Some-take-2.ensures.some refl refl) refl) (found_other c.in-Some-take-2.ensures.some refl refl) refl))

pub source-returns-in-Some-take-2-clause-read : goal.source-returns-in-Some-take-2-clause-read
source-returns-in-Some-take-2-clause-read t c = level_found Level.Source (either_right (either_right (either_right (makes_found (pair_found c.in-Some-take-2.ensures.some c.in_ok-tables.ensures.read refl)) (found_other c.in-Some-take-2.ensures.some refl refl) refl) (found_other c.in-Some-take-2.ensures.some refl refl) refl) (found_other c.in-Some-take-2.ensures.some refl refl) refl)

pub source-returns-in_err-table-clause-read : goal.source-returns-in_err-table-clause-read
source-returns-in_err-table-clause-read t c = raises _ c.from_residual-in_err-table.ensures.1 c.in_err-table.ensures.read (λ e r. level_refused Level.Source (either_refused_left (makes_refused r) (missing_both c.in_default.ensures.none (missing_both c.in_default-take.ensures.none c.in_default-take-2.ensures.none)) refl))

pub source-returns-clause-read : goal.source-returns-clause-read
source-returns-clause-read t c = level_found Level.Source (either_left (makes_found c.in_ok-table.ensures.read) (missing_both c.in_default.ensures.none (missing_both c.in_default-take.ensures.none c.in_default-take-2.ensures.none)) refl)

pub part_body-returns-in_err-_open-clause-read : goal.part_body-returns-in_err-_open-clause-read
part_body-returns-in_err-_open-clause-read t c = raises _ c.from_residual.ensures.1 c.in_err-_open.ensures.read (λ e r. after_none r)

pub part_body-returns-in_err-list-clause-read : goal.part_body-returns-in_err-list-clause-read
part_body-returns-in_err-list-clause-read t c = raises _ c.from_residual-in_err-list.ensures.1 c.in_err-list.ensures.read (λ e r. after_refused c.in_ok-_open.ensures.read (before_refused r refl))

pub part_body-returns-in_err-_close-clause-read : goal.part_body-returns-in_err-_close-clause-read
part_body-returns-in_err-_close-clause-read t c = raises _ c.from_residual-in_err-_close.ensures.1 c.in_err-_close.ensures.read (λ e r. after_refused c.in_ok-_open.ensures.read (before_none c.in_ok-list.ensures.read r refl))

pub part_body-returns-clause-read : goal.part_body-returns-clause-read
part_body-returns-clause-read t c = after_found c.in_ok-_open.ensures.read (before_found c.in_ok-list.ensures.read c.in_ok-_close.ensures.read refl)

pub join_rest-returns-in_err-table-clause-read : goal.join_rest-returns-in_err-table-clause-read
join_rest-returns-in_err-table-clause-read t c = raises _ c.from_residual.ensures.1 c.in_err-table.ensures.read (λ e r. pair_refused r refl)

pub join_rest-returns-in_err-list-clause-read : goal.join_rest-returns-in_err-list-clause-read
join_rest-returns-in_err-list-clause-read t c = raises _ c.from_residual-in_err-list.ensures.1 c.in_err-list.ensures.read (λ e r. pair_refused_late c.in_ok-table.ensures.read r refl)

pub join_rest-returns-clause-read : goal.join_rest-returns-clause-read
join_rest-returns-clause-read t c = pair_found c.in_ok-table.ensures.read c.in_ok-list.ensures.read refl

pub partition_rest-returns-in_err-column-clause-read : goal.partition_rest-returns-in_err-column-clause-read
partition_rest-returns-in_err-column-clause-read t c = raises _ c.from_residual.ensures.1 c.in_err-column.ensures.read (λ e r. pair_refused r refl)

pub partition_rest-returns-in_err-ops-clause-read : goal.partition_rest-returns-in_err-ops-clause-read
partition_rest-returns-in_err-ops-clause-read t c = raises _ c.from_residual-in_err-ops.ensures.1 c.in_err-ops.ensures.read (λ e r. pair_refused_late c.in_ok-column.ensures.read r refl)

pub partition_rest-returns-clause-read : goal.partition_rest-returns-clause-read
partition_rest-returns-clause-read t c = pair_found c.in_ok-column.ensures.read c.in_ok-ops.ensures.read refl

pub partition-returns-in_err-hints-clause-read : goal.partition-returns-in_err-hints-clause-read
partition-returns-in_err-hints-clause-read t c = raises _ c.from_residual.ensures.1 c.in_err-hints.ensures.read (λ e r. makes_refused (pair_refused r refl))

pub partition-returns-in_err-rest-clause-read : goal.partition-returns-in_err-rest-clause-read
partition-returns-in_err-rest-clause-read t c = raises _ c.from_residual-in_err-rest.ensures.1 c.in_err-rest.ensures.read (λ e r. makes_refused (pair_refused_late c.in_ok-hints.ensures.read r refl))

pub partition-returns-clause-read : goal.partition-returns-clause-read
partition-returns-clause-read t c = makes_found (pair_found c.in_ok-hints.ensures.read c.in_ok-rest.ensures.read refl)

pub join_kinded-returns-in_err-kind-clause-read : goal.join_kinded-returns-in_err-kind-clause-read
join_kinded-returns-in_err-kind-clause-read t c = raises _ c.from_residual.ensures.1 c.in_err-kind.ensures.read (λ e r. pair_refused r refl)

pub join_kinded-returns-in_err-rest-clause-read : goal.join_kinded-returns-in_err-rest-clause-read
join_kinded-returns-in_err-rest-clause-read t c = raises _ c.from_residual-in_err-rest.ensures.1 c.in_err-rest.ensures.read (λ e r. pair_refused_late c.in_ok-kind.ensures.read r refl)

pub join_kinded-returns-clause-read : goal.join_kinded-returns-clause-read
join_kinded-returns-clause-read t c = pair_found c.in_ok-kind.ensures.read c.in_ok-rest.ensures.read refl

pub join-returns-in_err-hints-clause-read : goal.join-returns-in_err-hints-clause-read
join-returns-in_err-hints-clause-read t c = raises _ c.from_residual.ensures.1 c.in_err-hints.ensures.read (λ e r. makes_refused (pair_refused r refl))

pub join-returns-in_err-rest-clause-read : goal.join-returns-in_err-rest-clause-read
join-returns-in_err-rest-clause-read t c = raises _ c.from_residual-in_err-rest.ensures.1 c.in_err-rest.ensures.read (λ e r. makes_refused (pair_refused_late c.in_ok-hints.ensures.read r refl))

pub join-returns-clause-read : goal.join-returns-clause-read
join-returns-clause-read t c = makes_found (pair_found c.in_ok-hints.ensures.read c.in_ok-rest.ensures.read refl)
