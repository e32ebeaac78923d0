use Rattle.std.proofs.Common.{refl, arith}
use Rattle.kql_syntax.specs.Levels.{Level}
use Rattle.kql_syntax.proofs.ReadingLaws.{level_found, level_refused, makes_found, makes_refused, pair_found, pair_refused, pair_refused_late, after_found, after_refused, after_none, before_found, before_refused, before_none, either_left, either_right, either_refused_left, either_refused_right, option_none, option_some, option_refused, found_starts, found_other, missing_both, none_starts, passes, raises, ahead_more, ahead_end, ahead_refused, listed_start, listed_more, listed_end, listed_refused, listed_refused_first, optional_refused, refused_after, level_found_in, level_refused_in, in_found, in_refused, in_left, in_right, in_refused_right, in_left_none, in_right_none, in_refused_left_none, in_refused_right_none, under_none, under_found, under_refused, under_either}
use Rattle.kql_syntax.proofs.BeginLaws.{access_begins, arguments_begins}
use Rattle.kql_syntax.proofs.reader.+read.Goals as goal

pub expr-returns-in_err-first-clause-read : goal.expr-returns-in_err-first-clause-read
expr-returns-in_err-first-clause-read t c = raises _ c.from_residual.ensures.1 c.in_err-first.ensures.read (λ e r. level_refused Level.Expr (makes_refused (pair_refused r refl)))

pub and-returns-in_err-first-clause-read : goal.and-returns-in_err-first-clause-read
and-returns-in_err-first-clause-read t c = raises _ c.from_residual.ensures.1 c.in_err-first.ensures.read (λ e r. level_refused Level.And (makes_refused (pair_refused r refl)))

pub sum-returns-in_err-first-clause-read : goal.sum-returns-in_err-first-clause-read
sum-returns-in_err-first-clause-read t c = raises _ c.from_residual.ensures.1 c.in_err-first.ensures.read (λ e r. level_refused Level.Sum (makes_refused (pair_refused r refl)))

pub prod-returns-in_err-first-clause-read : goal.prod-returns-in_err-first-clause-read
prod-returns-in_err-first-clause-read t c = raises _ c.from_residual.ensures.1 c.in_err-first.ensures.read (λ e r. level_refused Level.Prod (makes_refused (pair_refused r refl)))

pub post-returns-in_err-first-clause-read : goal.post-returns-in_err-first-clause-read
post-returns-in_err-first-clause-read t c = raises _ c.from_residual.ensures.1 c.in_err-first.ensures.read (λ e r. level_refused Level.Post (makes_refused (pair_refused r refl)))

pub post-returns-in_err-more-clause-read : goal.post-returns-in_err-more-clause-read
post-returns-in_err-more-clause-read t c = raises _ c.from_residual-in_err-more.ensures.1 c.in_err-more.ensures.read (λ e r. level_refused Level.Post (makes_refused (pair_refused_late c.in_ok-first.ensures.read r refl)))

pub post-returns-clause-read : goal.post-returns-clause-read
post-returns-clause-read t c = level_found Level.Post (makes_found (pair_found c.in_ok-first.ensures.read c.in_ok-more.ensures.read refl))

pub or_more-returns-in_err-term-clause-read : goal.or_more-returns-in_err-term-clause-read
or_more-returns-in_err-term-clause-read t c = raises _ c.from_residual.ensures.1 c.in_err-term.ensures.read (λ e r. ahead_refused c.chain.invariant.ahead (refused_after r) (pair_refused_late c.in-Some.ensures.some r refl) refl)

pub or_more-chain-preserved : goal.or_more-chain-preserved
or_more-chain-preserved t c = record { order = grind arith; within = grind arith; ahead = ahead_more c.in_ok-push.ensures.added c.chain.invariant.ahead (pair_found c.in-Some.ensures.some c.in_ok-term.ensures.read refl) refl refl }

pub or_more-returns-clause-read : goal.or_more-returns-clause-read
or_more-returns-clause-read t c = ahead_end c.chain.invariant.ahead c.in_default.ensures.none refl

pub and_more-returns-in_err-term-clause-read : goal.and_more-returns-in_err-term-clause-read
and_more-returns-in_err-term-clause-read t c = raises _ c.from_residual.ensures.1 c.in_err-term.ensures.read (λ e r. ahead_refused c.chain.invariant.ahead (refused_after r) (pair_refused_late c.in-Some.ensures.some r refl) refl)

pub and_more-chain-preserved : goal.and_more-chain-preserved
and_more-chain-preserved t c = record { order = grind arith; within = grind arith; ahead = ahead_more c.in_ok-push.ensures.added c.chain.invariant.ahead (pair_found c.in-Some.ensures.some c.in_ok-term.ensures.read refl) refl refl }

pub and_more-returns-clause-read : goal.and_more-returns-clause-read
and_more-returns-clause-read t c = ahead_end c.chain.invariant.ahead c.in_default.ensures.none refl

pub sum_more-returns-in_err-term-clause-read : goal.sum_more-returns-in_err-term-clause-read
sum_more-returns-in_err-term-clause-read t c = raises _ c.from_residual.ensures.1 c.in_err-term.ensures.read (λ e r. ahead_refused c.chain.invariant.ahead (refused_after r) (pair_refused_late c.in-Some.ensures.some r refl) refl)

pub sum_more-chain-preserved : goal.sum_more-chain-preserved
sum_more-chain-preserved t c = record { order = grind arith; within = grind arith; ahead = ahead_more c.in_ok-push.ensures.added c.chain.invariant.ahead (pair_found c.in-Some.ensures.some c.in_ok-term.ensures.read refl) refl refl }

pub sum_more-returns-clause-read : goal.sum_more-returns-clause-read
sum_more-returns-clause-read t c = ahead_end c.chain.invariant.ahead c.in_default.ensures.none refl

pub prod_more-returns-in_err-term-clause-read : goal.prod_more-returns-in_err-term-clause-read
prod_more-returns-in_err-term-clause-read t c = raises _ c.from_residual.ensures.1 c.in_err-term.ensures.read (λ e r. ahead_refused c.chain.invariant.ahead (refused_after r) (pair_refused_late c.in-Some.ensures.some r refl) refl)

pub prod_more-chain-preserved : goal.prod_more-chain-preserved
prod_more-chain-preserved t c = record { order = grind arith; within = grind arith; ahead = ahead_more c.in_ok-push.ensures.added c.chain.invariant.ahead (pair_found c.in-Some.ensures.some c.in_ok-term.ensures.read refl) refl refl }

pub prod_more-returns-clause-read : goal.prod_more-returns-clause-read
prod_more-returns-clause-read t c = ahead_end c.chain.invariant.ahead c.in_default.ensures.none refl

pub exprs-returns-in_err-first-clause-read : goal.exprs-returns-in_err-first-clause-read
exprs-returns-in_err-first-clause-read t c = raises _ c.from_residual.ensures.1 c.in_err-first.ensures.read (λ e r. listed_refused_first r refl)

pub exprs-list-init : goal.exprs-list-init
exprs-list-init t c = record { order = grind arith; within = grind arith; listing = listed_start (rw (c.in_ok-push.ensures.added, c.new-items.ensures.empty) refl) c.in_ok-first.ensures.read refl }

pub exprs-returns-in_err-item-clause-read : goal.exprs-returns-in_err-item-clause-read
exprs-returns-in_err-item-clause-read t c = raises _ c.from_residual-in_err-item.ensures.1 c.in_err-item.ensures.read (λ e r. listed_refused c.list.invariant.listing c.in-Some.ensures.some r refl)

pub exprs-list-preserved : goal.exprs-list-preserved
exprs-list-preserved t c = record { order = grind arith; within = grind arith; listing = listed_more c.in_ok-push-2.ensures.added c.list.invariant.listing c.in-Some.ensures.some c.in_ok-item.ensures.read refl }

pub exprs-returns-clause-read : goal.exprs-returns-clause-read
exprs-returns-clause-read t c = listed_end c.list.invariant.listing c.in_default.ensures.none

pub args-returns-in_err-first-clause-read : goal.args-returns-in_err-first-clause-read
args-returns-in_err-first-clause-read t c = raises _ c.from_residual.ensures.1 c.in_err-first.ensures.read (λ e r. listed_refused_first r refl)

pub args-list-init : goal.args-list-init
args-list-init t c = record { order = grind arith; within = grind arith; listing = listed_start (rw (c.in_ok-push.ensures.added, c.new-items.ensures.empty) refl) c.in_ok-first.ensures.read refl }

pub args-returns-in_err-item-clause-read : goal.args-returns-in_err-item-clause-read
args-returns-in_err-item-clause-read t c = raises _ c.from_residual-in_err-item.ensures.1 c.in_err-item.ensures.read (λ e r. listed_refused c.list.invariant.listing c.in-Some.ensures.some r refl)

pub args-list-preserved : goal.args-list-preserved
args-list-preserved t c = record { order = grind arith; within = grind arith; listing = listed_more c.in_ok-push-2.ensures.added c.list.invariant.listing c.in-Some.ensures.some c.in_ok-item.ensures.read refl }

pub args-returns-clause-read : goal.args-returns-clause-read
args-returns-clause-read t c = listed_end c.list.invariant.listing c.in_default.ensures.none

pub accesses-returns-in_err-term-clause-read : goal.accesses-returns-in_err-term-clause-read
accesses-returns-in_err-term-clause-read t c = raises _ c.from_residual.ensures.1 c.in_err-term.ensures.read (λ e r. ahead_refused c.chain.invariant.ahead (r.furthest _ (access_begins (found_starts c.in-Some.ensures.some refl))) r refl)

pub accesses-chain-preserved : goal.accesses-chain-preserved
accesses-chain-preserved t c = record { order = grind arith; within = grind arith; ahead = ahead_more c.in_ok-push.ensures.added c.chain.invariant.ahead c.in_ok-term.ensures.read refl refl }

pub accesses-returns-clause-read : goal.accesses-returns-clause-read
accesses-returns-clause-read t c = ahead_end c.chain.invariant.ahead c.in_default.ensures.none refl

pub sign-returns-in_err-term-clause-read : goal.sign-returns-in_err-term-clause-read
sign-returns-in_err-term-clause-read t c = raises _ c.from_residual.ensures.1 c.in_err-term.ensures.read (λ e r. level_refused Level.Sign (either_refused_right (makes_refused (pair_refused_late c.in-Some.ensures.some r refl)) (found_other c.in-Some.ensures.some refl refl) refl))

pub sign-returns-in-Some-clause-read : goal.sign-returns-in-Some-clause-read
sign-returns-in-Some-clause-read t c = level_found Level.Sign (either_right (makes_found (pair_found c.in-Some.ensures.some c.in_ok-term.ensures.read refl)) (found_other c.in-Some.ensures.some refl refl) refl)

pub sign-returns-in_err-term-2-clause-read : goal.sign-returns-in_err-term-2-clause-read
sign-returns-in_err-term-2-clause-read t c = raises _ c.from_residual-in_err-term-2.ensures.1 c.in_err-term-2.ensures.read (λ e r. level_refused Level.Sign (either_refused_left (makes_refused r) c.in_default.ensures.none refl))

pub sign-returns-clause-read : goal.sign-returns-clause-read
sign-returns-clause-read t c = level_found Level.Sign (either_left (makes_found c.in_ok-term-2.ensures.read) c.in_default.ensures.none refl)

pub round_exprs-returns-in_err-_open-clause-read : goal.round_exprs-returns-in_err-_open-clause-read
round_exprs-returns-in_err-_open-clause-read t c = raises _ c.from_residual.ensures.1 c.in_err-_open.ensures.read (λ e r. after_none r)

pub round_exprs-returns-in_err-list-clause-read : goal.round_exprs-returns-in_err-list-clause-read
round_exprs-returns-in_err-list-clause-read t c = raises _ c.from_residual-in_err-list.ensures.1 c.in_err-list.ensures.read (λ e r. after_refused c.in_ok-_open.ensures.read (before_refused r refl))

pub round_exprs-returns-in_err-_close-clause-read : goal.round_exprs-returns-in_err-_close-clause-read
round_exprs-returns-in_err-_close-clause-read t c = raises _ c.from_residual-in_err-_close.ensures.1 c.in_err-_close.ensures.read (λ e r. after_refused c.in_ok-_open.ensures.read (before_none c.in_ok-list.ensures.read r refl))

pub round_exprs-returns-clause-read : goal.round_exprs-returns-clause-read
round_exprs-returns-clause-read t c = after_found c.in_ok-_open.ensures.read (before_found c.in_ok-list.ensures.read c.in_ok-_close.ensures.read refl)

pub cmp-returns-in_err-left-clause-read : goal.cmp-returns-in_err-left-clause-read
cmp-returns-in_err-left-clause-read t c = raises _ c.from_residual.ensures.1 c.in_err-left.ensures.read (λ e r. level_refused Level.Cmp (makes_refused (pair_refused r refl)))

pub cmp-returns-clause-read : goal.cmp-returns-clause-read
cmp-returns-clause-read t c = level_found Level.Cmp (makes_found (pair_found c.in_ok-left.ensures.read (option_none (missing_both c.in_default.ensures.none (missing_both c.in_default-take.ensures.none (missing_both c.in_default-membership.ensures.none c.in_default-betweenness.ensures.none))) refl) refl))

pub arguments-returns-in_err-_open-clause-read : goal.arguments-returns-in_err-_open-clause-read
arguments-returns-in_err-_open-clause-read t c = raises _ c.from_residual.ensures.1 c.in_err-_open.ensures.read (λ e r. makes_refused (after_none r))

pub arguments-returns-in-Some-clause-read : goal.arguments-returns-in-Some-clause-read
arguments-returns-in-Some-clause-read t c = rw c.new.ensures.empty (makes_found (after_found c.in_ok-_open.ensures.read (before_found (option_none (found_other c.in-Some.ensures.some refl refl) refl) c.in-Some.ensures.some refl)))

pub arguments-returns-in_err-args-clause-read : goal.arguments-returns-in_err-args-clause-read
arguments-returns-in_err-args-clause-read t c = raises _ c.from_residual-in_err-args.ensures.1 c.in_err-args.ensures.read (λ e r. makes_refused (after_refused c.in_ok-_open.ensures.read (optional_refused r c.in_default.ensures.none refl)))

pub arguments-returns-in_err-_close-clause-read : goal.arguments-returns-in_err-_close-clause-read
arguments-returns-in_err-_close-clause-read t c = raises _ c.from_residual-in_err-_close.ensures.1 c.in_err-_close.ensures.read (λ e r. makes_refused (after_refused c.in_ok-_open.ensures.read (before_none (option_some c.in_ok-args.ensures.read refl) r refl)))

pub arguments-returns-clause-read : goal.arguments-returns-clause-read
arguments-returns-clause-read t c = makes_found (after_found c.in_ok-_open.ensures.read (before_found (option_some c.in_ok-args.ensures.read refl) c.in_ok-_close.ensures.read refl))

pub arg-returns-in-Some-clause-read : goal.arg-returns-in-Some-clause-read
arg-returns-in-Some-clause-read t c = level_found Level.Arg (either_right (makes_found c.in-Some.ensures.some) (found_other c.in-Some.ensures.some refl refl) refl)

pub arg-returns-in_err-value-clause-read : goal.arg-returns-in_err-value-clause-read
arg-returns-in_err-value-clause-read t c = raises _ c.from_residual.ensures.1 c.in_err-value.ensures.read (λ e r. level_refused Level.Arg (either_refused_left (makes_refused r) c.in_default.ensures.none refl))

pub arg-returns-clause-read : goal.arg-returns-clause-read
arg-returns-clause-read t c = level_found Level.Arg (either_left (makes_found c.in_ok-value.ensures.read) c.in_default.ensures.none refl)

pub access-returns-in_err-entry-clause-read : goal.access-returns-in_err-entry-clause-read
access-returns-in_err-entry-clause-read t c = raises _ c.from_residual.ensures.1 c.in_err-entry.ensures.read (λ e r. level_refused Level.Access (either_refused_left (makes_refused (pair_refused_late c.in-Some.ensures.some r refl)) (found_other c.in-Some.ensures.some refl refl) refl))

pub access-returns-in-Some-clause-read : goal.access-returns-in-Some-clause-read
access-returns-in-Some-clause-read t c = level_found Level.Access (either_left (makes_found (pair_found c.in-Some.ensures.some c.in_ok-entry.ensures.read refl)) (found_other c.in-Some.ensures.some refl refl) refl)

pub access-returns-in_err-open-clause-read : goal.access-returns-in_err-open-clause-read
access-returns-in_err-open-clause-read t c = raises _ c.from_residual-in_err-open.ensures.1 c.in_err-open.ensures.read (λ e r. level_refused Level.Access (either_refused_right (makes_refused (pair_refused r refl)) c.in_default.ensures.none refl))

pub access-returns-in_err-index-clause-read : goal.access-returns-in_err-index-clause-read
access-returns-in_err-index-clause-read t c = raises _ c.from_residual-in_err-index.ensures.1 c.in_err-index.ensures.read (λ e r. level_refused Level.Access (either_refused_right (makes_refused (pair_refused_late c.in_ok-open.ensures.read (before_refused r refl) refl)) c.in_default.ensures.none refl))

pub access-returns-in_err-_close-clause-read : goal.access-returns-in_err-_close-clause-read
access-returns-in_err-_close-clause-read t c = raises _ c.from_residual-in_err-_close.ensures.1 c.in_err-_close.ensures.read (λ e r. level_refused Level.Access (either_refused_right (makes_refused (pair_refused_late c.in_ok-open.ensures.read (before_none c.in_ok-index.ensures.read r refl) refl)) c.in_default.ensures.none refl))

pub term-returns-in-Some-clause-read : goal.term-returns-in-Some-clause-read
term-returns-in-Some-clause-read t c = rw c.in_ok-literal_of.ensures.literal (level_found Level.Term (either_left (makes_found (makes_found c.in-Some.ensures.some)) (found_other c.in-Some.ensures.some refl refl) refl))

pub term-returns-in_err-args-clause-read : goal.term-returns-in_err-args-clause-read
term-returns-in_err-args-clause-read t c = raises _ c.from_residual-in_err-args.ensures.1 c.in_err-args.ensures.read (λ e r. level_refused_in Level.Term (in_refused_right_none (in_refused_right (in_refused_left_none (in_refused (makes_refused (pair_refused_late (makes_found c.in-Some-token_at.ensures.some) r refl)) refl) (found_other c.in-Some-token_at.ensures.some refl refl) refl) (under_found (makes_found (level_found Level.Name (either_left (makes_found (makes_found c.in-Some-token_at.ensures.some)) (found_other c.in-Some-token_at.ensures.some refl refl) refl))) (r.furthest _ (arguments_begins (found_starts c.in-Some-take.ensures.some refl))) (found_starts c.in-Some-take.ensures.some refl) refl)) (found_other c.in-Some-token_at.ensures.some refl refl) refl))

pub term-returns-in-Some-take-clause-read : goal.term-returns-in-Some-take-clause-read
term-returns-in-Some-take-clause-read t c = rw c.in_ok-word.ensures.word (level_found_in Level.Term (in_right_none (in_right (in_left_none (in_found (makes_found (pair_found (makes_found c.in-Some-token_at.ensures.some) c.in_ok-args.ensures.read refl)) refl) (found_other c.in-Some-token_at.ensures.some refl refl) refl) (under_found (makes_found (level_found Level.Name (either_left (makes_found (makes_found c.in-Some-token_at.ensures.some)) (found_other c.in-Some-token_at.ensures.some refl refl) refl))) (omega (arith, c.in_ok-args.ensures.within.0)) (found_starts c.in-Some-take.ensures.some refl) refl)) (found_other c.in-Some-token_at.ensures.some refl refl) refl))

pub term-returns-in-Some-token_at-clause-read : goal.term-returns-in-Some-token_at-clause-read
term-returns-in-Some-token_at-clause-read t c = rw c.in_ok-word.ensures.word (level_found_in Level.Term (in_right_none (in_left (in_found (makes_found (level_found Level.Name (either_left (makes_found (makes_found c.in-Some-token_at.ensures.some)) (found_other c.in-Some-token_at.ensures.some refl refl) refl))) refl) (under_either (under_refused (makes_refused (pair_refused_late (makes_found c.in-Some-token_at.ensures.some) (makes_refused (after_none (none_starts c.in_default-take.ensures.none refl))) refl)) (omega arith) refl) (under_none (found_other c.in-Some-token_at.ensures.some refl refl) refl (omega arith)))) (found_other c.in-Some-token_at.ensures.some refl refl) refl))

pub term-returns-in_err-name-clause-read : goal.term-returns-in_err-name-clause-read
term-returns-in_err-name-clause-read t c = raises _ c.from_residual-in_err-name.ensures.1 c.in_err-name.ensures.read (λ e r. level_refused Level.Term (either_refused_right (either_refused_left (makes_refused r) (found_other c.in-Some-take-2.ensures.some refl refl) refl) (found_other c.in-Some-take-2.ensures.some refl refl) refl))

pub term-returns-in-Some-take-2-clause-read : goal.term-returns-in-Some-take-2-clause-read
term-returns-in-Some-take-2-clause-read t c = level_found Level.Term (either_right (either_left (makes_found c.in_ok-name.ensures.read) (found_other c.in-Some-take-2.ensures.some refl refl) refl) (found_other c.in-Some-take-2.ensures.some refl refl) refl)

pub term-returns-in_err-open-clause-read : goal.term-returns-in_err-open-clause-read
term-returns-in_err-open-clause-read t c = raises _ c.from_residual-in_err-open.ensures.1 c.in_err-open.ensures.read (λ e r. level_refused Level.Term (either_refused_right (either_refused_right (either_refused_right (makes_refused (pair_refused r refl)) c.in_default-token_at.ensures.none refl) (missing_both c.in_default-token_at.ensures.none c.in_default-take-2.ensures.none) refl) c.in_default.ensures.none refl))

pub term-returns-in_err-inner-clause-read : goal.term-returns-in_err-inner-clause-read
term-returns-in_err-inner-clause-read t c = raises _ c.from_residual-in_err-inner.ensures.1 c.in_err-inner.ensures.read (λ e r. level_refused Level.Term (either_refused_right (either_refused_right (either_refused_right (makes_refused (pair_refused_late c.in_ok-open.ensures.read (before_refused r refl) refl)) (found_other c.in_ok-open.ensures.read refl refl) refl) (found_other c.in_ok-open.ensures.read refl refl) refl) (found_other c.in_ok-open.ensures.read refl refl) refl))

pub term-returns-in_err-_close-clause-read : goal.term-returns-in_err-_close-clause-read
term-returns-in_err-_close-clause-read t c = raises _ c.from_residual-in_err-_close.ensures.1 c.in_err-_close.ensures.read (λ e r. level_refused Level.Term (either_refused_right (either_refused_right (either_refused_right (makes_refused (pair_refused_late c.in_ok-open.ensures.read (before_none c.in_ok-inner.ensures.read r refl) refl)) (found_other c.in_ok-open.ensures.read refl refl) refl) (found_other c.in_ok-open.ensures.read refl refl) refl) (found_other c.in_ok-open.ensures.read refl refl) refl))

pub expr-returns-in-Ok-clause-read : goal.expr-returns-in-Ok-clause-read
expr-returns-in-Ok-clause-read t c = level_found Level.Expr (makes_found (pair_found c.in_ok-first.ensures.read c.in-Ok.ensures.read refl))

pub expr-returns-in-Err-clause-read : goal.expr-returns-in-Err-clause-read
expr-returns-in-Err-clause-read t c = passes (λ e r. level_refused Level.Expr (makes_refused (pair_refused_late c.in_ok-first.ensures.read r refl))) c.in-Err.ensures.read

pub and-returns-in-Ok-clause-read : goal.and-returns-in-Ok-clause-read
and-returns-in-Ok-clause-read t c = level_found Level.And (makes_found (pair_found c.in_ok-first.ensures.read c.in-Ok.ensures.read refl))

pub and-returns-in-Err-clause-read : goal.and-returns-in-Err-clause-read
and-returns-in-Err-clause-read t c = passes (λ e r. level_refused Level.And (makes_refused (pair_refused_late c.in_ok-first.ensures.read r refl))) c.in-Err.ensures.read

pub sum-returns-in-Ok-clause-read : goal.sum-returns-in-Ok-clause-read
sum-returns-in-Ok-clause-read t c = level_found Level.Sum (makes_found (pair_found c.in_ok-first.ensures.read c.in-Ok.ensures.read refl))

pub sum-returns-in-Err-clause-read : goal.sum-returns-in-Err-clause-read
sum-returns-in-Err-clause-read t c = passes (λ e r. level_refused Level.Sum (makes_refused (pair_refused_late c.in_ok-first.ensures.read r refl))) c.in-Err.ensures.read

pub prod-returns-in-Ok-clause-read : goal.prod-returns-in-Ok-clause-read
prod-returns-in-Ok-clause-read t c = level_found Level.Prod (makes_found (pair_found c.in_ok-first.ensures.read c.in-Ok.ensures.read refl))

pub prod-returns-in-Err-clause-read : goal.prod-returns-in-Err-clause-read
prod-returns-in-Err-clause-read t c = passes (λ e r. level_refused Level.Prod (makes_refused (pair_refused_late c.in_ok-first.ensures.read r refl))) c.in-Err.ensures.read

pub bounds-returns-in_err-_open-clause-read : goal.bounds-returns-in_err-_open-clause-read
bounds-returns-in_err-_open-clause-read t c = raises _ c.from_residual.ensures.1 c.in_err-_open.ensures.read (λ e r. after_none r)

pub bounds-returns-in_err-both-clause-read : goal.bounds-returns-in_err-both-clause-read
bounds-returns-in_err-both-clause-read t c = raises _ c.from_residual-in_err-both.ensures.1 c.in_err-both.ensures.read (λ e r. after_refused c.in_ok-_open.ensures.read (before_refused r refl))

pub bounds-returns-in_err-_close-clause-read : goal.bounds-returns-in_err-_close-clause-read
bounds-returns-in_err-_close-clause-read t c = raises _ c.from_residual-in_err-_close.ensures.1 c.in_err-_close.ensures.read (λ e r. after_refused c.in_ok-_open.ensures.read (before_none c.in_ok-both.ensures.read r refl))

pub bounds-returns-clause-read : goal.bounds-returns-clause-read
bounds-returns-clause-read t c = after_found c.in_ok-_open.ensures.read (before_found c.in_ok-both.ensures.read c.in_ok-_close.ensures.read refl)

pub two_sums-returns-in_err-low-clause-read : goal.two_sums-returns-in_err-low-clause-read
two_sums-returns-in_err-low-clause-read t c = raises _ c.from_residual.ensures.1 c.in_err-low.ensures.read (λ e r. pair_refused r refl)

pub two_sums-returns-in_ok-new-in-Ok-clause-read : goal.two_sums-returns-in_ok-new-in-Ok-clause-read
two_sums-returns-in_ok-new-in-Ok-clause-read t c = rw c.in_ok-new-in-Ok.ensures.value (pair_found c.in_ok-low.ensures.read c.in-Ok.ensures.read refl)

pub two_sums-returns-in-Err-clause-read : goal.two_sums-returns-in-Err-clause-read
two_sums-returns-in-Err-clause-read t c = passes (λ e r. pair_refused_late c.in_ok-low.ensures.read r refl) c.in-Err.ensures.read

pub low_sum-returns-in_err-low-clause-read : goal.low_sum-returns-in_err-low-clause-read
low_sum-returns-in_err-low-clause-read t c = raises _ c.from_residual.ensures.1 c.in_err-low.ensures.read (λ e r. before_refused r refl)

pub low_sum-returns-in-Ok-clause-read : goal.low_sum-returns-in-Ok-clause-read
low_sum-returns-in-Ok-clause-read t c = before_found c.in_ok-low.ensures.read c.in-Ok.ensures.read refl

pub low_sum-returns-in-Err-clause-read : goal.low_sum-returns-in-Err-clause-read
low_sum-returns-in-Err-clause-read t c = passes (λ e r. before_none c.in_ok-low.ensures.read r refl) c.in-Err.ensures.read

pub cmp-returns-in-Ok-clause-read : goal.cmp-returns-in-Ok-clause-read
cmp-returns-in-Ok-clause-read t c = level_found Level.Cmp (makes_found (pair_found c.in_ok-left.ensures.read (option_some (either_left (makes_found (pair_found c.in-Some.ensures.some c.in-Ok.ensures.read refl)) (found_other c.in-Some.ensures.some refl refl) refl) refl) refl))

pub cmp-returns-in-Err-clause-read : goal.cmp-returns-in-Err-clause-read
cmp-returns-in-Err-clause-read t c = passes (λ e r. level_refused Level.Cmp (makes_refused (pair_refused_late c.in_ok-left.ensures.read (option_refused (refused_after r) (either_refused_left (makes_refused (pair_refused_late c.in-Some.ensures.some r refl)) (found_other c.in-Some.ensures.some refl refl) refl)) refl))) c.in-Err.ensures.read

pub regex_sum-returns-in_err-_regex-clause-read : goal.regex_sum-returns-in_err-_regex-clause-read
regex_sum-returns-in_err-_regex-clause-read t c = raises _ c.from_residual.ensures.1 c.in_err-_regex.ensures.read (λ e r. after_none r)

pub regex_sum-returns-in_err-pattern-clause-read : goal.regex_sum-returns-in_err-pattern-clause-read
regex_sum-returns-in_err-pattern-clause-read t c = raises _ c.from_residual-in_err-pattern.ensures.1 c.in_err-pattern.ensures.read (λ e r. after_refused c.in_ok-_regex.ensures.read r)

pub regex_sum-returns-clause-read : goal.regex_sum-returns-clause-read
regex_sum-returns-clause-read t c = after_found c.in_ok-_regex.ensures.read c.in_ok-pattern.ensures.read

pub cmp-returns-in-Ok-regex_sum-clause-read : goal.cmp-returns-in-Ok-regex_sum-clause-read
cmp-returns-in-Ok-regex_sum-clause-read t c = level_found Level.Cmp (makes_found (pair_found c.in_ok-left.ensures.read (option_some (either_right (either_left (makes_found (pair_found c.in-Some-take.ensures.some c.in-Ok-regex_sum.ensures.read refl)) (found_other c.in-Some-take.ensures.some refl refl) refl) (found_other c.in-Some-take.ensures.some refl refl) refl) refl) refl))

pub cmp-returns-in-Err-regex_sum-clause-read : goal.cmp-returns-in-Err-regex_sum-clause-read
cmp-returns-in-Err-regex_sum-clause-read t c = passes (λ e r. level_refused Level.Cmp (makes_refused (pair_refused_late c.in_ok-left.ensures.read (option_refused (refused_after r) (either_refused_right (either_refused_left (makes_refused (pair_refused_late c.in-Some-take.ensures.some r refl)) (found_other c.in-Some-take.ensures.some refl refl) refl) (found_other c.in-Some-take.ensures.some refl refl) refl)) refl))) c.in-Err-regex_sum.ensures.read

pub cmp-returns-in-Ok-round_exprs-clause-read : goal.cmp-returns-in-Ok-round_exprs-clause-read
cmp-returns-in-Ok-round_exprs-clause-read t c = level_found Level.Cmp (makes_found (pair_found c.in_ok-left.ensures.read (option_some (either_right (either_right (either_left (makes_found (pair_found c.in-Some-membership.ensures.some c.in-Ok-round_exprs.ensures.read refl)) (found_other c.in-Some-membership.ensures.some refl refl) refl) (found_other c.in-Some-membership.ensures.some refl refl) refl) (found_other c.in-Some-membership.ensures.some refl refl) refl) refl) refl))

pub cmp-returns-in-Err-round_exprs-clause-read : goal.cmp-returns-in-Err-round_exprs-clause-read
cmp-returns-in-Err-round_exprs-clause-read t c = passes (λ e r. level_refused Level.Cmp (makes_refused (pair_refused_late c.in_ok-left.ensures.read (option_refused (refused_after r) (either_refused_right (either_refused_right (either_refused_left (makes_refused (pair_refused_late c.in-Some-membership.ensures.some r refl)) (found_other c.in-Some-membership.ensures.some refl refl) refl) (found_other c.in-Some-membership.ensures.some refl refl) refl) (found_other c.in-Some-membership.ensures.some refl refl) refl)) refl))) c.in-Err-round_exprs.ensures.read

pub cmp-returns-in-Ok-bounds-clause-read : goal.cmp-returns-in-Ok-bounds-clause-read
cmp-returns-in-Ok-bounds-clause-read t c = level_found Level.Cmp (makes_found (pair_found c.in_ok-left.ensures.read (option_some (either_right (either_right (either_right (makes_found (pair_found c.in-Some-betweenness.ensures.some c.in-Ok-bounds.ensures.read refl)) (found_other c.in-Some-betweenness.ensures.some refl refl) refl) (found_other c.in-Some-betweenness.ensures.some refl refl) refl) (found_other c.in-Some-betweenness.ensures.some refl refl) refl) refl) refl))

pub cmp-returns-in-Err-bounds-clause-read : goal.cmp-returns-in-Err-bounds-clause-read
cmp-returns-in-Err-bounds-clause-read t c = passes (λ e r. level_refused Level.Cmp (makes_refused (pair_refused_late c.in_ok-left.ensures.read (option_refused (refused_after r) (either_refused_right (either_refused_right (either_refused_right (makes_refused (pair_refused_late c.in-Some-betweenness.ensures.some r refl)) (found_other c.in-Some-betweenness.ensures.some refl refl) refl) (found_other c.in-Some-betweenness.ensures.some refl refl) refl) (found_other c.in-Some-betweenness.ensures.some refl refl) refl)) refl))) c.in-Err-bounds.ensures.read

pub access-returns-clause-read : goal.access-returns-clause-read
access-returns-clause-read t c = level_found Level.Access (either_right (makes_found (pair_found c.in_ok-open.ensures.read (before_found c.in_ok-index.ensures.read c.in_ok-_close.ensures.read refl) refl)) c.in_default.ensures.none refl)

pub term-returns-clause-read : goal.term-returns-clause-read
term-returns-clause-read t c = level_found Level.Term (either_right (either_right (either_right (makes_found (pair_found c.in_ok-open.ensures.read (before_found c.in_ok-inner.ensures.read c.in_ok-_close.ensures.read refl) refl)) (found_other c.in_ok-open.ensures.read refl refl) refl) (found_other c.in_ok-open.ensures.read refl refl) refl) (found_other c.in_ok-open.ensures.read refl refl) refl)
