use Rattle.std.proofs.Common.{◌≡◌, ◌∙◌, [], ◌∷◌, ◌++◌, take, sym, ap, arith}
use Rattle.kql_meaning.specs.Fits.{known_of}
use Rattle.kql_fit_laws.proofs.OperatorLaws.{each_op_keeps}
use Rattle.plan_push.proofs.ReadySteps.{here-now}
use Rattle.plan_push.proofs.WalkSteps.{change-now, never-empty, none-now, one-now, pass-now, swap-now}
use Rattle.plan_push.proofs.walk.step.Goals as goal

pub returns-in_default : goal.returns-in_default
returns-in_default c = record { step = λ inside cs walk. none-now (known_of c.args.tables.now c.args.lets.now) inside cs c.args.before.now c.args.passed.now c.args.waiting.now c.saturating_sub-at.result (omega arith) (sym c.in_default.ensures.value) walk }

pub returns-in-Some-single_rule : goal.returns-in-Some-single_rule
returns-in-Some-single_rule c = record { step = λ inside cs walk. one-now each_op_keeps (known_of c.args.tables.now c.args.lets.now) inside cs c.columns_at-columns.result.now c.args.before.now c.ready_columns.new.before c.go_back.new.before c.args.passed.now c.go_back.new.passed c.args.waiting.now c.go_back.new.waiting c.put.new.waiting c.in-Some-single_rule.made c.saturating_sub-at.result c.in-Some.x.now (omega arith) (sym c.in-Some.ensures.value) (sym c.single_rule.ensures.rule ∙ c.in-Some-single_rule.is) c.in_ok-put.ensures.operators c.in_ok-go_back.ensures.back (here-now (known_of c.args.tables.now c.args.lets.now) inside cs c.columns_at-columns.result.now c.args.before.now c.ready_columns.new.before c.as_slice-2.result.now c.args.passed.now c.as_slice.result.now c.args.waiting.now c.in-Some.x.now c.len-2.result c.as_slice.ensures.items c.in_ok-ready_columns.ensures.ready c.as_slice-2.ensures.items (omega arith) c.columns_at-columns.ensures.columns walk) walk }

pub returns-then-fires : goal.returns-then-fires
returns-then-fires c = record { step = λ inside cs walk. swap-now each_op_keeps (known_of c.args.tables.now c.args.lets.now) inside cs c.columns_at-columns.result.now c.args.before.now c.ready_columns.new.before c.go_back-then-fires.new.before c.args.passed.now c.go_back-then-fires.new.passed c.args.waiting.now c.go_back-then-fires.new.waiting _ c.put_first.new.waiting c.saturating_sub-at.result c.saturating_sub.result c.in-Some.x.now (omega arith) (sym c.in-Some.ensures.value) (ap (λ v. take c.saturating_sub-at.result v) c.as_slice-3.ensures.items) (sym c.in_ok-fires.ensures.swaps ∙ c.if-fires.true) (omega arith) c.in_ok-put_first.ensures.first c.in_ok-go_back-2.ensures.back (here-now (known_of c.args.tables.now c.args.lets.now) inside cs c.columns_at-columns.result.now c.args.before.now c.ready_columns.new.before c.as_slice-2.result.now c.args.passed.now c.as_slice.result.now c.args.waiting.now c.in-Some.x.now c.len-2.result c.as_slice.ensures.items c.in_ok-ready_columns.ensures.ready c.as_slice-2.ensures.items (omega arith) c.columns_at-columns.ensures.columns walk) walk }

pub returns-in-Some-2 : goal.returns-in-Some-2
returns-in-Some-2 c = record { step = λ inside cs walk. change-now each_op_keeps (known_of c.args.tables.now c.args.lets.now) inside cs c.columns_at-columns.result.now c.args.before.now c.ready_columns.new.before c.go_back-in-Some-2.new.before c.args.passed.now c.go_back-in-Some-2.new.passed c.args.waiting.now c.go_back-in-Some-2.new.waiting _ c.put-in-Some-2.new.waiting c.in-Some-2.made c.saturating_sub-at.result c.saturating_sub-in-Some-2.result c.in-Some.x.now (omega arith) (sym c.in-Some.ensures.value) (ap (λ v. take c.saturating_sub-at.result v) c.as_slice-3.ensures.items) (sym c.in_ok-made.ensures.change ∙ c.in-Some-2.is) (omega arith) c.in_ok-put-2.ensures.operators c.in_ok-go_back-3.ensures.back (here-now (known_of c.args.tables.now c.args.lets.now) inside cs c.columns_at-columns.result.now c.args.before.now c.ready_columns.new.before c.as_slice-2.result.now c.args.passed.now c.as_slice.result.now c.args.waiting.now c.in-Some.x.now c.len-2.result c.as_slice.ensures.items c.in_ok-ready_columns.ensures.ready c.as_slice-2.ensures.items (omega arith) c.columns_at-columns.ensures.columns walk) walk }

pub returns-in_default-pop : goal.returns-in_default-pop
returns-in_default-pop c = record { step = λ inside cs walk. absurd (never-empty c.args.waiting.now c.saturating_sub-at.result c.in-Some.x.now (sym c.in-Some.ensures.value) c.in_default-pop.ensures.last.0) }

pub returns : goal.returns
returns c = record { step = λ inside cs walk. pass-now (known_of c.args.tables.now c.args.lets.now) inside cs c.columns_at-columns.result.now c.args.before.now c.ready_columns.new.before c.args.passed.now c.push.new.self c.args.waiting.now c.pop.new.self _ c.saturating_sub-at.result c.in-Some.x.now c.in-Some-pop.op (omega arith) (sym c.in-Some.ensures.value) (ap (λ v. take c.saturating_sub-at.result v) c.as_slice-3.ensures.items) (sym c.single_rule.ensures.rule ∙ c.in_default-single_rule.is) (sym c.in_ok-fires.ensures.swaps ∙ c.if-fires.false) (sym c.in_ok-made.ensures.change ∙ c.in_default-2.is) c.in-Some-pop.ensures.last c.in_ok-push.ensures.added (here-now (known_of c.args.tables.now c.args.lets.now) inside cs c.columns_at-columns.result.now c.args.before.now c.ready_columns.new.before c.as_slice-2.result.now c.args.passed.now c.as_slice.result.now c.args.waiting.now c.in-Some.x.now c.len-2.result c.as_slice.ensures.items c.in_ok-ready_columns.ensures.ready c.as_slice-2.ensures.items (omega arith) c.columns_at-columns.ensures.columns walk) walk }
