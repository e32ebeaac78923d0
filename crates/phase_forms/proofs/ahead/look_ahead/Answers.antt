use Rattle.std.proofs.Common.{nat_lt, refl}
use Rattle.phase_forms.specs.declared.ahead.Form.TheVariants as phase_form
use Rattle.phase_forms.proofs.PhaseLaws.{ahead-one, ahead-range, range-rows}
use Rattle.phase_forms.proofs.ahead.look_ahead.Goals as goal

pub returns-in-Same-clause-phases : goal.returns-in-Same-clause-phases
returns-in-Same-clause-phases c = ahead-one (nat_lt 1 c.args.workers) c.args.op.now c.args.more.now phase_form.Same c.in-Same.ensures.form refl

pub returns-in-Range-clause-range : goal.returns-in-Range-clause-range
returns-in-Range-clause-range c is = range-rows (nat_lt 1 c.args.workers) c.args.op.now c.args.more.now c.rows_ahead.result c.in-Range.ensures.form c.rows_ahead.ensures.by_row

pub returns-in-Range-clause-phases : goal.returns-in-Range-clause-phases
returns-in-Range-clause-phases c =
    ahead-range (nat_lt 1 c.args.workers) c.args.op.now c.args.more.now c.rows_ahead.result c.in-Range.ensures.form c.rows_ahead.ensures.by_row c.rows_ahead.ensures.most

pub returns-in-Whole-clause-phases : goal.returns-in-Whole-clause-phases
returns-in-Whole-clause-phases c = ahead-one (nat_lt 1 c.args.workers) c.args.op.now c.args.more.now phase_form.Whole c.in-Whole.ensures.form refl

pub returns-in-Alone-clause-phases : goal.returns-in-Alone-clause-phases
returns-in-Alone-clause-phases c = ahead-one (nat_lt 1 c.args.workers) c.args.op.now c.args.more.now phase_form.Alone c.in-Alone.ensures.form refl
