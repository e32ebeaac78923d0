use Rattle.std.proofs.Common.{◌≡◌, ◌∙◌, sym}
use Rattle.plan_neighbours.proofs.InnerSteps.{inside-none}
use Rattle.plan_neighbours.proofs.inner.filter_inside.Goals as goal

pub returns-in_default : goal.returns-in_default
returns-in_default c = record { inside = inside-none c.args.items.now c.as_slice.result.now c.args.q.now c.as_slice-2.result.now c.in_ok-to.field-0 _ c.as_slice.ensures.items (c.as_slice-2.ensures.items ∙ c.in_ok-read.ensures.names) (sym c.is_plain.ensures.plain ∙ c.if-not-is_plain.false) c.in_ok-to.ensures.names c.in_default.is }
