use Rattle.std.proofs.Common.{arith, ◌+◌, ◌∙◌, ap, sym}
use Rattle.kql_meaning.specs.Expressions.{kind_of}
use Rattle.kql_meaning.proofs.KindLaws.{along-next, known-more}
use Rattle.kql_meaning.proofs.kinds.+kind_of.Goals as goal

pub kind_along-loop-link-preserved : goal.kind_along-loop-link-preserved
kind_along-loop-link-preserved t c =
    along-next c.args.links.now c.args.columns.now c.args.first c.loop-link.link-index c.link-item.result c.loop-link.kind c.in_ok-next.next c.kind_of_two-kind.result c.sign_func.result
    (omega (arith, c.loop-link-test.true)) c.link-item.is c.loop-link.invariant c.in_ok-next.ensures.kind c.sign_func.ensures.func c.kind_of_two-kind.ensures.kind

pub known_kinds-loop-arg-preserved : goal.known_kinds-loop-arg-preserved
known_kinds-loop-arg-preserved t c =
    known-more c.args.args.now c.args.columns.now c.loop-arg.arg-index (c.loop-arg.arg-index + 1) c.arg-item.result c.loop-arg.kinds c.push.new.self c.in-Some.kind
    (omega (arith, c.loop-arg-test.true)) (omega arith) c.loop-arg.invariant
    (ap (λ e. kind_of e c.args.columns.now) (sym c.arg-item.is) ∙ (sym c.in_ok-kind.ensures.kind ∙ c.in-Some.is)) c.in_ok-push.ensures.added
