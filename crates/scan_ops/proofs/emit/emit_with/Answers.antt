use Rattle.std.proofs.Common.{sym}
use Rattle.std.proofs.lemmas.Result.{on_ok_weaker}
use Rattle.scan_ops.proofs.EmitFacts.{with-some}
use Rattle.scan_ops.proofs.emit.emit_with.Goals as goal

pub returns-in-Some-clause-rows : goal.returns-in-Some-clause-rows
returns-in-Some-clause-rows c =
    on_ok_weaker c.emit_at_once.result
    (λ e. with-some c.args.plan.now c.args.step.now.step c.args.line.now c.args.state.now.held c.in-Some.id c.args.emitted.now c.emit_at_once.new.emitted (sym c.in-Some.ensures.id) e)
    c.emit_at_once.ensures.rows
