use Rattle.std.proofs.Common.{ap, ◌∙◌}
use Rattle.std.specs.Prelude.{Some}
use Rattle.std.proofs.lemmas.Result.{on_ok_weaker}
use Rattle.scan_ops.proofs.EmitFacts.{record-added}
use Rattle.scan_ops.proofs.emit.emit_record.Goals as goal

pub returns-clause-rows : goal.returns-clause-rows
returns-clause-rows c =
    on_ok_weaker c.emit_row.result
    (λ e. record-added c.args.plan.now c.args.at c.in-Some.id c.args.state.now.held c.as_slice.result.now c.args.emitted.now c.emit_row.new.emitted (ap Some c.as_slice.ensures.items ∙ c.in-Some-record.ensures.line) c.in-Some.ensures.id e)
    c.emit_row.ensures.row
