use Rattle.std.proofs.Common.{◌<◌, ◌∙◌, length, sym, ap, arith}
use Rattle.kql_cells.specs.Keys.{is_null}
use Rattle.kql_keys.proofs.ProbeFacts.{null-found, null-more, null-none}
use Rattle.kql_keys.proofs.key.KeyRef.has_null.Goals as goal

pub loop-j-init : goal.loop-j-init
loop-j-init c = null-none

pub returns-then-is_null : goal.returns-then-is_null
returns-then-is_null c =
    let lt : c.loop-j.j < length c.args.self.now = omega (arith, c.loop-j-test.true, c.len-j-end.ensures) in
    record { null = sym (null-found c.args.self.now c.loop-j.j lt (ap is_null (sym c.cell.ensures) ∙ (sym c.is_null.ensures.null ∙ c.if-is_null.true))) }

pub loop-j-preserved : goal.loop-j-preserved
loop-j-preserved c =
    let lt : c.loop-j.j < length c.args.self.now = omega (arith, c.loop-j-test.true, c.len-j-end.ensures) in
    null-more c.args.self.now c.loop-j.j lt c.loop-j.invariant (ap is_null (sym c.cell.ensures) ∙ (sym c.is_null.ensures.null ∙ c.if-is_null.false))
