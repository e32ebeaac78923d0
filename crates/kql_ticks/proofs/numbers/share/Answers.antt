use Rattle.std.proofs.Common.{◌≡◌, sym, ◌∙◌, arith}
use Rattle.kql_ticks.proofs.NumberLaws.{shared-is, share_all, share_more, share_broken, share_other}
use Rattle.kql_ticks.proofs.numbers.share.Goals as goal

pub digits-init : goal.digits-init
digits-init c = (share_all c.args.unit c.args.t.now, omega arith, omega arith)

pub returns-then-not-is_ascii_digit-clause-value :
    goal.returns-then-not-is_ascii_digit-clause-value
returns-then-not-is_ascii_digit-clause-value c =
    let d = c.if-not-is_ascii_digit.ensures.value in
    sym (sym (shared-is c.args.unit c.args.t.now) ∙ share_other c.args.unit c.digits.i c.args.t.now c.digits-test.true c.digits.invariant.2 (sym d))

pub returns-then-ten-ne0-clause-value : goal.returns-then-ten-ne0-clause-value
returns-then-ten-ne0-clause-value c =
    let d = c.if-not-is_ascii_digit.ensures.value in
    sym (sym (shared-is c.args.unit c.args.t.now) ∙ share_broken c.args.unit c.digits.i c.digits.n c.args.t.now c.digits-test.true c.digits.invariant.2 c.digits.invariant.0 (sym d) (omega arith))

pub digits-preserved : goal.digits-preserved
digits-preserved c =
    let d = c.if-not-is_ascii_digit.ensures in (
      share_more c.args.unit c.digits.i c.digits.n c.args.t.now c.digits-test.true c.digits.invariant.2 c.digits.invariant.0 (sym d.value) (omega arith),
      grind (arith, d.cases),
      omega arith,
    )

pub returns-clause-value : goal.returns-clause-value
returns-clause-value c =
    let end : c.digits.i ≡ 0 = omega arith in
    let all = rw end at c.digits.invariant.0 in
    sym (sym (shared-is c.args.unit c.args.t.now) ∙ all)
