use Rattle.std.proofs.Common.{sym, ap, ◌∙◌, arith}
use Rattle.kql_ticks.specs.Numbers.{◌>>=◌, in_bounds}
use Rattle.kql_ticks.proofs.NumberLaws.{number-some, number_from_more, number_from_other, number_from_all, number_from_much, in_bounds-small}
use Rattle.kql_ticks.proofs.numbers.number.Goals as goal

pub returns-then-not-is_ascii_digit-clause-value :
    goal.returns-then-not-is_ascii_digit-clause-value
returns-then-not-is_ascii_digit-clause-value c =
    let t = c.args.t.now in
    let d = c.if-not-is_ascii_digit.ensures.value in
    let other = sym c.loop-b.invariant.0 ∙ number_from_other c.loop-b.n c.loop-b.b-index t c.loop-b-test.true (sym d) in
    sym (number-some t (omega arith) ∙ ap (λ o. o >>= in_bounds) other)

pub returns-then-n-ge-LIMIT-clause-value : goal.returns-then-n-ge-LIMIT-clause-value
returns-then-n-ge-LIMIT-clause-value c =
    let t = c.args.t.now in
    let d = c.if-not-is_ascii_digit.ensures.value in
    let much = number_from_much c.loop-b.n c.loop-b.b-index t c.loop-b-test.true c.if-n-ge-LIMIT.true (sym d) in
    sym (number-some t (omega arith) ∙ ap (λ o. o >>= in_bounds) (sym c.loop-b.invariant.0) ∙ much)

pub loop-b-preserved : goal.loop-b-preserved
loop-b-preserved c =
    let t = c.args.t.now in
    let d = c.if-not-is_ascii_digit.ensures in (
      sym (number_from_more c.loop-b.n c.loop-b.b-index t c.loop-b-test.true (sym d.value)) ∙ c.loop-b.invariant.0,
      omega (arith, c.if-n-ge-LIMIT.false, d.cases),
    )

pub returns-clause-value : goal.returns-clause-value
returns-clause-value c =
    let t = c.args.t.now in
    let all = sym c.loop-b.invariant.0 ∙ number_from_all c.loop-b.n c.loop-b.b-index t (omega arith) in
    sym (number-some t (grind arith) ∙ ap (λ o. o >>= in_bounds) all ∙ in_bounds-small c.loop-b.n c.loop-b.invariant.1)
