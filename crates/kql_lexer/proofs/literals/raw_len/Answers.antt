use Rattle.std.proofs.Common.{ℕ, List, ◌≤◌, ◌+◌, length, get_or, sym, ap, ◌∙◌, subst, false}
use Rattle.std.proofs.lemmas.List.{take_rest}
use Rattle.kql_lexer.specs.Literals.{quote_end, quoted_len}
use Rattle.kql_lexer.specs.Shapes.{IsPlain}
use Rattle.kql_lexer.proofs.LiteralFacts.{plain_head, plain_tail, raw_next, raw_over, raw_stop}
use Rattle.kql_lexer.proofs.literals.raw_len.Goals as goal

pub returns-then-bytes-i-eq41-clause-len : goal.returns-then-bytes-i-eq41-clause-len
returns-then-bytes-i-eq41-clause-len c = raw_stop c.args.bytes.now c.loop-i.i c.loop-i.plain c.loop-i.invariant c.loop-i-test.true c.if-bytes-i-eq41.true

pub quoted_len-requires-clause-plain : goal.quoted_len-requires-clause-plain
quoted_len-requires-clause-plain c =
    subst (IsPlain c.loop-i.plain) (sym (take_rest c.args.bytes.now (c.loop-i.i + 1))) (plain_tail c.args.bytes.now c.loop-i.i c.loop-i.plain c.loop-i.invariant.plain)

pub quoted_len-requires-clause-alone : goal.quoted_len-requires-clause-alone
quoted_len-requires-clause-alone c =
    λ k e. ap (quote_end false) (take_rest c.args.bytes.now (c.loop-i.i + 1)) ∙ plain_head c.args.bytes.now c.loop-i.i c.loop-i.plain c.loop-i.invariant.plain k e

pub loop-i-preserved : goal.loop-i-preserved
loop-i-preserved c =
    let rest = take_rest c.args.bytes.now (c.loop-i.i + 1) in
    raw_next c.args.bytes.now c.loop-i.i c.quoted_len.result c.loop-i.plain c.quoted_len.new.plain c.loop-i.invariant c.loop-i-test.true c.if-bytes-i-eq41.false
    (c.quoted_len.ensures.len ∙ ap (quoted_len (get_or c.args.bytes.now c.loop-i.i 0)) rest)
    (subst (λ (ys : List ℕ). c.quoted_len.result ≤ length ys) rest c.quoted_len.ensures.within)
    (subst (IsPlain c.quoted_len.new.plain) rest c.quoted_len.ensures.plain)

pub returns-clause-len : goal.returns-clause-len
returns-clause-len c = (raw_over c.args.bytes.now c.loop-i.i c.loop-i.plain c.loop-i.invariant c.loop-i-test.false).0
