use Rattle.std.proofs.Common.{drop, subst, arith}
use Rattle.std.proofs.lemmas.List.{take_rest}
use Rattle.std.proofs.lemmas.Result.{err_from_is_err_and}
use Rattle.kql_lexer.specs.Shapes.{IsFront, IsPlain}
use Rattle.kql_lexer.proofs.LexFacts.{add_fault, bad_fault, reading_end, reading_more}
use Rattle.kql_lexer.proofs.lexer.lex.Goals as goal

pub returns-then-valid-at-clause-refused : goal.returns-then-valid-at-clause-refused
returns-then-valid-at-clause-refused c =
    bad_fault c.args.text.now _ _ _ _ _ _ c.loop-at.invariant c.valid_len-valid.ensures.len c.if-valid-at.true (omega arith) c.bad_byte.ensures

pub returns-in_err-add-clause-refused : goal.returns-in_err-add-clause-refused
returns-in_err-add-clause-refused c =
    let front = subst (λ ys. IsFront ys c.front-found.result) (take_rest c.args.text.now c.loop-at.at) c.front-found.ensures.front in
    let p = err_from_is_err_and c.from_residual.result c.from_residual.ensures.1 in
    rw (p.1, p.2) (add_fault c.args.text.now _ _ _ _ _ _ _ c.loop-at.invariant front.longest (omega (arith, c.valid_len-valid.ensures.len)) (rw c.valid_len-valid.ensures.len at c.in_err-add.ensures.fault))

pub loop-at-preserved : goal.loop-at-preserved
loop-at-preserved c =
    let front = subst (λ ys. IsFront ys c.front-found.result) (take_rest c.args.text.now c.loop-at.at) c.front-found.ensures.front in
    let plain = subst (λ ys. IsPlain c.front-found.new.plain (drop c.front-found.result.size ys)) (take_rest c.args.text.now c.loop-at.at) c.front-found.ensures.plain in
    reading_more c.args.text.now _ _ _ _ _ _ _ _ _ _ c.loop-at.invariant front.longest c.in_ok-add.ensures.added c.in_ok-add.ensures.sound c.past-place.ensures plain

pub returns-then-valid-text-clause-refused : goal.returns-then-valid-text-clause-refused
returns-then-valid-text-clause-refused c =
    bad_fault c.args.text.now _ _ _ _ _ _ c.loop-at.invariant c.valid_len-valid.ensures.len (omega arith) c.if-valid-text.true c.bad_byte-then-valid-text.ensures

pub returns-clause-tokens : goal.returns-clause-tokens
returns-clause-tokens c =
    reading_end c.args.text.now _ _ _ _ _ c.loop-at.invariant c.loop-at-test.false (omega (arith, c.valid_len-valid.ensures.len)) c.in_ok-push.ensures.added
