use Rattle.std.proofs.Common.{◌≡◌, ◌≤◌, ◌<◌, ◌+◌, ◌-◌, ◌==◌, ℕ, true, false, length, get_or, arith}
use Rattle.std.proofs.lemmas.Bool.Decides.{nat_tests}
use Rattle.std.proofs.lemmas.Str.{IsCharBoundary-after_ascii}
use Rattle.kql_shell.proofs.SplitFacts.{at-last, none-at-all}
use Rattle.kql_shell.proofs.names.split_last.Goals as goal

pub range_from-requires : goal.range_from-requires
range_from-requires c =
    let bs = c.args.text.now in
    let at = c.back.end - 1 in
    let lt : at < length bs = omega arith in
    let here = rw c.as_bytes-bytes.ensures.value at c.if-bytes-end.true in
    let ascii = c.requires.ascii in
    let small : get_or bs at 0 < 128 = grind (arith, nat_tests, here, ascii) in
    λ _. IsCharBoundary-after_ascii bs at c.utf8.text lt small

pub returns-then-bytes-end-clause-parts : goal.returns-then-bytes-end-clause-parts
returns-then-bytes-end-clause-parts c =
    let bs = c.args.text.now in
    let at = c.back.end - 1 in
    let lt : at < length bs = omega arith in
    let here = rw c.as_bytes-bytes.ensures.value at c.if-bytes-end.true in
    let same : (get_or bs at 0 == c.args.byte) ≡ true = grind (arith, nat_tests, here) in
    let behind : (k : ℕ) → at + 1 ≤ k → k < length bs → (get_or bs k 0 == c.args.byte) ≡ false = λ k a b. c.back.invariant.1 k (omega arith) b in
    at-last c.args.byte bs _ _ at lt same behind c.range.ensures.value c.range_from.ensures.value

pub returns-clause-none : goal.returns-clause-none
returns-clause-none c = none-at-all c.args.byte c.args.text.now c.back.end c.back-test.false c.back.invariant.1
