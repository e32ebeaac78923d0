use Rattle.std.proofs.Common.{◌≡◌, ◌≤◌, ◌<◌, ◌+◌, ◌-◌, ◌==◌, ℕ, false, length, get_or, arith}
use Rattle.std.proofs.lemmas.Str.{IsCharBoundary-after_ascii}
use Rattle.csv_io.proofs.FieldFacts.{at-last, none-at-all}
use Rattle.csv_io.proofs.header.split_type.Goals as goal

pub range_from-requires : goal.range_from-requires
range_from-requires c =
    let bs = c.args.field.now in
    let at = c.back.end - 1 in
    let lt : at < length bs = omega arith in
    let here : get_or bs at 0 ≡ 58 = rw c.as_bytes-bytes.ensures.value at c.if-bytes-end-eq58.true in
    λ _. IsCharBoundary-after_ascii bs at c.utf8.field lt (omega arith)

pub returns-then-bytes-end-eq58-clause-parts : goal.returns-then-bytes-end-eq58-clause-parts
returns-then-bytes-end-eq58-clause-parts c =
    let bs = c.args.field.now in
    let at = c.back.end - 1 in
    let lt : at < length bs = omega arith in
    let here : get_or bs at 0 ≡ 58 = rw c.as_bytes-bytes.ensures.value at c.if-bytes-end-eq58.true in
    let behind : (k : ℕ) → at + 1 ≤ k → k < length bs → (get_or bs k 0 == 58) ≡ false = λ k a b. c.back.invariant.1 k (omega arith) b in
    at-last bs _ _ at lt here behind c.range.ensures.value c.range_from.ensures.value

pub returns-clause-none : goal.returns-clause-none
returns-clause-none c = none-at-all c.args.field.now c.back.end c.back-test.false c.back.invariant.1
