use Rattle.std.proofs.Common.{◌≡◌, ◌≤◌, ◌<◌, ◌+◌, ◌-◌, ◌==◌, ℕ, false, drop, length, length-drop, take, get_or, arith}
use Rattle.std.proofs.lemmas.List.{take_all}
use Rattle.json_losses.proofs.HeaderFacts.{named-at, unnamed}
use Rattle.json_losses.proofs.header.names_dynamic.Goals as goal

pub returns-then-field-end-eq58 : goal.returns-then-field-end-eq58
returns-then-field-end-eq58 c =
    let bs = c.args.field.now in
    let at = c.back.end - 1 in
    let behind : (k : ℕ) → at + 1 ≤ k → k < length bs → (get_or bs k 0 == 58) ≡ false = λ k a b. c.back.invariant.1 k (omega arith) b in
    named-at bs (take (length bs - (at + 1)) (drop (at + 1) bs)) at _ (omega arith) c.if-field-end-eq58.true behind (take_all (length bs - (at + 1)) (drop (at + 1) bs) (omega (arith, length-drop (at + 1) bs))) c.is_dynamic_word.ensures

pub returns : goal.returns
returns c = unnamed c.args.field.now c.back.end c.back-test.false c.back.invariant.1
