-- How many words options are.
use Rattle.std.proofs.Common.{◌≤◌, ◌+◌, ℕ, Bool, true, false, arith, if◌then◌else◌}
use Rattle.live_words.specs.LiveOptionWords.{words_in, words_of}
use Rattle.live_words.specs.declared.options.Given.{Given}
use Rattle.live_words.specs.declared.options.Given.TheVariants as given
use Rattle.live_words.specs.declared.options.SoFar.{SoFar}

few-words : {T : Type 0} (g : Given T) → words_of g ≤ 2
few-words given.Missing = omega arith
few-words given.Due = omega arith
few-words (given.Is x) = omega arith

few-flag : (b : Bool) → (if b then 1 else 0) ≤ 1
few-flag true = omega arith
few-flag false = omega arith

-- six at most
pub words-in-few : (o : SoFar) → words_in o ≤ 6
words-in-few o =
    let a = few-words o.readers in
    let b = few-words o.moment in
    let d = few-flag o.watch in
    let e = few-flag o.view in
    omega arith
