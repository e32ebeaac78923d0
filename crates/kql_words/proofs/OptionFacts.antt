-- How many words options are.
use Rattle.std.proofs.Common.{◌≤◌, ◌+◌, ℕ, Bool, true, false, arith, if◌then◌else◌}
use Rattle.kql_words.specs.Options.{words_in, words_of}
use Rattle.kql_words.specs.declared.options.Given.{Given}
use Rattle.kql_words.specs.declared.options.Given.TheVariants as given
use Rattle.kql_words.specs.declared.options.SoFar.{SoFar}

few-words : {T : Type 0} (g : Given T) → words_of g ≤ 2
few-words given.Missing = omega arith
few-words given.Due = omega arith
few-words (given.Is x) = omega arith

few-flag : (b : Bool) → (if b then 1 else 0) ≤ 1
few-flag true = omega arith
few-flag false = omega arith

-- nine at most
pub words-in-few : (o : SoFar) → words_in o ≤ 9
words-in-few o =
    let a = few-words o.workers in
    let b = few-words o.moment in
    let d = few-words o.limit in
    let e = few-words o.catalogue in
    let f = few-flag o.types in
    omega arith
