-- Parts of a text that are texts.
use Rattle.std.proofs.Common.{◌≡◌, ◌≤◌, ◌+◌, ◌-◌, ◌++◌, ◌∙◌, ℕ, List, take, sym, ap, arith}
use Rattle.std.specs.Prelude.{IsUtf8, slice_range}
use Rattle.std.proofs.Math.Seq.{take-add}
use Rattle.std.proofs.lemmas.Str.{IsUtf8-append}

-- a text and the text behind it
pub text-more : (bytes : List ℕ) (at to : ℕ) → at ≤ to → IsUtf8 (take at bytes) → IsUtf8 (slice_range bytes at to) → IsUtf8 (take to bytes)
text-more bytes at to le u v =
    let sum : at + (to - at) ≡ to = omega arith in
    let whole : take to bytes ≡ take at bytes ++ slice_range bytes at to = ap (λ n. take n bytes) (sym sum) ∙ take-add at (to - at) bytes in
    rw whole (IsUtf8-append (take at bytes) (slice_range bytes at to) u v)
