-- A buffer that is filled from what is left of a file, one piece after another.
use Rattle.std.proofs.Common.{◌≡◌, ℕ, ◌+◌, List, ◌++◌, take, drop, refl, ap, sym, ◌∙◌, append_assoc}
use Rattle.std.specs.Prelude.{Option, Some, None}
use Rattle.std.proofs.Math.Seq.{take-add}
use Rattle.kql_outside.specs.Told.{prepended}

prepended-prepended : (xs ys : List ℕ) (told : Option (List ℕ)) → prepended xs (prepended ys told) ≡ prepended (xs ++ ys) told
prepended-prepended xs ys None = refl
prepended-prepended xs ys (Some zs) = ap Some (sym (append_assoc xs ys zs))

-- the buffer was filled up to `filled`, and after the read it has that front and `count` bytes more
pub prepended-piece : (before mid now : Option (List ℕ)) (old new : List ℕ) (filled count : ℕ) → take filled new ≡ take filled old → before ≡ prepended (take filled old) mid → mid ≡ prepended (take count (drop filled new)) now → before ≡ prepended (take (filled + count) new) now
prepended-piece before mid now old new filled count front so_far read =
    so_far ∙ (ap (prepended (take filled old)) read ∙ (ap (λ xs. prepended xs (prepended (take count (drop filled new)) now)) (sym front) ∙ (prepended-prepended (take filled new) (take count (drop filled new)) now ∙ ap (λ xs. prepended xs now) (sym (take-add filled count new)))))
