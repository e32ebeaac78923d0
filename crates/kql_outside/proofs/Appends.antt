-- Bytes that are written one piece after another.
use Rattle.std.proofs.Common.{◌≡◌, ℕ, ◌+◌, List, ◌++◌, take, drop, refl, ap, sym, ◌∙◌, append_assoc, arith}
use Rattle.std.specs.Prelude.{Option, Some, None}
use Rattle.std.proofs.Math.Seq.{take-add}
use Rattle.kql_outside.specs.Told.{appended, reduced}

pub appended-appended : (told : Option (List ℕ)) (xs ys : List ℕ) → appended (appended told xs) ys ≡ appended told (xs ++ ys)
appended-appended None xs ys = refl
appended-appended (Some zs) xs ys = ap Some (append_assoc zs xs ys)

-- the next piece
pub appended-piece : (before mid now : Option (List ℕ)) (bytes rest : List ℕ) (at n : ℕ) → rest ≡ drop at bytes → mid ≡ appended before (take at bytes) → now ≡ appended mid (take n rest) → now ≡ appended before (take (at + n) bytes)
appended-piece before mid now bytes rest at n r m e =
    e ∙ (ap (λ o. appended o (take n rest)) m ∙ (appended-appended before (take at bytes) (take n rest) ∙ ap (appended before) (ap (λ xs. take at bytes ++ take n xs) r ∙ sym (take-add at n bytes))))

-- room for a piece, and then for the next
pub reduced-reduced : (told : Option ℕ) (m n : ℕ) → reduced (reduced told m) n ≡ reduced told (m + n)
reduced-reduced None m n = refl
reduced-reduced (Some room) m n = ap Some (omega arith)

pub reduced-piece : (before mid now : Option ℕ) (at n : ℕ) → mid ≡ reduced before at → now ≡ reduced mid n → now ≡ reduced before (at + n)
reduced-piece before mid now at n m e =
    e ∙ (ap (λ room. reduced room n) m ∙ reduced-reduced before at n)
