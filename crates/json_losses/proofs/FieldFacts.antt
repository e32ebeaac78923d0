-- A look at a field of a record.
use Rattle.std.proofs.Common.{◌≡◌, ◌<◌, ◌∷◌, ℕ, zero, suc, List, [], length, get_or, refl, arith}
use Rattle.std.specs.Prelude.{Option, Some, None, IsSome, option_map}
use Rattle.std.specs.Borrow.{Bor}
use Rattle.csv.specs.Records.{field_at}

field_at-within : (fs : List (List ℕ)) (j : ℕ) → j < length fs → field_at fs j ≡ Some (get_or fs j [])
unfolding field_at
field_at-within [] j lt = absurd (omega arith)
field_at-within (f ∷ fs) zero lt = refl
field_at-within (f ∷ fs) (suc j) lt = field_at-within fs j (omega arith)

-- so a look at it finds one
pub found : (r : Option (Bor (List ℕ))) (fs : List (List ℕ)) (j : ℕ) → option_map (λ s. s.now) r ≡ field_at fs j → j < length fs → IsSome r
found None fs j e lt = let w = field_at-within fs j lt in cc
found (Some b) fs j e lt = refl

pub found-value : (r : Option (Bor (List ℕ))) (b : Bor (List ℕ)) (fs : List (List ℕ)) (j : ℕ) → option_map (λ s. s.now) r ≡ field_at fs j → j < length fs → r ≡ Some b → b.now ≡ get_or fs j []
found-value r b fs j e lt s =
    let w = field_at-within fs j lt in
    let q = rw (s, w) at e in
    cc q
