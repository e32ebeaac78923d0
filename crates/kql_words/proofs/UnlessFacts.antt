-- Faults that leave a value or none, and refusals that are passed on.
use Rattle.std.proofs.Common.{◌≡◌, List, [], ◌∷◌, refl, sym}
use Rattle.std.specs.Prelude.{Result, Ok, Err, IsErrAnd}
use Rattle.kql_words.specs.Refusals.{Answer, unless}
use Rattle.kql_words.specs.declared.refusal.Refusal.{Refusal}

-- no fault leaves the value, whatever it is
pub unless-ok : {X Y : Type 0} (faults : List Refusal) (x : X) (y : Y) → Ok y ≡ unless faults y → unless faults x ≡ Ok x
unless-ok [] x y e = refl
unless-ok (r ∷ rs) x y e = cc

-- a fault leaves no value
pub unless-err : {X Y : Type 0} (faults : List Refusal) (x : X) (y : Y) (r : Refusal) → Err r ≡ unless faults y → unless faults x ≡ Err r
unless-err [] x y r e = cc
unless-err (q ∷ qs) x y r e = cc

-- a refusal that `?` passed on
pub raised-refusal : {X : Type 0} (a : Answer X) (r : Result X Refusal) (q : Refusal) → IsErrAnd r (λ e. e ≡ q) → a ≡ Err q → r ≡ a
raised-refusal a (Ok x) q i h = absurd i
raised-refusal a (Err e) q i h = rw i (sym h)
