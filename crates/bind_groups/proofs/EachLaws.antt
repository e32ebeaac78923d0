-- What a list of parts is bound to, part by part.
use Rattle.std.proofs.Common.{◌≡◌, List, [], ◌∷◌, ◌++◌, append-nil, append_assoc, refl, sym, ◌∙◌, subst}
use Rattle.std.specs.Prelude.{Err, Ok, fold}
use Rattle.bind_expr.specs.Outcome.{Answers, Outcome}
use Rattle.bind_expr.specs.declared.fault.BindFault.{BindFault}
use Rattle.bind_operators.specs.Faults.{each_bound, with_next}

-- A relation that holds of no parts, and with a part more before them, holds of all.
module _ {X Y : Type 0} (f : X → Outcome Y) (P : List X → List Y → Type 0) (none : P [] []) (more : (x : X) (y : Y) (xs : List X) (ys : List Y) → f x ≡ Ok y → P xs ys → P (x ∷ xs) (y ∷ ys)) where
  fault-stays : (e : BindFault) (xs : List X) → fold (λ (before : Outcome (List Y)) (x : X). with_next before (f x)) (Err e) xs ≡ Err e
  fault-stays e [] = refl
  fault-stays e (x ∷ xs) = fault-stays e xs

  step : (x : X) (xs : List X) (ys built : List Y) (o : Outcome Y) → f x ≡ o → ((made : List Y) → fold (λ (before : Outcome (List Y)) (x : X). with_next before (f x)) (Ok made) xs ≡ Ok ys → (zs : List Y) × (ys ≡ made ++ zs) × P xs zs) → fold (λ (before : Outcome (List Y)) (x : X). with_next before (f x)) (with_next (Ok built) o) xs ≡ Ok ys → (zs : List Y) × (ys ≡ built ++ zs) × P (x ∷ xs) zs
  step x xs ys built (Ok y) is rest e =
      let r = rest (built ++ y ∷ []) e in
      (y ∷ r.0, r.1 ∙ append_assoc built (y ∷ []) r.0, more x y xs r.0 is r.2)
  step x xs ys built (Err fault) is rest e = let c : Err fault ≡ Ok ys = sym (fault-stays fault xs) ∙ e in cc

  behind : (built : List Y) (xs : List X) (ys : List Y) → fold (λ (before : Outcome (List Y)) (x : X). with_next before (f x)) (Ok built) xs ≡ Ok ys → (zs : List Y) × (ys ≡ built ++ zs) × P xs zs
  behind built [] ys e = let same : built ≡ ys = cc in ([], sym same ∙ sym (append-nil built), none)
  behind built (x ∷ xs) ys e = step x xs ys built (f x) refl (λ made. behind made xs ys) e

  pub each-relates : (xs : List X) (ys : List Y) → each_bound f xs ≡ Ok ys → P xs ys
  unfolding each_bound
  each-relates xs ys e = let r = behind [] xs ys e in subst (λ zs. P xs zs) (sym r.1) r.2

  pub each-answers : (r : Outcome (List Y)) (xs : List X) (ys : List Y) → r ≡ Ok ys → Answers r (each_bound f xs) → P xs ys
  each-answers r xs ys is a =
      let there : Answers (Ok ys) (each_bound f xs) = subst (λ s. Answers s (each_bound f xs)) is a in
      each-relates xs ys (there.holds)
