-- The patterns of a prefix, and those behind them.
use Rattle.std.proofs.Common.{◌≡◌, ◌<◌, ◌+◌, ℕ, suc, List, [], ◌∷◌, ◌++◌, map, take, drop, length, get_or, refl, sym, ap, ap₂, ◌∙◌, arith, drop-cons}
use Rattle.std.proofs.lemmas.List.{map-append, take_more}
use Rattle.kql_cells.specs.Catalogues as seen
use Rattle.kql_values.specs.Kept.{all_named, named_of}
use Rattle.kql_values.specs.declared.catalogue.Named.{Named}
use Rattle.pattern_lift.specs.declared.calls.Derived.{Derived}
use Rattle.pattern_run.proofs.SameCalls.{called}

-- The calls of the next prefix, and of those behind it.
pub called-next : (ps : List Derived) (i : ℕ) (p : Derived) → i < length ps → p ≡ get_or ps i p → called (drop i ps) ≡ p.calls ++ called (drop (i + 1) ps)
called-next ps i p lt is =
    let next : suc i ≡ i + 1 = omega arith in
    ap called (drop-cons ps i p lt) ∙ ap₂ (λ (d : Derived) (k : ℕ). d.calls ++ called (drop k ps)) (sym is) next

pub front-same : {A B C : Type 0} (f : A → C) (g : B → C) (xs : List A) (ys zs : List B) → map f xs ≡ map g (ys ++ zs) → map f (take (length ys) xs) ≡ map g ys
front-same f g xs [] zs e = refl
front-same f g [] (y ∷ ys) zs e = absurd cc
front-same f g (x ∷ xs) (y ∷ ys) zs e =
    let head : f x ≡ g y = cc in
    let tail : map f xs ≡ map g (ys ++ zs) = cc in
    ap₂ (λ v vs. v ∷ vs) head (front-same f g xs ys zs tail)

pub behind-same : {A B C : Type 0} (f : A → C) (g : B → C) (xs : List A) (ys zs : List B) → map f xs ≡ map g (ys ++ zs) → map f (drop (length ys) xs) ≡ map g zs
behind-same f g xs [] zs e = e
behind-same f g [] (y ∷ ys) zs e = absurd cc
behind-same f g (x ∷ xs) (y ∷ ys) zs e = let tail : map f xs ≡ map g (ys ++ zs) = cc in behind-same f g xs ys zs tail

-- The derived tables so far, and one more.
pub tables-more : (f : Derived → seen.Named) (ps : List Derived) (i : ℕ) (p : Derived) (before after : List Named) (t : Named) → i < length ps → p ≡ get_or ps i p → all_named before ≡ map f (take i ps) → named_of t ≡ f p → after ≡ before ++ t ∷ [] → all_named after ≡ map f (take (i + 1) ps)
tables-more f ps i p before after t lt is b e a =
    ap all_named a
    ∙ (map-append named_of before (t ∷ [])
    ∙ (ap₂ (λ (ts : List seen.Named) (x : seen.Named). ts ++ x ∷ []) b (e ∙ ap f is)
    ∙ sym (ap (map f) (take_more ps i p lt) ∙ map-append f (take i ps) (get_or ps i p ∷ []))))
