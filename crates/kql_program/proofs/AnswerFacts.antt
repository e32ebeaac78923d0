-- How answers follow one another.
use Rattle.std.proofs.Common.{◌≡◌, List, [], ◌∷◌, ◌++◌, ap, append_assoc, refl, subst, sym}
use Rattle.std.specs.Prelude.{Result, Ok, Err, IsErrAnd}
use Rattle.kql_program.specs.Refusals.{Computes, Finds, Gives, Reaches, after, with_first}
use Rattle.kql_words.specs.Refusals.{Answer, ◌>>=◌}
use Rattle.kql_program.specs.declared.refusal.Stop.{Stop}
use Rattle.kql_program.specs.declared.refusal.Stop.TheVariants as stop

-- what gives an answer gives an equal one
pub gives-along : {X : Type 0} (a b : Answer X) (r : Result X Stop) → a ≡ b → Gives a r → Gives b r
gives-along a b r e h = subst (λ (x : Answer _). Gives x r) e h

-- what a pure step gives is computed
pub computes : {X : Type 0} (a : Answer X) (r : Result X Stop) → Gives a r → Computes a r
computes a (Ok x) h = h
computes a (Err (stop.Refused q)) h = h
computes a (Err stop.ReadFault) h = absurd h
computes a (Err stop.OutOfMemory) h = tt

-- a pure step has no fault of the shelf
pub no_fault : {X : Type 0} (a : Answer X) (P : Type 0) (r : Result X Stop) → Gives a r → r ≡ Err stop.ReadFault → P
no_fault a P (Ok x) h e = cc
no_fault a P (Err (stop.Refused q)) h e = cc
no_fault a P (Err stop.ReadFault) h e = absurd h
no_fault a P (Err stop.OutOfMemory) h e = cc

-- and passes none on
pub no_fault_raised : {X Y : Type 0} (a : Answer X) (P : Type 0) (r : Result Y Stop) (s : Stop) → Gives a (Err s) → IsErrAnd r (λ e. e ≡ s) → r ≡ Err stop.ReadFault → P
no_fault_raised a P (Ok x) s h i e = absurd i
no_fault_raised a P (Err x) (stop.Refused q) h i e = cc
no_fault_raised a P (Err x) stop.ReadFault h i e = absurd h
no_fault_raised a P (Err x) stop.OutOfMemory h i e = cc

-- what stops a step stops all
pub stops : {X Y : Type 0} (a : Answer X) (f : X → Answer Y) (s : Stop) → Computes a (Err s) → Computes (a >>= f) (Err s)
stops a f (stop.Refused r) h = rw h refl
stops a f stop.ReadFault h = tt
stops a f stop.OutOfMemory h = tt

-- a step that gave its value
pub goes_on : {X Y : Type 0} (a : Answer X) (f : X → Answer Y) (x : X) (r : Result Y Stop) → a ≡ Ok x → Computes (f x) r → Computes (a >>= f) r
goes_on a f x r e h = rw e h

-- an error that `?` passed on, as the stop that it became
pub raised : {X : Type 0} (a : Answer X) (r : Result X Stop) (s : Stop) → IsErrAnd r (λ e. e ≡ s) → Computes a (Err s) → Computes a r
raised a (Ok x) s i h = absurd i
raised a (Err e) s i h = rw i h

-- the same of a pure step
pub raised-gives : {X : Type 0} (a : Answer X) (r : Result X Stop) (s : Stop) → IsErrAnd r (λ e. e ≡ s) → Gives a (Err s) → Gives a r
raised-gives a (Ok x) s i h = absurd i
raised-gives a (Err e) s i h = rw i h

-- the same of a step that may come to one of several answers
pub raised-reaches : {X : Type 0} (Is : Answer X → Type 0) (r : Result X Stop) (s : Stop) → IsErrAnd r (λ e. e ≡ s) → Reaches Is (Err s) → Reaches Is r
raised-reaches Is (Ok x) s i h = absurd i
raised-reaches Is (Err e) s i h = rw i h

pub raised-finds : {X : Type 0} (Is : Answer X → Type 0) (r : Result X Stop) (s : Stop) → IsErrAnd r (λ e. e ≡ s) → Finds Is (Err s) → Finds Is r
raised-finds Is (Ok x) s i h = absurd i
raised-finds Is (Err e) s i h = rw i h

-- what is found without files is reached
pub reached : {X : Type 0} (Is : Answer X → Type 0) (r : Result X Stop) → Finds Is r → Reaches Is r
reached Is (Ok x) h = h
reached Is (Err (stop.Refused q)) h = h
reached Is (Err stop.ReadFault) h = absurd h
reached Is (Err stop.OutOfMemory) h = tt

-- without a fault of the shelf
pub found-no_fault : {X : Type 0} (Is : Answer X → Type 0) (P : Type 0) (r : Result X Stop) → Finds Is r → r ≡ Err stop.ReadFault → P
found-no_fault Is P (Ok x) h e = cc
found-no_fault Is P (Err (stop.Refused q)) h e = cc
found-no_fault Is P (Err stop.ReadFault) h e = absurd h
found-no_fault Is P (Err stop.OutOfMemory) h e = cc

-- one more value, behind those before it
pub after-first : {X : Type 0} (before : List X) (x : X) (rest : Answer (List X)) → after before (with_first x rest) ≡ after (before ++ x ∷ []) rest
after-first before x (Ok xs) = ap Ok (sym (append_assoc before (x ∷ []) xs))
after-first before x (Err r) = refl
