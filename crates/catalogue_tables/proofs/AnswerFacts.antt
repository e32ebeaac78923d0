-- How answers follow one another.
use Rattle.std.proofs.Common.{◌≡◌, List, refl, ap, subst, sym}
use Rattle.std.specs.Prelude.{Option, Some, None, IfSome, IsErrAnd, Result, Ok, Err}
use Rattle.kql_words.specs.Refusals.{Answer, ◌>>=◌}
use Rattle.catalogue_tables.specs.Computes.{Computes, Gives}
use Rattle.catalogue_tables.specs.Files.{Files}
use Rattle.catalogue_tables.specs.declared.stop.CatalogueStop.{CatalogueStop}
use Rattle.catalogue_tables.specs.declared.stop.CatalogueStop.TheVariants as stop

-- what gives an answer gives an equal one
pub gives-along : {X : Type 0} (a b : Answer X) (r : Result X CatalogueStop) → a ≡ b → Gives a r → Gives b r
gives-along a b r e h = subst (λ (x : Answer _). Gives x r) e h

pub computes-along : {X : Type 0} (a b : Answer X) (r : Result X CatalogueStop) → a ≡ b → Computes a r → Computes b r
computes-along a b r e h = subst (λ (x : Answer _). Computes x r) e h

-- what a pure step gives is computed
pub computes : {X : Type 0} (a : Answer X) (r : Result X CatalogueStop) → Gives a r → Computes a r
computes a (Ok x) h = h
computes a (Err (stop.Refused file code row column)) h = h
computes a (Err stop.ReadFault) h = absurd h
computes a (Err stop.OutOfMemory) h = tt

-- what stops a step stops all
pub stops : {X Y : Type 0} (a : Answer X) (f : X → Answer Y) (s : CatalogueStop) → Computes a (Err s) → Computes (a >>= f) (Err s)
stops a f (stop.Refused file code row column) h = rw h refl
stops a f stop.ReadFault h = tt
stops a f stop.OutOfMemory h = tt

-- a step that gave its value
pub goes_on : {X Y : Type 0} (a : Answer X) (f : X → Answer Y) (x : X) (r : Result Y CatalogueStop) → a ≡ Ok x → Computes (f x) r → Computes (a >>= f) r
goes_on a f x r e h = rw e h

-- an error that `?` passed on, as the stop that it became
pub raised : {X : Type 0} (a : Answer X) (r : Result X CatalogueStop) (s : CatalogueStop) → IsErrAnd r (λ e. e ≡ s) → Computes a (Err s) → Computes a r
raised a (Ok x) s i h = absurd i
raised a (Err e) s i h = rw i h

-- want of memory stands in any answer's place
pub forgets : {X : Type 0} (a : Answer X) (r : Result X CatalogueStop) → IsErrAnd r (λ e. e ≡ stop.OutOfMemory) → Computes a r
forgets a r i = raised a r stop.OutOfMemory i tt

pub told-forgets : {X : Type 0} (told : Option Files) (a : Files → Answer X) (r : Result X CatalogueStop) → IsErrAnd r (λ e. e ≡ stop.OutOfMemory) → IfSome told (λ files. Computes (a files) r)
told-forgets None a r i = tt
told-forgets (Some files) a r i = forgets (a files) r i
