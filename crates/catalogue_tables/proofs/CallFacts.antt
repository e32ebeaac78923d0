-- How the calls of the shelf went, step by step.
use Rattle.std.proofs.Common.{◌≡◌, ◌∙◌, refl, ap, subst, sym}
use Rattle.std.specs.Prelude.{Option, IsErrAnd, Result, Ok, Err}
use Rattle.kql_outside.specs.Calls.{CallCounts, LastFailed, NoneFailed, StopsAtReadFault, one_more}
use Rattle.kql_outside.specs.declared.transfers.ReadError.{ReadError}
use Rattle.kql_outside.specs.declared.transfers.ReadError.TheVariants as read_error
use Rattle.kql_words.specs.Refusals.{Answer}
use Rattle.catalogue_tables.specs.Computes.{Gives, StopsAtRead, StopsBy, read_stop}
use Rattle.catalogue_tables.specs.declared.stop.CatalogueStop.{CatalogueStop}
use Rattle.catalogue_tables.specs.declared.stop.CatalogueStop.TheVariants as stop

-- a stop behind calls of which none failed
pub stops-behind : (b m n : Option CallCounts) (s : CatalogueStop) → NoneFailed b m → StopsBy m n s → StopsBy b n s
stops-behind b m n (stop.Refused file code row column) h s = s ∙ h
stops-behind b m n stop.ReadFault h s = record { one = s.one ∙ ap one_more h; last = s.last }
stops-behind b m n stop.OutOfMemory h s = s ∙ h

pub reads-behind : {X : Type 0} (b m n : Option CallCounts) (r : Result X CatalogueStop) → NoneFailed b m → StopsAtRead m n r → StopsAtRead b n r
reads-behind b m n (Ok x) h s = s ∙ h
reads-behind b m n (Err e) h s = stops-behind b m n e h s

-- an error that `?` passed on
pub raised-stops : {X : Type 0} (b n : Option CallCounts) (r : Result X CatalogueStop) (s : CatalogueStop) → IsErrAnd r (λ e. e ≡ s) → StopsBy b n s → StopsAtRead b n r
raised-stops b n (Ok x) s i h = absurd i
raised-stops b n (Err e) s i h = subst (λ (x : CatalogueStop). StopsBy b n x) (sym i) h

-- a shelf that failed to start a file
pub start-stops : {X : Type 0} (b n : Option CallCounts) (r : Result X CatalogueStop) → IsErrAnd r (λ e. e ≡ stop.ReadFault) → LastFailed b n → StopsAtRead b n r
start-stops b n r i h = raised-stops b n r stop.ReadFault i h

read-stops-by : (T : Type 0) (b n : Option CallCounts) (e : ReadError) → StopsAtReadFault {T = T} b n (Err e) → StopsBy b n (read_stop e)
read-stops-by T b n read_error.Failed h = h
read-stops-by T b n read_error.OutOfMemory h = h

-- a file that could not be read
pub read-stops : (T : Type 0) {X : Type 0} (b m n : Option CallCounts) (r : Result X CatalogueStop) (e : ReadError) → NoneFailed b m → StopsAtReadFault {T = T} m n (Err e) → IsErrAnd r (λ x. x ≡ read_stop e) → StopsAtRead b n r
read-stops T b m n r e h s i = raised-stops b n r (read_stop e) i (stops-behind b m n (read_stop e) h (read-stops-by T m n e s))

-- a pure step has no fault of the shelf
given-by : {X : Type 0} (a : Answer X) (b n : Option CallCounts) (s : CatalogueStop) → Gives a (Err s) → NoneFailed b n → StopsBy b n s
given-by a b n (stop.Refused file code row column) g h = h
given-by a b n stop.ReadFault g h = absurd g
given-by a b n stop.OutOfMemory g h = h

pub given-stops : {X : Type 0} (a : Answer X) (b n : Option CallCounts) (r : Result X CatalogueStop) → Gives a r → NoneFailed b n → StopsAtRead b n r
given-stops a b n (Ok x) g h = h
given-stops a b n (Err s) g h = given-by a b n s g h

pub given-raised : {X Y : Type 0} (a : Answer X) (b n : Option CallCounts) (r : Result Y CatalogueStop) (s : CatalogueStop) → Gives a (Err s) → IsErrAnd r (λ e. e ≡ s) → NoneFailed b n → StopsAtRead b n r
given-raised a b n r s g i h = raised-stops b n r s i (given-by a b n s g h)

-- and passes none on
pub no-fault : {X : Type 0} (a : Answer X) (P : Type 0) (r : Result X CatalogueStop) → Gives a r → r ≡ Err stop.ReadFault → P
no-fault a P (Ok x) h e = cc
no-fault a P (Err (stop.Refused file code row column)) h e = cc
no-fault a P (Err stop.ReadFault) h e = absurd h
no-fault a P (Err stop.OutOfMemory) h e = cc

pub no-fault-raised : {X Y : Type 0} (a : Answer X) (P : Type 0) (r : Result Y CatalogueStop) (s : CatalogueStop) → Gives a (Err s) → IsErrAnd r (λ e. e ≡ s) → r ≡ Err stop.ReadFault → P
no-fault-raised a P (Ok x) s h i e = absurd i
no-fault-raised a P (Err x) (stop.Refused file code row column) h i e = cc
no-fault-raised a P (Err x) stop.ReadFault h i e = absurd h
no-fault-raised a P (Err x) stop.OutOfMemory h i e = cc

-- want of memory
pub memory-stops : {X : Type 0} (b n : Option CallCounts) (r : Result X CatalogueStop) → IsErrAnd r (λ e. e ≡ stop.OutOfMemory) → NoneFailed b n → StopsAtRead b n r
memory-stops b n r i h = raised-stops b n r stop.OutOfMemory i h
