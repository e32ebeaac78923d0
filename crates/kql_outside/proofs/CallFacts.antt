-- Calls that went well, and the one that failed.
use Rattle.std.proofs.Common.{◌≡◌, ◌∙◌, ℕ, refl, ap, sym, subst}
use Rattle.std.specs.Prelude.{Option, Some, None, IfSome, IsErrAnd, Result, Ok, Err}
use Rattle.kql_outside.specs.Calls.{CallCounts, LastFailed, NoneFailed, StopsAtFault, StopsAtReadFault, failures, noted, one_more}
use Rattle.kql_outside.specs.declared.transfers.ReadError.{ReadError}
use Rattle.kql_outside.specs.declared.transfers.ReadError.TheVariants as read_error

abbrev fell : (T : Type 0) {E : Type 0} → E → Result T E
fell T e = Err e

abbrev passed : Option CallCounts → Option CallCounts
passed told = noted {T = ℕ} {E = ℕ} (Ok 0) told

abbrev failed : Option CallCounts → Option CallCounts
failed told = noted {T = ℕ} {E = ℕ} (Err 0) told

failures-ok : (m : Option CallCounts) → failures (passed m) ≡ failures m
failures-ok None = refl
failures-ok (Some counts) = refl

failures-err : (m : Option CallCounts) → failures (failed m) ≡ one_more (failures m)
failures-err None = refl
failures-err (Some counts) = refl

last-err : (m : Option CallCounts) → IfSome (failed m) (λ (counts : CallCounts). counts.later ≡ 0)
last-err None = tt
last-err (Some counts) = refl

-- one call more, behind some of which none failed
pub none-failed : (b m n : Option CallCounts) → n ≡ passed m → NoneFailed b m → NoneFailed b n
none-failed b m n e h = ap failures e ∙ (failures-ok m ∙ h)

pub last-failed : (b m n : Option CallCounts) → n ≡ failed m → NoneFailed b m → LastFailed b n
last-failed b m n e h = record {
  one = ap failures e ∙ (failures-err m ∙ ap one_more h);
  last = subst (λ (told : Option CallCounts). IfSome told (λ (counts : CallCounts). counts.later ≡ 0)) (sym e) (last-err m);
}

-- what a call answers after it
pub stopped : {T E : Type 0} (P : E → Type 0) (b n : Option CallCounts) (r : Result T E) → IsErrAnd r P → LastFailed b n → StopsAtFault b n r
stopped P b n (Ok x) i h = absurd i
stopped P b n (Err e) i h = h

-- reads behind others
behind-last : (b m n : Option CallCounts) → NoneFailed b m → LastFailed m n → LastFailed b n
behind-last b m n h l = record { one = l.one ∙ ap one_more h; last = l.last }

error-behind : (T X : Type 0) (b m n : Option CallCounts) (e : ReadError) → NoneFailed b m → StopsAtReadFault m n (fell T e) → StopsAtReadFault b n (fell X e)
error-behind T X b m n read_error.Failed h s = behind-last b m n h s
error-behind T X b m n read_error.OutOfMemory h s = s ∙ h

pub read-stopped : (T X : Type 0) (b m n : Option CallCounts) (e : ReadError) (r : Result X ReadError) → NoneFailed b m → StopsAtReadFault m n (fell T e) → IsErrAnd r (λ x. x ≡ e) → StopsAtReadFault b n r
read-stopped T X b m n e (Ok x) h s i = absurd i
read-stopped T X b m n e (Err d) h s i = subst (λ (x : ReadError). StopsAtReadFault b n (fell X x)) (sym i) (error-behind T X b m n e h s)
