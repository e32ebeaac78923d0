-- What is chosen among well formed values is well formed.
use Rattle.std.proofs.Common.{◌≡◌, ℕ, zero, suc, Bool, true, false, List, [], ◌∷◌, fold, arith}
use Rattle.std.specs.Prelude.{IfOk, Result, Ok, Err, if◌then◌else◌}
use Rattle.kql_cells.specs.Values.{IsWellFormed}
use Rattle.kql_cells.specs.declared.value.Value.{Value}
use Rattle.kql_cells.specs.declared.value.Value.TheVariants as value
use Rattle.kql_functions.specs.declared.func.ChoiceFunc.{ChoiceFunc}
use Rattle.kql_functions.specs.declared.func.ChoiceFunc.TheVariants as func
use Rattle.kql_scalar_fns.specs.Arguments.{AreWellFormed, argument}
use Rattle.kql_scalar_fns.specs.Choice.{choice, chosen, first_case, first_given, greater, greatest, is_below, is_empty, is_null, least, lesser}
use Rattle.kql_scalar_fns.specs.Logic.{is_true, truth}

by_test : (b : Bool) (v w : Value) → IsWellFormed v → IsWellFormed w → IsWellFormed (if b then v else w)
by_test true v w h k = h
by_test false v w h k = k

first-form : (v : Value) (vs : List Value) → AreWellFormed (v ∷ vs) → IsWellFormed v
first-form v vs h = h.each 0 value.Null (omega arith)

rest-form : (v : Value) (vs : List Value) → AreWellFormed (v ∷ vs) → AreWellFormed vs
rest-form v vs h = record { each = λ k d l. h.each (suc k) d (omega arith) }

pub argument-form : (vs : List Value) (i : ℕ) → AreWellFormed vs → IsWellFormed (argument vs i)
unfolding argument
argument-form [] i h = tt
argument-form (v ∷ vs) zero h = first-form v vs h
argument-form (v ∷ vs) (suc i) h = argument-form vs i (rest-form v vs h)

first_case-form : (vs : List Value) → AreWellFormed vs → IsWellFormed (first_case vs)
unfolding first_case
first_case-form [] h = tt
first_case-form (v ∷ []) h = first-form v [] h
first_case-form (c ∷ v ∷ more) h =
    let r = rest-form c (v ∷ more) h in
    by_test (is_true (truth c)) v (first_case more) (first-form v more r) (first_case-form more (rest-form v more r))

first_given-form : (vs : List Value) → AreWellFormed vs → IsWellFormed (first_given vs)
unfolding first_given
first_given-form [] h = tt
first_given-form (v ∷ []) h = first-form v [] h
first_given-form (v ∷ w ∷ more) h =
    by_test (is_empty v) (first_given (w ∷ more)) v (first_given-form (w ∷ more) (rest-form v (w ∷ more) h)) (first-form v (w ∷ more) h)

lesser-form : (a b : Value) → IsWellFormed a → IsWellFormed b → IsWellFormed (lesser a b)
unfolding lesser
lesser-form a b h k = by_test (is_null a) b (if is_below b a then b else a) k (by_test (is_below b a) b a k h)

greater-form : (a b : Value) → IsWellFormed a → IsWellFormed b → IsWellFormed (greater a b)
unfolding greater
greater-form a b h k = by_test (is_null a) b (if is_below a b then b else a) k (by_test (is_below a b) b a k h)

fold-form : (f : Value → Value → Value) → ((a b : Value) → IsWellFormed a → IsWellFormed b → IsWellFormed (f a b)) → (z : Value) (vs : List Value) → IsWellFormed z → AreWellFormed vs → IsWellFormed (fold f z vs)
fold-form f g z [] h k = h
fold-form f g z (v ∷ vs) h k = fold-form f g (f z v) vs (g z v h (first-form v vs k)) (rest-form v vs k)

choice-form : (f : ChoiceFunc) (vs : List Value) → AreWellFormed vs → IsWellFormed (choice f vs)
unfolding choice chosen least greatest
choice-form func.IsNull vs h = tt
choice-form func.IsNotNull vs h = tt
choice-form func.IsEmpty vs h = tt
choice-form func.IsNotEmpty vs h = tt
choice-form func.Iff vs h = by_test (is_true (truth (argument vs 0))) (argument vs 1) (argument vs 2) (argument-form vs 1 h) (argument-form vs 2 h)
choice-form func.Case vs h = first_case-form vs h
choice-form func.Coalesce vs h = first_given-form vs h
choice-form func.MinOf vs h = fold-form lesser lesser-form value.Null vs tt h
choice-form func.MaxOf vs h = fold-form greater greater-form value.Null vs tt h

-- a call that answers this choice answers a well formed value
pub choice_form : {E : Type 0} (r : Result Value E) (f : ChoiceFunc) (vs : List Value) → AreWellFormed vs → IfOk r (λ v. v ≡ choice f vs) → IfOk r IsWellFormed
choice_form (Ok v) f vs h e = rw e (choice-form f vs h)
choice_form (Err x) f vs h e = tt
