-- Arguments are well formed where all are, and so is what stands where there is no value.
use Rattle.std.proofs.Common.{◌≡◌, ◌<◌, ℕ, zero, suc, List, [], ◌∷◌, length, arith, subst, sym}
use Rattle.std.specs.Prelude.{slice_index_or}
use Rattle.kql_cells.specs.Keys.{absent}
use Rattle.kql_cells.specs.Values.{IsWellFormed}
use Rattle.kql_cells.specs.declared.value.Kind.{Kind}
use Rattle.kql_cells.specs.declared.value.Kind.TheVariants as kind
use Rattle.kql_cells.specs.declared.value.Value.{Value}
use Rattle.kql_cells.specs.declared.value.Value.TheVariants as value
use Rattle.kql_scalar_fns.specs.Arguments.{AreWellFormed, argument}

pub absent-form : (k : Kind) → IsWellFormed (absent k)
unfolding absent
absent-form kind.Text = tt
absent-form kind.Bool = tt
absent-form kind.Long = tt
absent-form kind.Moment = tt
absent-form kind.Span = tt
absent-form kind.Dynamic = tt

pub ruleset absent_forms = absent-form

form-at : (vs : List Value) (i : ℕ) → ((k : ℕ) (d : Value) → k < length vs → IsWellFormed (slice_index_or vs k d)) → IsWellFormed (slice_index_or vs i value.Null)
form-at [] i h = tt
form-at (v ∷ vs) zero h = h 0 value.Null (omega arith)
form-at (v ∷ vs) (suc i) h = form-at vs i (λ k d l. h (suc k) d (omega arith))

pub argument_form : (vs : List Value) (i : ℕ) (v : Value) → v ≡ argument vs i → AreWellFormed vs → IsWellFormed v
unfolding argument
argument_form vs i v e h = subst (λ (w : Value). IsWellFormed w) (sym e) (form-at vs i h.each)
