-- What a call gives fits the type that its function has.
use Rattle.std.proofs.Common.{◌≡◌, ℕ, refl}
use Rattle.std.specs.Prelude.{IfSome, Ok, Option, Some}
use Rattle.kql_functions.specs.Kinds.{result_kind}
use Rattle.kql_scalar_fns.proofs.CallLaws.{call_gives}
use Rattle.kql_scalar_fns.specs.Applied.{applied}
use Rattle.kql_cells.specs.Values.{IsOfKind}
use Rattle.kql_cells.specs.declared.value.Kind.{Kind}
use Rattle.kql_cells.specs.declared.value.Value.{Value}
use Rattle.kql_fit_laws.proofs.CallForms.{applied-form}
use Rattle.kql_fit_laws.specs.LawsOfCalls.{CallKeeps}

taken : (o : Option Kind) (k : Kind) (v : Value) → o ≡ Some k → IfSome o (λ j. IsOfKind j v) → IsOfKind k v
taken o k v e h = rw e at h

pub call_keeps : CallKeeps
call_keeps f ks vs k h forms e = (taken (result_kind f ks) k (applied f vs) e (call_gives {E = ℕ} (Ok (applied f vs)) f vs refl ks h), applied-form f vs forms)
