-- What a call gives is of the type that `result_kind` says, or null.
use Rattle.std.proofs.Common.{◌≡◌, ℕ, List, [], ◌∷◌}
use Rattle.std.specs.Prelude.{Option, None, Some, IfSome, IfOk, Result, Ok, Err}
use Rattle.kql_cells.specs.Values.{IsOfKind}
use Rattle.kql_cells.specs.declared.value.Kind.{Kind}
use Rattle.kql_cells.specs.declared.value.Kind.TheVariants as kind
use Rattle.kql_cells.specs.declared.value.Value.{Value}
use Rattle.kql_functions.specs.declared.func.Func.{Func}
use Rattle.kql_functions.specs.declared.func.Func.TheVariants as func
use Rattle.kql_scalar_fns.specs.Applied.{applied, untold}
use Rattle.kql_functions.specs.Kinds.{AreOfKinds, pattern_kind, result_kind}
use Rattle.kql_scalar_fns.specs.Search.{search_call}
use Rattle.kql_scalar_fns.proofs.ArithmeticKinds.{arithmetic_gives}
use Rattle.kql_scalar_fns.proofs.ChoiceKinds.{choice_gives}
use Rattle.kql_scalar_fns.proofs.ComparisonKinds.{comparison_gives}
use Rattle.kql_scalar_fns.proofs.ConversionKinds.{conversion_gives}
use Rattle.kql_scalar_fns.proofs.DynamicKinds.{dynamic_gives}
use Rattle.kql_scalar_fns.proofs.KindLaws.{Gives, bool-kind, row-any}
use Rattle.kql_scalar_fns.proofs.LogicKinds.{logic_gives}
use Rattle.kql_scalar_fns.proofs.TextKinds.{text_gives}
use Rattle.kql_scalar_fns.proofs.TimeKinds.{time_gives}

untold-kind : (g : Option ℕ) → IsOfKind (pattern_kind g) (untold g)
untold-kind None = tt
untold-kind (Some n) = tt

applied-gives : (f : Func) (ks : List Kind) (vs : List Value) → AreOfKinds ks vs → Gives (result_kind f ks) (applied f vs)
unfolding applied result_kind search_call
applied-gives (func.Arithmetic f) ks vs h = arithmetic_gives f ks vs h
applied-gives (func.Comparison f) ks vs h = comparison_gives f ks vs
applied-gives (func.Search f) ks vs h = row-any ks (kind.Text ∷ kind.Text ∷ []) kind.Bool _ (bool-kind _)
applied-gives (func.Logic f) ks vs h = logic_gives f ks vs
applied-gives (func.Choice f) ks vs h = choice_gives f ks vs h
applied-gives (func.Conversion f) ks vs h = conversion_gives f ks vs
applied-gives (func.Text f) ks vs h = text_gives f ks vs h
applied-gives (func.Time f) ks vs h = time_gives f ks vs
applied-gives (func.Dynamic f) ks vs h = dynamic_gives f ks vs
applied-gives (func.Pattern f) ks vs h = row-any ks (kind.Text ∷ kind.Text ∷ []) (pattern_kind f.group) (untold f.group) (untold-kind f.group)

nothing : {E : Type 0} (o : Option Kind) (x : E) → IfSome o (λ k. IfOk {T = Value} (Err x) (IsOfKind k))
nothing None x = tt
nothing (Some k) x = tt

pub call_gives : {E : Type 0} (r : Result Value E) (f : Func) (vs : List Value) → IfOk r (λ v. v ≡ applied f vs) → (ks : List Kind) → AreOfKinds ks vs → IfSome (result_kind f ks) (λ k. IfOk r (IsOfKind k))
call_gives (Ok v) f vs e ks h = rw e (applied-gives f ks vs h)
call_gives (Err x) f vs e ks h = nothing (result_kind f ks) x
