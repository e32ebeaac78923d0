-- Operands side by side: a dynamic one is converted to the type of the others.
use Rattle.std.specs.Prelude.{false, List, [], ◌∷◌, map, Option, None, Some, Ok, Err}
use Rattle.kql_cells.specs.declared.value.Kind.{Kind}
use Rattle.kql_cells.specs.declared.value.Kind.TheVariants as kind
use Rattle.kql_functions.specs.declared.func.ConversionFunc.TheVariants as conversion
use Rattle.kql_functions.specs.declared.func.Func.{Func}
use Rattle.kql_functions.specs.declared.func.Func.TheVariants as func
use Rattle.kql_functions.specs.Kinds.{result_kind}
use Rattle.kql_lexer.specs.declared.place.Place.{Place}
use Rattle.kql_bound.specs.declared.expr.BExpr.{BExpr}
use Rattle.kql_bound.specs.declared.expr.BExpr.TheVariants as V
use Rattle.bind_expr.specs.Arguments.{with_arg}
use Rattle.bind_expr.specs.Outcome.{Outcome, ◌>>=◌}
use Rattle.bind_expr.specs.declared.arguments.Args.{Args}
use Rattle.bind_expr.specs.declared.fault.BindFault.TheVariants as fault
use Rattle.bind_expr.specs.declared.typed.Typed.{Typed}

abbrev pub to_kind : BExpr → Kind → BExpr
to_kind e kind.Bool = V.Call (func.Conversion conversion.ToBool) (e ∷ [])
to_kind e kind.Long = V.Call (func.Conversion conversion.ToLong) (e ∷ [])
to_kind e kind.Text = V.Call (func.Conversion conversion.ToText) (e ∷ [])
to_kind e kind.Moment = V.Call (func.Conversion conversion.ToMoment) (e ∷ [])
to_kind e kind.Span = V.Call (func.Conversion conversion.ToSpan) (e ∷ [])
to_kind e kind.Dynamic = e

abbrev pub beside_as : Typed → Kind → Kind → Typed
beside_as t other kind.Dynamic = record { expr = to_kind t.expr other; kind = other }
beside_as t other kind.Bool = t
beside_as t other kind.Long = t
beside_as t other kind.Text = t
beside_as t other kind.Moment = t
beside_as t other kind.Span = t

-- An operand beside one of another type: a dynamic one is converted to it.
unfoldable pub beside : Typed → Kind → Typed
beside t other = beside_as t other t.kind

-- An operand of an operator on strings: a dynamic one becomes its text.
abbrev pub as_text : Typed → Typed
as_text t = beside t kind.Text

abbrev pub known_first : Kind → Kind → Kind
known_first kind.Dynamic more = more
known_first k more = k

-- The type of the first operand that is not dynamic; dynamic where all are.
unfoldable pub common_kind : List Kind → Kind
common_kind [] = kind.Dynamic
common_kind (k ∷ ks) = known_first k (common_kind ks)

abbrev pub typed_as : Place → BExpr → Option Kind → Outcome Typed
typed_as place e None = Err (fault.Refused 404 place)
typed_as place e (Some k) = Ok (record { expr = e; kind = k })

-- The call of a function, or 404 where it does not take these types.
unfoldable pub typed_call : Place → Func → List BExpr → List Kind → Outcome Typed
typed_call place f exprs kinds = typed_as place (V.Call f exprs) (result_kind f kinds)

abbrev pub exprs_of : List Typed → List BExpr
exprs_of ts = map (λ (t : Typed). t.expr) ts

abbrev pub kinds_of : List Typed → List Kind
kinds_of ts = map (λ (t : Typed). t.kind) ts

-- The same of operands.
abbrev pub operands_call : Place → Func → List Typed → Outcome Typed
operands_call place f ts = typed_call place f (exprs_of ts) (kinds_of ts)

-- Operands converted where they are dynamic, as the arguments of a call.
abbrev pub all_beside : Kind → List Typed → List Typed
all_beside k ts = map (λ t. beside t k) ts

abbrev pub with_beside : Kind → Outcome Args → Typed → Outcome Args
with_beside k before t = before >>= λ a. Ok (with_arg a (beside t k))

unfoldable pub args_beside : Kind → List Typed → Args
args_beside k ts = record { exprs = exprs_of (all_beside k ts); kinds = kinds_of (all_beside k ts); has_star = false; has_stray = false }
