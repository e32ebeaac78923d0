-- The node of a call of a scalar function, once its arguments are bound.
use Rattle.std.specs.Prelude.{ℕ, ℤ, Bool, true, false, ◌&&◌, not, List, [], ◌∷◌, length, Option, None, Some, Ok, Err, is_some}
use Rattle.kql_cells.specs.declared.value.Kind.{Kind}
use Rattle.kql_cells.specs.declared.value.Kind.TheVariants as kind
use Rattle.kql_cells.specs.declared.value.Value.{Value}
use Rattle.kql_cells.specs.declared.value.Value.TheVariants as value
use Rattle.kql_functions.specs.declared.func.Func.{Func}
use Rattle.kql_functions.specs.declared.func.Func.TheVariants as func
use Rattle.kql_functions.specs.declared.func.TimeFunc.TheVariants as time
use Rattle.kql_functions.specs.Kinds.{result_kind}
use Rattle.kql_scalar_fns.specs.Time.{field_named, period_named}
use Rattle.kql_lexer.specs.declared.place.Place.{Place}
use Rattle.kql_bound.specs.declared.expr.BExpr.{BExpr}
use Rattle.kql_bound.specs.declared.expr.BExpr.TheVariants as V
use Rattle.kql_bound.specs.declared.expr.ChainSign.{ChainSign}
use Rattle.kql_bound.specs.declared.expr.ChainSign.TheVariants as sign
use Rattle.kql_bound.specs.declared.literal.Lit.{Lit}
use Rattle.kql_meaning.specs.FittingExpressions.{literal_of}
use Rattle.bind_expr.specs.Counts.{count_of, is_count}
use Rattle.bind_expr.specs.Operands.{typed_as, typed_call}
use Rattle.bind_expr.specs.Outcome.{Outcome}
use Rattle.bind_expr.specs.declared.arguments.Args.{Args}
use Rattle.bind_expr.specs.declared.fault.BindFault.TheVariants as fault
use Rattle.bind_expr.specs.declared.scope.Scope.{Scope}
use Rattle.bind_expr.specs.declared.typed.Typed.{Typed}

-- The word of a part: 403 where it is no constant, or a string that is no part's word. What is no string is 404, by its type.
abbrev pub is_part_value : {X : Type 0} → (List ℕ → Option X) → Value → Bool
is_part_value named (value.Text w) = is_some (named w)
is_part_value named _ = true

abbrev pub is_part_literal : {X : Type 0} → (List ℕ → Option X) → Option Lit → Bool
is_part_literal named None = false
is_part_literal named (Some l) = is_part_value named l.value

abbrev pub is_part : {X : Type 0} → (List ℕ → Option X) → List BExpr → Bool
is_part named [] = false
is_part named (e ∷ es) = is_part_literal named (literal_of e)

unfoldable pub has_part : Func → List BExpr → Bool
has_part (func.Time time.DatetimeAdd) es = is_part period_named es
has_part (func.Time time.DatetimeDiff) es = is_part period_named es
has_part (func.Time time.DatetimePart) es = is_part field_named es
has_part _ es = true

-- Whether the arguments are as many as wanted, without a `*`, and the part is one; else 403.
unfoldable pub takes_args : Func → Args → Bool
takes_args f a = not a.has_stray && (is_count (count_of f) (length a.kinds) && has_part f a.exprs)

abbrev pub plain_call_as : Place → Func → Args → Bool → Outcome Typed
plain_call_as place f a true = typed_call place f a.exprs a.kinds
plain_call_as place f a false = Err (fault.Refused 403 place)

unfoldable pub plain_call : Place → Func → Args → Outcome Typed
plain_call place f a = plain_call_as place f a (takes_args f a)

-- The moment, alone or with a timespan added or taken away.
abbrev pub moment_literal : ℤ → BExpr
moment_literal m = V.Literal (record { kind = kind.Moment; value = value.Moment m })

unfoldable pub from_moment : ChainSign → ℤ → List BExpr → BExpr
from_moment sign m [] = moment_literal m
from_moment sign m (s ∷ ss) = V.Chain (moment_literal m) ((sign, s) ∷ [])

abbrev pub moment_call_as : Place → Func → ChainSign → ℤ → Args → Bool → Outcome Typed
moment_call_as place f sign m a true = typed_as place (from_moment sign m a.exprs) (result_kind f a.kinds)
moment_call_as place f sign m a false = Err (fault.Refused 403 place)

-- `now` and `ago`: 409 where there is no moment, and then as other calls.
abbrev pub moment_call : Place → Func → ChainSign → Args → Option ℤ → Outcome Typed
moment_call place f sign a None = Err (fault.Refused 409 place)
moment_call place f sign a (Some m) = moment_call_as place f sign m a (takes_args f a)

-- The sign before the timespan of `now` and `ago`; no other function wants a moment.
unfoldable pub moment_sign : Func → Option ChainSign
moment_sign (func.Time time.Now) = Some sign.Add
moment_sign (func.Time time.Ago) = Some sign.Subtract
moment_sign _ = None

abbrev pub scalar_call_as : Place → Func → Args → Option ℤ → Option ChainSign → Outcome Typed
scalar_call_as place f a moment None = plain_call place f a
scalar_call_as place f a moment (Some s) = moment_call place f s a moment

-- A call of a scalar function: 409, 403, 404.
unfoldable pub scalar_call : Place → Func → Args → Option ℤ → Outcome Typed
scalar_call place f a moment = scalar_call_as place f a moment (moment_sign f)
