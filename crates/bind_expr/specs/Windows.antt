-- The node of a call of a window function, once its arguments are bound.
use Rattle.std.specs.Prelude.{ℤ, pos, Bool, true, false, ◌&&◌, not, int_le, List, [], ◌∷◌, Option, None, Some, Ok, Err}
use Rattle.kql_cells.specs.declared.value.Kind.{Kind}
use Rattle.kql_cells.specs.declared.value.Kind.TheVariants as kind
use Rattle.kql_cells.specs.declared.value.Value.{Value}
use Rattle.kql_cells.specs.declared.value.Value.TheVariants as value
use Rattle.kql_functions.specs.declared.window.Window.{Window}
use Rattle.kql_functions.specs.declared.window.Window.TheVariants as window
use Rattle.kql_functions.specs.Kinds.{same_kind}
use Rattle.kql_lexer.specs.declared.place.Place.{Place}
use Rattle.kql_bound.specs.declared.expr.BExpr.{BExpr}
use Rattle.kql_bound.specs.declared.expr.BExpr.TheVariants as V
use Rattle.kql_bound.specs.declared.literal.Lit.{Lit}
use Rattle.kql_meaning.specs.FittingExpressions.{is_addable, literal_of, takes_window}
use Rattle.kql_meaning.specs.declared.position.Position.{Position}
use Rattle.bind_expr.specs.Forms.{is_column, is_literal}
use Rattle.bind_expr.specs.KindTests.{kind_if}
use Rattle.bind_expr.specs.Operands.{typed_as}
use Rattle.bind_expr.specs.Outcome.{Outcome}
use Rattle.bind_expr.specs.declared.arguments.Args.{Args}
use Rattle.bind_expr.specs.declared.fault.BindFault.TheVariants as fault
use Rattle.bind_expr.specs.declared.scope.Scope.{Scope}
use Rattle.bind_expr.specs.declared.typed.Typed.{Typed}

-- Forms, else 403.

-- A distance is neither null nor negative. What is no long is 404, by its type.
abbrev pub is_distance_value : Value → Bool
is_distance_value value.Null = false
is_distance_value (value.Long n) = int_le (pos 0) n
is_distance_value _ = true

abbrev pub is_distance_literal : Option Lit → Bool
is_distance_literal None = false
is_distance_literal (Some l) = is_distance_value l.value

unfoldable pub is_distance : BExpr → Bool
is_distance e = is_distance_literal (literal_of e)

-- `prev` and `next` take a plain column, a distance, and a constant.
unfoldable pub look_forms : List BExpr → Bool
look_forms (c ∷ []) = is_column c
look_forms (c ∷ k ∷ []) = is_column c && is_distance k
look_forms (c ∷ k ∷ d ∷ []) = is_column c && (is_distance k && is_literal d)
look_forms _ = false

unfoldable pub running_forms : List BExpr → Bool
running_forms (t ∷ []) = true
running_forms (t ∷ r ∷ []) = true
running_forms _ = false

-- The start of `row_number` is a constant.
unfoldable pub number_forms : List BExpr → Bool
number_forms [] = true
number_forms (s ∷ []) = is_literal s
number_forms (s ∷ r ∷ []) = is_literal s
number_forms _ = false

unfoldable pub window_forms : Window → List BExpr → Bool
window_forms window.Prev es = look_forms es
window_forms window.Next es = look_forms es
window_forms window.RowCumsum es = running_forms es
window_forms window.RowNumber es = number_forms es

-- Types, else 404.

unfoldable pub look_given : List Kind → Option Kind
look_given (c ∷ []) = Some c
look_given (c ∷ k ∷ []) = kind_if (same_kind k kind.Long) c
look_given (c ∷ k ∷ d ∷ []) = kind_if (same_kind k kind.Long && same_kind d c) c
look_given _ = None

unfoldable pub running_given : List Kind → Option Kind
running_given (t ∷ []) = kind_if (is_addable t) t
running_given (t ∷ r ∷ []) = kind_if (is_addable t && same_kind r kind.Bool) t
running_given _ = None

unfoldable pub number_given : List Kind → Option Kind
number_given [] = Some kind.Long
number_given (s ∷ []) = kind_if (same_kind s kind.Long) kind.Long
number_given (s ∷ r ∷ []) = kind_if (same_kind s kind.Long && same_kind r kind.Bool) kind.Long
number_given _ = None

-- The type that a window function gives, or none where it does not take these.
unfoldable pub window_given : Window → List Kind → Option Kind
window_given window.Prev ks = look_given ks
window_given window.Next ks = look_given ks
window_given window.RowCumsum ks = running_given ks
window_given window.RowNumber ks = number_given ks

-- The node.

abbrev pub window_typed : Place → Window → Args → Bool → Outcome Typed
window_typed place f a true = typed_as place (V.Window f a.exprs) (window_given f a.kinds)
window_typed place f a false = Err (fault.Refused 403 place)

abbrev pub window_serial : Place → Window → Args → Bool → Outcome Typed
window_serial place f a true = window_typed place f a (not a.has_stray && window_forms f a.exprs)
window_serial place f a false = Err (fault.Refused 407 place)

abbrev pub window_standing : Place → Window → Args → Scope → Bool → Outcome Typed
window_standing place f a scope true = window_serial place f a scope.serial
window_standing place f a scope false = Err (fault.Refused 408 place)

-- A call of a window function: 408, 407, 403, 404.
unfoldable pub window_call : Place → Window → Args → Scope → Position → Outcome Typed
window_call place f a scope at = window_standing place f a scope (takes_window at f)
