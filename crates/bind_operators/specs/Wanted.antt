-- Expressions as operators want them: of a type, and constant. An expression's own faults come first, then 403 at the operator where it is
-- to be a constant and is none, then 404 at its first token where its type is another.
use Rattle.std.specs.Prelude.{ℕ, Bool, true, false, List, Option, None, Some, Ok, Err, bytes_eq, codes, unsigned_abs, if◌then◌else◌}
use Rattle.kql_cells.specs.declared.value.Kind.{Kind}
use Rattle.kql_cells.specs.declared.value.Kind.TheVariants as kind
use Rattle.kql_lexer.specs.declared.place.Place.{Place}
use Rattle.kql_functions.specs.Kinds.{has_order, same_kind}
use Rattle.kql_bound.specs.declared.literal.Lit.{Lit}
use Rattle.kql_meaning.specs.declared.position.Position.TheVariants as position
use Rattle.kql_meaning.specs.FittingExpressions.{is_count_literal, is_key}
use Rattle.kql_meaning.specs.FittingOperators.{is_step_of}
use Rattle.kql_meaning.specs.Sources.{number_in}
use Rattle.kql_syntax.specs.declared.tree.Expr.{Expr}
use Rattle.kql_syntax.specs.declared.tree.Word.{Word}
use Rattle.bind_expr.specs.Bound.{bound_expr}
use Rattle.bind_expr.specs.Constants.{constant_of}
use Rattle.bind_expr.specs.Outcome.{Outcome, ◌>>=◌}
use Rattle.bind_expr.specs.declared.fault.BindFault.TheVariants as fault
use Rattle.bind_expr.specs.declared.scope.Scope.{Scope}
use Rattle.bind_expr.specs.declared.typed.Typed.{Typed}
use Rattle.bind_operators.specs.declared.known.Known.{Known}
use Rattle.bind_operators.specs.declared.shape.Shape.{Shape}
use Rattle.bind_operators.specs.declared.wanted.Wanted.{Wanted}
use Rattle.bind_operators.specs.declared.wanted.Wanted.TheVariants as wanted
use Rattle.bind_operators.specs.Known.{scope_at}
use Rattle.bind_operators.specs.Places.{expr_start}

-- Types.

-- Whether a type is one that is wanted.
unfoldable pub takes : Wanted → Kind → Bool
takes (wanted.Is k) l = same_kind k l
takes wanted.Key l = is_key l
takes wanted.Ordered l = has_order l
takes (wanted.StepOf k) l = is_step_of k l
takes wanted.Any l = true

-- An expression of a type that is wanted, or 404.
unfoldable pub of_type : Wanted → Place → Typed → Outcome Typed
of_type want place t = if takes want t.kind then Ok t else Err (fault.Refused 404 place)

unfoldable pub typed_bound : Wanted → Expr → Scope → Outcome Typed
typed_bound want e scope = do
  t ← bound_expr e scope
  of_type want (expr_start e) t

-- Constants.

abbrev pub literal_of_type : Place → Wanted → Place → Option Lit → Outcome Lit
literal_of_type operator want place None = Err (fault.Refused 403 operator)
literal_of_type operator want place (Some l) = if takes want l.kind then Ok l else Err (fault.Refused 404 place)

-- The literal of a constant of a type that is wanted.
unfoldable pub constant_wanted : Place → Wanted → Place → Typed → Outcome Lit
constant_wanted operator want place t = literal_of_type operator want place (constant_of t)

unfoldable pub constant_bound : Place → Wanted → Known → Shape → Expr → Outcome Lit
constant_bound operator want known rows e = do
  t ← bound_expr e (scope_at known rows position.Constant)
  constant_wanted operator want (expr_start e) t

-- A count of rows: a constant long. Whether it is null or negative the operator asks at its own turn.
unfoldable pub row_count_bound : Place → Known → Shape → Expr → Outcome Lit
row_count_bound operator known rows e = constant_bound operator (wanted.Is kind.Long) known rows e

unfoldable pub is_no_count : Lit → Bool
is_no_count l = if is_count_literal (Some l) then false else true

unfoldable pub count_in : Lit → ℕ
count_in l = unsigned_abs (number_in l)

-- Words of types.

unfoldable pub kind_of_word : List ℕ → Option Kind
kind_of_word w =
    if bytes_eq w (codes "bool") then Some kind.Bool
    else if bytes_eq w (codes "long") then Some kind.Long
    else if bytes_eq w (codes "string") then Some kind.Text
    else if bytes_eq w (codes "datetime") then Some kind.Moment
    else if bytes_eq w (codes "timespan") then Some kind.Span
    else if bytes_eq w (codes "dynamic") then Some kind.Dynamic
    else None

abbrev pub kind_or_fault : Place → Option Kind → Outcome Kind
kind_or_fault place None = Err (fault.Refused 405 place)
kind_or_fault place (Some k) = Ok k

-- One of the six types, or 405 at the word.
unfoldable pub kind_bound : Word → Outcome Kind
kind_bound w = kind_or_fault w.place (kind_of_word w.text)

abbrev pub kind_or : Kind → Option Word → Outcome Kind
kind_or k None = Ok k
kind_or k (Some w) = kind_bound w
