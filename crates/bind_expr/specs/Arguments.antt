-- The arguments of a call: where each stands, whether it is to be a constant, and what a `*` among them stands for.
use Rattle.std.specs.Prelude.{ℕ, Bool, true, false, ◌&&◌, not, List, [], ◌∷◌, ◌++◌, filter, fold, Option, None, Some, Ok}
use Rattle.std.specs.List.{list_any}
use Rattle.std.specs.Str.{bytes_eq}
use Rattle.kql_cells.specs.declared.schema.Column.{Column}
use Rattle.kql_cells.specs.declared.value.Kind.{Kind}
use Rattle.kql_functions.specs.declared.aggregate.Aggregate.{Aggregate}
use Rattle.kql_functions.specs.declared.aggregate.Aggregate.TheVariants as aggregate
use Rattle.kql_functions.specs.declared.func.Func.{Func}
use Rattle.kql_functions.specs.declared.func.Func.TheVariants as func
use Rattle.kql_functions.specs.declared.func.TimeFunc.TheVariants as time
use Rattle.kql_functions.specs.declared.names.Found.{Found}
use Rattle.kql_functions.specs.declared.names.Found.TheVariants as found
use Rattle.kql_functions.specs.declared.window.Window.{Window}
use Rattle.kql_functions.specs.declared.window.Window.TheVariants as window
use Rattle.kql_bound.specs.declared.expr.BExpr.{BExpr}
use Rattle.kql_bound.specs.declared.expr.BExpr.TheVariants as V
use Rattle.kql_meaning.specs.FittingExpressions.{column_of, takes_aggregate}
use Rattle.kql_meaning.specs.declared.position.Position.{Position}
use Rattle.kql_meaning.specs.declared.position.Position.TheVariants as position
use Rattle.bind_expr.specs.Constants.{settled}
use Rattle.bind_expr.specs.Outcome.{Outcome, ◌>>=◌}
use Rattle.bind_expr.specs.declared.arguments.Args.{Args}
use Rattle.bind_expr.specs.declared.arguments.Slot.{Slot}
use Rattle.bind_expr.specs.declared.arguments.Star.{Star}
use Rattle.bind_expr.specs.declared.arguments.Star.TheVariants as star
use Rattle.bind_expr.specs.declared.scope.Scope.{Scope}
use Rattle.bind_expr.specs.declared.typed.Typed.{Typed}

-- Slots.

-- An argument like any part of the expression, and one that is to be a constant.
abbrev pub plain_slot : Position → Slot
plain_slot at = record { position = at; is_constant = false; star = star.Stray }

abbrev pub constant_slot : Position → Slot
constant_slot at = record { position = at; is_constant = true; star = star.Stray }

-- Functions of a part of a datetime: their first argument is the part's word.
unfoldable pub takes_part : Func → Bool
takes_part (func.Time time.DatetimeAdd) = true
takes_part (func.Time time.DatetimeDiff) = true
takes_part (func.Time time.DatetimePart) = true
takes_part _ = false

abbrev pub scalar_first : Position → Bool → Slot
scalar_first at true = constant_slot at
scalar_first at false = plain_slot at

-- `prev` and `next` take a column, and constants; `row_number` a constant and a restart; `row_cumsum` a term and a restart.
unfoldable pub window_first : Window → Slot
window_first window.Prev = plain_slot position.Plain
window_first window.Next = plain_slot position.Plain
window_first window.RowCumsum = plain_slot position.Term
window_first window.RowNumber = constant_slot position.Plain

unfoldable pub window_next : Window → Slot
window_next window.Prev = constant_slot position.Plain
window_next window.Next = constant_slot position.Plain
window_next window.RowCumsum = plain_slot position.Term
window_next window.RowNumber = plain_slot position.Term

-- In the arguments of an aggregate stand neither window functions nor aggregates. One that may not stand here is an unknown
-- function, whose arguments stand where it does.
abbrev pub inner_position : Position → Bool → Position
inner_position at true = position.Plain
inner_position at false = at

unfoldable pub aggregate_position : Aggregate → Position → Position
aggregate_position f at = inner_position at (takes_aggregate at f)

-- `take_any` takes a `*` everywhere, `arg_max` and `arg_min` behind their first argument.
unfoldable pub aggregate_first : Aggregate → Position → Slot
aggregate_first aggregate.TakeAny at = record { position = at; is_constant = false; star = star.Columns }
aggregate_first _ at = plain_slot at

unfoldable pub aggregate_next : Aggregate → Position → Slot
aggregate_next aggregate.TakeAny at = record { position = at; is_constant = false; star = star.Columns }
aggregate_next aggregate.ArgMax at = record { position = at; is_constant = false; star = star.Others }
aggregate_next aggregate.ArgMin at = record { position = at; is_constant = false; star = star.Others }
aggregate_next aggregate.MakeList at = constant_slot at
aggregate_next aggregate.MakeSet at = constant_slot at
aggregate_next _ at = plain_slot at

-- The slot of the first argument of a call, and that of each further one.
unfoldable pub first_slot : Found → Position → Slot
first_slot (found.Scalar f) at = scalar_first at (takes_part f)
first_slot (found.Window f) at = window_first f
first_slot (found.Aggregate f) at = aggregate_first f (aggregate_position f at)
first_slot found.Pattern at = plain_slot at
first_slot found.Refused at = plain_slot at
first_slot found.Unknown at = plain_slot at

unfoldable pub next_slot : Found → Position → Slot
next_slot (found.Scalar f) at = plain_slot at
next_slot (found.Window f) at = window_next f
next_slot (found.Aggregate f) at = aggregate_next f (aggregate_position f at)
next_slot found.Pattern at = plain_slot at
next_slot found.Refused at = plain_slot at
next_slot found.Unknown at = plain_slot at

-- Stars.

unfoldable pub is_among : List (List ℕ) → List ℕ → Bool
is_among names n = list_any (λ m. bytes_eq m n) names

-- Whether a column has another name than this.
abbrev pub is_other : Option (List ℕ) → Column → Bool
is_other None c = true
is_other (Some n) c = not (bytes_eq n c.name)

-- Whether a `*` stands for a column: it is no key, and not this one.
unfoldable pub is_open : List (List ℕ) → Option (List ℕ) → Column → Bool
is_open keys but c = not (is_among keys c.name) && is_other but c

-- The column that the first argument is, where it is one.
abbrev pub first_column : List BExpr → Option (List ℕ)
first_column [] = None
first_column (e ∷ es) = column_of e

abbrev pub with_arg : Args → Typed → Args
with_arg a t = record { exprs = a.exprs ++ t.expr ∷ []; kinds = a.kinds ++ t.kind ∷ []; has_star = a.has_star; has_stray = a.has_stray }

abbrev pub with_column : Args → Column → Args
with_column a c = with_arg a (record { expr = V.Column c.name; kind = c.kind })

abbrev pub with_star : Args → Args
with_star a = record { exprs = a.exprs; kinds = a.kinds; has_star = true; has_stray = a.has_stray }

-- The arguments with these columns behind them, which a `*` gave.
unfoldable pub with_columns : Args → List Column → Args
with_columns a cs = fold with_column (with_star a) cs

-- The same, column by column.
abbrev pub column_if : Args → Column → Bool → Args
column_if a c true = with_column a c
column_if a c false = a

abbrev pub column_link : List (List ℕ) → Option (List ℕ) → Outcome Args → Column → Outcome Args
column_link keys but before c = before >>= λ a. Ok (column_if a c (is_open keys but c))

unfoldable pub columns_to : List (List ℕ) → Option (List ℕ) → Outcome Args → List Column → Outcome Args
columns_to keys but start cs = fold (column_link keys but) start cs

-- A `*`: all columns that are no keys, or those of them that are not the first argument.
unfoldable pub starred : Scope → Star → Args → Args
starred scope star.Stray a = record { exprs = a.exprs; kinds = a.kinds; has_star = a.has_star; has_stray = true }
starred scope star.Columns a = with_columns a (filter (is_open scope.keys None) scope.schema)
starred scope star.Others a = with_columns a (filter (is_open scope.keys (first_column a.exprs)) scope.schema)

-- Arguments.

unfoldable pub no_args : Args
no_args = record { exprs = []; kinds = []; has_star = false; has_stray = false }

abbrev pub placed : Bool → Typed → Typed
placed true t = settled t
placed false t = t

-- The arguments with one more; a star is none. A constant stands as its literal where one is wanted.
unfoldable pub taken : Scope → Slot → Args → Option Typed → Args
taken scope slot a None = starred scope slot.star a
taken scope slot a (Some t) = with_arg a (placed slot.is_constant t)

abbrev pub arg_link : Scope → Slot → Outcome Args → Outcome (Option Typed) → Outcome Args
arg_link scope slot before next = do
  args ← before
  arg ← next
  Ok (taken scope slot args arg)

-- An argument that is an expression.
unfoldable pub plain_arg : Outcome Typed → Outcome (Option Typed)
plain_arg t = t >>= λ x. Ok (Some x)
