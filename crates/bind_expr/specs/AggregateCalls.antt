-- The node of a call of an aggregate, once its arguments are bound.
use Rattle.std.specs.Prelude.{Bool, true, false, ◌&&◌, ◌||◌, not, ◌==◌, nat_le, List, [], ◌∷◌, length, Option, None, Some, Ok, Err}
use Rattle.std.specs.List.{list_all}
use Rattle.kql_cells.specs.declared.value.Kind.{Kind}
use Rattle.kql_cells.specs.declared.value.Kind.TheVariants as kind
use Rattle.kql_functions.specs.declared.aggregate.Aggregate.{Aggregate}
use Rattle.kql_functions.specs.declared.aggregate.Aggregate.TheVariants as aggregate
use Rattle.kql_functions.specs.Kinds.{same_kind}
use Rattle.kql_lexer.specs.declared.place.Place.{Place}
use Rattle.kql_bound.specs.declared.expr.BExpr.{BExpr}
use Rattle.kql_bound.specs.declared.expr.BExpr.TheVariants as V
use Rattle.kql_meaning.specs.FittingExpressions.{takes_aggregate}
use Rattle.kql_meaning.specs.Results.{has_one_result}
use Rattle.bind_expr.specs.Forms.{is_column, is_literal}
use Rattle.bind_expr.specs.KindTests.{kind_if, meets}
use Rattle.bind_expr.specs.Operands.{typed_as}
use Rattle.bind_expr.specs.Outcome.{Outcome}
use Rattle.bind_expr.specs.declared.arguments.Args.{Args}
use Rattle.bind_expr.specs.declared.fault.BindFault.TheVariants as fault
use Rattle.bind_expr.specs.declared.kinds.KindTest.{KindTest}
use Rattle.bind_expr.specs.declared.kinds.KindTest.TheVariants as test
use Rattle.bind_expr.specs.declared.scope.Spot.{Spot}
use Rattle.bind_expr.specs.declared.typed.Typed.{Typed}

-- Forms, else 403.

-- One argument, and perhaps a constant.
unfoldable pub list_forms : List BExpr → Bool
list_forms (x ∷ []) = true
list_forms (x ∷ n ∷ []) = is_literal n
list_forms _ = false

-- An expression and plain columns behind it, of which a `*` may have given none.
unfoldable pub best_forms : Bool → List BExpr → Bool
best_forms has_star [] = false
best_forms has_star (e ∷ []) = has_star
best_forms has_star (e ∷ c ∷ cs) = list_all is_column (c ∷ cs)

-- Plain columns, one or more.
unfoldable pub column_forms : List BExpr → Bool
column_forms [] = false
column_forms (c ∷ cs) = list_all is_column (c ∷ cs)

unfoldable pub aggregate_forms : Aggregate → Bool → List BExpr → Bool
aggregate_forms aggregate.Count has_star es = length es == 0
aggregate_forms aggregate.CountIf has_star es = length es == 1
aggregate_forms aggregate.CountDistinct has_star es = length es == 1
aggregate_forms aggregate.CountDistinctIf has_star es = length es == 2
aggregate_forms aggregate.Sum has_star es = length es == 1
aggregate_forms aggregate.SumIf has_star es = length es == 2
aggregate_forms aggregate.Min has_star es = length es == 1
aggregate_forms aggregate.MinIf has_star es = length es == 2
aggregate_forms aggregate.Max has_star es = length es == 1
aggregate_forms aggregate.MaxIf has_star es = length es == 2
aggregate_forms aggregate.MakeList has_star es = list_forms es
aggregate_forms aggregate.MakeListIf has_star es = length es == 2
aggregate_forms aggregate.MakeSet has_star es = list_forms es
aggregate_forms aggregate.MakeSetIf has_star es = length es == 2
aggregate_forms aggregate.ArgMax has_star es = best_forms has_star es
aggregate_forms aggregate.ArgMin has_star es = best_forms has_star es
aggregate_forms aggregate.TakeAny has_star es = column_forms es
aggregate_forms aggregate.BinaryAllAnd has_star es = length es == 1
aggregate_forms aggregate.BinaryAllOr has_star es = length es == 1
aggregate_forms aggregate.BinaryAllXor has_star es = length es == 1

-- Types, else 404.

-- For one argument of a type of which this is true: this type, and the argument's own.
unfoldable pub one_given : KindTest → Kind → List Kind → Option Kind
one_given t given (k ∷ []) = kind_if (meets t k) given
one_given t given _ = None

unfoldable pub one_kept : KindTest → List Kind → Option Kind
one_kept t (k ∷ []) = kind_if (meets t k) k
one_kept t _ = None

-- The same of an argument and a condition.
unfoldable pub one_given_if : KindTest → Kind → List Kind → Option Kind
one_given_if t given (k ∷ p ∷ []) = kind_if (meets t k && same_kind p kind.Bool) given
one_given_if t given _ = None

unfoldable pub one_kept_if : KindTest → List Kind → Option Kind
one_kept_if t (k ∷ p ∷ []) = kind_if (meets t k && same_kind p kind.Bool) k
one_kept_if t _ = None

-- For one argument, and perhaps a long: a list.
unfoldable pub list_given : List Kind → Option Kind
list_given (k ∷ []) = Some kind.Dynamic
list_given (k ∷ n ∷ []) = kind_if (same_kind n kind.Long) kind.Dynamic
list_given _ = None

-- For several arguments of which the first has a type of which this is true: that type.
unfoldable pub first_kept : KindTest → List Kind → Option Kind
first_kept t [] = None
first_kept t (k ∷ ks) = kind_if (meets t k) k

-- The type that an aggregate gives, of several result columns the first one's, or none where it does not take these.
unfoldable pub aggregate_given : Aggregate → List Kind → Option Kind
aggregate_given aggregate.Count ks = kind_if (length ks == 0) kind.Long
aggregate_given aggregate.CountIf ks = one_given (test.This kind.Bool) kind.Long ks
aggregate_given aggregate.CountDistinct ks = one_given test.Key kind.Long ks
aggregate_given aggregate.CountDistinctIf ks = one_given_if test.Key kind.Long ks
aggregate_given aggregate.Sum ks = one_kept test.Addable ks
aggregate_given aggregate.SumIf ks = one_kept_if test.Addable ks
aggregate_given aggregate.Min ks = one_kept test.Ordered ks
aggregate_given aggregate.MinIf ks = one_kept_if test.Ordered ks
aggregate_given aggregate.Max ks = one_kept test.Ordered ks
aggregate_given aggregate.MaxIf ks = one_kept_if test.Ordered ks
aggregate_given aggregate.MakeList ks = list_given ks
aggregate_given aggregate.MakeListIf ks = one_given_if test.Any kind.Dynamic ks
aggregate_given aggregate.MakeSet ks = list_given ks
aggregate_given aggregate.MakeSetIf ks = one_given_if test.Any kind.Dynamic ks
aggregate_given aggregate.ArgMax ks = first_kept test.Ordered ks
aggregate_given aggregate.ArgMin ks = first_kept test.Ordered ks
aggregate_given aggregate.TakeAny ks = first_kept test.Any ks
aggregate_given aggregate.BinaryAllAnd ks = one_given (test.This kind.Long) kind.Long ks
aggregate_given aggregate.BinaryAllOr ks = one_given (test.This kind.Long) kind.Long ks
aggregate_given aggregate.BinaryAllXor ks = one_given (test.This kind.Long) kind.Long ks

-- The node.

-- Whether the arguments are of this number and form, and the call stands alone where it has several result columns.
unfoldable pub aggregate_stands : Aggregate → Args → Spot → Bool
aggregate_stands f a spot = not a.has_stray && (aggregate_forms f a.has_star a.exprs && (spot.alone || has_one_result f a.exprs))

abbrev pub aggregate_typed : Place → Aggregate → Args → Bool → Outcome Typed
aggregate_typed place f a true = typed_as place (V.Aggregate f a.exprs) (aggregate_given f a.kinds)
aggregate_typed place f a false = Err (fault.Refused 403 place)

abbrev pub aggregate_taken : Place → Aggregate → Args → Spot → Bool → Outcome Typed
aggregate_taken place f a spot true = aggregate_typed place f a (aggregate_stands f a spot)
aggregate_taken place f a spot false = Err (fault.Refused 402 place)

-- A call of an aggregate: 402 where it may not stand, 403, 404.
unfoldable pub aggregate_call : Place → Aggregate → Args → Spot → Outcome Typed
aggregate_call place f a spot = aggregate_taken place f a spot (takes_aggregate spot.position f)
