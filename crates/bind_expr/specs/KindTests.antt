-- What is asked of types.
use Rattle.std.specs.Prelude.{Bool, true, Option, None, Some, if◌then◌else◌}
use Rattle.kql_cells.specs.declared.value.Kind.{Kind}
use Rattle.kql_functions.specs.Kinds.{has_order, same_kind}
use Rattle.kql_meaning.specs.FittingExpressions.{is_addable, is_key}
use Rattle.bind_expr.specs.declared.kinds.KindTest.{KindTest}
use Rattle.bind_expr.specs.declared.kinds.KindTest.TheVariants as test

-- Whether a type is as asked.
unfoldable pub meets : KindTest → Kind → Bool
meets (test.This other) k = same_kind k other
meets test.Key k = is_key k
meets test.Ordered k = has_order k
meets test.Addable k = is_addable k
meets test.Any k = true

-- A type where something holds, else none.
abbrev pub kind_if : Bool → Kind → Option Kind
kind_if b k = if b then Some k else None
