-- The rows that a call takes.
use Rattle.std.specs.Prelude.{List, Option, None, Some}
use Rattle.kql_cells.specs.declared.value.Kind.{Kind}
use Rattle.kql_cells.specs.declared.value.Kind.TheVariants as kind
use Rattle.kql_cells.specs.declared.value.Value.{Value}
use Rattle.kql_scalar_fns.specs.Arguments.{argument}
use Rattle.agg_folds.specs.Laws.{IsLike}

-- The type of a call's first argument. A call without arguments has nulls there, which are of each type.
unfoldable pub kind_or_long : Option Kind → Kind
kind_or_long None = kind.Long
kind_or_long (Some k) = k

-- A row whose first argument is null or of this type, with a number of 64 bits where it is a number.
pub record IsRowOf (kind : Option Kind) (row : List Value) : Type 0 where
  pub first : IsLike (kind_or_long kind) (argument row 0)
