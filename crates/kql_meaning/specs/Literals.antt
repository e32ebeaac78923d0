-- When a literal is well formed, and null or of the type beside it.
use Rattle.std.specs.Prelude.{Bool, true, false, not, ◌&&◌}
use Rattle.kql_ticks.specs.Ranges.{is_moment}
use Rattle.kql_cells.specs.Dynamic.{is_null, is_well_formed_dynamic}
use Rattle.kql_cells.specs.declared.value.Kind.{Kind}
use Rattle.kql_cells.specs.declared.value.Kind.TheVariants as kind
use Rattle.kql_cells.specs.declared.value.Value.{Value}
use Rattle.kql_cells.specs.declared.value.Value.TheVariants as value
use Rattle.kql_bound.specs.declared.literal.Lit.{Lit}

-- Whether a value is of a type, or null; a text is never null.
unfoldable pub is_of_kind : Kind → Value → Bool
is_of_kind kind.Bool (value.Bool b) = true
is_of_kind kind.Long (value.Long n) = true
is_of_kind kind.Text (value.Text t) = true
is_of_kind kind.Moment (value.Moment n) = true
is_of_kind kind.Span (value.Span n) = true
is_of_kind kind.Dynamic (value.Dynamic d) = true
is_of_kind kind.Text value.Null = false
is_of_kind _ value.Null = true
is_of_kind _ _ = false

-- Whether a datetime is in range, and a dynamic value is not null itself, has bags whose keys are distinct and ascend, and has at most
-- 127 levels.
unfoldable pub is_well_formed : Value → Bool
is_well_formed (value.Moment x) = is_moment x
is_well_formed (value.Dynamic d) = not (is_null d) && is_well_formed_dynamic d
is_well_formed _ = true

unfoldable pub literal_fits : Lit → Bool
literal_fits l = is_of_kind l.kind l.value && is_well_formed l.value
