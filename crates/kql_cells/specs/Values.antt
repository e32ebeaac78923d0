-- When a value is of a type, and when it is well formed.
use Rattle.std.specs.Prelude.{◌≡◌, true, false, ℤ, pos, ◌≤ℤ◌}
use Rattle.kql_cells.specs.Dynamic.{is_null, is_well_formed_dynamic}
use Rattle.kql_cells.specs.declared.value.Kind.{Kind}
use Rattle.kql_cells.specs.declared.value.Kind.TheVariants as kind
use Rattle.kql_cells.specs.declared.value.Value.{Value}
use Rattle.kql_cells.specs.declared.value.Value.TheVariants as value

-- a value of a type, or null; a text is never null
abbrev pub IsOfKind : Kind → Value → Type 0
IsOfKind kind.Bool (value.Bool b) = Unit {0}
IsOfKind kind.Long (value.Long n) = Unit {0}
IsOfKind kind.Text (value.Text t) = Unit {0}
IsOfKind kind.Moment (value.Moment n) = Unit {0}
IsOfKind kind.Span (value.Span n) = Unit {0}
IsOfKind kind.Dynamic (value.Dynamic d) = Unit {0}
IsOfKind kind.Text value.Null = ⊥
IsOfKind _ value.Null = Unit {0}
IsOfKind _ _ = ⊥

-- a datetime: ticks from 0001-01-01 to 9999-12-31T23:59:59.9999999
abbrev pub IsMoment : ℤ → Type 0
IsMoment x = (pos 0 ≤ℤ x) × (x ≤ℤ pos 3155378975999999999)

-- a moment is in range, and a dynamic value is not null itself and well formed
abbrev pub IsWellFormed : Value → Type 0
IsWellFormed (value.Moment x) = IsMoment x
IsWellFormed (value.Dynamic d) = (is_null d ≡ false) × (is_well_formed_dynamic d ≡ true)
IsWellFormed _ = Unit {0}
