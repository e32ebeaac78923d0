-- The order of values.
use Rattle.std.specs.Prelude.{ℕ, ℤ, pos, true, List, []}
use Rattle.std.specs.Cmp.Lexicographic.{slice_cmp}
use Rattle.std.specs.declared.cmp.Ordering.{Ordering}
use Rattle.std.specs.Ordering.{int_cmp, nat_cmp, on, then_cmp}
use Rattle.kql_cells.specs.declared.value.Value.{Value}
use Rattle.kql_cells.specs.declared.value.Value.TheVariants as value

-- null stands first, and then type after type
abbrev pub rank : Value → ℕ
rank value.Null = 0
rank (value.Bool b) = 1
rank (value.Long n) = 2
rank (value.Text t) = 3
rank (value.Moment n) = 4
rank (value.Span n) = 5
rank (value.Dynamic d) = 6

-- false before true, and numbers by size
abbrev pub number_in : Value → ℤ
number_in (value.Bool true) = pos 1
number_in (value.Long n) = n
number_in (value.Moment n) = n
number_in (value.Span n) = n
number_in _ = pos 0

-- texts by their bytes
abbrev pub text_in : Value → List ℕ
text_in (value.Text t) = t
text_in _ = []

-- the order of two values
abbrev pub value_cmp : Value → Value → Ordering
value_cmp = then_cmp (on rank nat_cmp) (then_cmp (on number_in int_cmp) (on text_in (slice_cmp nat_cmp)))

-- the order tells these apart: not both are dynamic
abbrev pub HaveOrder : Value → Value → Type 0
HaveOrder (value.Dynamic d) (value.Dynamic e) = ⊥
HaveOrder _ _ = Unit {0}
