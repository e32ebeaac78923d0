-- Whole numbers of any size: sums, and numbers at equal distances.
use Rattle.std.specs.Prelude.{ℕ, ◌+◌, ◌/◌, List, Option, None, Some, map, fold, if◌then◌else◌, ℤ, pos, ◌+ℤ◌, ◌-ℤ◌, ◌*ℤ◌, int_le, unsigned_abs, length}
use Rattle.kql_ticks.specs.Ranges.{fit}
use Rattle.kql_cells.specs.declared.value.Kind.{Kind}
use Rattle.kql_cells.specs.declared.value.Kind.TheVariants as kind
use Rattle.kql_cells.specs.declared.value.Value.{Value}
use Rattle.kql_scalar_fns.specs.Arguments.{long_or_null, span_or_null}
use Rattle.kql_meaning.specs.Tables.{places_below}
use Rattle.kql_meaning.specs.Values.{number_of}

-- What a value adds to a sum: a null adds nothing.
unfoldable pub added : Option ℤ → ℤ
added None = pos 0
added (Some n) = n

-- The sum of the numbers that these values are, as a whole number of any size.
unfoldable pub sum_of : List Value → ℤ
sum_of vs = fold (λ n v. n +ℤ added (number_of v)) (pos 0) vs

-- A whole number as a value of a type, where it is in the type's range, and else null: as a timespan for a timespan, and else
-- as a long.
unfoldable pub fitted : Option Kind → ℤ → Value
fitted (Some kind.Span) n = span_or_null (fit n)
fitted _ n = long_or_null (fit n)

-- A count as a long.
unfoldable pub counted : {X : Type 0} → List X → Value
counted xs = long_or_null (fit (pos (length xs)))

-- How many of a, a + s, a + 2 * s and so on are not above b, for a positive s.
unfoldable pub count_of_terms : ℤ → ℤ → ℤ → ℕ
count_of_terms a b s = if int_le a b then unsigned_abs (b -ℤ a) / unsigned_abs s + 1 else 0

-- a, a + s and so on up to b.
unfoldable pub terms : ℤ → ℤ → ℤ → List ℤ
terms a b s = map (λ k. a +ℤ pos k *ℤ s) (places_below (count_of_terms a b s))
