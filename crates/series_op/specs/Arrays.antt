-- The arrays of the items of a series.
use Rattle.std.specs.Prelude.{ℕ, List, [], ◌∷◌, Option, map}
use Rattle.kql_cells.specs.Values.{IsWellFormed}
use Rattle.kql_cells.specs.declared.dynamic.Dyn.{Dyn}
use Rattle.kql_cells.specs.declared.value.Value.{Value}
use Rattle.kql_dynamic.specs.Arrays.{array}
use Rattle.kql_scalar_fns.specs.Arguments.{AreWellFormed}
use Rattle.kql_scalar_fns.specs.Dynamic.{element}
use Rattle.kql_values.specs.Moves.{value_or}
use Rattle.kql_bound.specs.declared.parts.SeriesItem.{SeriesItem}
use Rattle.series_op.specs.Slots.{slots_of}

-- What a column has at the rows that stand in the bins of a group, as elements, and a default where there is none.
unfoldable pub parts_over : List Value → Value → List (Option ℕ) → ℕ → List ℕ → List Dyn
parts_over column default places count rows = map element (map (value_or default column) (slots_of places count rows))

-- The array of each group.
unfoldable pub arrays_over : List Value → Value → List (List ℕ) → List (Option ℕ) → ℕ → List Value
arrays_over column default groups places count = map (λ rows. array (parts_over column default places count rows)) groups

-- The same for each item and its column.
unfoldable pub all_arrays : List (List Value) → List SeriesItem → List (List ℕ) → List (Option ℕ) → ℕ → List (List Value)
all_arrays [] items groups places count = []
all_arrays (c ∷ cs) [] groups places count = []
all_arrays (c ∷ cs) (i ∷ is) groups places count = arrays_over c i.default.value groups places count ∷ all_arrays cs is groups places count

-- Columns and defaults whose values are well formed.
unfoldable pub AreForms : List (List Value) → List SeriesItem → Type 0
AreForms [] items = Unit {0}
AreForms (c ∷ cs) [] = Unit {0}
AreForms (c ∷ cs) (i ∷ is) = (AreWellFormed c × IsWellFormed i.default.value) × AreForms cs is
