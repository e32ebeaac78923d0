-- The bins of a series by number, and which bin a number starts.
use Rattle.std.specs.Prelude.{◌≡◌, ◌<◌, ◌-ℤ◌, ◌+ℤ◌, ◌*ℤ◌, ℕ, ℤ, pos, true, FitsSigned, List, Option, None, Some, length, slice_index_or}
use Rattle.std.specs.Int.{is_positive, w64}
use Rattle.kql_cells.specs.Seen.{value_at}
use Rattle.kql_cells.specs.Values.{IsWellFormed}
use Rattle.kql_cells.specs.declared.value.Value.{Value}
use Rattle.kql_bound.specs.declared.parts.SeriesPlan.{SeriesPlan}
use Rattle.kql_meaning.specs.Numbers.{count_of_terms}
use Rattle.kql_meaning.specs.Sources.{number_in}
use Rattle.kql_meaning.specs.Values.{number_as, number_of}

-- Where a bin starts.
abbrev pub start_of : SeriesPlan → ℕ → ℤ
start_of p k = number_in p.from +ℤ pos k *ℤ number_in p.step

-- How many bins a plan has. Each starts at a number of 64 bits, which is a value of the axis' type.
pub record AreBins (p : SeriesPlan) (count : ℕ) : Type 0 where
  pub counted : count ≡ count_of_terms (number_in p.from) (number_in p.to -ℤ pos 1) (number_in p.step)
  pub positive : is_positive (number_in p.step) ≡ true
  pub fits : (k : ℕ) → k < count → FitsSigned w64 (start_of p k)
  pub form : (k : ℕ) → k < count → IsWellFormed (number_as p.from.kind (start_of p k))

-- The place of the bin that a number starts, among so many, where it starts one.
pub record IsPlace (p : SeriesPlan) (count : ℕ) (start : Option ℤ) (place : Option ℕ) : Type 0 where
  pub there : (k : ℕ) → place ≡ Some k → k < count
  pub starts : (k : ℕ) → place ≡ Some k → start ≡ Some (start_of p k)
  pub all : (k : ℕ) → k < count → start ≡ Some (start_of p k) → place ≡ Some k

-- The same of each of these values.
pub record ArePlaces (p : SeriesPlan) (count : ℕ) (starts : List Value) (places : List (Option ℕ)) : Type 0 where
  pub long : length places ≡ length starts
  pub each : (r : ℕ) → r < length starts → IsPlace p count (number_of (value_at starts r)) (slice_index_or places r None)
