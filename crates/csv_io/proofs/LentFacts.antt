-- Cells of columns that are lent.
use Rattle.std.proofs.Common.{◌≡◌, ◌<◌, ◌∙◌, ℕ, zero, suc, Bool, false, true, List, [], ◌∷◌, length, get_or, map, refl, sym, ap, arith, subst}
use Rattle.std.specs.Prelude.{ℤ, pos, All, Some}
use Rattle.std.proofs.lemmas.List.{length-map}
use Rattle.std.proofs.lemmas.List.Elements.{All-cons, All-nil}
use Rattle.csv_io.specs.Lending.{IsWhole, held}
use Rattle.csv_io.specs.declared.lent.Stored.{Stored}
use Rattle.csv_io.specs.declared.lent.Stored.TheVariants as stored
use Rattle.kql_cells.specs.Seen.{row_at, value_at}
use Rattle.kql_cells.specs.declared.schema.Column.{Column}
use Rattle.kql_cells.specs.declared.value.Value.{Value}
use Rattle.kql_cells.specs.declared.value.Value.TheVariants as value
use Rattle.kql_values.proofs.GridLaws.{rows_of-at}
use Rattle.kql_values.specs.Grids.{ColumnsFit, row_of, rows_of}
use Rattle.kql_values.specs.Nullable.{nullable, unless_null}
use Rattle.kql_values.specs.Numbers.{values_of_numbers}
use Rattle.kql_values.specs.Stores.{number_value}
use Rattle.kql_values.specs.declared.store.NumberKind.{NumberKind}
use Rattle.kql_values.specs.declared.store.NumberKind.TheVariants as number
use Rattle.kql_values.specs.declared.store.Numbers.{Numbers}

-- ---- numbers with a mask

pub nullable-count : (ns : List ℤ) (bs : List Bool) → length bs ≡ length ns → length (nullable ns bs) ≡ length ns
nullable-count [] bs e = refl
nullable-count (n ∷ ns) [] e = absurd (omega arith)
nullable-count (n ∷ ns) (b ∷ bs) e = ap suc (nullable-count ns bs (omega arith))

-- there are as many values as numbers
pub numbers-count : (k : NumberKind) (ns : List ℤ) (bs : List Bool) → length bs ≡ length ns → length (map (number_value k) (nullable ns bs)) ≡ length ns
numbers-count k ns bs e = length-map (nullable ns bs) (number_value k) ∙ nullable-count ns bs e

-- the value at a place
pub number-at : (k : NumberKind) (ns : List ℤ) (bs : List Bool) (i : ℕ) → length bs ≡ length ns → i < length ns
    → value_at (map (number_value k) (nullable ns bs)) i ≡ number_value k (unless_null (get_or ns i (pos 0)) (get_or bs i false))
number-at k [] bs i e lt = absurd (omega arith)
number-at k (n ∷ ns) [] i e lt = absurd (omega arith)
number-at k (n ∷ ns) (b ∷ bs) zero e lt = refl
number-at k (n ∷ ns) (b ∷ bs) (suc i) e lt = number-at k ns bs i (omega arith) (omega arith)

-- ---- the rows of columns

-- a row of the columns is one of the rows that they are
pub row-is : (n : ℕ) (columns lines : List (List Value)) (i : ℕ) → rows_of n columns ≡ lines → i < n → row_of columns i ≡ row_at lines i
row-is n columns lines i e lt = sym (rows_of-at n columns i [] lt) ∙ ap (λ rows. row_at rows i) e

-- each column is longer than the place of a row
pub all-longer : (cs : List Column) (n i : ℕ) (columns : List (List Value)) → ColumnsFit cs n columns → i < n → All (λ c. i < length c) columns
unfolding ColumnsFit
all-longer [] n i [] fit lt = All-nil (λ c. i < length c)
all-longer [] n i (v ∷ vs) fit lt = absurd fit
all-longer (c ∷ cs) n i [] fit lt = absurd fit
all-longer (c ∷ cs) n i (v ∷ vs) fit lt = All-cons (λ c. i < length c) v vs (omega (arith, fit.0.0)) (all-longer cs n i vs fit.1 lt)

-- ---- numbers that are lent

pub numbers-size : (n : Numbers) → length n.nulls.now ≡ length n.numbers.now → length (values_of_numbers n) ≡ length n.numbers.now
numbers-size n e = numbers-count n.kind n.numbers.now n.nulls.now e

pub null-at : (n : Numbers) (i : ℕ) → length n.nulls.now ≡ length n.numbers.now → i < length n.numbers.now → get_or n.nulls.now i false ≡ true
    → value.Null ≡ value_at (values_of_numbers n) i
null-at n i e lt t = sym (number-at n.kind n.numbers.now n.nulls.now i e lt ∙ rw t refl)

pub some-at : (n : Numbers) (i : ℕ) → length n.nulls.now ≡ length n.numbers.now → i < length n.numbers.now → get_or n.nulls.now i false ≡ false
    → number_value n.kind (Some (get_or n.numbers.now i (pos 0))) ≡ value_at (values_of_numbers n) i
some-at n i e lt f = sym (number-at n.kind n.numbers.now n.nulls.now i e lt ∙ rw f refl)

pub long-at : (n : Numbers) (i : ℕ) → length n.nulls.now ≡ length n.numbers.now → i < length n.numbers.now → get_or n.nulls.now i false ≡ false
    → n.kind ≡ number.Long → value.Long (get_or n.numbers.now i (pos 0)) ≡ value_at (values_of_numbers n) i
long-at n i e lt f k = ap (λ kind. number_value kind (Some (get_or n.numbers.now i (pos 0)))) (sym k) ∙ some-at n i e lt f

pub moment-at : (n : Numbers) (i : ℕ) → length n.nulls.now ≡ length n.numbers.now → i < length n.numbers.now → get_or n.nulls.now i false ≡ false
    → n.kind ≡ number.Moment → value.Moment (get_or n.numbers.now i (pos 0)) ≡ value_at (values_of_numbers n) i
moment-at n i e lt f k = ap (λ kind. number_value kind (Some (get_or n.numbers.now i (pos 0)))) (sym k) ∙ some-at n i e lt f

pub span-at : (n : Numbers) (i : ℕ) → length n.nulls.now ≡ length n.numbers.now → i < length n.numbers.now → get_or n.nulls.now i false ≡ false
    → n.kind ≡ number.Span → value.Span (get_or n.numbers.now i (pos 0)) ≡ value_at (values_of_numbers n) i
span-at n i e lt f k = ap (λ kind. number_value kind (Some (get_or n.numbers.now i (pos 0)))) (sym k) ∙ some-at n i e lt f

-- a place of a column of numbers is one of the numbers
pub lent-within : (s : Stored) (n : Numbers) (i : ℕ) → s ≡ stored.Numbers n → IsWhole s → i < length (held s) → i < length n.numbers.now
lent-within s n i e w lt =
    let whole : length n.nulls.now ≡ length n.numbers.now = subst (λ z. IsWhole z) e w in
    let within : i < length (values_of_numbers n) = subst (λ z. i < length (held z)) e lt in
    omega (arith, numbers-size n whole)
