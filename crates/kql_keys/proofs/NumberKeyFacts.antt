-- The keys of one column of numbers are these numbers, each as a value in a list of one.
use Rattle.std.proofs.Common.{◌≡◌, ◌<◌, ◌≤◌, ◌+◌, ◌∷◌, ◌++◌, ◌∙◌, ℕ, ℤ, pos, true, false, List, [], length, map, get_or, Option, Some, None, refl, sym, ap, arith, Bor}
use Rattle.std.specs.Prelude.{All, slice_index_or}
use Rattle.std.specs.List.{range_with_len}
use Rattle.std.proofs.Math.ListN.{get_or-map}
use Rattle.std.proofs.lemmas.List.{length-map}
use Rattle.std.proofs.lemmas.List.Elements.{All-head}
use Rattle.std.proofs.lemmas.List.FromFn.{length-map-range_with_len, map-range_with_len_more}
use Rattle.kql_cells.specs.Keys.{same_keys, same_keys-decides}
use Rattle.kql_cells.specs.declared.value.Value.{Value}
use Rattle.kql_cells.specs.declared.value.Value.TheVariants as val
use Rattle.kql_values.specs.Grids.{row_of, rows_of}
use Rattle.kql_values.specs.Nullable.{nullable}
use Rattle.kql_values.specs.Numbers.{values_of_numbers}
use Rattle.kql_values.specs.Stores.{number_value}
use Rattle.kql_values.specs.declared.store.NumberKind.{NumberKind}
use Rattle.kql_values.specs.declared.store.NumberKind.TheVariants as number
use Rattle.kql_values.specs.declared.store.Numbers.{Numbers}
use Rattle.kql_values.proofs.NullableLaws.{nullable-at, nullable-length}
use Rattle.kql_keys.specs.NumberKeys.{first_numbers, number_at, same_numbers, same_numbers-decides}
use Rattle.kql_keys.specs.Numbers.{first_places, numbers_of}
use Rattle.kql_keys.proofs.MapLaws.{firsts-map, map-agrees, numbers-map}

-- what a list of one has
abbrev only : List Value → Value
only [] = val.Null
only (v ∷ vs) = v

-- the number of a value
abbrev number_in : Value → Option ℤ
number_in (val.Long n) = Some n
number_in (val.Moment n) = Some n
number_in (val.Span n) = Some n
number_in v = None

number-back : (kind : NumberKind) (o : Option ℤ) → number_in (number_value kind o) ≡ o
number-back kind None = refl
number-back number.Long (Some n) = refl
number-back number.Moment (Some n) = refl
number-back number.Span (Some n) = refl

-- a number as the key of a row
abbrev key_of : NumberKind → Option ℤ → List Value
key_of kind o = number_value kind o ∷ []

key-apart : (kind : NumberKind) (a b : Option ℤ) → key_of kind a ≡ key_of kind b → a ≡ b
key-apart kind a b e = sym (number-back kind a) ∙ (ap (λ k. number_in (only k)) e ∙ number-back kind b)

key-agrees : (kind : NumberKind) (a b : Option ℤ) → same_keys (key_of kind a) (key_of kind b) ≡ same_numbers a b
key-agrees kind = map-agrees (key_of kind) same_numbers same_keys same_numbers-decides same_keys-decides (key-apart kind)

row-is : (n : Numbers) (i : ℕ) → row_of (values_of_numbers n ∷ []) i ≡ key_of n.kind (number_at n i)
unfolding row_of number_at
row-is n i = ap (λ (v : Value). v ∷ []) (get_or-map (number_value n.kind) (nullable n.numbers.now n.nulls.now) i None)

map-twice : {X Y : Type 0} (f : ℕ → Y) (g : ℕ → X) (h : X → Y) → ((i : ℕ) → f i ≡ h (g i)) → (l : List ℕ) → map f l ≡ map h (map g l)
map-twice f g h e [] = refl
map-twice f g h e (i ∷ l) = rw (e i, map-twice f g h e l) refl

rows-are : (n : Numbers) (count : ℕ) → rows_of count (values_of_numbers n ∷ []) ≡ map (key_of n.kind) (first_numbers n count)
unfolding rows_of first_numbers
rows-are n count = map-twice (row_of (values_of_numbers n ∷ [])) (number_at n) (key_of n.kind) (row-is n) (range_with_len 0 count)

-- the keys of the column have the numbers that the numbers have
pub lone-numbers : (n : Numbers) (columns : List (List Value)) (count : ℕ) → columns ≡ values_of_numbers n ∷ []
    → numbers_of same_keys (rows_of count columns) ≡ numbers_of same_numbers (first_numbers n count)
lone-numbers n columns count e = rw (e, rows-are n count) (numbers-map (key_of n.kind) same_numbers same_keys (key-agrees n.kind) (first_numbers n count))

pub lone-firsts : (n : Numbers) (columns : List (List Value)) (count : ℕ) → columns ≡ values_of_numbers n ∷ []
    → first_places same_keys (rows_of count columns) ≡ first_places same_numbers (first_numbers n count)
lone-firsts n columns count e = rw (e, rows-are n count) (firsts-map (key_of n.kind) same_numbers same_keys (key-agrees n.kind) (first_numbers n count))

-- and they are as many
pub lone-within : (n : Numbers) (columns : List (Bor (List Value))) (count : ℕ) → All (λ c. count ≤ length c.now) columns → map (λ c. c.now) columns ≡ values_of_numbers n ∷ []
    → length n.nulls.now ≡ length n.numbers.now → count ≤ length n.numbers.now
lone-within n [] count h e m = absurd cc
lone-within n (c ∷ columns) count h e m =
    let first : c.now ≡ values_of_numbers n = ap (λ l. get_or l 0 []) e in
    let here = All-head (λ (c : Bor (List Value)). count ≤ length c.now) c columns h in
    let size : length (values_of_numbers n) ≡ length n.numbers.now = length-map (nullable n.numbers.now n.nulls.now) (number_value n.kind) ∙ nullable-length n.numbers.now n.nulls.now m in
    omega (arith, ap length first)

-- one number more
pub first-more : (n : Numbers) (i : ℕ) → first_numbers n (i + 1) ≡ first_numbers n i ++ number_at n i ∷ []
unfolding first_numbers
first-more n i = map-range_with_len_more (number_at n) 0 i i (omega arith)

pub first-none : (n : Numbers) → first_numbers n 0 ≡ []
unfolding first_numbers
first-none n = refl

pub first-length : (n : Numbers) (i : ℕ) → length (first_numbers n i) ≡ i
unfolding first_numbers
first-length n i = length-map-range_with_len (number_at n) 0 i

-- where the mask says so there is null, and elsewhere the number
pub null-here : (n : Numbers) (i : ℕ) → i < length n.numbers.now → length n.nulls.now ≡ length n.numbers.now → slice_index_or n.nulls.now i false ≡ true → None ≡ number_at n i
unfolding number_at
null-here n i lt e is = let here = nullable-at n.numbers.now n.nulls.now i (pos 0) false None e lt in rw (here, is) refl

pub number-here : (n : Numbers) (i : ℕ) → i < length n.numbers.now → length n.nulls.now ≡ length n.numbers.now → slice_index_or n.nulls.now i false ≡ false
    → Some (slice_index_or n.numbers.now i (pos 0)) ≡ number_at n i
unfolding number_at
number-here n i lt e is = let here = nullable-at n.numbers.now n.nulls.now i (pos 0) false None e lt in rw (here, is) refl

pub ruleset number_facts = (null-here, number-here)
