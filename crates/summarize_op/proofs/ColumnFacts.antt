-- Columns by the rows that they make.
use Rattle.std.proofs.Common.{◌≡◌, ◌<◌, ◌+◌, ◌++◌, ℕ, zero, suc, List, [], ◌∷◌, length, map, refl, ap, ap₂, sym, ◌∙◌, arith}
use Rattle.std.specs.List.{range_with_len}
use Rattle.std.proofs.lemmas.List.FromFn.{get_or-map-range_with_len, length-map-range_with_len}
use Rattle.kql_cells.specs.Seen.{value_at}
use Rattle.kql_cells.specs.declared.value.Value.{Value}
use Rattle.kql_cells.specs.declared.value.Value.TheVariants as value
use Rattle.kql_values.specs.Grids.{HaveLength, row_of, rows_of}
use Rattle.kql_values.proofs.GridLaws.{HaveLength-append}
use Rattle.summarize_op.specs.Columns.{AreColumns}

pub map-range-same : {X : Type 0} (f g : ℕ → X) (a n : ℕ) → ((i : ℕ) → i < a + n → f i ≡ g i) → map f (range_with_len a n) ≡ map g (range_with_len a n)
map-range-same f g a zero h = refl
map-range-same f g a (suc n) h = ap₂ (λ x xs. x ∷ xs) (h a (omega arith)) (map-range-same f g (a + 1) n (λ i lt. h i (omega (arith, lt))))

pub row-of-append : (cs ds : List (List Value)) (g : ℕ) → row_of (cs ++ ds) g ≡ row_of cs g ++ row_of ds g
unfolding row_of
row-of-append [] ds g = refl
row-of-append (c ∷ cs) ds g = ap (λ (vs : List Value). value_at c g ∷ vs) (row-of-append cs ds g)

pub no-columns : (count : ℕ) (row : ℕ → List Value) (cs : List (List Value)) → cs ≡ [] → ((g : ℕ) → row g ≡ []) → AreColumns count row cs
unfolding HaveLength row_of
no-columns count row [] e h = record { long = tt; rows = λ g lt. sym (h g) }
no-columns count row (c ∷ cs) e h = absurd cc

pub one-column : (count : ℕ) (f : ℕ → Value) (v : List Value) → v ≡ map f (range_with_len 0 count) → AreColumns count (λ g. f g ∷ []) (v ∷ [])
unfolding HaveLength row_of
one-column count f v e = record {
  long = (ap (λ (vs : List Value). length vs) e ∙ length-map-range_with_len f 0 count, tt);
  rows = λ g lt. ap (λ (x : Value). x ∷ []) (ap (λ (vs : List Value). value_at vs g) e ∙ get_or-map-range_with_len f 0 count g g value.Null lt (omega arith));
}

pub columns-beside : (count : ℕ) (f h : ℕ → List Value) (xs ys : List (List Value)) → AreColumns count f xs → AreColumns count h ys → AreColumns count (λ g. f g ++ h g) (xs ++ ys)
columns-beside count f h xs ys a b = record {
  long = HaveLength-append count xs ys a.long b.long;
  rows = λ g lt. row-of-append xs ys g ∙ ap₂ (λ (us vs : List Value). us ++ vs) (a.rows g lt) (b.rows g lt);
}

pub columns-same : (count : ℕ) (f h : ℕ → List Value) (xs : List (List Value)) → ((g : ℕ) → g < count → f g ≡ h g) → AreColumns count f xs → AreColumns count h xs
columns-same count f h xs same a = record { long = a.long; rows = λ g lt. a.rows g lt ∙ same g lt }

-- The rows that they make.
pub rows-made : (count : ℕ) (f : ℕ → List Value) (xs : List (List Value)) → AreColumns count f xs → rows_of count xs ≡ map f (range_with_len 0 count)
unfolding rows_of
rows-made count f xs a = map-range-same (row_of xs) f 0 count (λ g lt. a.rows g (omega (arith, lt)))
