-- Columns side by side are rows: what is made of each column and each of some places.
use Rattle.std.proofs.Common.{◌≡◌, ◌<◌, ◌+◌, ℕ, zero, suc, List, [], ◌∷◌, ◌++◌, map, length, get_or, refl, ap, ap₂, sym, ◌∙◌, arith}
use Rattle.std.specs.List.{range_with_len}
use Rattle.std.proofs.lemmas.List.{get_or-map, length-map}
use Rattle.kql_cells.specs.Seen.{value_at}
use Rattle.kql_cells.specs.declared.value.Value.{Value}
use Rattle.kql_cells.specs.declared.value.Value.TheVariants as value
use Rattle.kql_values.specs.Grids.{HaveLength, row_of, rows_of}

pub map-range-same : {X : Type 0} (f g : ℕ → X) (a n : ℕ) → ((i : ℕ) → i < a + n → f i ≡ g i) → map f (range_with_len a n) ≡ map g (range_with_len a n)
map-range-same f g a zero h = refl
map-range-same f g a (suc n) h = ap₂ (λ x xs. x ∷ xs) (h a (omega arith)) (map-range-same f g (a + 1) n (λ i lt. h i (omega (arith, lt))))

range-next : {X : Type 0} (f : ℕ → X) (a n : ℕ) → map f (range_with_len (a + 1) n) ≡ map (λ i. f (suc i)) (range_with_len a n)
range-next f a zero = refl
range-next f a (suc n) = let next : a + 1 ≡ suc a = omega arith in ap₂ (λ x xs. x ∷ xs) (ap f next) (range-next f (a + 1) n)

all-places : {X : Type 0} (xs : List X) (d : X) → map (λ i. get_or xs i d) (range_with_len 0 (length xs)) ≡ xs
all-places [] d = refl
all-places (x ∷ xs) d = ap (λ ys. x ∷ ys) (range-next (λ i. get_or (x ∷ xs) i d) 0 (length xs) ∙ all-places xs d)

pub map-map : {X Y Z : Type 0} (g : Y → Z) (f : X → Y) (xs : List X) → map g (map f xs) ≡ map (λ x. g (f x)) xs
map-map g f [] = refl
map-map g f (x ∷ xs) = ap (λ ys. g (f x) ∷ ys) (map-map g f xs)

-- What a function makes of each item at each place.
module _ {C P : Type 0} (f : C → P → Value) where
  abbrev pub columns_made : List P → List C → List (List Value)
  columns_made ps cs = map (λ (c : C). map (f c) ps) cs

  abbrev pub rows_made : List P → List C → List (List Value)
  rows_made ps cs = map (λ (p : P). map (λ (c : C). f c p) cs) ps

  row-of-made : (ps : List P) (cs : List C) (i : ℕ) (d : P) → i < length ps → row_of (columns_made ps cs) i ≡ map (λ (c : C). f c (get_or ps i d)) cs
  unfolding row_of
  row-of-made ps [] i d lt = refl
  row-of-made ps (c ∷ cs) i d lt = ap₂ (λ (v : Value) (vs : List Value). v ∷ vs) (get_or-map (f c) ps i d value.Null lt) (row-of-made ps cs i d lt)

  rows-of-some : (p : P) (ps : List P) (cs : List C) → rows_of (length (p ∷ ps)) (columns_made (p ∷ ps) cs) ≡ rows_made (p ∷ ps) cs
  unfolding rows_of
  rows-of-some p ps cs =
      let all = p ∷ ps in
      let row = λ (q : P). map (λ (c : C). f c q) cs in
      map-range-same (row_of (columns_made all cs)) (λ i. row (get_or all i p)) 0 (length all) (λ i lt. row-of-made all cs i p (omega (arith, lt)))
      ∙ (sym (map-map row (λ i. get_or all i p) (range_with_len 0 (length all))) ∙ ap (map row) (all-places all p))

  pub rows-of-made : (ps : List P) (cs : List C) → rows_of (length ps) (columns_made ps cs) ≡ rows_made ps cs
  unfolding rows_of
  rows-of-made [] cs = refl
  rows-of-made (p ∷ ps) cs = rows-of-some p ps cs

  pub made-long : (ps : List P) (cs : List C) → HaveLength (length ps) (columns_made ps cs)
  unfolding HaveLength
  made-long ps [] = tt
  made-long ps (c ∷ cs) = (length-map ps (f c), made-long ps cs)

-- The same of two kinds of items, those of one behind those of the other.
module _ {C D P : Type 0} (f : C → P → Value) (g : D → P → Value) where
  abbrev row_made : List C → List D → P → List Value
  row_made cs ds p = map (λ (c : C). f c p) cs ++ map (λ (d : D). g d p) ds

  row-of-both : (us vs : List (List Value)) (i : ℕ) → row_of (us ++ vs) i ≡ row_of us i ++ row_of vs i
  unfolding row_of
  row-of-both [] vs i = refl
  row-of-both (u ∷ us) vs i = ap (λ (ws : List Value). value_at u i ∷ ws) (row-of-both us vs i)

  both-of-some : (p : P) (ps : List P) (cs : List C) (ds : List D) → rows_of (length (p ∷ ps)) (columns_made f (p ∷ ps) cs ++ columns_made g (p ∷ ps) ds) ≡ map (row_made cs ds) (p ∷ ps)
  unfolding rows_of
  both-of-some p ps cs ds =
      let all = p ∷ ps in
      map-range-same (row_of (columns_made f all cs ++ columns_made g all ds)) (λ i. row_made cs ds (get_or all i p)) 0 (length all)
      (λ i lt. row-of-both (columns_made f all cs) (columns_made g all ds) i
      ∙ ap₂ (λ (us vs : List Value). us ++ vs) (row-of-made f all cs i p (omega (arith, lt))) (row-of-made g all ds i p (omega (arith, lt))))
      ∙ (sym (map-map (row_made cs ds) (λ i. get_or all i p) (range_with_len 0 (length all))) ∙ ap (map (row_made cs ds)) (all-places all p))

  pub both-rows-made : (ps : List P) (cs : List C) (ds : List D) → rows_of (length ps) (columns_made f ps cs ++ columns_made g ps ds) ≡ map (row_made cs ds) ps
  unfolding rows_of
  both-rows-made [] cs ds = refl
  both-rows-made (p ∷ ps) cs ds = both-of-some p ps cs ds

pub both-long : (n : ℕ) (us vs : List (List Value)) → HaveLength n us → HaveLength n vs → HaveLength n (us ++ vs)
unfolding HaveLength
both-long n [] vs h k = k
both-long n (u ∷ us) vs h k = (h.0, both-long n us vs h.1 k)
