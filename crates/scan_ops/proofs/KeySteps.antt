-- The rows of each key of a column.
use Rattle.std.proofs.Common.{◌≡◌, ◌<◌, ◌+◌, Bor, ℕ, zero, suc, Bool, true, List, [], ◌∷◌, map, filter, length, get_or, refl, ap, ap₂, sym, ◌∙◌, subst, inl, inr, arith}
use Rattle.std.specs.Prelude.{All, not, Some, bytes_eq, nat_lt, slice_get}
use Rattle.std.specs.List.{position_or_len, range_with_len}
use Rattle.std.proofs.lemmas.Bool.{cases_Bool}
use Rattle.std.proofs.lemmas.List.{get_or-map, length-map}
use Rattle.std.proofs.lemmas.List.Elements.{All-filter}
use Rattle.std.proofs.lemmas.List.Quantifiers.{position-Some}
use Rattle.std.proofs.lemmas.List.FromFn.{get_or-map-range_with_len}
use Rattle.std.proofs.lemmas.Slice.Eq.{bytes_eq-Decides}
use Rattle.kql_cells.specs.Keys.{same_keys-decides, same_keys-equiv}
use Rattle.kql_cells.specs.Named.{HasDistinctNames, column_name, place_of}
use Rattle.kql_cells.specs.Seen.{row_at, value_at}
use Rattle.kql_cells.specs.Table.{Grid, IsGrid}
use Rattle.kql_cells.specs.declared.schema.Column.{Column}
use Rattle.kql_cells.specs.declared.value.Kind.TheVariants as kind
use Rattle.kql_cells.specs.declared.value.Value.{Value}
use Rattle.kql_cells.specs.declared.value.Value.TheVariants as value
use Rattle.kql_cells.proofs.RowLaws.{length-RowFits}
use Rattle.kql_values.specs.Grids.{column_at, row_of, rows_of}
use Rattle.kql_keys.specs.Numbers.{distinct, numbers_of}
use Rattle.kql_keys.specs.Places.{places_by, places_of}
use Rattle.kql_keys.proofs.KeyLaws.{group-rows}
use Rattle.kql_meaning.specs.Groups.{distinct_keys}
use Rattle.kql_meaning.specs.Partition.{key_in_column}
use Rattle.kql_meaning.specs.Tables.{absent_in, cell, cell_in, distinct_by, places, places_below}
use Rattle.kql_meaning.specs.Values.{same_keys}
use Rattle.kql_fit_laws.proofs.RowFacts.{places-inside}
use Rattle.kql_meaning.proofs.JoinLaws.{map-map}
use Rattle.kql_meaning.proofs.RowByRowLaws.{rows-at-all}
use Rattle.scan_ops.specs.Scans.{column_cells, name_at, rows_by_key, rows_of_key}

-- Lists made of a range, item by item.

map-range-same : {X : Type 0} (f g : ℕ → X) (a n : ℕ) → ((i : ℕ) → i < a + n → f i ≡ g i) → map f (range_with_len a n) ≡ map g (range_with_len a n)
map-range-same f g a zero h = refl
map-range-same f g a (suc n) h = ap₂ (λ x xs. x ∷ xs) (h a (omega arith)) (map-range-same f g (a + 1) n (λ i lt. h i (omega (arith, lt))))

filter-same : (p q : ℕ → Bool) (is : List ℕ) → ((i : ℕ) → p i ≡ q i) → filter p is ≡ filter q is
filter-same p q [] h = refl
filter-same p q (i ∷ is) h = elim (cases_Bool (q i)) [
  | inl t ↦ let s : p i ≡ true = h i ∙ t in rw (s, t, filter-same p q is h) refl
  | inr n ↦ let s = h i ∙ n in rw (s, n) (filter-same p q is h)
]

-- A column stands where its name says.

abbrev no_column : Column
no_column = record { name = []; kind = kind.Bool }

own-place : (cs : List Column) (p : ℕ) → HasDistinctNames column_name cs → p < length cs → position_or_len (λ c. bytes_eq (column_name c) (get_or cs p no_column).name) cs ≡ p
own-place [] p h lt = absurd (omega (arith, lt))
own-place (c ∷ cs) zero h lt = rw ((bytes_eq-Decides c.name c.name).1 refl) refl
own-place (c ∷ cs) (suc p) h lt = elim (cases_Bool (bytes_eq c.name (get_or cs p no_column).name)) [
  | inl t ↦ absurd (h 0 (suc p) no_column (omega arith) (omega (arith, lt)) ((bytes_eq-Decides c.name (get_or cs p no_column).name).0 t))
  | inr f ↦ rw f (omega (arith, own-place cs p (λ i k d below inside. h (suc i) (suc k) d (omega (arith, below)) (omega (arith, inside))) (omega (arith, lt))))
]

place-own : (cs : List Column) (p : ℕ) → HasDistinctNames column_name cs → p < length cs → place_of column_name (name_at p cs) cs ≡ Some p
unfolding name_at
place-own cs p h lt =
    let own = own-place cs p h lt in
    let test : nat_lt p (length cs) ≡ true = grind (arith, lt) in
    let named : get_or (map column_name cs) p [] ≡ (get_or cs p no_column).name = get_or-map column_name cs p no_column [] lt in
    ap (λ (n : List ℕ). place_of column_name n cs) named ∙ rw (own, test) refl

same-inside : (vs : List Value) (j : ℕ) (d e : Value) → j < length vs → get_or vs j d ≡ get_or vs j e
same-inside [] j d e lt = absurd (omega (arith, lt))
same-inside (v ∷ vs) zero d e lt = refl
same-inside (v ∷ vs) (suc j) d e lt = same-inside vs j d e (omega (arith, lt))

cell-there : (t : Grid) (i p : ℕ) (n : List ℕ) → IsGrid t → i < length t.lines → p < length t.columns → place_of column_name n t.columns ≡ Some p → cell t i n ≡ value_at (row_at t.lines i) p
unfolding cell cell_in
cell-there t i p n fits row inside is =
    let width = length-RowFits t.columns (row_at t.lines i) (fits i [] row) in
    let k : p < length (row_at t.lines i) = omega (arith, width, inside) in
    ap (cell_in t i) is ∙ same-inside (row_at t.lines i) p (absent_in (slice_get t.columns p)) value.Null k

pub column-down : (t : Grid) (p : ℕ) (v : List Value) → HasDistinctNames column_name t.columns → IsGrid t → p < length t.columns → v ≡ column_at t.lines p → v ≡ column_cells t (name_at p t.columns)
unfolding column_cells places places_below
column-down t p v names fits inside e =
    let n = name_at p t.columns in
    let is = place-own t.columns p names inside in
    e ∙ (ap (map (λ row. value_at row p)) (sym (rows-at-all t))
    ∙ (map-map (λ row. value_at row p) (row_at t.lines) (places t)
    ∙ map-range-same (λ i. value_at (row_at t.lines i) p) (λ i. cell t i n) 0 (length t.lines) (λ i lt. sym (cell-there t i p n fits (omega (arith, lt)) inside is))))

pub ruleset column_steps = (column-down)

-- Keys of one column.

abbrev keys_down : List ℕ → Grid → List (List Value)
keys_down c t = map (key_in_column c t) (range_with_len 0 (length t.lines))

column-rows : (c : List ℕ) (t : Grid) → rows_of (length t.lines) (column_cells t c ∷ []) ≡ keys_down c t
unfolding rows_of row_of column_cells key_in_column places places_below
column-rows c t =
    map-range-same (λ i. value_at (map (λ j. cell t j c) (range_with_len 0 (length t.lines))) i ∷ []) (λ i. cell t i c ∷ []) 0 (length t.lines)
    (λ i lt. ap (λ (v : Value). v ∷ []) (get_or-map-range_with_len (λ j. cell t j c) 0 (length t.lines) i i value.Null (omega (arith, lt)) (omega arith)))

distinct-same : (ks : List (List Value)) → distinct same_keys ks ≡ distinct_by same_keys ks
unfolding distinct_by
distinct-same [] = refl
distinct-same (k ∷ ks) = ap (λ (js : List (List Value)). k ∷ filter (λ j. not (same_keys k j)) js) (distinct-same ks)

keys-distinct : (c : List ℕ) (t : Grid) → distinct same_keys (keys_down c t) ≡ distinct_keys (key_in_column c t) t
unfolding distinct_keys places places_below
keys-distinct c t = distinct-same (keys_down c t)

-- The rows of the key of a number.
rows-of-number : (c : List ℕ) (t : Grid) (g : ℕ) → g < length (distinct same_keys (keys_down c t)) → places_of (numbers_of same_keys (keys_down c t)) g ≡ rows_of_key c t (get_or (distinct same_keys (keys_down c t)) g [])
unfolding rows_of_key places places_below
rows-of-number c t g lt =
    let k = get_or (distinct same_keys (keys_down c t)) g [] in
    group-rows same_keys same_keys-decides (key_in_column c t) (length t.lines) g [] lt
    ∙ filter-same (λ i. same_keys k (key_in_column c t i)) (λ i. same_keys (key_in_column c t i) k) (range_with_len 0 (length t.lines)) (λ i. same_keys-equiv.symm k (key_in_column c t i))

each-number : {X Y : Type 0} (f : ℕ → Y) (g : X → Y) (xs : List X) (a : ℕ) (d : X) → ((i : ℕ) → i < length xs → f (a + i) ≡ g (get_or xs i d)) → map f (range_with_len a (length xs)) ≡ map g xs
each-number f g [] a d h = refl
each-number f g (x ∷ xs) a d h =
    let same : (i : ℕ) → i < length xs → f (a + 1 + i) ≡ g (get_or xs i d) = λ i lt. let k : a + 1 + i ≡ a + suc i = omega arith in ap f k ∙ h (suc i) (omega (arith, lt)) in
    let zeroth : a ≡ a + 0 = omega arith in
    ap₂ (λ y ys. y ∷ ys) (ap f zeroth ∙ h 0 (omega arith)) (each-number f g xs (a + 1) d same)

pub numbered : (c : List ℕ) (t : Grid) (cells : Bor (List Value)) (columns : List (Bor (List Value))) (count : ℕ) (numbers firsts : List ℕ) (lists : List (List ℕ)) → cells.now ≡ column_cells t c → columns ≡ cells ∷ [] → count ≡ length t.lines
    → numbers ≡ numbers_of same_keys (rows_of count (map (λ (v : Bor (List Value)). v.now) columns)) → map (row_of (map (λ (v : Bor (List Value)). v.now) columns)) firsts ≡ distinct same_keys (rows_of count (map (λ (v : Bor (List Value)). v.now) columns))
    → lists ≡ places_by numbers (length firsts) → lists ≡ rows_by_key c t
unfolding places_by rows_by_key
numbered c t cells columns count numbers firsts lists down one many en keys made =
    let vs : map (λ (v : Bor (List Value)). v.now) columns ≡ column_cells t c ∷ [] = ap (map (λ (v : Bor (List Value)). v.now)) one ∙ ap (λ (us : List Value). us ∷ []) down in
    let rows : rows_of count (map (λ (v : Bor (List Value)). v.now) columns) ≡ keys_down c t = ap₂ rows_of many vs ∙ column-rows c t in
    let ks = distinct same_keys (keys_down c t) in
    let size : length firsts ≡ length ks = sym (length-map firsts (row_of (map (λ (v : Bor (List Value)). v.now) columns))) ∙ ap length (keys ∙ ap (distinct same_keys) rows) in
    made
    ∙ (ap₂ (λ ns n. map (places_of ns) (range_with_len 0 n)) (en ∙ ap (numbers_of same_keys) rows) size
    ∙ (each-number (places_of (numbers_of same_keys (keys_down c t))) (rows_of_key c t) ks 0 [] (λ i lt. rows-number c t i lt)
    ∙ ap (map (rows_of_key c t)) (keys-distinct c t)))
  where
    rows-number : (c : List ℕ) (t : Grid) (i : ℕ) → i < length (distinct same_keys (keys_down c t)) → places_of (numbers_of same_keys (keys_down c t)) (0 + i) ≡ rows_of_key c t (get_or (distinct same_keys (keys_down c t)) i [])
    rows-number c t i lt = let same : 0 + i ≡ i = omega arith in ap (places_of (numbers_of same_keys (keys_down c t))) same ∙ rows-of-number c t i lt

-- The lists lie within the table.

pub key-within : (c : List ℕ) (t : Grid) (k : List Value) → All (λ j. j < length t.lines) (rows_of_key c t k)
unfolding rows_of_key
key-within c t k = All-filter (λ j. same_keys (key_in_column c t j) k) (λ j. j < length t.lines) (places t) (places-inside t)

keys-within : (c : List ℕ) (t : Grid) (ks : List (List Value)) → All (All (λ j. j < length t.lines)) (map (rows_of_key c t) ks)
keys-within c t [] i d lt = absurd (omega (arith, lt))
keys-within c t (k ∷ ks) zero d lt = key-within c t k
keys-within c t (k ∷ ks) (suc i) d lt = keys-within c t ks i d (omega (arith, lt))

pub lists-within : (c : List ℕ) (t : Grid) (lists : List (List ℕ)) → lists ≡ rows_by_key c t → All (All (λ j. j < length t.lines)) lists
unfolding rows_by_key
lists-within c t lists is = subst (All (All (λ j. j < length t.lines))) (sym is) (keys-within c t (distinct_keys (key_in_column c t) t))

-- The name of a column, and the place of it.

pub named-there : (c : List ℕ) (cs : List Column) (k : ℕ) → place_of column_name c cs ≡ Some k → name_at k cs ≡ c
unfolding name_at
named-there c cs k e =
    let d : Column = record { name = []; kind = kind.Bool } in
    let q = position-Some (λ (x : Column). bytes_eq (column_name x) c) cs k d e in
    get_or-map column_name cs k d [] q.0 ∙ (bytes_eq-Decides (column_name (get_or cs k d)) c).0 q.1

pub rows-named : (t : Grid) (k : ℕ) (lists : List (List ℕ)) → lists ≡ rows_by_key (name_at k t.columns) t → (c : List ℕ) → place_of column_name c t.columns ≡ Some k → lists ≡ rows_by_key c t
rows-named t k lists e c there = e ∙ ap (λ (n : List ℕ). rows_by_key n t) (named-there c t.columns k there)

pub ruleset key_steps = (numbered)
