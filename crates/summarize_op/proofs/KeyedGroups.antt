-- The groups by one key or more.
use Rattle.std.proofs.Common.{◌≡◌, ◌<◌, ◌≤◌, ◌++◌, ℕ, Bool, true, List, [], ◌∷◌, filter, length, map, get_or, refl, ap, ap₂, sym, ◌∙◌, subst, inl, inr, arith, Bor}
use Rattle.std.specs.Prelude.{All, not}
use Rattle.std.specs.List.{AllByRecursion, range_with_len}
use Rattle.std.proofs.lemmas.Bool.{cases_Bool}
use Rattle.std.proofs.lemmas.List.{get_or-map, length-map}
use Rattle.std.proofs.lemmas.List.Elements.{All-filter, All-from_recursion}
use Rattle.std.proofs.lemmas.List.FromFn.{get_or-map-range_with_len, length-map-range_with_len}
use Rattle.kql_cells.specs.Keys.{same_keys, same_keys-decides, same_keys-equiv}
use Rattle.kql_cells.specs.Seen.{value_at}
use Rattle.kql_cells.specs.Table.{Grid, gathered}
use Rattle.kql_cells.specs.declared.value.Value.{Value}
use Rattle.kql_cells.specs.declared.value.Value.TheVariants as value
use Rattle.kql_values.specs.Grids.{HaveLength, row_of, rows_of}
use Rattle.kql_values.proofs.GridLaws.{HaveLength-gathered, rows_of-length}
use Rattle.kql_keys.specs.Numbers.{distinct, first_places, numbers_of}
use Rattle.kql_keys.proofs.KeyLaws.{group-rows}
use Rattle.kql_keys.proofs.NumberLaws.{firsts-are, is_first}
use Rattle.kql_bound.specs.declared.parts.BItem.{BItem}
use Rattle.kql_meaning.specs.Expressions.{val}
use Rattle.kql_meaning.specs.Groups.{distinct_keys, group_of, key_by}
use Rattle.kql_meaning.specs.Items.{items_values}
use Rattle.kql_meaning.specs.Summarize.{group_row, group_rows}
use Rattle.kql_meaning.specs.Tables.{distinct_by, places, places_below}
use Rattle.kql_meaning.proofs.ListLaws.{every-range}
use Rattle.kql_row_laws.proofs.GatheredLaws.{at-each}
use Rattle.summarize_op.specs.Groups.{AreGroups, group_at, key_columns, values_down}
use Rattle.summarize_op.proofs.ColumnFacts.{map-range-same}

-- The rows of the keys' columns are the keys of the rows.

columns-long : (keys : List BItem) (t : Grid) → HaveLength (length t.lines) (key_columns keys t)
unfolding HaveLength key_columns values_down places places_below
columns-long [] t = tt
columns-long (b ∷ bs) t = (length-map-range_with_len (λ i. val b.expr t i []) 0 (length t.lines), columns-long bs t)

columns-row : (keys : List BItem) (t : Grid) (i : ℕ) → i < length t.lines → row_of (key_columns keys t) i ≡ key_by keys t i
unfolding row_of key_columns values_down key_by places places_below
columns-row [] t i lt = refl
columns-row (b ∷ bs) t i lt = ap₂ (λ (v : Value) (vs : List Value). v ∷ vs) (get_or-map-range_with_len (λ i. val b.expr t i []) 0 (length t.lines) i i value.Null lt (omega arith)) (columns-row bs t i lt)

-- The keys of all rows.
abbrev keys_down : List BItem → Grid → List (List Value)
keys_down keys t = map (key_by keys t) (range_with_len 0 (length t.lines))

keys-rows : (keys : List BItem) (t : Grid) → rows_of (length t.lines) (key_columns keys t) ≡ keys_down keys t
unfolding rows_of
keys-rows keys t = map-range-same (row_of (key_columns keys t)) (key_by keys t) 0 (length t.lines) (λ i lt. columns-row keys t i (omega (arith, lt)))

distinct-same : (ks : List (List Value)) → distinct same_keys ks ≡ distinct_by same_keys ks
unfolding distinct_by
distinct-same [] = refl
distinct-same (k ∷ ks) = ap (λ (js : List (List Value)). k ∷ filter (λ j. not (same_keys k j)) js) (distinct-same ks)

keys-distinct : (keys : List BItem) (t : Grid) → distinct same_keys (keys_down keys t) ≡ distinct_keys (key_by keys t) t
unfolding distinct_keys places places_below
keys-distinct keys t = distinct-same (keys_down keys t)

-- The rows of a number are the group of its key.

filter-same : (p q : ℕ → Bool) (is : List ℕ) → ((i : ℕ) → p i ≡ q i) → filter p is ≡ filter q is
filter-same p q [] h = refl
filter-same p q (i ∷ is) h = elim (cases_Bool (q i)) [
  | inl t ↦ let s : p i ≡ true = h i ∙ t in rw (s, t, filter-same p q is h) refl
  | inr n ↦ let s = h i ∙ n in rw (s, n) (filter-same p q is h)
]

group-is : (key : ℕ → List Value) (t : Grid) (g : ℕ) → g < length (distinct same_keys (map key (range_with_len 0 (length t.lines)))) → group_at t (numbers_of same_keys (map key (range_with_len 0 (length t.lines)))) g ≡ group_of key t (get_or (distinct same_keys (map key (range_with_len 0 (length t.lines)))) g [])
unfolding group_at group_of places places_below
group-is key t g lt =
    let n = length t.lines in
    let k = get_or (distinct same_keys (map key (range_with_len 0 n))) g [] in
    ap (gathered t) (group-rows same_keys same_keys-decides key n g [] lt ∙ filter-same (λ i. same_keys k (key i)) (λ i. same_keys (key i) k) (range_with_len 0 n) (λ i. same_keys-equiv.symm k (key i)))

-- The rows of the groups.

some-rows : (keys items : List BItem) (t : Grid) → 0 < length keys → group_rows keys items t ≡ map (group_row keys items t) (distinct_keys (key_by keys t) t)
unfolding group_rows
some-rows [] items t some = absurd (omega arith)
some-rows (key ∷ keys) items t some = refl

gathered-row : (vs : List (List Value)) (ps : List ℕ) (g : ℕ) → g < length ps → row_of (map (λ v. map (value_at v) ps) vs) g ≡ row_of vs (get_or ps g 0)
unfolding row_of
gathered-row [] ps g lt = refl
gathered-row (v ∷ vs) ps g lt = ap₂ (λ (x : Value) (xs : List Value). x ∷ xs) (get_or-map (value_at v) ps g 0 value.Null lt) (gathered-row vs ps g lt)

-- What the numbering gives, for columns that are the keys' values.
module _ (keys : List BItem) (t : Grid) (numbers firsts : List ℕ) (cs : List (List Value))
    (en : numbers ≡ numbers_of same_keys (rows_of (length t.lines) (key_columns keys t)))
    (ef : map (row_of (key_columns keys t)) firsts ≡ distinct same_keys (rows_of (length t.lines) (key_columns keys t)))
    (ec : cs ≡ map (λ v. map (value_at v) firsts) (key_columns keys t)) where
  keys-are : map (row_of (key_columns keys t)) firsts ≡ distinct_keys (key_by keys t) t
  keys-are = ef ∙ (ap (distinct same_keys) (keys-rows keys t) ∙ keys-distinct keys t)

  many : length (distinct_keys (key_by keys t) t) ≡ length firsts
  many = sym (ap (λ (ks : List (List Value)). length ks) keys-are) ∙ length-map firsts (row_of (key_columns keys t))

  own-key : (g : ℕ) → g < length firsts → row_of cs g ≡ get_or (distinct_keys (key_by keys t) t) g []
  own-key g lt =
      ap (λ (vs : List (List Value)). row_of vs g) ec
      ∙ (gathered-row (key_columns keys t) firsts g lt
      ∙ (sym (get_or-map (row_of (key_columns keys t)) firsts g 0 [] lt) ∙ ap (λ (ks : List (List Value)). get_or ks g []) keys-are))

  own-group : (g : ℕ) → g < length (distinct_keys (key_by keys t) t) → group_at t numbers g ≡ group_of (key_by keys t) t (get_or (distinct_keys (key_by keys t) t) g [])
  own-group g lt =
      let ks = keys_down keys t in
      let e = keys-distinct keys t in
      let inner : g < length (distinct same_keys ks) = subst (λ (js : List (List Value)). g < length js) (sym e) lt in
      ap (λ ns. group_at t ns g) (en ∙ ap (numbers_of same_keys) (keys-rows keys t))
      ∙ (group-is (key_by keys t) t g inner ∙ ap (λ (js : List (List Value)). group_of (key_by keys t) t (get_or js g [])) e)

  each-row : (items : List BItem) (g : ℕ) → g < length (distinct_keys (key_by keys t) t) → row_of cs g ++ items_values items (group_at t numbers g) 0 ≡ group_row keys items t (get_or (distinct_keys (key_by keys t) t) g [])
  unfolding group_row
  each-row items g lt =
      let inner : g < length firsts = subst (λ n. g < n) many lt in
      ap₂ (λ (k : List Value) (u : Grid). k ++ items_values items u 0) (own-key g inner) (own-group g lt)

  all-rows : 0 < length keys → (items : List BItem) → group_rows keys items t ≡ map (λ g. row_of cs g ++ items_values items (group_at t numbers g) 0) (range_with_len 0 (length firsts))
  all-rows some items =
      let f = λ (g : ℕ). row_of cs g ++ items_values items (group_at t numbers g) 0 in
      some-rows keys items t some
      ∙ (sym (at-each [] f (group_row keys items t) (distinct_keys (key_by keys t) t) (each-row items))
      ∙ ap (λ n. map f (range_with_len 0 n)) many)

  numbers-long : length numbers ≡ length t.lines
  unfolding numbers_of
  numbers-long =
      let rs = rows_of (length t.lines) (key_columns keys t) in
      ap (λ (ns : List ℕ). length ns) en ∙ (length-map rs _ ∙ rows_of-length (length t.lines) (key_columns keys t))

  keyed-groups : 0 < length keys → All (λ n. n < length firsts) numbers → AreGroups keys t cs numbers (length firsts)
  keyed-groups some within = record {
    within = within;
    each = numbers-long;
    long = subst (HaveLength (length firsts)) (sym ec) (HaveLength-gathered (length t.lines) (key_columns keys t) firsts (columns-long keys t));
    rows = all-rows some;
  }

-- As the function has them.

pub keyed : (keys : List BItem) (t : Grid) (n count : ℕ) (vs cs : List (List Value)) (numbers firsts : List ℕ) → 0 < length keys → n ≡ length t.lines → vs ≡ key_columns keys t → numbers ≡ numbers_of same_keys (rows_of n vs) → map (row_of vs) firsts ≡ distinct same_keys (rows_of n vs) → All (λ x. x < length firsts) numbers → cs ≡ map (λ v. map (value_at v) firsts) vs → count ≡ length firsts → AreGroups keys t cs numbers count
keyed keys t n count vs cs numbers firsts some len is en ef within ec size =
    let same : rows_of n vs ≡ rows_of (length t.lines) (key_columns keys t) = ap (λ m. rows_of m vs) len ∙ ap (rows_of (length t.lines)) is in
    subst (AreGroups keys t cs numbers) (sym size)
    (keyed-groups keys t numbers firsts cs (en ∙ ap (numbers_of same_keys) same) (sym (ap (λ (us : List (List Value)). map (row_of us) firsts) is) ∙ (ef ∙ ap (distinct same_keys) same)) (ec ∙ ap (map (λ v. map (value_at v) firsts)) is) some within)

pub keys-long : (keys : List BItem) (t : Grid) (n : ℕ) (vs : List (List Value)) → n ≡ length t.lines → vs ≡ key_columns keys t → HaveLength n vs
keys-long keys t n vs len is = subst (λ m. HaveLength m vs) (sym len) (subst (HaveLength (length t.lines)) (sym is) (columns-long keys t))

lent-each : (xs : List (Bor (List Value))) (n : ℕ) → HaveLength n (map (λ (c : Bor (List Value)). c.now) xs) → AllByRecursion (λ (c : Bor (List Value)). n ≤ length c.now) xs
unfolding HaveLength
lent-each [] n h = tt
lent-each (x ∷ xs) n h = (omega (arith, h.0), lent-each xs n h.1)

pub lent-long : (keys : List BItem) (t : Grid) (n : ℕ) (vs : List (List Value)) (xs : List (Bor (List Value))) → n ≡ length t.lines → vs ≡ key_columns keys t → map (λ (c : Bor (List Value)). c.now) xs ≡ vs → All (λ (c : Bor (List Value)). n ≤ length c.now) xs
lent-long keys t n vs xs len is lent =
    All-from_recursion (λ (c : Bor (List Value)). n ≤ length c.now) xs (lent-each xs n (subst (HaveLength n) (sym lent) (keys-long keys t n vs len is)))

range-inside : (n : ℕ) → All (λ i. i < n) (range_with_len 0 n)
range-inside n = All-from_recursion (λ i. i < n) (range_with_len 0 n) (every-range (λ i. i < n) 0 n (λ i low high. omega (arith, high)))

pub firsts-inside : (n : ℕ) (vs : List (List Value)) (firsts : List ℕ) → firsts ≡ first_places same_keys (rows_of n vs) → All (λ i. i < n) firsts
unfolding rows_of
firsts-inside n vs firsts is =
    subst (All (λ i. i < n)) (sym (is ∙ firsts-are same_keys same_keys-decides (row_of vs) n))
    (All-filter (is_first same_keys same_keys-decides (row_of vs)) (λ i. i < n) (range_with_len 0 n) (range-inside n))

pub ruleset keyed_facts = (keyed, keys-long, lent-long, firsts-inside)
