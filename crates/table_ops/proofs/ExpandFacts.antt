-- The columns of `mv-expand`, and the table that they are.
use Rattle.std.proofs.Common.{◌≡◌, ◌<◌, ◌≤◌, ◌+◌, ◌++◌, ℕ, zero, suc, Bool, true, false, List, [], ◌∷◌, map, filter, length, get_or, take, refl, sym, ap, ap₂, ◌∙◌, subst, inl, inr, arith}
use Rattle.std.specs.Prelude.{All, Err, IfOk, Ok, Result, bytes_eq, find, nat_lt, not, None, Option, Some, slice_get, slice_index_or}
use Rattle.std.specs.List.{flat_map, position, position_or_len, range_with_len}
use Rattle.std.proofs.lemmas.Bool.{cases_Bool}
use Rattle.std.proofs.lemmas.List.{append-nil, get_or-map, length-map, map-append, map_more, take_all, take_more}
use Rattle.std.proofs.lemmas.List.Elements.{All-from_recursion, filter-append}
use Rattle.std.proofs.lemmas.List.Folds.{find_at}
use Rattle.std.proofs.lemmas.List.FromFn.{get_or-map-range_with_len, length-map-range_with_len}
use Rattle.std.proofs.lemmas.Option.{slice_get-get_or}
use Rattle.std.proofs.lemmas.Slice.Eq.{bytes_eq-Decides}
use Rattle.kql_cells.specs.Named.{HasDistinctNames, column_name, place_of}
use Rattle.kql_cells.specs.Seen.{value_at}
use Rattle.kql_cells.specs.Table.{Grid, IsGrid, RowFits}
use Rattle.kql_cells.specs.Values.{IsWellFormed}
use Rattle.kql_cells.specs.declared.schema.Column.{Column}
use Rattle.kql_cells.specs.declared.value.Kind.TheVariants as kind
use Rattle.kql_cells.specs.declared.value.Value.{Value}
use Rattle.kql_cells.specs.declared.value.Value.TheVariants as value
use Rattle.kql_bound.specs.declared.parts.Expand.{Expand}
use Rattle.kql_bound.specs.declared.parts.ExpandItem.{ExpandItem}
use Rattle.kql_meaning.specs.Expressions.{val}
use Rattle.kql_meaning.specs.FittingOperators.{expand_fits, expand_item_fits}
use Rattle.kql_meaning.specs.MvExpand.{expand_columns, expand_table, expanded_row, item_named, item_parts, new_items, part_as, part_at, parts_of, replaced_cell, rows_given}
use Rattle.kql_meaning.specs.Tables.{cell, cell_in, has_column, places, places_below}
use Rattle.kql_meaning.proofs.ListLaws.{every-map-range}
use Rattle.kql_meaning.proofs.MemberLaws.{Member, member-of-flat, member-of-map, member-of-range}
use Rattle.kql_fit_laws.specs.LawsOfRows.{IsTable}
use Rattle.kql_fit_laws.proofs.KnownValues.{value-fits}
use Rattle.kql_fit_laws.proofs.RowFacts.{all-members}
use Rattle.kql_values.specs.Grids.{HaveLength, column_at, rows_of}
use Rattle.kql_values.specs.Moves.{column_of, no_column}
use Rattle.table_ops.specs.Parts.{ArePartsOf, expanded_cells, input_cells, item_cells, item_values, part_below, part_or_null, parts_below, row_times, times, values_down}
use Rattle.table_ops.specs.declared.parts.Parts.{Parts}
use Rattle.table_ops.proofs.CountFacts.{items-fit, same-default, times-same, values-long}
use Rattle.kql_fit_laws.proofs.ExpandRows.{expand-grid}
use Rattle.table_ops.proofs.InColumnFacts.{cell-there}
use Rattle.table_ops.proofs.Transposed.{both-long, both-rows-made, columns_made, made-long, map-map}
use Rattle.table_ops.proofs.ValueFacts.{item-fits}

pub if-ok : {X E : Type 0} {P Q : X → Type 0} (r : Result X E) → ((x : X) → P x → Q x) → IfOk r P → IfOk r Q
if-ok (Ok x) f h = f x h
if-ok (Err e) f h = tt

-- The times of the answer are of rows of the table.

map-members-same : {X Y : Type 0} (f g : X → Y) (xs : List X) → ((x : X) → Member x xs → f x ≡ g x) → map f xs ≡ map g xs
map-members-same f g [] h = refl
map-members-same f g (x ∷ xs) h = ap₂ (λ y ys. y ∷ ys) (h x (inl refl)) (map-members-same f g xs (λ z m. h z (inr m)))

times-inside : (x : Expand) (t : Grid) (p : ℕ × ℕ) → Member p (times x t) → p.0 < length t.lines
unfolding times row_times places places_below
times-inside x t p m =
    let q = member-of-flat (row_times x t) (places t) p m in
    let r = member-of-map (λ k. (q.0, k)) (range_with_len 0 (rows_given x t q.0)) p q.2 in
    let at = member-of-range 0 (length t.lines) q.0 q.1 in
    let same : q.0 ≡ p.0 = ap (λ (z : ℕ × ℕ). z.0) r.2 in
    omega (arith, at.1, same)

-- The cells of an item.

item-there : (items : List ExpandItem) (t : Grid) (at : ℕ) (b : ExpandItem) (vs : List Value) → at < length items → b ≡ get_or items at b → vs ≡ get_or (item_values items t) at vs → vs ≡ values_down b.expr t
unfolding item_values
item-there items t at b vs lt is there = there ∙ (get_or-map (λ (item : ExpandItem). values_down item.expr t) items at b vs lt ∙ ap (λ (item : ExpandItem). values_down item.expr t) (sym is))

part-same : (x : Expand) (t : Grid) (b : ExpandItem) (p : ℕ × ℕ) → p.0 < length t.lines → part_below x.array b.to (values_down b.expr t) p ≡ part_at x t p.0 p.1 b
unfolding part_below part_or_null part_at item_parts values_down places places_below
part-same x t b p lt = ap (λ v. part_as b.to (slice_index_or (parts_of x.array v) p.1 value.Null)) (get_or-map-range_with_len (λ i. val b.expr t i []) 0 (length t.lines) p.0 p.0 value.Null lt (omega arith))

pub item-made : (x : Expand) (t : Grid) (parts : Parts) (at : ℕ) (b : ExpandItem) (vs made : List Value) → ArePartsOf x t parts → at < length x.items → b ≡ get_or x.items at b → vs ≡ get_or parts.values at vs → made ≡ parts_below x.array b.to vs parts.counts (length parts.counts) → made ≡ item_cells x t b
unfolding ArePartsOf parts_below item_cells
item-made x t parts at b vs made h lt is there e =
    let down = item-there x.items t at b vs lt is (there ∙ ap (λ (us : List (List Value)). get_or us at vs) h.0) in
    e ∙ (ap₂ (λ (us : List Value) (ps : List (ℕ × ℕ)). map (part_below x.array b.to us) ps) down (times-same x t parts.counts h.1)
    ∙ map-members-same (part_below x.array b.to (values_down b.expr t)) (λ (p : ℕ × ℕ). part_at x t p.0 p.1 b) (times x t) (λ p m. part-same x t b p (times-inside x t p m)))

values-count : (x : Expand) (t : Grid) (parts : Parts) → ArePartsOf x t parts → length parts.values ≡ length x.items
unfolding ArePartsOf item_values
values-count x t parts h = ap length h.0 ∙ length-map x.items (λ (item : ExpandItem). values_down item.expr t)

pub values-inside : (x : Expand) (t : Grid) (parts : Parts) (at : ℕ) → ArePartsOf x t parts → at < length x.items → at < length parts.values
values-inside x t parts at h lt = omega (arith, lt, values-count x t parts h)

long-at : (n : ℕ) (columns : List (List Value)) (at : ℕ) (d : List Value) → HaveLength n columns → at < length columns → length (get_or columns at d) ≡ n
unfolding HaveLength
long-at n [] at d h lt = absurd (omega (arith, lt))
long-at n (vs ∷ columns) zero d h lt = h.0
long-at n (vs ∷ columns) (suc at) d h lt = long-at n columns at d h.1 (omega (arith, lt))

pub counts-long : (x : Expand) (t : Grid) (parts : Parts) (at : ℕ) (vs : List Value) → ArePartsOf x t parts → at < length x.items → vs ≡ get_or parts.values at vs → length parts.counts ≡ length vs
unfolding ArePartsOf places places_below
counts-long x t parts at vs h lt there =
    let long = long-at (length t.lines) parts.values at vs (values-long x.items t (length t.lines) parts.values refl h.0) (values-inside x t parts at h lt) in
    ap length h.1 ∙ (length-map-range_with_len (rows_given x t) 0 (length t.lines) ∙ sym (ap length there ∙ long))

down-formed : (t : Grid) (b : ExpandItem) → IsTable t → expand_item_fits t.columns b ≡ true → All IsWellFormed (values_down b.expr t)
unfolding expand_item_fits values_down places places_below
down-formed t b h fits =
    All-from_recursion IsWellFormed (map (λ i. val b.expr t i []) (range_with_len 0 (length t.lines)))
    (every-map-range IsWellFormed (λ i. val b.expr t i []) 0 (length t.lines) (λ i low high. (value-fits kind.Dynamic b.expr t i h (omega (arith, high)) fits).1))

pub values-formed : (x : Expand) (t : Grid) (parts : Parts) (at : ℕ) (b : ExpandItem) (vs : List Value) → HasDistinctNames column_name t.columns → IsGrid t → expand_fits x t.columns ≡ true → ArePartsOf x t parts → at < length x.items → b ≡ get_or x.items at b → vs ≡ get_or parts.values at vs → All IsWellFormed vs
unfolding ArePartsOf
values-formed x t parts at b vs names grid fits h lt is there =
    let down = item-there x.items t at b vs lt is (there ∙ ap (λ (us : List (List Value)). get_or us at vs) h.0) in
    subst (All IsWellFormed) (sym down) (down-formed t b (names, grid) (item-fits x.items t.columns at b (items-fit x t fits) lt is))

-- The cells of an input column.

own-position : (cs : List Column) (j : ℕ) → HasDistinctNames column_name cs → j < length cs → position_or_len (λ c. bytes_eq (column_name c) (column_of cs j).name) cs ≡ j
own-position [] j h lt = absurd (omega arith)
own-position (c ∷ cs) zero h lt = rw ((bytes_eq-Decides c.name c.name).1 refl) refl
own-position (c ∷ cs) (suc j) h lt = elim (cases_Bool (bytes_eq c.name (column_of cs j).name)) [
  | inl t ↦ absurd (h 0 (suc j) no_column (omega arith) (omega (arith, lt)) ((bytes_eq-Decides c.name (column_of cs j).name).0 t))
  | inr f ↦ rw f (omega (arith, own-position cs j (λ i k d below inside. h (suc i) (suc k) d (omega (arith, below)) (omega (arith, inside))) (omega (arith, lt))))
]

own-place : (cs : List Column) (j : ℕ) → HasDistinctNames column_name cs → j < length cs → place_of column_name (column_of cs j).name cs ≡ Some j
own-place cs j h lt =
    let own = own-position cs j h lt in
    let test : nat_lt j (length cs) ≡ true = grind (arith, lt) in
    rw (own, test) refl

kept-cell : (t : Grid) (i j : ℕ) → HasDistinctNames column_name t.columns → IsGrid t → i < length t.lines → j < length t.columns → value_at (column_at t.lines j) i ≡ cell t i (column_of t.columns j).name
unfolding cell
kept-cell t i j names grid row inside =
    get_or-map (λ line. value_at line j) t.lines i [] value.Null row
    ∙ (cell-there t i j grid row inside ∙ ap (cell_in t i) (sym (own-place t.columns j names inside)))

pub places-inside : (x : Expand) (t : Grid) (parts : Parts) (vs : List Value) → ArePartsOf x t parts → length vs ≡ length t.lines → All (λ i. i < length vs) parts.places
unfolding ArePartsOf
places-inside x t parts vs h many =
    subst (All (λ i. i < length vs)) (sym h.2)
    (all-members (λ i. i < length vs) (map (λ (p : ℕ × ℕ). p.0) (times x t))
    (λ i m. let q = member-of-map (λ (p : ℕ × ℕ). p.0) (times x t) i m in omega (arith, times-inside x t q.0 q.1, q.2, many)))

-- The search for the item of a name.

past-none : {X : Type 0} (xs : List X) (i : ℕ) → length xs ≤ i → slice_get xs i ≡ None
past-none [] i le = refl
past-none (x ∷ xs) zero le = absurd (omega (arith, le))
past-none (x ∷ xs) (suc i) le = past-none xs i (omega (arith, le))

position-none : {X : Type 0} (p : X → Bool) (xs : List X) → position p xs ≡ None → find p xs ≡ None
position-none p xs e = elim (cases_Bool (nat_lt (position_or_len p xs) (length xs))) [
  | inl t ↦ let some : Some (position_or_len p xs) ≡ None = rw t at e in absurd cc
  | inr f ↦ let past : length xs ≤ position_or_len p xs = grind (arith, f) in find_at p xs ∙ past-none xs (position_or_len p xs) past
]

position-some : {X : Type 0} (p : X → Bool) (xs : List X) (at : ℕ) (d : X) → position p xs ≡ Some at → (at < length xs) × (find p xs ≡ Some (get_or xs at d))
position-some p xs at d e = elim (cases_Bool (nat_lt (position_or_len p xs) (length xs))) [
  | inl t ↦
      let known : Some (position_or_len p xs) ≡ Some at = rw t at e in
      let same : position_or_len p xs ≡ at = cc in
      let below : position_or_len p xs < length xs = grind (arith, t) in
      (subst (λ m. m < length xs) same below, find_at p xs ∙ subst (λ m. slice_get xs m ≡ Some (get_or xs at d)) (sym same) (slice_get-get_or xs at d (subst (λ m. m < length xs) same below)))
  | inr f ↦ let none : None ≡ Some at = rw f at e in absurd cc
]

pub item-inside : (items : List ExpandItem) (n : List ℕ) (at : ℕ) → position (λ (item : ExpandItem). bytes_eq item.name n) items ≡ Some at → at < length items
item-inside [] n at e = absurd cc
item-inside (b ∷ bs) n at e = (position-some (λ (item : ExpandItem). bytes_eq item.name n) (b ∷ bs) at b e).0

pub input-replaced : (x : Expand) (t : Grid) (parts : Parts) (j at : ℕ) (c : Column) (b : ExpandItem) (vs made : List Value) → ArePartsOf x t parts → j < length t.columns → c ≡ get_or t.columns j c → position (λ (item : ExpandItem). bytes_eq item.name c.name) x.items ≡ Some at → b ≡ get_or x.items at b → vs ≡ get_or parts.values at vs → made ≡ parts_below x.array b.to vs parts.counts (length parts.counts) → made ≡ input_cells x t (column_of t.columns j)
unfolding input_cells item_cells replaced_cell item_named
input-replaced x t parts j at c b vs made h inside own place is there e =
    let q = position-some (λ (item : ExpandItem). bytes_eq item.name c.name) x.items at b place in
    let found : item_named x.items c.name ≡ Some b = q.1 ∙ ap Some (sym is) in
    item-made x t parts at b vs made h q.0 is there e
    ∙ (ap (λ (o : Option ExpandItem). map (λ (p : ℕ × ℕ). replaced_cell x t p.0 p.1 c o) (times x t)) (sym found)
    ∙ ap (input_cells x t) (own ∙ same-default t.columns j c no_column inside))

pub input-kept : (x : Expand) (t : Grid) (parts : Parts) (j : ℕ) (c : Column) (vs made : List Value) → HasDistinctNames column_name t.columns → IsGrid t → ArePartsOf x t parts → j < length t.columns → c ≡ get_or t.columns j c → position (λ (item : ExpandItem). bytes_eq item.name c.name) x.items ≡ None → vs ≡ column_at t.lines j → made ≡ map (value_at vs) parts.places → made ≡ input_cells x t (column_of t.columns j)
unfolding ArePartsOf input_cells replaced_cell item_named
input-kept x t parts j c vs made names grid h inside own place is e =
    let d = column_of t.columns j in
    let same : c ≡ d = own ∙ same-default t.columns j c no_column inside in
    let none : item_named x.items d.name ≡ None = ap (λ (k : Column). item_named x.items k.name) (sym same) ∙ position-none (λ (item : ExpandItem). bytes_eq item.name c.name) x.items place in
    e ∙ (ap₂ (λ (us : List Value) (ps : List ℕ). map (value_at us) ps) is h.2
    ∙ (map-map (value_at (column_at t.lines j)) (λ (p : ℕ × ℕ). p.0) (times x t)
    ∙ (map-members-same (λ (p : ℕ × ℕ). value_at (column_at t.lines j) p.0) (λ (p : ℕ × ℕ). cell t p.0 d.name) (times x t) (λ p m. kept-cell t p.0 j names grid (times-inside x t p m) inside)
    ∙ ap (λ (o : Option ExpandItem). map (λ (p : ℕ × ℕ). replaced_cell x t p.0 p.1 d o) (times x t)) (sym none))))

pub ruleset column_steps = (item-inside, values-inside, counts-long, values-formed, places-inside, input-replaced, input-kept)

-- All input columns.

pub inputs-step : (x : Expand) (t : Grid) (j : ℕ) (old new : List (List Value)) (v : List Value) → j < length t.columns → v ≡ input_cells x t (column_of t.columns j) → old ≡ map (input_cells x t) (take j t.columns) → new ≡ old ++ v ∷ [] → new ≡ map (input_cells x t) (take (j + 1) t.columns)
inputs-step x t j old new v lt is before after =
    after ∙ (ap₂ (λ (us : List (List Value)) (u : List Value). us ++ u ∷ []) before is ∙ sym (map_more (input_cells x t) t.columns j no_column lt))

pub inputs-all : (x : Expand) (t : Grid) (n : ℕ) (vs : List (List Value)) → n ≡ length t.columns → vs ≡ map (input_cells x t) (take n t.columns) → vs ≡ map (input_cells x t) t.columns
inputs-all x t n vs many is = is ∙ ap (map (input_cells x t)) (take_all n t.columns (omega (arith, many)))

pub ruleset input_steps = (inputs-step, inputs-all)

-- The columns of new items.

abbrev is_new : List Column → ExpandItem → Bool
is_new cs b = not (has_column b.name cs)

pub new-added : (x : Expand) (t : Grid) (at : ℕ) (b : ExpandItem) (old new : List (List Value)) (v : List Value) → at < length x.items → b ≡ get_or x.items at b → has_column b.name t.columns ≡ false → v ≡ item_cells x t b → old ≡ map (item_cells x t) (new_items (take at x.items) t.columns) → new ≡ old ++ v ∷ [] → new ≡ map (item_cells x t) (new_items (take (at + 1) x.items) t.columns)
unfolding new_items
new-added x t at b old new v lt is absent cells before after =
    let test : is_new t.columns b ≡ true = ap not absent in
    let more : take (at + 1) x.items ≡ take at x.items ++ b ∷ [] = take_more x.items at b lt ∙ ap (λ (c : ExpandItem). take at x.items ++ c ∷ []) (sym is) in
    let one : filter (is_new t.columns) (b ∷ []) ≡ b ∷ [] = rw test refl in
    after ∙ (ap₂ (λ (us : List (List Value)) (u : List Value). us ++ u ∷ []) before cells
    ∙ (sym (map-append (item_cells x t) (filter (is_new t.columns) (take at x.items)) (b ∷ []))
    ∙ ap (map (item_cells x t)) (ap (λ (bs : List ExpandItem). filter (is_new t.columns) (take at x.items) ++ bs) (sym one)
    ∙ (sym (filter-append (is_new t.columns) (take at x.items) (b ∷ [])) ∙ ap (filter (is_new t.columns)) (sym more)))))

pub new-left : (x : Expand) (t : Grid) (at : ℕ) (b : ExpandItem) (old new : List (List Value)) → at < length x.items → b ≡ get_or x.items at b → has_column b.name t.columns ≡ true → old ≡ map (item_cells x t) (new_items (take at x.items) t.columns) → new ≡ old → new ≡ map (item_cells x t) (new_items (take (at + 1) x.items) t.columns)
unfolding new_items
new-left x t at b old new lt is there before after =
    let test : is_new t.columns b ≡ false = ap not there in
    let more : take (at + 1) x.items ≡ take at x.items ++ b ∷ [] = take_more x.items at b lt ∙ ap (λ (c : ExpandItem). take at x.items ++ c ∷ []) (sym is) in
    let none : filter (is_new t.columns) (b ∷ []) ≡ [] = rw test refl in
    after ∙ (before
    ∙ ap (map (item_cells x t)) (sym (append-nil (filter (is_new t.columns) (take at x.items)))
    ∙ (ap (λ (bs : List ExpandItem). filter (is_new t.columns) (take at x.items) ++ bs) (sym none)
    ∙ (sym (filter-append (is_new t.columns) (take at x.items) (b ∷ [])) ∙ ap (filter (is_new t.columns)) (sym more)))))

pub new-start : (x : Expand) (t : Grid) → map (item_cells x t) (new_items (take 0 x.items) t.columns) ≡ []
unfolding new_items
new-start x t = refl

pub new-all : (x : Expand) (t : Grid) (n : ℕ) (vs : List (List Value)) → n ≡ length x.items → vs ≡ map (item_cells x t) (new_items (take n x.items) t.columns) → vs ≡ map (item_cells x t) (new_items x.items t.columns)
new-all x t n vs many is = is ∙ ap (λ (bs : List ExpandItem). map (item_cells x t) (new_items bs t.columns)) (take_all n x.items (omega (arith, many)))

pub ruleset new_steps = (values-inside, counts-long, values-formed, item-made, new-added, new-left, new-start, new-all)

-- All columns.

pub both-made : (x : Expand) (t : Grid) (us vs made : List (List Value)) → us ≡ map (input_cells x t) t.columns → vs ≡ map (item_cells x t) (new_items x.items t.columns) → made ≡ us ++ vs → made ≡ expanded_cells x t
unfolding expanded_cells
both-made x t us vs made is there e = e ∙ ap₂ (λ (a b : List (List Value)). a ++ b) is there

pub ruleset vector_facts = (both-made)

-- The table.

abbrev input_cell : Expand → Grid → Column → ℕ × ℕ → Value
input_cell x t c p = replaced_cell x t p.0 p.1 c (item_named x.items c.name)

abbrev item_cell : Expand → Grid → ExpandItem → ℕ × ℕ → Value
item_cell x t b p = part_at x t p.0 p.1 b

cells-long : (x : Expand) (t : Grid) → HaveLength (length (times x t)) (expanded_cells x t)
unfolding expanded_cells input_cells item_cells
cells-long x t =
    both-long (length (times x t)) (columns_made (input_cell x t) (times x t) t.columns) (columns_made (item_cell x t) (times x t) (new_items x.items t.columns))
    (made-long (input_cell x t) (times x t) t.columns) (made-long (item_cell x t) (times x t) (new_items x.items t.columns))

times-count : (x : Expand) (t : Grid) (parts : Parts) → ArePartsOf x t parts → length parts.places ≡ length (times x t)
unfolding ArePartsOf
times-count x t parts h = ap length h.2 ∙ length-map (times x t) (λ (p : ℕ × ℕ). p.0)

pub vectors-long : (x : Expand) (t : Grid) (parts : Parts) (n : ℕ) (vs : List (List Value)) → ArePartsOf x t parts → n ≡ length parts.places → vs ≡ expanded_cells x t → HaveLength n vs
vectors-long x t parts n vs h many is =
    subst (λ m. HaveLength m vs) (sym (many ∙ times-count x t parts h)) (subst (HaveLength (length (times x t))) (sym is) (cells-long x t))

flat-mapped : {X Y Z : Type 0} (g : Y → Z) (f : X → List Y) (xs : List X) → map g (flat_map f xs) ≡ flat_map (λ x. map g (f x)) xs
flat-mapped g f [] = refl
flat-mapped g f (x ∷ xs) = map-append g (f x) (flat_map f xs) ∙ ap (λ ys. map g (f x) ++ ys) (flat-mapped g f xs)

flat-same : {X Y : Type 0} (f g : X → List Y) (xs : List X) → ((x : X) → f x ≡ g x) → flat_map f xs ≡ flat_map g xs
flat-same f g [] h = refl
flat-same f g (x ∷ xs) h = ap₂ (λ us vs. us ++ vs) (h x) (flat-same f g xs h)

rows-of-times : (x : Expand) (t : Grid) → map (λ (p : ℕ × ℕ). expanded_row x t p.0 p.1) (times x t) ≡ (expand_table x t).lines
unfolding expand_table times row_times
rows-of-times x t =
    flat-mapped (λ (p : ℕ × ℕ). expanded_row x t p.0 p.1) (λ i. map (λ k. (i, k)) (places_below (rows_given x t i))) (places t)
    ∙ flat-same (λ i. map (λ (p : ℕ × ℕ). expanded_row x t p.0 p.1) (map (λ k. (i, k)) (places_below (rows_given x t i)))) (λ i. map (expanded_row x t i) (places_below (rows_given x t i))) (places t)
    (λ i. map-map (λ (p : ℕ × ℕ). expanded_row x t p.0 p.1) (λ k. (i, k)) (places_below (rows_given x t i)))

rows-of-cells : (x : Expand) (t : Grid) → rows_of (length (times x t)) (expanded_cells x t) ≡ map (λ (p : ℕ × ℕ). expanded_row x t p.0 p.1) (times x t)
unfolding expanded_cells input_cells item_cells expanded_row
rows-of-cells x t = both-rows-made (input_cell x t) (item_cell x t) (times x t) t.columns (new_items x.items t.columns)

rows-made : (x : Expand) (t : Grid) (parts : Parts) (n : ℕ) (vs rows : List (List Value)) → ArePartsOf x t parts → n ≡ length parts.places → vs ≡ expanded_cells x t → rows ≡ rows_of n vs → rows ≡ (expand_table x t).lines
rows-made x t parts n vs rows h many is e =
    e ∙ (ap₂ (λ m (us : List (List Value)). rows_of m us) (many ∙ times-count x t parts h) is ∙ (rows-of-cells x t ∙ rows-of-times x t))

lines-fit : (x : Expand) (t : Grid) → IsTable t → expand_fits x t.columns ≡ true → All (RowFits (expand_columns x t.columns)) (expand_table x t).lines
unfolding expand_table
lines-fit x t h fits = expand-grid x t h fits

pub rows-fit : (x : Expand) (t : Grid) (parts : Parts) (cs : List Column) (n : ℕ) (vs rows : List (List Value)) → HasDistinctNames column_name t.columns → IsGrid t → expand_fits x t.columns ≡ true → ArePartsOf x t parts → n ≡ length parts.places → vs ≡ expanded_cells x t → rows ≡ rows_of n vs → cs ≡ expand_columns x t.columns → All (RowFits cs) rows
rows-fit x t parts cs n vs rows names grid fits h many is e named =
    subst (λ (ds : List Column). All (RowFits ds) rows) (sym named)
    (subst (All (RowFits (expand_columns x t.columns))) (sym (rows-made x t parts n vs rows h many is e)) (lines-fit x t (names, grid) fits))

table-of : (x : Expand) (t : Grid) → expand_table x t ≡ record { columns = expand_columns x t.columns; lines = (expand_table x t).lines }
unfolding expand_table
table-of x t = refl

pub table-made : (x : Expand) (t made : Grid) (parts : Parts) (cs : List Column) (n : ℕ) (vs rows : List (List Value)) → ArePartsOf x t parts → n ≡ length parts.places → vs ≡ expanded_cells x t → rows ≡ rows_of n vs → cs ≡ expand_columns x t.columns → made ≡ record { columns = cs; lines = rows } → made ≡ expand_table x t
table-made x t made parts cs n vs rows h many is e named all =
    all ∙ (ap₂ (λ (ds : List Column) (ls : List (List Value)). record { columns = ds; lines = ls }) named (rows-made x t parts n vs rows h many is e) ∙ sym (table-of x t))

pub ruleset expand_facts = (vectors-long, rows-fit, table-made)
