-- The arrays of the items.
use Rattle.std.proofs.Common.{◌≡◌, ◌<◌, ◌≤◌, ◌+◌, List, [], ◌∷◌, ◌++◌, ℕ, zero, suc, get_or, length, map, take, refl, ap, ap₂, sym, ◌∙◌, subst, arith}
use Rattle.std.specs.Prelude.{All, None, Option, Some}
use Rattle.std.proofs.lemmas.List.{get_or-map, length-map, map_more, take_all}
use Rattle.std.proofs.lemmas.List.Elements.{All-from_get_or, All-get_or}
use Rattle.kql_cells.specs.Seen.{value_at}
use Rattle.kql_cells.specs.Values.{IsWellFormed}
use Rattle.kql_cells.specs.declared.dynamic.Dyn.{Dyn}
use Rattle.kql_cells.specs.declared.dynamic.Dyn.TheVariants as dyn
use Rattle.kql_cells.specs.declared.value.Value.{Value}
use Rattle.kql_cells.specs.declared.value.Value.TheVariants as value
use Rattle.kql_dynamic.specs.Arrays.{array}
use Rattle.kql_scalar_fns.specs.Arguments.{AreWellFormed}
use Rattle.kql_scalar_fns.specs.Dynamic.{element}
use Rattle.kql_values.specs.Grids.{HaveLength}
use Rattle.kql_values.specs.Moves.{IsWithin, value_or}
use Rattle.kql_values.proofs.GridLaws.{HaveLength-at}
use Rattle.kql_bound.specs.declared.parts.SeriesItem.{SeriesItem}
use Rattle.series_op.specs.Arrays.{AreForms, all_arrays, arrays_over, parts_over}
use Rattle.series_op.specs.Slots.{slots_of}
use Rattle.series_op.proofs.SlotSteps.{slots-within}

-- Elements.

pub elements-start : (vs : List Value) → map element (take 0 vs) ≡ []
elements-start vs = refl

pub elements-more : (vs : List Value) (i : ℕ) (v : Value) (d : Dyn) (old new : List Dyn) → i < length vs → v ≡ value_at vs i → d ≡ element v → old ≡ map element (take i vs) → new ≡ old ++ d ∷ [] → new ≡ map element (take (i + 1) vs)
elements-more vs i v d old new lt at is before after =
    after ∙ (ap₂ (λ (xs : List Dyn) (x : Dyn). xs ++ x ∷ []) before (is ∙ ap element at) ∙ sym (map_more element vs i value.Null lt))

pub elements-all : (vs : List Value) (i : ℕ) (ds : List Dyn) → length vs ≤ i → ds ≡ map element (take i vs) → ds ≡ map element vs
elements-all vs i ds all e = e ∙ ap (map element) (take_all i vs all)

pub element-form : (vs : List Value) (i : ℕ) (v : Value) → AreWellFormed vs → i < length vs → v ≡ value_at vs i → IsWellFormed v
element-form vs i v h lt is = subst IsWellFormed (sym is) (h.each i value.Null lt)

pub ruleset element_steps = (elements-start, elements-more, elements-all, element-form)

-- The elements of a group.

pub part-within : (column : List Value) (places : List (Option ℕ)) (count : ℕ) (rows : List ℕ) (slots seen : List (Option ℕ)) → length column ≡ length places → All (λ r. r < length places) rows → slots ≡ slots_of places count rows → seen ≡ slots → All (IsWithin (length column)) seen
part-within column places count rows slots seen long h e same =
    subst (All (IsWithin (length column))) (sym (same ∙ e))
    (slots-within places count (length column) rows (subst (λ n. All (λ r. r < n) rows) (sym long) h))

or-form : (column : List Value) (d : Value) (o : Option ℕ) → AreWellFormed column → IsWellFormed d → IsWithin (length column) o → IsWellFormed (value_or d column o)
or-form column d None h f w = f
or-form column d (Some r) h f w = h.each r value.Null w

pub part-form : (column : List Value) (d : Value) (seen : List (Option ℕ)) (cells : List Value) → AreWellFormed column → IsWellFormed d → All (IsWithin (length column)) seen → cells ≡ map (value_or d column) seen → AreWellFormed cells
part-form column d seen cells h f w is =
    subst AreWellFormed (sym is)
    (record {
      each = All-from_get_or IsWellFormed (map (value_or d column) seen) value.Null
          (λ i lt.
          let inside : i < length seen = omega (arith, lt, length-map seen (value_or d column)) in
          subst IsWellFormed (sym (get_or-map (value_or d column) seen i None value.Null inside))
          (or-form column d (get_or seen i None) h f (All-get_or (IsWithin (length column)) seen i None inside w)));
    })

pub part-is : (column : List Value) (d : Value) (places : List (Option ℕ)) (count : ℕ) (rows : List ℕ) (slots seen : List (Option ℕ)) (cells : List Value) (ds : List Dyn) → slots ≡ slots_of places count rows → seen ≡ slots → cells ≡ map (value_or d column) seen → ds ≡ map element cells → ds ≡ parts_over column d places count rows
unfolding parts_over
part-is column d places count rows slots seen cells ds e same is made = made ∙ ap (map element) (is ∙ ap (map (value_or d column)) (same ∙ e))

pub ruleset part_steps = (part-within, part-form, part-is)

-- Group after group.

pub groups-start : (column : List Value) (d : Value) (groups : List (List ℕ)) (places : List (Option ℕ)) (count : ℕ) → arrays_over column d (take 0 groups) places count ≡ []
unfolding arrays_over
groups-start column d groups places count = refl

pub groups-more : (column : List Value) (d : Value) (groups : List (List ℕ)) (places : List (Option ℕ)) (count g : ℕ) (rows : List ℕ) (parts : List Dyn) (old new : List Value) → g < length groups → rows ≡ get_or groups g [] → parts ≡ parts_over column d places count rows → old ≡ arrays_over column d (take g groups) places count → new ≡ old ++ value.Dynamic (dyn.Array parts) ∷ [] → new ≡ arrays_over column d (take (g + 1) groups) places count
unfolding arrays_over
groups-more column d groups places count g rows parts old new lt is made before after =
    after
    ∙ (ap₂ (λ (xs : List Value) (x : Value). xs ++ x ∷ []) before (ap array (made ∙ ap (parts_over column d places count) is))
    ∙ sym (map_more (λ (rs : List ℕ). array (parts_over column d places count rs)) groups g [] lt))

pub groups-all : (column : List Value) (d : Value) (groups : List (List ℕ)) (places : List (Option ℕ)) (count g : ℕ) (vs : List Value) → length groups ≤ g → vs ≡ arrays_over column d (take g groups) places count → vs ≡ arrays_over column d groups places count
groups-all column d groups places count g vs all e = e ∙ ap (λ (gs : List (List ℕ)). arrays_over column d gs places count) (take_all g groups all)

pub group-below : (groups : List (List ℕ)) (n g : ℕ) (rows : List ℕ) → All (λ rs. All (λ r. r < n) rs) groups → g < length groups → rows ≡ get_or groups g [] → All (λ r. r < n) rows
group-below groups n g rows h lt is = subst (All (λ r. r < n)) (sym is) (h g [] lt)

pub ruleset group_steps = (groups-start, groups-more, groups-all, group-below)

-- Item after item.

pub all-start : (columns : List (List Value)) (items : List SeriesItem) (groups : List (List ℕ)) (places : List (Option ℕ)) (count : ℕ) → all_arrays (take 0 columns) (take 0 items) groups places count ≡ []
unfolding all_arrays
all-start columns items groups places count = refl

arrays-more : (columns : List (List Value)) (items : List SeriesItem) (groups : List (List ℕ)) (places : List (Option ℕ)) (count i : ℕ) (c : List Value) (item : SeriesItem) → i < length columns → i < length items → c ≡ get_or columns i c → item ≡ get_or items i item → all_arrays (take (i + 1) columns) (take (i + 1) items) groups places count ≡ all_arrays (take i columns) (take i items) groups places count ++ arrays_over c item.default.value groups places count ∷ []
unfolding all_arrays
arrays-more [] items groups places count i c item lt inside is same = absurd (omega (arith, lt))
arrays-more (x ∷ xs) [] groups places count i c item lt inside is same = absurd (omega (arith, inside))
arrays-more (x ∷ xs) (y ∷ ys) groups places count zero c item lt inside is same = ap₂ (λ (z : List Value) (j : SeriesItem). arrays_over z j.default.value groups places count ∷ []) (sym is) (sym same)
arrays-more (x ∷ xs) (y ∷ ys) groups places count (suc i) c item lt inside is same =
    let next : suc i + 1 ≡ suc (i + 1) = omega arith in
    rw next (ap (λ (vs : List (List Value)). arrays_over x y.default.value groups places count ∷ vs) (arrays-more xs ys groups places count i c item (omega (arith, lt)) (omega (arith, inside)) is same))

pub all-more : (columns : List (List Value)) (items : List SeriesItem) (groups : List (List ℕ)) (places : List (Option ℕ)) (count i : ℕ) (c v : List Value) (item : SeriesItem) (d : Value) (old new : List (List Value)) → i < length columns → i < length items → c ≡ get_or columns i c → item ≡ get_or items i item → d ≡ item.default.value → v ≡ arrays_over c d groups places count → old ≡ all_arrays (take i columns) (take i items) groups places count → new ≡ old ++ v ∷ [] → new ≡ all_arrays (take (i + 1) columns) (take (i + 1) items) groups places count
all-more columns items groups places count i c v item d old new lt inside is same default made before after =
    after
    ∙ (ap₂ (λ (vs : List (List Value)) (w : List Value). vs ++ w ∷ []) before (made ∙ ap (λ (x : Value). arrays_over c x groups places count) default)
    ∙ sym (arrays-more columns items groups places count i c item lt inside is same))

pub all-done : (columns : List (List Value)) (items : List SeriesItem) (groups : List (List ℕ)) (places : List (Option ℕ)) (count i : ℕ) (vs : List (List Value)) → length columns ≡ length items → length items ≤ i → vs ≡ all_arrays (take i columns) (take i items) groups places count → vs ≡ all_arrays columns items groups places count
all-done columns items groups places count i vs many all e =
    e ∙ ap₂ (λ (cs : List (List Value)) (is : List SeriesItem). all_arrays cs is groups places count) (take_all i columns (omega (arith, many, all))) (take_all i items all)

pub column-long : (columns : List (List Value)) (n i : ℕ) (c : List Value) → HaveLength n columns → i < length columns → c ≡ get_or columns i c → length c ≡ n
column-long columns n i c h lt is = ap (λ (x : List Value). length x) is ∙ HaveLength-at n columns i c h lt

pub forms-at : (columns : List (List Value)) (items : List SeriesItem) (i : ℕ) (c : List Value) (item : SeriesItem) → AreForms columns items → i < length columns → i < length items → c ≡ get_or columns i c → item ≡ get_or items i item → AreWellFormed c × IsWellFormed item.default.value
unfolding AreForms
forms-at [] items i c item h lt inside is same = absurd (omega (arith, lt))
forms-at (x ∷ xs) [] i c item h lt inside is same = absurd (omega (arith, inside))
forms-at (x ∷ xs) (y ∷ ys) zero c item h lt inside is same = (subst AreWellFormed (sym is) h.0.0, subst (λ (j : SeriesItem). IsWellFormed j.default.value) (sym same) h.0.1)
forms-at (x ∷ xs) (y ∷ ys) (suc i) c item h lt inside is same = forms-at xs ys i c item h.1 (omega (arith, lt)) (omega (arith, inside)) is same

pub ruleset all_steps = (all-start, all-more, all-done, column-long)
