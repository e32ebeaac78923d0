-- The rows of a series from the columns of its summary.
use Rattle.std.proofs.Common.{◌≡◌, ◌==◌, ◌<◌, ◌+◌, true, false, List, [], ◌∷◌, ◌++◌, ℕ, zero, suc, ℤ, pos, drop, get_or, length, map, take, refl, ap, ap₂, sym, ◌∙◌, subst, inl, inr, arith}
use Rattle.std.specs.Prelude.{◌+ℤ◌, ◌*ℤ◌, Contains, None, Option, Some}
use Rattle.std.specs.List.{range_with_len}
use Rattle.std.proofs.lemmas.Bool.{eq-eqb, ne_eqb}
use Rattle.std.proofs.lemmas.List.{drop_at, get_or-map, get_or_default, length-append, length-map, take_at}
use Rattle.kql_cells.specs.Keys.{same_keys, same_keys-decides}
use Rattle.kql_cells.specs.Seen.{value_at}
use Rattle.kql_cells.specs.Table.{Grid, IsGrid}
use Rattle.kql_cells.specs.declared.value.Value.{Value}
use Rattle.kql_cells.specs.declared.value.Value.TheVariants as value
use Rattle.kql_dynamic.specs.Arrays.{array}
use Rattle.kql_scalar_fns.specs.Dynamic.{element}
use Rattle.kql_values.specs.Grids.{row_of, rows_of}
use Rattle.kql_values.specs.Moves.{value_or}
use Rattle.kql_values.proofs.GridLaws.{row_of-length, rows_of-at}
use Rattle.kql_bound.specs.declared.parts.SeriesItem.{SeriesItem}
use Rattle.kql_bound.specs.declared.parts.SeriesPlan.{SeriesPlan}
use Rattle.kql_meaning.specs.Expressions.{val}
use Rattle.kql_meaning.specs.Groups.{distinct_keys, group_of, key_by}
use Rattle.kql_meaning.specs.MakeSeries.{axis_of, bins, of_bin, rows_in_bin, series_of, series_row, series_rows}
use Rattle.kql_meaning.specs.Numbers.{terms}
use Rattle.kql_meaning.specs.Sources.{number_in}
use Rattle.kql_meaning.specs.Summarize.{group_row, group_rows, summarize_table}
use Rattle.kql_meaning.specs.Tables.{distinct_by, places_below}
use Rattle.kql_meaning.specs.Values.{number_as, number_of}
use Rattle.kql_meaning.proofs.GroupLaws.{keys_are_of_rows}
use Rattle.kql_meaning.proofs.JoinLaws.{map-map}
use Rattle.kql_meaning.proofs.MemberLaws.{Member, contains-member, member-at, member-filter, member-of-filter, member-of-range, member-range}
use Rattle.kql_row_laws.proofs.GatheredLaws.{at-each}
use Rattle.series_op.specs.Arrays.{all_arrays, arrays_over, parts_over}
use Rattle.series_op.specs.Bins.{AreBins, ArePlaces, start_of}
use Rattle.series_op.specs.Grouped.{AreGrouped, places_like, rows_once}
use Rattle.series_op.specs.Slots.{slots_of}
use Rattle.series_op.specs.Summary.{bin_expr, bin_item, group_item, summary_plan}
use Rattle.series_op.proofs.BinKeys.{FitBins, as-number, bin-key, bin-numbered}
use Rattle.series_op.proofs.BinRows.{bin-rows, group-none, group-some, with_start}
use Rattle.series_op.proofs.DistinctLaws.{rest_of, rests-are}
use Rattle.series_op.proofs.SlotLaws.{slots-hold, slots-long}
use Rattle.series_op.proofs.SummaryFits.{AreCalls, values-are}

pub map-range-same : {X : Type 0} (f g : ℕ → X) (a n : ℕ) → ((i : ℕ) → i < a + n → f i ≡ g i) → map f (range_with_len a n) ≡ map g (range_with_len a n)
map-range-same f g a zero h = refl
map-range-same f g a (suc n) h = ap₂ (λ x xs. x ∷ xs) (h a (omega arith)) (map-range-same f g (a + 1) n (λ i lt. h i (omega (arith, lt))))

pub row-of-append : (cs ds : List (List Value)) (g : ℕ) → row_of (cs ++ ds) g ≡ row_of cs g ++ row_of ds g
unfolding row_of
row-of-append [] ds g = refl
row-of-append (c ∷ cs) ds g = ap (λ (vs : List Value). value_at c g ∷ vs) (row-of-append cs ds g)

-- The key of a row: the start of its bin, and behind it the group's key.
abbrev pub start_at : SeriesPlan → Grid → ℕ → Value
start_at p u i = val (bin_expr p) u i []

abbrev pub pair_at : SeriesPlan → Grid → ℕ → List Value
pair_at p u = with_start (start_at p u) (key_by p.keys u)

-- The values of the items over the rows of a key.
abbrev pub item_values : SeriesPlan → Grid → List Value → List Value
item_values p u k = map (λ (i : SeriesItem). val i.expr (group_of (pair_at p u) u k) 0 []) p.items

-- The rows of the summary.

one-line : (p : SeriesPlan) (u : Grid) (k : List Value) → AreCalls p.items → group_row (bin_item p ∷ p.keys) (map group_item p.items) u k ≡ k ++ item_values p u k
unfolding group_row key_by bin_item
one-line p u k c = ap (λ (vs : List Value). k ++ vs) (values-are p.items (group_of (pair_at p u) u k) c)

each-line : (p : SeriesPlan) (u : Grid) (ks : List (List Value)) → AreCalls p.items → map (group_row (bin_item p ∷ p.keys) (map group_item p.items) u) ks ≡ map (λ (k : List Value). k ++ item_values p u k) ks
each-line p u [] c = refl
each-line p u (k ∷ ks) c = ap₂ (λ (r : List Value) (rs : List (List Value)). r ∷ rs) (one-line p u k c) (each-line p u ks c)

pub summary-lines : (p : SeriesPlan) (u : Grid) → AreCalls p.items → (summarize_table (summary_plan p) u).lines ≡ map (λ (k : List Value). k ++ item_values p u k) (distinct_keys (pair_at p u) u)
unfolding summarize_table summary_plan group_rows key_by bin_item
summary-lines p u c = each-line p u (distinct_keys (pair_at p u) u) c

-- The columns of the summary.

-- What the columns of a summary have at each of its rows.
pub record AreSummary (p : SeriesPlan) (u : Grid) (m : ℕ) (starts : List Value) (keys values : List (List Value)) : Type 0 where
  pub many : length (distinct_keys (pair_at p u) u) ≡ m
  pub long : length starts ≡ m
  pub key : (r : ℕ) → r < m → get_or (distinct_keys (pair_at p u) u) r [] ≡ value_at starts r ∷ row_of keys r
  pub items : (r : ℕ) → r < m → row_of values r ≡ item_values p u (value_at starts r ∷ row_of keys r)

front-same : (xs ys cs ds : List Value) → xs ++ ys ≡ cs ++ ds → length ys ≡ length ds → (xs ≡ cs) × (ys ≡ ds)
front-same xs ys cs ds e len =
    let all : length xs + length ys ≡ length cs + length ds = sym (length-append xs ys) ∙ (ap length e ∙ length-append cs ds) in
    let size : length xs ≡ length cs = omega (arith, all, len) in (
      sym (take_at xs ys (length xs) refl) ∙ (ap (take (length xs)) e ∙ take_at cs ds (length xs) (sym size)),
      sym (drop_at xs ys (length xs) refl) ∙ (ap (drop (length xs)) e ∙ drop_at cs ds (length xs) (sym size)),
    )

first-row : (c : List Value) (cs : List (List Value)) (r : ℕ) → value_at c r ∷ row_of cs r ≡ row_of (c ∷ cs) r
unfolding row_of
first-row c cs r = refl

pub summary-is : (p : SeriesPlan) (u : Grid) (m : ℕ) (starts : List Value) (keys values : List (List Value)) (lines : List (List Value)) → AreCalls p.items → lines ≡ (summarize_table (summary_plan p) u).lines → m ≡ length lines → rows_of m (starts ∷ (keys ++ values)) ≡ lines → length starts ≡ m → length values ≡ length p.items → AreSummary p u m starts keys values
summary-is p u m starts keys values lines c is size made long many =
    let ks = distinct_keys (pair_at p u) u in
    let full = λ (k : List Value). k ++ item_values p u k in
    let all : lines ≡ map full ks = is ∙ summary-lines p u c in
    let count : length ks ≡ m = sym (size ∙ (ap length all ∙ length-map ks full)) in
    let both : (r : ℕ) → r < m → (value_at starts r ∷ row_of keys r ≡ get_or ks r []) × (row_of values r ≡ item_values p u (get_or ks r [])) =
    λ r lt.
    let row : value_at starts r ∷ (row_of keys r ++ row_of values r) ≡ full (get_or ks r []) =
    ap (λ (vs : List Value). value_at starts r ∷ vs) (sym (row-of-append keys values r))
    ∙ (first-row starts (keys ++ values) r
    ∙ (sym (rows_of-at m (starts ∷ (keys ++ values)) r [] lt)
    ∙ (ap (λ (ls : List (List Value)). get_or ls r []) (made ∙ all) ∙ get_or-map full ks r [] [] (omega (arith, lt, count))))) in
    front-same (value_at starts r ∷ row_of keys r) (row_of values r) (get_or ks r []) (item_values p u (get_or ks r [])) row
    (row_of-length values r ∙ (many ∙ sym (length-map p.items (λ (i : SeriesItem). val i.expr (group_of (pair_at p u) u (get_or ks r [])) 0 [])))) in
    record {
      many = count;
      long = long;
      key = λ r lt. sym (both r lt).0;
      items = λ r lt. (both r lt).1 ∙ ap (item_values p u) (sym (both r lt).0);
    }

-- The groups of the summary's rows are those of the rows inside.

pub keys-once : (p : SeriesPlan) (u : Grid) (m : ℕ) (starts : List Value) (keys values : List (List Value)) → AreSummary p u m starts keys values → rows_once keys m ≡ distinct_keys (key_by p.keys u) u
unfolding rows_once rows_of
keys-once p u m starts keys values s =
    let ks = distinct_keys (pair_at p u) u in
    let rests : map (row_of keys) (range_with_len 0 m) ≡ map rest_of ks =
    ap (λ n. map (row_of keys) (range_with_len 0 n)) (sym s.many)
    ∙ at-each [] (row_of keys) rest_of ks (λ r lt. sym (ap rest_of (s.key r (omega (arith, lt, s.many))))) in
    ap (distinct_by same_keys) rests ∙ rests-are (start_at p u) (key_by p.keys u) u

-- The bins of a group.

firsts : (v w : Value) (vs ws : List Value) → v ∷ vs ≡ w ∷ ws → v ≡ w
firsts v w vs ws e = cc

others : (v w : Value) (vs ws : List Value) → v ∷ vs ≡ w ∷ ws → vs ≡ ws
others v w vs ws e = cc

rows-start : (n : ℕ) (cs : List (List Value)) → rows_of n cs ≡ map (row_of cs) (range_with_len 0 n)
unfolding rows_of
rows-start n cs = refl

one-row : (c : List Value) (n : ℕ) → row_of (c ∷ []) n ≡ value_at c n ∷ []
unfolding row_of
one-row c n = refl

-- What is known of the rows inside, the bins and the summary.
pub record IsKnown (p : SeriesPlan) (u : Grid) (nb : ℕ) (m : ℕ) (starts : List Value) (keys values : List (List Value)) (places : List (Option ℕ)) : Type 0 where
  pub fits : FitBins p u.columns
  pub table : IsGrid u
  pub bins : AreBins p nb
  pub summary : AreSummary p u m starts keys values
  pub placed : ArePlaces p nb starts places

module _ (p : SeriesPlan) (u : Grid) (nb : ℕ) (m : ℕ) (starts : List Value) (keys values : List (List Value)) (places : List (Option ℕ)) (h : IsKnown p u nb m starts keys values places) where
  abbrev bin_value : ℕ → Value
  bin_value k = number_as p.from.kind (start_of p k)

  -- The rows of a group in a bin have one key.
  one-key : (g : List Value) (k : ℕ) → k < nb → rows_in_bin p (group_of (key_by p.keys u) u g) (start_of p k) ≡ group_of (pair_at p u) u (bin_value k ∷ g)
  one-key g k lt = bin-rows p u (start_at p u) (key_by p.keys u) (start_of p k) (bin_value k) g (λ i inside. bin-key p u i (start_of p k) h.fits h.table inside (h.bins.form k lt))

  key-there : (r : ℕ) → r < m → Contains (distinct_keys (pair_at p u) u) (value_at starts r ∷ row_of keys r)
  key-there r lt =
      let ks = distinct_keys (pair_at p u) u in
      let inside : r < length ks = omega (arith, lt, h.summary.many) in
      let z = value_at starts r ∷ row_of keys r in
      contains-member ks z (member-at ks z r inside (get_or_default ks r z [] inside ∙ h.summary.key r lt))

  -- The start of a bin that has a row is the value of the bin.
  start-is : (r k : ℕ) → r < m → number_of (value_at starts r) ≡ Some (start_of p k) → value_at starts r ≡ bin_value k
  start-is r k lt e =
      let q = (keys_are_of_rows (pair_at p u) u).1 (value_at starts r ∷ row_of keys r) (key-there r lt) in
      let first : start_at p u q.0 ≡ value_at starts r = firsts (start_at p u q.0) (value_at starts r) (key_by p.keys u q.0) (row_of keys r) q.2 in
      sym first ∙ bin-numbered p u q.0 (start_of p k) h.fits h.table q.1 (ap number_of first ∙ e)

  -- A row of the group that stands in a bin is that of the bin's key.
  row-inside : (g : List Value) (r : ℕ) → Member r (places_like keys m g) → (r < m) × (row_of keys r ≡ g)
  unfolding places_like
  row-inside g r in_group =
      let q = member-of-filter (λ s. same_keys g (row_of keys s)) (range_with_len 0 m) r in_group in
      let inside = member-of-range 0 m r q.0 in
      (omega (arith, inside.1), sym ((same_keys-decides g (row_of keys r)).0 q.1))

  inside-row : (g : List Value) (r : ℕ) → r < m → row_of keys r ≡ g → Member r (places_like keys m g)
  unfolding places_like
  inside-row g r lt e = member-filter (λ s. same_keys g (row_of keys s)) (range_with_len 0 m) r (member-range 0 m r (omega arith) (omega (arith, lt))) ((same_keys-decides g (row_of keys r)).1 (sym e))

  -- The value of an item in a bin is that of its column at the row that stands there.
  abbrev IsOfItem : SeriesItem → List Value → Type 0
  IsOfItem i c = (r : ℕ) → r < m → value_at c r ≡ val i.expr (group_of (pair_at p u) u (value_at starts r ∷ row_of keys r)) 0 []

  some-bin : (i : SeriesItem) (t : Grid) → (n : ℕ) → length t.lines ≡ suc n → of_bin i t ≡ val i.expr t 0 []
  unfolding of_bin
  some-bin i t n e = let test : (length t.lines == 0) ≡ false = ne_eqb (length t.lines) 0 (λ z. absurd (omega (arith, e, z))) in rw test refl

  no-bin : (i : SeriesItem) (t : Grid) → length t.lines ≡ 0 → of_bin i t ≡ i.default.value
  unfolding of_bin
  no-bin i t e = let test : (length t.lines == 0) ≡ true = eq-eqb (length t.lines) 0 e in rw test refl

  no-row : (g : List Value) (k : ℕ) → k < nb → ((r : ℕ) → Member r (places_like keys m g) → get_or places r None ≡ Some k → ⊥) → Contains (distinct_keys (pair_at p u) u) (bin_value k ∷ g) → ⊥
  no-row g k lt none there =
      let r = there.0 in
      let inside : r < m = omega (arith, there.1, h.summary.many) in
      let key : value_at starts r ∷ row_of keys r ≡ bin_value k ∷ g = sym (h.summary.key r inside) ∙ (get_or_default (distinct_keys (pair_at p u) u) r [] (bin_value k ∷ g) there.1 ∙ there.2) in
      let number : number_of (value_at starts r) ≡ Some (start_of p k) = ap number_of (firsts (value_at starts r) (bin_value k) (row_of keys r) g key) ∙ as-number p.from.kind p.step.kind (start_of p k) h.fits.stepped in
      none r (inside-row g r inside (others (value_at starts r) (bin_value k) (row_of keys r) g key)) ((h.placed.each r (omega (arith, inside, h.summary.long))).all k lt number)

  at-bin : (i : SeriesItem) (c : List Value) (g : List Value) (k : ℕ) → IsOfItem i c → k < nb → value_or i.default.value c (get_or (slots_of places nb (places_like keys m g)) k None) ≡ of_bin i (rows_in_bin p (group_of (key_by p.keys u) u g) (start_of p k))
  at-bin i c g k of lt =
      let z = bin_value k ∷ g in
      let t = group_of (pair_at p u) u z in
      let same : of_bin i (rows_in_bin p (group_of (key_by p.keys u) u g) (start_of p k)) ≡ of_bin i t = ap (of_bin i) (one-key g k lt) in
      elim (slots-hold places nb (places_like keys m g) k lt) [
        | inl q ↦
            let r = q.0 in
            let row = row-inside g r q.2 in
            let starts_at = (h.placed.each r (omega (arith, row.0, h.summary.long))).starts k q.3 in
            let first = start-is r k row.0 starts_at in
            let key : value_at starts r ∷ row_of keys r ≡ z = ap₂ (λ (v : Value) (vs : List Value). v ∷ vs) first row.1 in
            let some = group-some (pair_at p u) u z (subst (Contains (distinct_keys (pair_at p u) u)) key (key-there r row.0)) in
            ap (value_or i.default.value c) q.1
            ∙ (of r row.0
            ∙ (ap (λ (y : List Value). val i.expr (group_of (pair_at p u) u y) 0 []) key
            ∙ sym (same ∙ some-bin i t some.0 some.1)))
        | inr q ↦
            ap (value_or i.default.value c) q.0
            ∙ sym (same ∙ no-bin i t (group-none (pair_at p u) u z (λ there. no-row g k lt q.1 there)))
      ]

  -- The array of a group.
  bins-are : bins p ≡ map (start_of p) (range_with_len 0 nb)
  unfolding bins terms places_below
  bins-are = ap (λ n. map (λ k. number_in p.from +ℤ pos k *ℤ number_in p.step) (range_with_len 0 n)) (sym h.bins.counted)

  pub array-is : (i : SeriesItem) (c : List Value) (g : List Value) → IsOfItem i c → array (parts_over c i.default.value places nb (places_like keys m g)) ≡ series_of p (group_of (key_by p.keys u) u g) i
  unfolding parts_over series_of
  array-is i c g of =
      let slots = slots_of places nb (places_like keys m g) in
      let size = slots-long places nb (places_like keys m g) in
      let f = λ (k : ℕ). element (of_bin i (rows_in_bin p (group_of (key_by p.keys u) u g) (start_of p k))) in
      let parts : map element (map (value_or i.default.value c) slots) ≡ map f (range_with_len 0 nb) =
      map-map element (value_or i.default.value c) slots
      ∙ (sym (at-each None f (λ (s : Option ℕ). element (value_or i.default.value c s)) slots (λ k lt. ap element (sym (at-bin i c g k of (omega (arith, lt, size))))))
      ∙ ap (λ n. map f (range_with_len 0 n)) size) in
      ap array (parts ∙ (sym (map-map (λ (x : ℤ). element (of_bin i (rows_in_bin p (group_of (key_by p.keys u) u g) x))) (start_of p) (range_with_len 0 nb)) ∙ ap (map (λ (x : ℤ). element (of_bin i (rows_in_bin p (group_of (key_by p.keys u) u g) x)))) (sym bins-are)))

  -- The arrays of all items at a group.
  arrays-at : (cs : List (List Value)) (items : List SeriesItem) (groups : List (List ℕ)) (n : ℕ) (g : List Value) → n < length groups → get_or groups n [] ≡ places_like keys m g → length cs ≡ length items → ((r : ℕ) → r < m → row_of cs r ≡ map (λ (i : SeriesItem). val i.expr (group_of (pair_at p u) u (value_at starts r ∷ row_of keys r)) 0 []) items) → row_of (all_arrays cs items groups places nb) n ≡ map (series_of p (group_of (key_by p.keys u) u g)) items
  unfolding row_of all_arrays arrays_over
  arrays-at [] [] groups n g lt is len of = refl
  arrays-at [] (i ∷ is) groups n g lt at len of = absurd (omega (arith, len))
  arrays-at (c ∷ cs) [] groups n g lt at len of = absurd (omega (arith, len))
  arrays-at (c ∷ cs) (i ∷ is) groups n g lt at len of =
      let mine : IsOfItem i c = λ r inside. firsts (value_at c r) (val i.expr (group_of (pair_at p u) u (value_at starts r ∷ row_of keys r)) 0 []) (row_of cs r) (map (λ (j : SeriesItem). val j.expr (group_of (pair_at p u) u (value_at starts r ∷ row_of keys r)) 0 []) is) (of r inside) in
      ap₂ (λ (v : Value) (vs : List Value). v ∷ vs)
      (get_or-map (λ (rows : List ℕ). array (parts_over c i.default.value places nb rows)) groups n [] value.Null lt
      ∙ (ap (λ (rows : List ℕ). array (parts_over c i.default.value places nb rows)) at ∙ array-is i c g mine))
      (arrays-at cs is groups n g lt at (omega (arith, len)) (λ r inside. others (value_at c r) (val i.expr (group_of (pair_at p u) u (value_at starts r ∷ row_of keys r)) 0 []) (row_of cs r) (map (λ (j : SeriesItem). val j.expr (group_of (pair_at p u) u (value_at starts r ∷ row_of keys r)) 0 []) is) (of r inside)))

  -- The rows of all groups.
  pub rows-are : (count : ℕ) (gkeys arrays : List (List Value)) (axis : List Value) (groups : List (List ℕ)) → AreGrouped keys m gkeys groups → count ≡ length groups → length values ≡ length p.items → arrays ≡ all_arrays values p.items groups places nb → ((n : ℕ) → n < count → value_at axis n ≡ axis_of p) → rows_of count (gkeys ++ (arrays ++ axis ∷ [])) ≡ series_rows p u
  unfolding series_rows series_row
  rows-are count gkeys arrays axis groups a size many is each =
      let ds = distinct_keys (key_by p.keys u) u in
      let once : rows_once keys m ≡ ds = keys-once p u m starts keys values h.summary in
      let all : groups ≡ map (places_like keys m) ds = a.places ∙ ap (map (places_like keys m)) once in
      let wide : length ds ≡ count = sym (size ∙ (ap length all ∙ length-map ds (places_like keys m))) in
      let columns = gkeys ++ (arrays ++ axis ∷ []) in
      let row = λ (k : List Value). k ++ (map (series_of p (group_of (key_by p.keys u) u k)) p.items ++ axis_of p ∷ []) in
      rows-start count columns
      ∙ (ap (λ n. map (row_of columns) (range_with_len 0 n)) (sym wide)
      ∙ at-each [] (row_of columns) row ds
      (λ n lt.
      let inside : n < count = omega (arith, lt, wide) in
      let g = get_or ds n [] in
      let key : row_of gkeys n ≡ g = sym (rows_of-at (length groups) gkeys n [] (omega (arith, inside, size))) ∙ ap (λ (ks : List (List Value)). get_or ks n []) (a.keys_once ∙ once) in
      let rows : get_or groups n [] ≡ places_like keys m g = ap (λ (ls : List (List ℕ)). get_or ls n []) all ∙ get_or-map (places_like keys m) ds n [] [] lt in
      let items : row_of arrays n ≡ map (series_of p (group_of (key_by p.keys u) u g)) p.items =
      ap (λ (cs : List (List Value)). row_of cs n) is ∙ arrays-at values p.items groups n g (omega (arith, inside, size)) rows many h.summary.items in
      row-of-append gkeys (arrays ++ axis ∷ []) n
      ∙ ap₂ (λ (us vs : List Value). us ++ vs) key
      (row-of-append arrays (axis ∷ []) n ∙ ap₂ (λ (us vs : List Value). us ++ vs) items (one-row axis n ∙ ap (λ (v : Value). v ∷ []) (each n inside)))))
