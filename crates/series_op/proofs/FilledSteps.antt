-- The answer's columns from those of the summary.
use Rattle.std.proofs.Common.{◌≡◌, ◌<◌, ◌≤◌, ◌+◌, ◌-◌, true, List, [], ◌∷◌, ◌++◌, ℕ, zero, suc, drop, filter, get_or, length, map, take, ap, ap₂, sym, ◌∙◌, subst, arith}
use Rattle.std.specs.Prelude.{◌&&◌, All, Option, replicate}
use Rattle.std.specs.List.{AllByRecursion, list_all, range_with_len}
use Rattle.std.proofs.lemmas.Bool.{and_parts}
use Rattle.std.proofs.lemmas.List.{get_or-replicate, length-append, length-drop, length-map, length-replicate, take-append-drop, take_all}
use Rattle.std.proofs.lemmas.List.Elements.{All-from_recursion, All-weaker}
use Rattle.kql_cells.specs.Keys.{same_keys}
use Rattle.kql_cells.specs.Seen.{value_at}
use Rattle.kql_cells.specs.Table.{CellFits, Grid, IsGrid}
use Rattle.kql_cells.specs.Values.{IsWellFormed}
use Rattle.kql_cells.specs.declared.schema.Column.{Column}
use Rattle.kql_cells.specs.declared.value.Value.{Value}
use Rattle.kql_cells.specs.declared.value.Value.TheVariants as value
use Rattle.kql_scalar_fns.specs.Arguments.{AreWellFormed}
use Rattle.kql_values.specs.Grids.{ColumnsFit, HaveLength, row_of, rows_of}
use Rattle.kql_values.proofs.GridLaws.{HaveLength-append, HaveLength-push}
use Rattle.kql_values.proofs.TableLaws.{fits-HaveLength, fits-length}
use Rattle.kql_bound.specs.declared.literal.Lit.{Lit}
use Rattle.kql_bound.specs.declared.parts.SeriesItem.{SeriesItem}
use Rattle.kql_bound.specs.declared.parts.SeriesPlan.{SeriesPlan}
use Rattle.kql_meaning.specs.FittingOperators.{bins_fit, key_item_fits, series_fits, series_item_fits}
use Rattle.kql_meaning.specs.Items.{items_columns}
use Rattle.kql_meaning.specs.Literals.{is_of_kind, is_well_formed, literal_fits}
use Rattle.kql_meaning.specs.MakeSeries.{axis_of}
use Rattle.kql_meaning.specs.Summarize.{summarize_table}
use Rattle.kql_meaning.specs.Tables.{names_of}
use Rattle.kql_meaning.proofs.LiteralLaws.{is_well_formed-decides}
use Rattle.kql_meaning.proofs.MemberLaws.{every-of-members, member-of-filter, member-of-range}
use Rattle.series_op.specs.Arrays.{AreForms, all_arrays, arrays_over}
use Rattle.series_op.specs.Bins.{AreBins, ArePlaces}
use Rattle.series_op.specs.Filled.{IsFilled}
use Rattle.series_op.specs.Grouped.{AreGrouped, places_like, rows_once}
use Rattle.series_op.specs.Summary.{group_item, summary_plan}
use Rattle.series_op.proofs.FilledLaws.{AreSummary, IsKnown, rows-are, summary-is}
use Rattle.series_op.proofs.SummaryFits.{FitParts, calls-of, columns-are, fit-parts, item-call, summary-columns}

-- How many columns the summary has.

summary-wide : (p : SeriesPlan) (cs : List Column) → list_all (series_item_fits cs) p.items ≡ true → length (items_columns (map group_item p.items) cs) ≡ length p.items
unfolding names_of
summary-wide p cs e =
    let ds = items_columns (map group_item p.items) cs in
    sym (length-map ds (λ (c : Column). c.name)) ∙ (ap length (columns-are p.items cs (calls-of cs p.items e)) ∙ length-map p.items (λ (i : SeriesItem). i.name))

columns-of : (p : SeriesPlan) (u : Grid) → (n : ℕ) × ((list_all (series_item_fits u.columns) p.items ≡ true) → length (summarize_table (summary_plan p) u).columns ≡ suc (n + length p.items))
unfolding summarize_table
columns-of p u =
    let keys = items_columns p.keys u.columns in
    let items = items_columns (map group_item p.items) u.columns in
    (length keys, λ e. ap length (summary-columns p u.columns) ∙ ap suc (length-append keys items ∙ ap (λ n. length keys + n) (summary-wide p u.columns e)))

-- What is given of the summary's columns.
pub record IsGiven (p : SeriesPlan) (u s : Grid) (vs : List (List Value)) : Type 0 where
  pub fits : series_fits p u.columns ≡ true
  pub summary : s ≡ summarize_table (summary_plan p) u
  pub columns : ColumnsFit s.columns (length s.lines) vs
  pub rows : rows_of (length s.lines) vs ≡ s.lines

width : (p : SeriesPlan) (u s : Grid) (vs : List (List Value)) → IsGiven p u s vs → (n : ℕ) × (length vs ≡ suc (n + length p.items))
width p u s vs g =
    let f = fit-parts p u.columns g.fits in
    let q = columns-of p u in
    (q.0, fits-length s.columns (length s.lines) vs g.columns ∙ (ap (λ (t : Grid). length t.columns) g.summary ∙ q.1 f.items))

pub not-empty : (p : SeriesPlan) (u s : Grid) (vs : List (List Value)) → IsGiven p u s vs → length vs ≡ 0 → ⊥
not-empty p u s vs g none = let q = width p u s vs g in absurd (omega (arith, q.1, none))

pub enough : (p : SeriesPlan) (u s : Grid) (vs others : List (List Value)) (starts : List Value) → IsGiven p u s vs → vs ≡ starts ∷ others → length p.items ≤ length others
enough p u s vs others starts g is =
    let q = width p u s vs g in
    let size : length vs ≡ suc (length others) = ap length is in
    omega (arith, q.1, size)

-- Parts of columns.

every-drop : (P : List Value → Type 0) (k : ℕ) (xs : List (List Value)) → AllByRecursion P xs → AllByRecursion P (drop k xs)
every-drop P zero xs h = h
every-drop P (suc k) [] h = tt
every-drop P (suc k) (x ∷ xs) h = every-drop P k xs h.1

long-drop : (n k : ℕ) (xs : List (List Value)) → HaveLength n xs → HaveLength n (drop k xs)
unfolding HaveLength
long-drop n zero xs h = h
long-drop n (suc k) [] h = tt
long-drop n (suc k) (x ∷ xs) h = long-drop n k xs h.1

long-take : (n k : ℕ) (xs : List (List Value)) → HaveLength n xs → HaveLength n (take k xs)
unfolding HaveLength
long-take n zero xs h = tt
long-take n (suc k) [] h = tt
long-take n (suc k) (x ∷ xs) h = (h.0, long-take n k xs h.1)

first-long : (n : ℕ) (x : List Value) (xs : List (List Value)) → HaveLength n (x ∷ xs) → (length x ≡ n) × HaveLength n xs
unfolding HaveLength
first-long n x xs h = h

columns-formed : (cs : List Column) (n : ℕ) (vs : List (List Value)) → ColumnsFit cs n vs → AllByRecursion AreWellFormed vs
unfolding ColumnsFit
columns-formed [] n [] h = tt
columns-formed [] n (v ∷ vs) h = absurd h
columns-formed (c ∷ cs) n [] h = absurd h
columns-formed (c ∷ cs) n (v ∷ vs) h = (record { each = All-weaker (CellFits c) IsWellFormed (λ x f. f.1) v h.0.1 }, columns-formed cs n vs h.1)

default-formed : (l : Lit) → literal_fits l ≡ true → IsWellFormed l.value
unfolding literal_fits
default-formed l e = (is_well_formed-decides l.value).0 (and_parts (is_of_kind l.kind l.value) (is_well_formed l.value) e).1

items-formed : (cs : List Column) (items : List SeriesItem) (vs : List (List Value)) → list_all (series_item_fits cs) items ≡ true → AllByRecursion AreWellFormed vs → AreForms vs items
unfolding AreForms
items-formed cs items [] e h = tt
items-formed cs [] (v ∷ vs) e h = tt
items-formed cs (i ∷ is) (v ∷ vs) e h =
    let parts = and_parts (series_item_fits cs i) (list_all (series_item_fits cs) is) e in
    ((h.0, default-formed i.default (item-call cs i parts.0).2), items-formed cs is vs parts.1 h.1)

-- The columns as the function takes them apart.
pub record IsParted (p : SeriesPlan) (u : Grid) (m : ℕ) (starts : List Value) (keys values : List (List Value)) : Type 0 where
  pub parts : FitParts p u.columns
  pub long : length starts ≡ m
  pub keys_long : HaveLength m keys
  pub values_long : HaveLength m values
  pub many : length values ≡ length p.items
  pub forms : AreForms values p.items
  pub summary : AreSummary p u m starts keys values

pub parted : (p : SeriesPlan) (u s : Grid) (vs others keys values : List (List Value)) (starts : List Value) (k m : ℕ) → IsGiven p u s vs → vs ≡ starts ∷ others → k ≡ length others - length p.items → keys ≡ take k others → values ≡ drop k others → m ≡ length s.lines → IsParted p u m starts keys values
parted p u s vs others keys values starts k m g is cut front back size =
    let f = fit-parts p u.columns g.fits in
    let few = enough p u s vs others starts g is in
    let all = fits-HaveLength s.columns (length s.lines) vs g.columns in
    let here = first-long (length s.lines) starts others (subst (HaveLength (length s.lines)) is all) in
    let formed = columns-formed s.columns (length s.lines) vs g.columns in
    let rest : AllByRecursion AreWellFormed others = (subst (AllByRecursion AreWellFormed) is formed).1 in
    let many : length values ≡ length p.items = ap length back ∙ (length-drop k others ∙ omega (arith, cut, few)) in
    let joined : keys ++ values ≡ others = ap₂ (λ (xs ys : List (List Value)). xs ++ ys) front back ∙ take-append-drop k others in
    let rows : rows_of m (starts ∷ (keys ++ values)) ≡ s.lines =
    ap₂ (λ (n : ℕ) (cs : List (List Value)). rows_of n cs) size (ap (λ (cs : List (List Value)). starts ∷ cs) joined ∙ sym is) ∙ g.rows in
    let long : length starts ≡ m = here.0 ∙ sym size in
    record {
      parts = f;
      long = long;
      keys_long = subst (λ n. HaveLength n keys) (sym size) (subst (HaveLength (length s.lines)) (sym front) (long-take (length s.lines) k others here.1));
      values_long = subst (λ n. HaveLength n values) (sym size) (subst (HaveLength (length s.lines)) (sym back) (long-drop (length s.lines) k others here.1));
      many = many;
      forms = items-formed u.columns p.items values f.items (subst (AllByRecursion AreWellFormed) (sym back) (every-drop AreWellFormed k others rest));
      summary = summary-is p u m starts keys values s.lines (calls-of u.columns p.items f.items) (ap (λ (t : Grid). t.lines) g.summary) size rows long many;
    }

-- The first column, and those behind it.

front-rest : (vs : List (List Value)) (x : List Value) → 1 ≤ length vs → x ≡ get_or vs 0 x → vs ≡ x ∷ take (length vs - 1) (drop 1 vs)
front-rest [] x some is = absurd (omega (arith, some))
front-rest (v ∷ vs) x some is =
    let less : length (v ∷ vs) - 1 ≡ length vs = omega arith in
    rw less (ap₂ (λ (y : List Value) (ys : List (List Value)). y ∷ ys) (sym is) (sym (take_all (length vs) vs (omega arith))))

pub others-long : (vs : List (List Value)) (x : List Value) → 1 ≤ length vs → x ≡ get_or vs 0 x → length vs - 1 ≡ length (take (length vs - 1) (drop 1 vs))
others-long vs x some is =
    let size : length vs ≡ suc (length (take (length vs - 1) (drop 1 vs))) = ap (λ (xs : List (List Value)). length xs) (front-rest vs x some is) in
    omega (arith, size)

pub given-parted : (p : SeriesPlan) (u s : Grid) (vs keys values : List (List Value)) (starts : List Value) (j k m : ℕ) → series_fits p u.columns ≡ true → s ≡ summarize_table (summary_plan p) u → rows_of (length s.lines) vs ≡ s.lines → ColumnsFit s.columns (length s.lines) vs → 1 ≤ length vs → starts ≡ get_or vs 0 starts → j ≡ length p.items → keys ≡ take k (take (length vs - 1) (drop 1 vs)) → values ≡ drop k (take (length vs - 1) (drop 1 vs)) → k ≡ length (take (length vs - 1) (drop 1 vs)) - j → m ≡ length s.lines → IsParted p u m starts keys values
given-parted p u s vs keys values starts j k m fits summary rows columns some first items front back cut size =
    parted p u s vs (take (length vs - 1) (drop 1 vs)) keys values starts k m
    (record { fits = fits; summary = summary; columns = columns; rows = rows })
    (front-rest vs starts some first)
    (cut ∙ ap (λ n. length (take (length vs - 1) (drop 1 vs)) - n) items)
    front back size

-- The bins fit.
pub bins-asked : (p : SeriesPlan) (u : Grid) (cs ds : List Column) → series_fits p u.columns ≡ true → cs ≡ u.columns → ds ≡ cs → bins_fit p ds ≡ true
unfolding series_fits
bins-asked p u cs ds e schema same =
    ap (bins_fit p) (same ∙ schema) ∙ (and_parts (bins_fit p u.columns) (list_all (series_item_fits u.columns) p.items && list_all (key_item_fits u.columns) p.keys) e).0

-- The rows of the groups are rows of the summary.

like-below : (columns : List (List Value)) (m n : ℕ) → n ≡ m → (k : List Value) → All (λ r. r < n) (places_like columns m k)
unfolding places_like
like-below columns m n same k =
    let q = λ (r : ℕ). same_keys k (row_of columns r) in
    All-from_recursion (λ r. r < n) (filter q (range_with_len 0 m)) (every-of-members (λ r. r < n) (filter q (range_with_len 0 m)) (λ r in_group. let inside = member-of-range 0 m r (member-of-filter q (range_with_len 0 m) r in_group).0 in omega (arith, inside.1, same)))

all-below : (columns : List (List Value)) (m n : ℕ) → n ≡ m → (ks : List (List Value)) → AllByRecursion (λ rs. All (λ r. r < n) rs) (map (places_like columns m) ks)
all-below columns m n same [] = tt
all-below columns m n same (k ∷ ks) = (like-below columns m n same k, all-below columns m n same ks)

pub rows-below : (columns : List (List Value)) (m n : ℕ) (keys : List (List Value)) (groups : List (List ℕ)) → AreGrouped columns m keys groups → n ≡ m → All (λ rs. All (λ r. r < n) rs) groups
rows-below columns m n keys groups a same =
    subst (All (λ rs. All (λ r. r < n) rs)) (sym a.places)
    (All-from_recursion (λ rs. All (λ r. r < n) rs) (map (places_like columns m) (rows_once columns m)) (all-below columns m n same (rows_once columns m)))

-- All columns have so many values.

arrays-long : (cs : List (List Value)) (items : List SeriesItem) (groups : List (List ℕ)) (places : List (Option ℕ)) (count : ℕ) → HaveLength (length groups) (all_arrays cs items groups places count)
unfolding HaveLength all_arrays arrays_over
arrays-long [] items groups places count = tt
arrays-long (c ∷ cs) [] groups places count = tt
arrays-long (c ∷ cs) (i ∷ is) groups places count = (length-map groups _, arrays-long cs is groups places count)

pub filled-is : (p : SeriesPlan) (u : Grid) (nb m count : ℕ) (starts axis : List Value) (keys values gkeys arrays all : List (List Value)) (places : List (Option ℕ)) (groups : List (List ℕ)) → IsGrid u → IsParted p u m starts keys values → AreBins p nb → ArePlaces p nb starts places → AreGrouped keys m gkeys groups → arrays ≡ all_arrays values p.items groups places nb → axis ≡ replicate count (axis_of p) → count ≡ length groups → all ≡ gkeys ++ (arrays ++ axis ∷ []) → IsFilled p u all count
filled-is p u nb m count starts axis keys values gkeys arrays all places groups table d b placed a made repeated size is =
    let known : IsKnown p u nb m starts keys values places = record { fits = d.parts.bins; table = table; bins = b; summary = d.summary; placed = placed } in
    let long : length axis ≡ count = ap (λ (vs : List Value). length vs) repeated ∙ length-replicate count (axis_of p) in
    let each : HaveLength (length groups) arrays = subst (HaveLength (length groups)) (sym made) (arrays-long values p.items groups places nb) in
    let both : HaveLength (length groups) (gkeys ++ (arrays ++ axis ∷ [])) = HaveLength-append (length groups) gkeys (arrays ++ axis ∷ []) a.long (HaveLength-push (length groups) arrays axis each (long ∙ size)) in
    let rows = rows-are p u nb m starts keys values places known count gkeys arrays axis groups a size d.many made
    (λ n lt. ap (λ (vs : List Value). value_at vs n) repeated ∙ get_or-replicate count n (axis_of p) value.Null lt) in
    record {
      long = subst (HaveLength count) (sym is) (subst (λ n. HaveLength n (gkeys ++ (arrays ++ axis ∷ []))) (sym size) both);
      rows = ap (rows_of count) is ∙ rows;
    }

pub ruleset filled_steps = (not-empty, enough, rows-below)
