-- Items, keys and what is made of them: folded, they fit where they fitted, and mean the same.
use Rattle.std.proofs.Common.{◌≡◌, ℕ, Bool, true, List, [], ◌∷◌, ◌++◌, length, map, refl, ap, ap₂, ◌∙◌}
use Rattle.std.proofs.Math.Path.{fun_ext}
use Rattle.std.specs.Prelude.{◌&&◌, ◌==◌, not, filter, take, if◌then◌else◌}
use Rattle.std.specs.List.{list_all}
use Rattle.std.specs.Ordering.{nat_cmp, ordering_then}
use Rattle.std.specs.declared.cmp.Ordering.{Ordering}
use Rattle.std.proofs.lemmas.Bool.{and_from, and_parts}
use Rattle.kql_cells.specs.Table.{Grid, gathered}
use Rattle.kql_cells.specs.declared.schema.Column.{Column}
use Rattle.kql_cells.specs.declared.value.Kind.{Kind}
use Rattle.kql_cells.specs.declared.value.Kind.TheVariants as kind
use Rattle.kql_cells.specs.declared.value.Value.{Value}
use Rattle.kql_dynamic.specs.Arrays.{array}
use Rattle.kql_functions.specs.Kinds.{same_kind}
use Rattle.kql_scalar_fns.specs.Dynamic.{element}
use Rattle.kql_bound.specs.declared.expr.BExpr.{BExpr}
use Rattle.kql_bound.specs.declared.parts.BItem.{BItem}
use Rattle.kql_bound.specs.declared.parts.BKey.{BKey}
use Rattle.kql_bound.specs.declared.parts.GroupPlan.{GroupPlan}
use Rattle.kql_bound.specs.declared.parts.ParsePlan.{ParsePlan}
use Rattle.kql_bound.specs.declared.parts.SeriesItem.{SeriesItem}
use Rattle.kql_bound.specs.declared.parts.SeriesPlan.{SeriesPlan}
use Rattle.kql_meaning.specs.declared.position.Position.{Position}
use Rattle.kql_meaning.specs.declared.position.Position.TheVariants as position
use Rattle.kql_meaning.specs.Expressions.{kind_of}
use Rattle.kql_meaning.specs.Extend.{extend_columns, extend_table}
use Rattle.kql_meaning.specs.FittingExpressions.{call_or_expr_fits, expr_fits, fits_as, is_aggregate_call, is_key, is_kind, scope_of}
use Rattle.kql_meaning.specs.FittingOperators.{bins_fit, group_item_fits, has_its_names, is_empty, item_fits, items_fit, key_item_fits, parse_fits, series_fits, series_item_fits, sort_fits, sort_key_fits, summarize_fits}
use Rattle.kql_meaning.specs.Groups.{distinct_keys, group_of, key_by}
use Rattle.kql_meaning.specs.Items.{cells_in, items_columns, items_names, items_values, named_columns, without}
use Rattle.kql_meaning.specs.Literals.{literal_fits}
use Rattle.kql_meaning.specs.MakeSeries.{axis_of, bins, falls_in, is_inside, of_bin, rows_in_bin, rows_inside, series_columns, series_item_columns, series_of, series_row, series_rows, series_table}
use Rattle.kql_cells.specs.Ordered.{text_in}
use Rattle.kql_meaning.specs.Cuts.{cut}
use Rattle.kql_meaning.specs.Parse.{cut_values, parse_columns, parse_table, parsed_values, pattern_columns, pattern_names}
use Rattle.kql_meaning.specs.Project.{project_table}
use Rattle.kql_meaning.specs.Sort.{key_cmp, keys_cmp, pair_cmp, risen, sort_table, sorted_places, top_table}
use Rattle.kql_meaning.specs.Summarize.{group_columns, group_row, group_rows, summarize_table}
use Rattle.kql_meaning.specs.Tables.{places}
use Rattle.kql_meaning.specs.Values.{holds}
use Rattle.kql_meaning.specs.Where.{where_table}
use Rattle.plan_rules.specs.Folding.{folded, is_folded}
use Rattle.plan_rules.specs.FoldedPlans.{are_folded, are_keys_folded, folded_group, folded_item, folded_items, folded_keys, folded_parse, folded_series, folded_series_item}
use Rattle.plan_rules.proofs.FoldedExpressions.{folds, folds-as, group-folds}
use Rattle.plan_rules.proofs.FoldedReadings.{folded-kind, folded-val}
use Rattle.plan_rules.proofs.FoldedShapes.{folded-call, folded-result-kinds, folded-results}

-- Items.

pub columns-folded : (items : List BItem) (cs : List Column) → items_columns (folded_items items) cs ≡ items_columns items cs
unfolding items_columns folded_items
columns-folded [] cs = refl
columns-folded (b ∷ bs) cs = ap₂ (λ (ks : List Kind) (more : List Column). named_columns b.names ks ++ more) (folded-result-kinds b.expr cs) (columns-folded bs cs)

pub values-folded : (items : List BItem) (t : Grid) (i : ℕ) → items_values (folded_items items) t i ≡ items_values items t i
unfolding items_values folded_items
values-folded [] t i = refl
values-folded (b ∷ bs) t i = ap₂ (λ (vs more : List Value). vs ++ more) (folded-results b.expr t i []) (values-folded bs t i)

pub names-folded : (items : List BItem) → items_names (folded_items items) ≡ items_names items
unfolding items_names folded_items
names-folded [] = refl
names-folded (b ∷ bs) = ap (λ (more : List (List ℕ)). b.names ++ more) (names-folded bs)

names-fit : (b : BItem) (cs : List Column) → has_its_names (folded_item b) cs ≡ has_its_names b cs
unfolding has_its_names
names-fit b cs = ap (λ (ks : List Kind). length b.names == length ks) (folded-result-kinds b.expr cs)

pub items-good : (items : List BItem) (cs : List Column) (at : Position) → items_fit items cs at ≡ true → (items_fit (folded_items items) cs at ≡ true) × (are_folded (folded_items items) ≡ true)
unfolding items_fit item_fits folded_items are_folded
items-good [] cs at h = (refl, refl)
items-good (b ∷ bs) cs at h =
    let p = and_parts (item_fits (scope_of cs) at b) (list_all (item_fits (scope_of cs) at) bs) h in
    let q = and_parts (expr_fits b.expr (scope_of cs) at) (has_its_names b cs) p.0 in
    let one = folds b.expr (scope_of cs) at q.0 in
    let more = items-good bs cs at p.1 in
    (rw (one.0, names-fit b cs, q.1, more.0) refl, rw (one.1, more.1) refl)

pub key-items-good : (items : List BItem) (cs : List Column) → list_all (key_item_fits cs) items ≡ true → (list_all (key_item_fits cs) (folded_items items) ≡ true) × (are_folded (folded_items items) ≡ true)
unfolding key_item_fits folded_items are_folded
key-items-good [] cs h = (refl, refl)
key-items-good (b ∷ bs) cs h =
    let p = and_parts (key_item_fits cs b) (list_all (key_item_fits cs) bs) h in
    let q = and_parts (fits_as is_key b.expr (scope_of cs) position.Plain) (has_its_names b cs) p.0 in
    let one = folds-as is_key b.expr (scope_of cs) position.Plain q.0 in
    let more = key-items-good bs cs p.1 in
    (rw (one.0, names-fit b cs, q.1, more.0) refl, rw (one.1, more.1) refl)

pub group-items-good : (items : List BItem) (cs : List Column) → list_all (group_item_fits cs) items ≡ true → (list_all (group_item_fits cs) (folded_items items) ≡ true) × (are_folded (folded_items items) ≡ true)
unfolding group_item_fits folded_items are_folded
group-items-good [] cs h = (refl, refl)
group-items-good (b ∷ bs) cs h =
    let p = and_parts (group_item_fits cs b) (list_all (group_item_fits cs) bs) h in
    let q = and_parts (call_or_expr_fits b.expr (scope_of cs) position.Group) (has_its_names b cs) p.0 in
    let one = group-folds b.expr (scope_of cs) position.Group q.0 in
    let more = group-items-good bs cs p.1 in
    (rw (one.0, names-fit b cs, q.1, more.0) refl, rw (one.1, more.1) refl)

-- Extend and project.

pub extend-columns-folded : (items : List BItem) (cs : List Column) → extend_columns (folded_items items) cs ≡ extend_columns items cs
unfolding extend_columns
extend-columns-folded items cs = ap₂ (λ ns (more : List Column). without ns cs ++ more) (names-folded items) (columns-folded items cs)

pub extend-folded : (items : List BItem) (t : Grid) → extend_table (folded_items items) t ≡ extend_table items t
unfolding extend_table
extend-folded items t =
    ap₂ (λ (cs : List Column) (row : ℕ → List Value). record { columns = cs; lines = map row (places t) }) (extend-columns-folded items t.columns)
    (fun_ext (λ i. ap₂ (λ ns (vs : List Value). cells_in (without ns t.columns) t i ++ vs) (names-folded items) (values-folded items t i)))

pub project-folded : (items : List BItem) (t : Grid) → project_table (folded_items items) t ≡ project_table items t
unfolding project_table
project-folded items t =
    ap₂ (λ (cs : List Column) (row : ℕ → List Value). record { columns = cs; lines = map row (places t) }) (columns-folded items t.columns) (fun_ext (λ i. values-folded items t i))

-- Where.

pub where-folded : (e : BExpr) (t : Grid) → where_table (folded e) t ≡ where_table e t
unfolding where_table
where-folded e t = ap (λ (test : ℕ → Bool). gathered t (filter test (places t))) (fun_ext (λ i. ap holds (folded-val e t i [])))

-- Sort and top.

pub keys-good : (keys : List BKey) (cs : List Column) → sort_fits keys cs ≡ true → (sort_fits (folded_keys keys) cs ≡ true) × (are_keys_folded (folded_keys keys) ≡ true)
unfolding sort_fits sort_key_fits folded_keys are_keys_folded
keys-good [] cs h = (refl, refl)
keys-good (k ∷ ks) cs h =
    let p = and_parts (sort_key_fits cs k) (list_all (sort_key_fits cs) ks) h in
    let one = folds-as is_key k.expr (scope_of cs) position.Plain p.0 in
    let more = keys-good ks cs p.1 in
    (rw (one.0, more.0) refl, rw (one.1, more.1) refl)

keys-cmp-folded : (keys : List BKey) (t : Grid) (i j : ℕ) → keys_cmp (folded_keys keys) t i j ≡ keys_cmp keys t i j
unfolding keys_cmp folded_keys key_cmp
keys-cmp-folded [] t i j = refl
keys-cmp-folded (k ∷ ks) t i j =
    ap₂ ordering_then (ap₂ (λ (v w : Value). key_cmp k v w) (folded-val k.expr t i []) (folded-val k.expr t j [])) (keys-cmp-folded ks t i j)

sorted-folded : (keys : List BKey) (t : Grid) → sorted_places (folded_keys keys) t ≡ sorted_places keys t
unfolding sorted_places pair_cmp
sorted-folded keys t =
    ap (λ (cmp : ℕ → ℕ → Ordering). risen cmp (places t)) (fun_ext (λ i. fun_ext (λ j. ap (λ o. ordering_then o (nat_cmp i j)) (keys-cmp-folded keys t i j))))

pub sort-folded : (keys : List BKey) (t : Grid) → sort_table (folded_keys keys) t ≡ sort_table keys t
unfolding sort_table
sort-folded keys t = ap (gathered t) (sorted-folded keys t)

pub top-folded : (n : ℕ) (keys : List BKey) (t : Grid) → top_table n (folded_keys keys) t ≡ top_table n keys t
unfolding top_table
top-folded n keys t = ap (λ (is : List ℕ). gathered t (take n is)) (sorted-folded keys t)

-- Summarize.

key-at : (keys : List BItem) (t : Grid) (i : ℕ) → key_by (folded_items keys) t i ≡ key_by keys t i
unfolding key_by folded_items
key-at [] t i = refl
key-at (b ∷ bs) t i = ap₂ (λ (v : Value) (vs : List Value). v ∷ vs) (folded-val b.expr t i []) (key-at bs t i)

pub key-by-folded : (keys : List BItem) (t : Grid) → key_by (folded_items keys) t ≡ key_by keys t
key-by-folded keys t = fun_ext (λ i. key-at keys t i)

group-row-folded : (keys items : List BItem) (t : Grid) (k : List Value) → group_row (folded_items keys) (folded_items items) t k ≡ group_row keys items t k
unfolding group_row
group-row-folded keys items t k =
    ap (λ (vs : List Value). k ++ vs) (values-folded items (group_of (key_by (folded_items keys) t) t k) 0 ∙ ap (λ (by : ℕ → List Value). items_values items (group_of by t k) 0) (key-by-folded keys t))

group-rows-folded : (keys items : List BItem) (t : Grid) → group_rows (folded_items keys) (folded_items items) t ≡ group_rows keys items t
unfolding group_rows folded_items
group-rows-folded [] items t = ap (λ (vs : List Value). vs ∷ []) (values-folded items t 0)
group-rows-folded (key ∷ keys) items t =
    ap₂ (λ (row : List Value → List Value) (ks : List (List Value)). map row ks) (fun_ext (λ k. group-row-folded (key ∷ keys) items t k))
    (ap (λ (by : ℕ → List Value). distinct_keys by t) (key-by-folded (key ∷ keys) t))

pub group-columns-folded : (g : GroupPlan) (cs : List Column) → group_columns (folded_group g) cs ≡ group_columns g cs
unfolding group_columns folded_group
group-columns-folded g cs = ap₂ (λ (a b : List Column). a ++ b) (columns-folded g.keys cs) (columns-folded g.items cs)

pub summarize-folded : (g : GroupPlan) (t : Grid) → summarize_table (folded_group g) t ≡ summarize_table g t
unfolding summarize_table folded_group
summarize-folded g t = ap₂ (λ (cs : List Column) (ls : List (List Value)). record { columns = cs; lines = ls }) (group-columns-folded g t.columns) (group-rows-folded g.keys g.items t)

pub summarize-good : (g : GroupPlan) (cs : List Column) → summarize_fits g cs ≡ true → (summarize_fits (folded_group g) cs ≡ true) × ((are_folded (folded_group g).items && are_folded (folded_group g).keys) ≡ true)
unfolding summarize_fits folded_group
summarize-good g cs h =
    let p = and_parts (list_all (group_item_fits cs) g.items) (list_all (key_item_fits cs) g.keys) h in
    let items = group-items-good g.items cs p.0 in
    let keys = key-items-good g.keys cs p.1 in
    (and_from (list_all (group_item_fits cs) (folded_items g.items)) (list_all (key_item_fits cs) (folded_items g.keys)) items.0 keys.0, and_from (are_folded (folded_items g.items)) (are_folded (folded_items g.keys)) items.1 keys.1)

-- Make-series.

abbrev series_items_folded : List SeriesItem → Bool
series_items_folded items = list_all (λ (i : SeriesItem). is_folded i.expr) items

series-items-good : (items : List SeriesItem) (cs : List Column) → list_all (series_item_fits cs) items ≡ true → (list_all (series_item_fits cs) (map folded_series_item items) ≡ true) × (series_items_folded (map folded_series_item items) ≡ true)
unfolding series_item_fits
series-items-good [] cs h = (refl, refl)
series-items-good (i ∷ is) cs h =
    let p = and_parts (series_item_fits cs i) (list_all (series_item_fits cs) is) h in
    let of_default = literal_fits i.default && is_kind i.default.kind (kind_of i.expr cs) in
    let q = and_parts (is_aggregate_call i.expr) (expr_fits i.expr (scope_of cs) position.Series && of_default) p.0 in
    let r = and_parts (expr_fits i.expr (scope_of cs) position.Series) of_default q.1 in
    let one = folds i.expr (scope_of cs) position.Series r.0 in
    let more = series-items-good is cs p.1 in
    (rw (folded-call i.expr q.0, one.0, folded-kind i.expr cs, r.1, more.0) refl, rw (one.1, more.1) refl)

bins-folded : (p : SeriesPlan) (cs : List Column) → bins_fit (folded_series p) cs ≡ bins_fit p cs
unfolding bins_fit folded_series
bins-folded p cs = refl

pub series-good : (p : SeriesPlan) (cs : List Column) → series_fits p cs ≡ true → (series_fits (folded_series p) cs ≡ true) × ((series_items_folded (folded_series p).items && are_folded (folded_series p).keys) ≡ true)
unfolding series_fits folded_series
series-good p cs h =
    let q = and_parts (bins_fit p cs) (list_all (series_item_fits cs) p.items && list_all (key_item_fits cs) p.keys) h in
    let r = and_parts (list_all (series_item_fits cs) p.items) (list_all (key_item_fits cs) p.keys) q.1 in
    let items = series-items-good p.items cs r.0 in
    let keys = key-items-good p.keys cs r.1 in
    (rw (bins-folded p cs, q.0, items.0, keys.0) refl, rw (items.1, keys.1) refl)

series-item-columns-folded : (items : List SeriesItem) → series_item_columns (map folded_series_item items) ≡ series_item_columns items
unfolding series_item_columns
series-item-columns-folded [] = refl
series-item-columns-folded (i ∷ is) = ap (λ (cs : List Column). record { name = i.name; kind = kind.Dynamic } ∷ cs) (series-item-columns-folded is)

pub series-columns-folded : (p : SeriesPlan) (cs : List Column) → series_columns (folded_series p) cs ≡ series_columns p cs
unfolding series_columns folded_series
series-columns-folded p cs =
    ap₂ (λ (a b : List Column). a ++ (b ++ record { name = p.axis; kind = kind.Dynamic } ∷ [])) (columns-folded p.keys cs) (series-item-columns-folded p.items)

of-bin-folded : (i : SeriesItem) (g : Grid) → of_bin (folded_series_item i) g ≡ of_bin i g
unfolding of_bin
of-bin-folded i g = ap (λ v. if length g.lines == 0 then i.default.value else v) (folded-val i.expr g 0 [])

series-of-folded : (p : SeriesPlan) (g : Grid) (i : SeriesItem) → series_of (folded_series p) g (folded_series_item i) ≡ series_of p g i
unfolding series_of rows_in_bin falls_in bins folded_series
series-of-folded p g i = ap (λ (value : Grid → Value). array (map (λ b. element (value (rows_in_bin p g b))) (bins p))) (fun_ext (λ g. of-bin-folded i g))

all-series : (p : SeriesPlan) (g : Grid) (items : List SeriesItem) → map (series_of (folded_series p) g) (map folded_series_item items) ≡ map (series_of p g) items
all-series p g [] = refl
all-series p g (i ∷ is) = ap₂ (λ (v : Value) (vs : List Value). v ∷ vs) (series-of-folded p g i) (all-series p g is)

axis-folded : (p : SeriesPlan) → axis_of (folded_series p) ≡ axis_of p
unfolding axis_of bins folded_series
axis-folded p = refl

series-row-folded : (p : SeriesPlan) (t : Grid) (k : List Value) → series_row (folded_series p) t k ≡ series_row p t k
unfolding series_row folded_series
series-row-folded p t k =
    ap₂ (λ (vs : List Value) (axis : Value). k ++ (vs ++ axis ∷ []))
    (ap (λ (by : ℕ → List Value). map (series_of (folded_series p) (group_of by t k)) (map folded_series_item p.items)) (key-by-folded p.keys t) ∙ all-series p (group_of (key_by p.keys t) t k) p.items) (axis-folded p)

series-rows-folded : (p : SeriesPlan) (t : Grid) → series_rows (folded_series p) t ≡ series_rows p t
unfolding series_rows folded_series
series-rows-folded p t =
    ap₂ (λ (row : List Value → List Value) (ks : List (List Value)). map row ks) (fun_ext (λ k. series-row-folded p t k))
    (ap (λ (by : ℕ → List Value). distinct_keys by t) (key-by-folded p.keys t))

inside-folded : (p : SeriesPlan) (t : Grid) → rows_inside (folded_series p) t ≡ rows_inside p t
unfolding rows_inside is_inside folded_series
inside-folded p t = refl

pub series-folded : (p : SeriesPlan) (t : Grid) → series_table (folded_series p) t ≡ series_table p t
unfolding series_table
series-folded p t =
    ap₂ (λ (cs : List Column) (ls : List (List Value)). record { columns = cs; lines = ls }) (series-columns-folded p t.columns)
    (ap (series_rows (folded_series p)) (inside-folded p t) ∙ series-rows-folded p (rows_inside p t))

-- Parse.

pub parse-good : (p : ParsePlan) (cs : List Column) → parse_fits p cs ≡ true → (parse_fits (folded_parse p) cs ≡ true) × (is_folded (folded_parse p).text ≡ true)
unfolding parse_fits folded_parse
parse-good p cs h =
    let q = and_parts (fits_as (same_kind kind.Text) p.text (scope_of cs) position.Plain) (not (is_empty p.pattern)) h in
    let one = folds-as (same_kind kind.Text) p.text (scope_of cs) position.Plain q.0 in
    (rw (one.0, q.1) refl, one.1)

pub parse-columns-folded : (p : ParsePlan) (cs : List Column) → parse_columns (folded_parse p) cs ≡ parse_columns p cs
unfolding parse_columns folded_parse
parse-columns-folded p cs = refl

pub parse-folded : (p : ParsePlan) (t : Grid) → parse_table (folded_parse p) t ≡ parse_table p t
unfolding parse_table parse_columns parsed_values folded_parse
parse-folded p t =
    ap (λ (text : ℕ → Value). record {
      columns = without (pattern_names p.pattern) t.columns ++ pattern_columns p.pattern;
      lines = map (λ i. cells_in (without (pattern_names p.pattern) t.columns) t i ++ cut_values p.pattern (text_in (text i)) (cut p.relaxed p.pattern (text_in (text i)))) (places t);
    }) (fun_ext (λ i. folded-val p.text t i []))
