-- A filter of keys in front of `summarize`.
use Rattle.std.proofs.Common.{◌≡◌, ◌<◌, ◌+◌, ℕ, zero, suc, Bool, true, false, not, List, [], ◌∷◌, ◌++◌, map, filter, length, get_or, refl, sym, ap, ap₂, ◌∙◌, subst, inl, inr, arith}
use Rattle.std.specs.Prelude.{◌&&◌, bytes_eq, Some, is_some}
use Rattle.std.specs.List.{list_all, range_with_len}
use Rattle.std.proofs.lemmas.Bool.{and_parts, cases_Bool}
use Rattle.kql_cells.specs.Keys.{same_keys-decides}
use Rattle.kql_cells.specs.Seen.{row_at}
use Rattle.kql_cells.specs.Table.{Grid, gathered}
use Rattle.kql_cells.specs.declared.schema.Column.{Column}
use Rattle.kql_cells.specs.declared.value.Kind.TheVariants as kind
use Rattle.kql_cells.specs.declared.value.Value.{Value}
use Rattle.kql_functions.specs.Kinds.{same_kind}
use Rattle.kql_bound.specs.declared.expr.BExpr.{BExpr}
use Rattle.kql_bound.specs.declared.parts.BItem.{BItem}
use Rattle.kql_bound.specs.declared.parts.GroupPlan.{GroupPlan}
use Rattle.kql_bound.specs.declared.plan.Op.{Op}
use Rattle.kql_bound.specs.declared.plan.Op.TheVariants as V
use Rattle.kql_meaning.specs.declared.position.Position.TheVariants as position
use Rattle.kql_meaning.specs.Expressions.{column_kind, kind_of, val}
use Rattle.kql_meaning.specs.Fits.{Known, op_columns}
use Rattle.kql_meaning.specs.FittingExpressions.{expr_fits, fits_as, has_kind, is_key, scope_of}
use Rattle.kql_meaning.specs.FittingOperators.{group_item_fits, has_its_names, item_fits, items_fit, key_item_fits, summarize_fits, where_fits}
use Rattle.kql_meaning.specs.Groups.{distinct_keys, group_of, key_by}
use Rattle.kql_meaning.specs.Items.{items_columns, items_values}
use Rattle.kql_meaning.specs.RowByRow.{are_plain, is_plain}
use Rattle.kql_meaning.specs.Summarize.{group_columns, group_row, group_rows, summarize_table}
use Rattle.kql_meaning.specs.Tables.{cell, distinct_by, has_column, places, places_below}
use Rattle.kql_meaning.specs.Values.{holds, same_keys}
use Rattle.kql_meaning.specs.Where.{where_table}
use Rattle.kql_meaning.proofs.JoinLaws.{map-map}
use Rattle.kql_meaning.proofs.MemberLaws.{Member, member-of-filter, member-of-map, member-of-range}
use Rattle.kql_meaning.proofs.GroupLaws.{of-distinct}
use Rattle.kql_meaning.proofs.OperatorFitLaws.{op-Summarize}
use Rattle.kql_meaning.proofs.PlainFitLaws.{plain_where_fits}
use Rattle.kql_meaning.proofs.RowByRowLaws.{alone, cell-alone, items-alone, passes, results-plain, where-rows}
use Rattle.kql_fit_laws.proofs.RowFacts.{answer-some}
use Rattle.plan_rules.proofs.IdleProjection.{map-members}
use Rattle.kql_meaning.proofs.NamedCells.{cell-named, has-append, has-cons, has-none, kind-append, named}
use Rattle.plan_rules.proofs.PushProject.{Inner, inner-item, item-columns, one-name, some-inner}
use Rattle.plan_rules.proofs.PushRight.{filter-swap}
use Rattle.plan_rules.proofs.ReadFits.{SameColumns, fits-as-alike}
use Rattle.plan_rules.proofs.ReadValues.{agrees, plain-of, val-agrees}
use Rattle.plan_rules.proofs.RowWise.{filter-map, filter-same, filter-yes}
use Rattle.plan_rules.proofs.RuleViews.{both-some, filter-is, group-is, pair-along, when-some}
use Rattle.plan_rules.proofs.ShortRules.{group-means}
use Rattle.plan_rules.proofs.SortedPlaces.{at_kept, count-kept, rows-alike, val-alike}
use Rattle.plan_rules.proofs.Swaps.{filter-front}
use Rattle.plan_rules.proofs.Sizes.{renamed-small}
use Rattle.plan_rules.proofs.Weights.{move-lighter, weight-Summarize, weight-Where}
use Rattle.plan_rules.specs.Becomes.{Becomes}
use Rattle.plan_rules.specs.Improves.{Improves}
use Rattle.plan_rules.specs.OwnNames.{inner_name, inner_or_same}
use Rattle.plan_rules.specs.Reads.{reads_only, with_names}
use Rattle.plan_rules.specs.Rules.{group_then_filter, has_keys, when}
use Rattle.plan_rules.specs.Views.{filter_of, group_of_op}
use Rattle.plan_rules.specs.Weight.{other}

-- Lists.

range-next : {X : Type 0} (f : ℕ → X) (a n : ℕ) → map f (range_with_len (a + 1) n) ≡ map (λ i. f (suc i)) (range_with_len a n)
range-next f a zero = refl
range-next f a (suc n) = let next : a + 1 ≡ suc a = omega arith in ap₂ (λ x xs. x ∷ xs) (ap f next) (range-next f (a + 1) n)

all-at : (xs : List ℕ) → map (λ j. get_or xs j 0) (range_with_len 0 (length xs)) ≡ xs
all-at [] = refl
all-at (x ∷ xs) = ap (λ ys. x ∷ ys) (range-next (λ j. get_or (x ∷ xs) j 0) 0 (length xs) ∙ all-at xs)

filter-members : {X : Type 0} (p : X → Bool) (xs : List X) → ((x : X) → Member x xs → p x ≡ true) → filter p xs ≡ xs
filter-members p xs h = filter-same p (λ x. true) xs h ∙ filter-yes xs

-- The first of each kind among those that pass are those that pass of the first of each.
distinct-filter : (test : List Value → Bool) (xs : List (List Value)) → distinct_by same_keys (filter test xs) ≡ filter test (distinct_by same_keys xs)
unfolding distinct_by
distinct-filter test [] = refl
distinct-filter test (x ∷ xs) =
    let others = λ (y : List Value). not (same_keys x y) in
    let rest = distinct_by same_keys xs in
    elim (cases_Bool (test x)) [
      | inl t ↦ rw t (ap (λ ys. x ∷ ys) (ap (filter others) (distinct-filter test xs) ∙ filter-swap test others rest))
      | inr f ↦
          rw f (distinct-filter test xs
          ∙ (sym (filter-members others (filter test rest) (λ y m. apart x y f (member-of-filter test rest y m).1)) ∙ filter-swap test others rest))
    ]
  where
    apart : (x y : List Value) → test x ≡ false → test y ≡ true → not (same_keys x y) ≡ true
    apart x y f t = elim (cases_Bool (same_keys x y)) [
      | inl s ↦ let no : false ≡ true = sym f ∙ (ap test ((same_keys-decides x y).0 s) ∙ t) in absurd cc
      | inr n ↦ ap not n
    ]

-- A cell in front of more, where there is a value for each column.
named-front : (cs ds : List Column) (row more : List Value) (n : List ℕ) → length row ≡ length cs → has_column n cs ≡ true → named (cs ++ ds) (row ++ more) n ≡ named cs row n
unfolding named
named-front [] ds row more n l h = let no : false ≡ true = sym (has-none n) ∙ h in absurd cc
named-front (c ∷ cs) ds [] more n l h = absurd (omega (arith, l))
named-front (c ∷ cs) ds (v ∷ vs) more n l h = elim (cases_Bool (bytes_eq c.name n)) [
  | inl t ↦ rw t refl
  | inr g ↦ let rest : has_column n cs ≡ true = let e = sym (has-cons c cs n) ∙ h in rw g at e in rw g (named-front cs ds vs more n (omega (arith, l)) rest)
]

-- Keys that fit.

abbrev pub keys_fit : List BItem → List Column → Bool
keys_fit keys cs = list_all (key_item_fits cs) keys

key-parts : (b : BItem) (cs : List Column) → key_item_fits cs b ≡ true → (is_plain b.expr ≡ true) × (item_fits (scope_of cs) position.Plain b ≡ true)
unfolding key_item_fits fits_as item_fits
key-parts b cs e =
    let p = and_parts (expr_fits b.expr (scope_of cs) position.Plain && has_kind is_key (kind_of b.expr cs)) (has_its_names b cs) e in
    let q = and_parts (expr_fits b.expr (scope_of cs) position.Plain) (has_kind is_key (kind_of b.expr cs)) p.0 in
    (plain_where_fits b.expr (scope_of cs) q.0, rw (q.0) p.1)

keys-parts : (keys : List BItem) (cs : List Column) → keys_fit keys cs ≡ true → (are_plain keys ≡ true) × (items_fit keys cs position.Plain ≡ true)
unfolding are_plain items_fit
keys-parts [] cs e = (refl, refl)
keys-parts (b ∷ bs) cs e =
    let p = and_parts (key_item_fits cs b) (keys_fit bs cs) e in
    let one = key-parts b cs p.0 in
    let rest = keys-parts bs cs p.1 in
    (rw (one.0) rest.0, rw (one.1) rest.1)

key-values : (keys : List BItem) → are_plain keys ≡ true → (t : Grid) (i : ℕ) → items_values keys t i ≡ key_by keys t i
unfolding items_values key_by are_plain
key-values [] r t i = refl
key-values (b ∷ bs) r t i =
    let p = and_parts (is_plain b.expr) (are_plain bs) r in
    rw (results-plain b.expr p.0 t i []) (ap (λ vs. val b.expr t i [] ∷ vs) (key-values bs p.1 t i))

columns-long : (keys : List BItem) (cs : List Column) → are_plain keys ≡ true → items_fit keys cs position.Plain ≡ true → (t : Grid) (i : ℕ) → length (key_by keys t i) ≡ length (items_columns keys cs)
unfolding items_columns key_by are_plain items_fit
columns-long [] cs r f t i = refl
columns-long (b ∷ bs) cs r f t i =
    let p = and_parts (is_plain b.expr) (are_plain bs) r in
    let g = and_parts (item_fits (scope_of cs) position.Plain b) (list_all (item_fits (scope_of cs) position.Plain) bs) f in
    let o = one-name position.Plain b cs p.0 g.0 in
    let rest = columns-long bs cs p.1 g.1 t i in
    ap suc rest ∙ sym (ap (λ (ds : List Column). length ds) (item-columns b bs cs o.0 p.0 o.1))

key-plain-at : (keys : List BItem) → are_plain keys ≡ true → (t : Grid) (kept : List ℕ) (j : ℕ) → j < length kept → key_by keys (gathered t kept) j ≡ key_by keys t (at_kept t kept j)
unfolding key_by are_plain
key-plain-at [] r t kept j lt = refl
key-plain-at (b ∷ bs) r t kept j lt =
    let p = and_parts (is_plain b.expr) (are_plain bs) r in
    ap₂ (λ (v : Value) (vs : List Value). v ∷ vs) (val-alike t kept b.expr p.0 j lt) (key-plain-at bs p.1 t kept j lt)

-- A filter that reads keys that are columns.

abbrev pub is_key_column : List BItem → List ℕ → Bool
is_key_column keys n = is_some (inner_name keys n)

module _ (keys items : List BItem) (q : BExpr) (t : Grid) (fit : keys_fit keys t.columns ≡ true) (r : reads_only (is_key_column keys) q ≡ true) where
  abbrev cs : List Column
  cs = t.columns

  abbrev shown : List Column
  shown = items_columns keys cs

  abbrev below : BExpr
  below = with_names (inner_or_same keys) q

  abbrev key : ℕ → List Value
  key i = key_by keys t i

  -- Whether a key passes, and whether a row does.
  abbrev passing : List Value → Bool
  passing k = passes q shown k

  abbrev row_passes : ℕ → Bool
  row_passes i = holds (val below t i [])

  plain-keys : are_plain keys ≡ true
  plain-keys = (keys-parts keys cs fit).0

  fit-keys : items_fit keys cs position.Plain ≡ true
  fit-keys = (keys-parts keys cs fit).1

  inner-of : (n m : List ℕ) → inner_name keys n ≡ Some m → Inner keys cs n m
  inner-of n m e = inner-item position.Plain keys cs plain-keys fit-keys n m e

  key-cell : (i : ℕ) (n m : List ℕ) → inner_name keys n ≡ Some m → named shown (key i) n ≡ cell t i m
  key-cell i n m e =
      let row = row_at t.lines i in
      let same : key i ≡ items_values keys (alone cs row) 0 = sym (key-values keys plain-keys t i) ∙ items-alone keys plain-keys t i in
      ap (λ k. named shown k n) same ∙ ((inner-of n m e).value row ∙ sym (cell-alone t i m))

  passes-alike : (i : ℕ) → passing (key i) ≡ row_passes i
  passes-alike i =
      ap holds (sym ((agrees q (is_key_column keys) (inner_or_same keys) r).0 t (alone shown (key i)) i 0 []
      (λ n h.
      let s = some-inner (inner_name keys n) n h in
      ap (λ m. cell t i m) s.2 ∙ sym (cell-named shown (key i) n ∙ key-cell i n s.0 s.1))))

  -- In front of more columns.
  front-passes : (ds : List Column) (i : ℕ) (more : List Value) → passes q (shown ++ ds) (key i ++ more) ≡ passing (key i)
  front-passes ds i more =
      ap holds (val-agrees q (is_key_column keys) r (alone (shown ++ ds) (key i ++ more)) (alone shown (key i)) 0 0 []
      (λ n h.
      let s = some-inner (inner_name keys n) n h in
      cell-named (shown ++ ds) (key i ++ more) n ∙ (named-front shown ds (key i) more n (columns-long keys cs plain-keys fit-keys t i) (inner-of n s.0 s.1).here ∙ sym (cell-named shown (key i) n))))

  abbrev kept : List ℕ
  kept = filter row_passes (places t)

  abbrev u : Grid
  u = gathered t kept

  in-kept : (j : ℕ) → Member j (places u) → j < length kept
  unfolding places places_below
  in-kept j m = let s = member-of-range 0 (length u.lines) j m in omega (arith, s.1, count-kept t kept)

  at-places : map (at_kept t kept) (places u) ≡ kept
  unfolding places places_below
  at-places = ap (λ n. map (at_kept t kept) (range_with_len 0 n)) (count-kept t kept) ∙ all-at kept

  keys-kept : map (λ j. key_by keys u j) (places u) ≡ filter passing (map key (places t))
  keys-kept =
      map-members (λ j. key_by keys u j) (λ j. key (at_kept t kept j)) (places u) (λ j m. key-plain-at keys plain-keys t kept j (in-kept j m))
      ∙ (sym (map-map key (at_kept t kept) (places u)) ∙ (ap (map key) at-places
      ∙ (ap (map key) (sym (filter-same (λ i. passing (key i)) row_passes (places t) (λ i m. passes-alike i))) ∙ sym (filter-map passing key (places t)))))

  pub distinct-kept : distinct_keys (key_by keys u) u ≡ filter passing (distinct_keys key t)
  unfolding distinct_keys
  distinct-kept = ap (distinct_by same_keys) keys-kept ∙ distinct-filter passing (map key (places t))

  -- The group of a key that passes.
  group-kept : (k : List Value) → passing k ≡ true → group_of (key_by keys u) u k ≡ group_of key t k
  unfolding group_of
  group-kept k h =
      let has = λ (i : ℕ). same_keys (key i) k in
      let here = λ (j : ℕ). same_keys (key_by keys u j) k in
      ap (λ (ls : List (List Value)). record { columns = cs; lines = ls })
      (ap (map (row_at u.lines)) (filter-same here (λ j. has (at_kept t kept j)) (places u) (λ j m. ap (λ v. same_keys v k) (key-plain-at keys plain-keys t kept j (in-kept j m))))
      ∙ (map-members (row_at u.lines) (λ j. row_at t.lines (at_kept t kept j)) (filter (λ j. has (at_kept t kept j)) (places u)) (λ j m. rows-alike t kept j (in-kept j (member-of-filter (λ j. has (at_kept t kept j)) (places u) j m).0))
      ∙ (sym (map-map (row_at t.lines) (at_kept t kept) (filter (λ j. has (at_kept t kept j)) (places u)))
      ∙ ap (map (row_at t.lines)) (sym (filter-map has (at_kept t kept) (places u)) ∙ (ap (filter has) at-places
      ∙ (filter-swap row_passes has (places t)
      ∙ filter-members row_passes (filter has (places t)) (λ i m. sym (passes-alike i) ∙ (ap passing ((same_keys-decides (key i) k).0 (member-of-filter has (places t) i m).1) ∙ h))))))))

  key-of : (k : List Value) → Member k (distinct_keys key t) → (i : ℕ) × (key i ≡ k)
  unfolding distinct_keys
  key-of k m =
      let s = member-of-map key (places t) k (of-distinct (λ k. k) same_keys same_keys-decides (map key (places t)) k m) in
      (s.0, s.2)

  pub rows-kept : (ds : List Column) → filter (passes q (shown ++ ds)) (map (group_row keys items t) (distinct_keys key t)) ≡ map (group_row keys items u) (distinct_keys (key_by keys u) u)
  unfolding group_row
  rows-kept ds =
      let made = λ (k : List Value). k ++ items_values items (group_of key t k) 0 in
      filter-map (passes q (shown ++ ds)) made (distinct_keys key t)
      ∙ (ap (map made) (filter-same (λ k. passes q (shown ++ ds) (made k)) passing (distinct_keys key t)
      (λ k m.
      let s = key-of k m in
      subst (λ v. passes q (shown ++ ds) (v ++ items_values items (group_of key t k) 0) ≡ passing v) s.1 (front-passes ds s.0 (items_values items (group_of key t k) 0))))
      ∙ (map-members made (λ k. k ++ items_values items (group_of (key_by keys u) u k) 0) (filter passing (distinct_keys key t))
      (λ k m. ap (λ g. k ++ items_values items g 0) (sym (group-kept k (member-of-filter passing (distinct_keys key t) k m).1)))
      ∙ ap (map (λ k. k ++ items_values items (group_of (key_by keys u) u k) 0)) (sym distinct-kept)))

-- The operator.

rows-by : (keys items : List BItem) (t : Grid) → has_keys keys ≡ true → group_rows keys items t ≡ map (group_row keys items t) (distinct_keys (key_by keys t) t)
unfolding group_rows
rows-by [] items t h = cc
rows-by (b ∷ bs) items t h = refl

pub group-filter : (g : GroupPlan) (q : BExpr) (t : Grid) → has_keys g.keys ≡ true → keys_fit g.keys t.columns ≡ true → reads_only (is_key_column g.keys) q ≡ true → where_table q (summarize_table g t) ≡ summarize_table g (where_table (with_names (inner_or_same g.keys) q) t)
unfolding summarize_table where_table group_columns
group-filter g q t has fit r =
    let below = with_names (inner_or_same g.keys) q in
    let u = gathered t (filter (λ i. holds (val below t i [])) (places t)) in
    let cs = items_columns g.keys t.columns ++ items_columns g.items t.columns in
    where-rows q (plain-of (is_key_column g.keys) q r) (record { columns = cs; lines = group_rows g.keys g.items t })
    ∙ ap (λ (ls : List (List Value)). record { columns = cs; lines = ls })
    (ap (filter (passes q cs)) (rows-by g.keys g.items t has) ∙ (rows-kept g.keys g.items q t fit r (items_columns g.items t.columns) ∙ sym (rows-by g.keys g.items u has)))

-- Fitting.

group-same : (keys : List BItem) (cs ds : List Column) → keys_fit keys cs ≡ true → SameColumns (is_key_column keys) (inner_or_same keys) cs (items_columns keys cs ++ ds)
group-same keys cs ds fit n h =
    let p = keys-parts keys cs fit in
    let s = some-inner (inner_name keys n) n h in
    let i = inner-item position.Plain keys cs p.0 p.1 n s.0 s.1 in
    let here = i.here in (
      ap (λ m. has_column m cs) s.2 ∙ (i.there ∙ sym (has-append (items_columns keys cs) ds n ∙ rw here refl)),
      ap (λ m. column_kind m cs) s.2 ∙ (sym i.type ∙ sym (kind-append (items_columns keys cs) ds n ∙ rw here refl)),
    )

where-below-groups : (g : GroupPlan) (q : BExpr) (cs : List Column) → keys_fit g.keys cs ≡ true → reads_only (is_key_column g.keys) q ≡ true → where_fits (with_names (inner_or_same g.keys) q) cs ≡ where_fits q (group_columns g cs)
unfolding where_fits group_columns
where-below-groups g q cs fit r = fits-as-alike (same_kind kind.Bool) q (is_key_column g.keys) (inner_or_same g.keys) r cs (items_columns g.keys cs ++ items_columns g.items cs) (group-same g.keys cs (items_columns g.items cs) fit) position.Window

made : (g : GroupPlan) (k : Known) (inside : Bool) (cs mid : List Column) → op_columns (V.Summarize g) k inside cs ≡ Some mid → (keys_fit g.keys cs ≡ true) × (group_columns g cs ≡ mid)
unfolding summarize_fits
made g k inside cs mid e =
    let a = answer-some (summarize_fits g cs) (group_columns g cs) mid (sym (op-Summarize g k inside cs) ∙ e) in
    ((and_parts (list_all (group_item_fits cs) g.items) (keys_fit g.keys cs) a.0).1, a.1)

pub group-filter-becomes : (k : Known) (inside : Bool) (cs : List Column) (g : GroupPlan) (q : BExpr) → has_keys g.keys ≡ true → reads_only (is_key_column g.keys) q ≡ true → Becomes k inside cs (V.Summarize g ∷ V.Where q ∷ []) (V.Where (with_names (inner_or_same g.keys) q) ∷ V.Summarize g ∷ [])
group-filter-becomes k inside cs g q has r =
    filter-front k inside cs (V.Summarize g) q (with_names (inner_or_same g.keys) q) (λ w t. summarize_table g t) (group-means g)
    (λ mid e f. let m = made g k inside cs mid e in where-below-groups g q cs m.0 r ∙ (ap (where_fits q) m.1 ∙ f))
    (λ mid e w t s h. group-filter g q t has (ap (keys_fit g.keys) h.0 ∙ (made g k inside cs mid e).0) r)

pub group_then_filter-improves : (k : Known) (inside : Bool) (cs : List Column) (x y : Op) (zs : List Op) → group_then_filter x y ≡ Some zs → Improves k inside cs (x ∷ y ∷ []) zs
unfolding group_then_filter
group_then_filter-improves k inside cs x y zs e =
    let r = both-some (group_of_op x) (filter_of y) (λ g q. when (has_keys g.keys && reads_only (is_key_column g.keys) q) (V.Where (with_names (inner_or_same g.keys) q) ∷ V.Summarize g ∷ [])) zs e in
    let g = r.0 in
    let below = with_names (inner_or_same g.keys) r.1 in
    let s = when-some (has_keys g.keys && reads_only (is_key_column g.keys) r.1) (V.Where below ∷ V.Summarize g ∷ []) zs r.4 in
    let b = and_parts (has_keys g.keys) (reads_only (is_key_column g.keys) r.1) s.0 in
    pair-along k inside cs x y (V.Summarize g) (V.Where r.1) zs (V.Where below ∷ V.Summarize g ∷ []) (group-is x g r.2) (filter-is y r.1 r.3) s.1 (record {
      becomes = group-filter-becomes k inside cs g r.1 b.0 b.1;
      lighter = move-lighter (V.Summarize g) (V.Where r.1) (V.Where below) other (weight-Where r.1) (weight-Where below) (weight-Summarize g) (omega arith);
      no_longer = omega arith;
      no_larger = renamed-small (V.Summarize g) (inner_or_same g.keys) r.1;
    })
