-- A filter of left key columns in front of a join that takes the first left row of each key.
use Rattle.std.proofs.Common.{◌≡◌, ◌≤◌, ◌<◌, nat_lt, ℕ, Bool, true, false, not, List, [], ◌∷◌, ◌++◌, map, filter, length, get_or, refl, sym, ap, ◌∙◌, subst, inl, inr, arith}
use Rattle.std.specs.Prelude.{◌&&◌, bytes_eq, Some}
use Rattle.std.specs.List.{list_any, range_with_len}
use Rattle.std.specs.List.Sorted.{IsStrictlySortedBy}
use Rattle.std.specs.Ordering.{nat_cmp}
use Rattle.std.proofs.Math.Nat.{eq-or-lt_of_le}
use Rattle.std.proofs.lemmas.Bool.{and_parts, cases_Bool}
use Rattle.std.proofs.lemmas.Cmp.{nat_cmp_total}
use Rattle.std.proofs.lemmas.Slice.Eq.{bytes_eq-Decides}
use Rattle.kql_cells.specs.Keys.{same_keys-decides}
use Rattle.kql_cells.specs.Seen.{row_at}
use Rattle.kql_cells.specs.Table.{Grid, RowFits, gathered}
use Rattle.kql_cells.specs.declared.schema.Column.{Column}
use Rattle.kql_cells.specs.declared.value.Value.{Value}
use Rattle.kql_bound.specs.declared.expr.BExpr.{BExpr}
use Rattle.kql_bound.specs.declared.parts.JoinKind.{JoinKind}
use Rattle.kql_bound.specs.declared.parts.JoinKind.TheVariants as join
use Rattle.kql_bound.specs.declared.parts.JoinPlan.{JoinPlan}
use Rattle.kql_bound.specs.declared.parts.OnPair.{OnPair}
use Rattle.kql_bound.specs.declared.plan.Op.{Op}
use Rattle.kql_bound.specs.declared.plan.Op.TheVariants as V
use Rattle.kql_bound.specs.declared.plan.Plan.{Plan}
use Rattle.kql_meaning.specs.Expressions.{val}
use Rattle.kql_meaning.specs.Fits.{Known, joined_columns, plan_columns}
use Rattle.kql_meaning.specs.FittingOperators.{where_fits}
use Rattle.kql_meaning.specs.Groups.{firsts_of_keys, is_first_of_key}
use Rattle.kql_meaning.specs.Join.{both_columns, inner_rows, join_columns, join_rows, join_table, left_key, renamed, shown_columns}
use Rattle.kql_meaning.specs.Laws.{first_places}
use Rattle.kql_meaning.specs.Plans.{plan_means}
use Rattle.kql_meaning.specs.RowByRow.{is_plain}
use Rattle.kql_meaning.specs.Tables.{cell, has_column, is_name_among, names_of, places, places_below}
use Rattle.kql_meaning.specs.Values.{holds, same_keys}
use Rattle.kql_meaning.specs.Where.{where_table}
use Rattle.kql_meaning.proofs.FirstLaws.{any-at, one-of-any}
use Rattle.kql_meaning.proofs.JoinLaws.{map-map}
use Rattle.kql_meaning.proofs.MemberLaws.{Member, member-filter, member-map, member-of-filter, member-of-map, member-of-range, member-range, pairs-of, pairwise-filter, pairwise-range}
use Rattle.kql_meaning.proofs.OperatorFitLaws.{join-out}
use Rattle.kql_meaning.proofs.RowByRowLaws.{alone, cell-alone, map-same, passes, where_of_gathered}
use Rattle.kql_meaning.proofs.SortLaws.{sorted-of-pairs}
use Rattle.kql_fit_laws.proofs.RowFacts.{all-members, gathered-table, of-all, place-below}
use Rattle.kql_fit_laws.specs.LawsOfRows.{IsTable}
use Rattle.plan_rules.proofs.IdleProjection.{map-members}
use Rattle.plan_rules.proofs.PushJoin.{among, begins, front-passes, inner, joined-some, outside-some, rows_by_left, where-front}
use Rattle.plan_rules.proofs.ReadValues.{plain-of, reads-weaker, val-agrees}
use Rattle.plan_rules.proofs.RowWise.{RowWise, where-below}
use Rattle.plan_rules.proofs.RuleViews.{both-some, filter-is, join-is, pair-along, when-some}
use Rattle.plan_rules.proofs.SortedPlaces.{at_kept, count-kept, filter-sorted, get-member, map-sorted, member-get, one-sorted, rows-alike}
use Rattle.plan_rules.proofs.Subplans.{join-means}
use Rattle.plan_rules.proofs.Swaps.{filter-front}
use Rattle.plan_rules.proofs.Weights.{swap-lighter, weight-Join, weight-Where}
use Rattle.plan_rules.specs.Becomes.{Becomes}
use Rattle.plan_rules.specs.Improves.{Improves}
use Rattle.plan_rules.specs.Reads.{reads_only}
use Rattle.plan_rules.specs.Rules.{is_left_key, is_unique, reads_some, unique_then_filter, when}
use Rattle.plan_rules.specs.Views.{filter_of, join_of}
use Rattle.plan_rules.specs.Weight.{and_then, other, plan_weight}

-- Places that are kept rise.

pub kept-rises : (p : ℕ → Bool) (t : Grid) (i j : ℕ) → i < j → j < length (filter p (places t)) → get_or (filter p (places t)) i 0 < get_or (filter p (places t)) j 0
unfolding places places_below
kept-rises p t i j lt in_range = pairs-of (λ x y. x < y) (filter p (places t)) (pairwise-filter (λ x y. x < y) p (range_with_len 0 (length t.lines)) (pairwise-range 0 (length t.lines))) i j 0 lt in_range

rises-back : (p : ℕ → Bool) (t : Grid) (i j : ℕ) → i < length (filter p (places t)) → get_or (filter p (places t)) i 0 < get_or (filter p (places t)) j 0 → i < j
rises-back p t i j in_range up = elim (cases_Bool (nat_lt i j)) [
  | inl y ↦ grind (arith, y)
  | inr n ↦
      let le : j ≤ i = grind (arith, n) in
      elim (eq-or-lt_of_le le) [
        | inl e ↦ let same : get_or (filter p (places t)) j 0 ≡ get_or (filter p (places t)) i 0 = ap (λ k. get_or (filter p (places t)) k 0) e in absurd (omega (arith, same, up))
        | inr lt ↦ let down = kept-rises p t j i lt in_range in absurd (omega (arith, down, up))
      ]
]

kept-sorted : (p : ℕ → Bool) (t : Grid) → IsStrictlySortedBy nat_cmp (filter p (places t))
unfolding places places_below
kept-sorted p t =
    sorted-of-pairs nat_cmp (filter p (places t)) (λ i j d lt in_range.
    let up = pairs-of (λ x y. x < y) (filter p (places t)) (pairwise-filter (λ x y. x < y) p (range_with_len 0 (length t.lines)) (pairwise-range 0 (length t.lines))) i j d lt in_range in
    grind (arith, up))

-- The first row of a key.

not-earlier : (key : ℕ → List Value) (i : ℕ) → is_first_of_key key i ≡ true → (j : ℕ) → j < i → key j ≡ key i → ⊥
unfolding is_first_of_key places_below
not-earlier key i first j lt same =
    let any = any-at (λ k. same_keys (key k) (key i)) (range_with_len 0 i) j (member-range 0 i j (omega arith) (omega (arith, lt))) ((same_keys-decides (key j) (key i)).1 same) in
    let no : false ≡ true = sym (ap not any) ∙ first in
    absurd cc

first-by : (key : ℕ → List Value) (i : ℕ) → ((j : ℕ) → j < i → key j ≡ key i → ⊥) → is_first_of_key key i ≡ true
unfolding is_first_of_key places_below
first-by key i none = elim (cases_Bool (list_any (λ k. same_keys (key k) (key i)) (range_with_len 0 i))) [
  | inl t ↦
      let q = one-of-any (λ k. same_keys (key k) (key i)) (range_with_len 0 i) t in
      let r = member-of-range 0 i q.0 q.1 in
      absurd (none q.0 (omega (arith, r.1)) ((same_keys-decides (key q.0) (key i)).0 q.2))
  | inr f ↦ ap not f
]

module _ (q : BExpr) (on : List OnPair) (t : Grid) (plain : is_plain q ≡ true) (alike : (i j : ℕ) → left_key on t i ≡ left_key on t j → val q t i [] ≡ val q t j []) where
  abbrev test : ℕ → Bool
  test i = holds (val q t i [])

  abbrev kept : List ℕ
  kept = filter test (places t)

  abbrev u : Grid
  u = gathered t kept

  abbrev at : ℕ → ℕ
  at j = at_kept t kept j

  abbrev key : ℕ → List Value
  key i = left_key on t i

  abbrev key_kept : ℕ → List Value
  key_kept j = left_key on u j

  cell-kept : (n : List ℕ) (j : ℕ) → j < length kept → cell u j n ≡ cell t (at j) n
  cell-kept n j lt = cell-alone u j n ∙ (ap (λ row. cell (alone t.columns row) 0 n) (rows-alike t kept j lt) ∙ sym (cell-alone t (at j) n))

  key-alike : (j : ℕ) → j < length kept → key_kept j ≡ key (at j)
  unfolding left_key
  key-alike j lt = map-same (λ (pair : OnPair). cell u j pair.left) (λ (pair : OnPair). cell t (at j) pair.left) (λ pair. cell-kept pair.left j lt) on

  in-kept : (j : ℕ) → Member j (places u) → j < length kept
  unfolding places places_below
  in-kept j m = let r = member-of-range 0 (length u.lines) j m in omega (arith, r.1, count-kept t kept)

  kept-in : (j : ℕ) → j < length kept → Member j (places u)
  unfolding places places_below
  kept-in j lt = member-range 0 (length u.lines) j (omega arith) (omega (arith, lt, count-kept t kept))

  earlier-in : (i j : ℕ) → Member j (places t) → i < j → Member i (places t)
  unfolding places places_below
  earlier-in i j m lt = let r = member-of-range 0 (length t.lines) j m in member-range 0 (length t.lines) i (omega arith) (omega (arith, r.1, lt))

  there : (z : ℕ) → Member z (filter test (first_places key t)) → Member z (map at (first_places key_kept u))
  there z m =
      let s = member-of-filter test (first_places key t) z m in
      let f = member-of-filter (is_first_of_key key) (places t) z s.0 in
      let g = get-member kept z (member-filter test (places t) z f.0 s.1) in
      let first : is_first_of_key key (at g.0) ≡ true = subst (λ y. is_first_of_key key y ≡ true) (sym g.2) f.1 in
      let still : is_first_of_key key_kept g.0 ≡ true =
      first-by key_kept g.0 (λ j lt e. not-earlier key (at g.0) first (at j) (kept-rises test t j g.0 lt g.1) (sym (key-alike j (omega (arith, lt, g.1))) ∙ (e ∙ key-alike g.0 g.1))) in
      subst (λ y. Member y (map at (first_places key_kept u))) g.2 (member-map at (first_places key_kept u) g.0 (member-filter (is_first_of_key key_kept) (places u) g.0 (kept-in g.0 g.1) still))

  back : (z : ℕ) → Member z (map at (first_places key_kept u)) → Member z (filter test (first_places key t))
  back z m =
      let s = member-of-map at (first_places key_kept u) z m in
      let j = s.0 in
      let f = member-of-filter (is_first_of_key key_kept) (places u) j s.1 in
      let lt = in-kept j f.0 in
      let k = member-of-filter test (places t) (at j) (member-get kept j lt) in
      let first : is_first_of_key key (at j) ≡ true =
      first-by key (at j) (λ i less e.
      let passing : test i ≡ true = ap holds (alike i (at j) e) ∙ k.1 in
      let g = get-member kept i (member-filter test (places t) i (earlier-in i (at j) k.0 less) passing) in
      let up : at g.0 < at j = omega (arith, g.2, less) in
      not-earlier key_kept j f.1 g.0 (rises-back test t g.0 j g.1 up) (key-alike g.0 g.1 ∙ (ap key g.2 ∙ (e ∙ sym (key-alike j lt))))) in
      subst (λ y. Member y (filter test (first_places key t))) s.2 (member-filter test (first_places key t) (at j) (member-filter (is_first_of_key key) (places t) (at j) k.0 first) k.1)

  places-alike : filter test (first_places key t) ≡ map at (first_places key_kept u)
  places-alike =
      one-sorted nat_cmp nat_cmp_total (filter test (first_places key t)) (map at (first_places key_kept u))
      (filter-sorted nat_cmp nat_cmp_total test (first_places key t) (kept-sorted (is_first_of_key key) t))
      (map-sorted nat_cmp nat_cmp at (first_places key_kept u)
      (λ x y m n e.
      let lt : x < y = grind (arith, e) in
      let up = kept-rises test t x y lt (in-kept y (member-of-filter (is_first_of_key key_kept) (places u) y n).0) in
      grind (arith, up))
      (kept-sorted (is_first_of_key key_kept) u))
      there back

  pub firsts-filter : where_table q (firsts_of_keys (left_key on t) t) ≡ firsts_of_keys (left_key on (where_table q t)) (where_table q t)
  unfolding where_table firsts_of_keys
  firsts-filter =
      where_of_gathered q t (first_places key t) plain
      ∙ (ap (gathered t) places-alike
      ∙ ap (λ (ls : List (List Value)). record { columns = t.columns; lines = ls })
      (map-map (row_at t.lines) at (first_places key_kept u)
      ∙ map-members (λ j. row_at t.lines (at j)) (row_at u.lines) (first_places key_kept u) (λ j m. sym (rows-alike t kept j (in-kept j (member-of-filter (is_first_of_key key_kept) (places u) j m).0)))))

-- The join of these.

abbrev pub inner_table : JoinPlan → Grid → Grid → Grid
inner_table j a b = record { columns = both_columns j a.columns b.columns; lines = inner_rows j a b }

inner-wise : (j : JoinPlan) (b : Grid) → RowWise (λ a. inner_table j a b) (λ cs. both_columns j cs b.columns) (rows_by_left join.Inner j b)
unfolding join_rows
inner-wise j b = record { rows = λ a. ap (λ (ls : List (List Value)). record { columns = both_columns j a.columns b.columns; lines = ls }) (inner j a b) }

inner-passes : (j : JoinPlan) (b : Grid) (cs : List Column) (q : BExpr) → reads_only (among cs) q ≡ true → (row out : List Value) → RowFits cs row → Member out (rows_by_left join.Inner j b cs row) → passes q (both_columns j cs b.columns) out ≡ passes q cs row
unfolding both_columns
inner-passes j b cs q r row out f m =
    let o = begins join.Inner j b cs row out m in
    ap (λ x. passes q (both_columns j cs b.columns) x) o.1 ∙ front-passes cs (renamed (names_of cs) (shown_columns j b.columns)) row o.0 q f r

inner-filter : (j : JoinPlan) (b t : Grid) (q : BExpr) → IsTable t → reads_only (among t.columns) q ≡ true → where_table q (inner_table j t b) ≡ inner_table j (where_table q t) b
inner-filter j b t q h r =
    let plain = plain-of (among t.columns) q r in
    where-below q q plain plain (λ a. inner_table j a b) (λ cs. both_columns j cs b.columns) (rows_by_left join.Inner j b) (inner-wise j b) t
    (λ row m out n. inner-passes j b t.columns q r row out (of-all (RowFits t.columns) t.lines row h.1 m) n)

unique-at : (kind : JoinKind) → is_unique kind ≡ true → kind ≡ join.InnerUnique
unique-at join.InnerUnique e = refl
unique-at _ e = absurd cc

pub unique-table : (j : JoinPlan) → is_unique j.kind ≡ true → (t b : Grid) → join_table j t b ≡ inner_table j (firsts_of_keys (left_key j.on t) t) b
unfolding join_table join_rows join_columns firsts_of_keys
unique-table j e t b = ap (λ (kind : JoinKind). record { columns = join_columns kind j t.columns b.columns; lines = join_rows kind j t b }) (unique-at j.kind e)

pub unique-columns : (j : JoinPlan) → is_unique j.kind ≡ true → (cs ds : List Column) → join_columns j.kind j cs ds ≡ both_columns j cs ds
unfolding join_columns
unique-columns j e cs ds = ap (λ (kind : JoinKind). join_columns kind j cs ds) (unique-at j.kind e)

firsts-table : (key : ℕ → List Value) (t : Grid) → IsTable t → IsTable (firsts_of_keys key t)
unfolding firsts_of_keys
firsts-table key t h = gathered-table t (first_places key t) h (all-members (λ i. i < length t.lines) (first_places key t) (λ z m. place-below t z (member-of-filter (is_first_of_key key) (places t) z m).0))

pub firsts-columns : (key : ℕ → List Value) (t : Grid) → (firsts_of_keys key t).columns ≡ t.columns
unfolding firsts_of_keys
firsts-columns key t = refl

pub firsts-are : (key : ℕ → List Value) (t : Grid) → IsTable t → IsTable (firsts_of_keys key t)
firsts-are key t h = firsts-table key t h

-- Rows of one key read alike.

key-cell : (on : List OnPair) (t : Grid) (i j : ℕ) (n : List ℕ) → is_name_among (map (λ (pair : OnPair). pair.left) on) n ≡ true → map (λ (pair : OnPair). cell t i pair.left) on ≡ map (λ (pair : OnPair). cell t j pair.left) on → cell t i n ≡ cell t j n
unfolding is_name_among
key-cell [] t i j n h e = cc
key-cell (p ∷ ps) t i j n h e = elim (cases_Bool (bytes_eq p.left n)) [
  | inl y ↦
      let head : cell t i p.left ≡ cell t j p.left = cc in
      let same = (bytes_eq-Decides p.left n).0 y in
      ap (cell t i) (sym same) ∙ (head ∙ ap (cell t j) same)
  | inr f ↦
      let rest : list_any (λ m. bytes_eq m n) (map (λ (pair : OnPair). pair.left) ps) ≡ true = rw f at h in
      let tail : map (λ (pair : OnPair). cell t i pair.left) ps ≡ map (λ (pair : OnPair). cell t j pair.left) ps = cc in
      key-cell ps t i j n rest tail
]

keys-read : (on : List OnPair) (cs : List Column) (q : BExpr) → reads_only (is_left_key on cs) q ≡ true → (t : Grid) (i j : ℕ) → left_key on t i ≡ left_key on t j → val q t i [] ≡ val q t j []
unfolding left_key
keys-read on cs q r t i j e =
    val-agrees q (is_left_key on cs) r t t i j [] (λ n h.
    let b = and_parts (has_column n cs) (is_name_among (map (λ (pair : OnPair). pair.left) on) n) h in
    key-cell on t i j n b.1 e)

left-read : (on : List OnPair) (cs : List Column) (q : BExpr) → reads_only (is_left_key on cs) q ≡ true → reads_only (among cs) q ≡ true
left-read on cs q r = reads-weaker q (is_left_key on cs) (among cs) (λ n h. (and_parts (has_column n cs) (is_name_among (map (λ (pair : OnPair). pair.left) on) n) h).0) r

pub unique-filter : (j : JoinPlan) → is_unique j.kind ≡ true → (b t : Grid) (cs : List Column) (q : BExpr) → IsTable t → t.columns ≡ cs → reads_only (is_left_key j.on cs) q ≡ true → where_table q (join_table j t b) ≡ join_table j (where_table q t) b
unique-filter j e b t cs q h same r =
    let first = firsts_of_keys (left_key j.on t) t in
    let left = left-read j.on cs q r in
    let reads : reads_only (among first.columns) q ≡ true = ap (λ c. reads_only (among c) q) (firsts-columns (left_key j.on t) t ∙ same) ∙ left in
    ap (where_table q) (unique-table j e t b)
    ∙ (inner-filter j b first q (firsts-table (left_key j.on t) t h) reads
    ∙ (ap (λ a. inner_table j a b) (firsts-filter q j.on t (plain-of (among cs) q left) (keys-read j.on cs q r t))
    ∙ sym (unique-table j e (where_table q t) b)))

unique-front : (j : JoinPlan) → is_unique j.kind ≡ true → (cs ds : List Column) → (more : List Column) × (join_columns j.kind j cs ds ≡ cs ++ more)
unfolding both_columns
unique-front j e cs ds = (renamed (names_of cs) (shown_columns j ds), unique-columns j e cs ds)

pub unique-filter-becomes : (k : Known) (inside : Bool) (cs : List Column) (j : JoinPlan) (p : Plan) (q : BExpr) → is_unique j.kind ≡ true → reads_only (is_left_key j.on cs) q ≡ true → Becomes k inside cs (V.Join j p ∷ V.Where q ∷ []) (V.Where q ∷ V.Join j p ∷ [])
unique-filter-becomes k inside cs j p q e r =
    filter-front k inside cs (V.Join j p) q q (λ w t. join_table j t (plan_means p w)) (join-means j p)
    (λ mid g f.
    let rc = joined-some j cs mid (plan_columns p k) (outside-some inside (joined_columns j cs (plan_columns p k)) mid (sym (join-out j p k inside cs) ∙ g)) in
    let c = unique-front j e cs rc.0 in
    where-front cs c.0 q (left-read j.on cs q r) ∙ (ap (where_fits q) (sym c.1 ∙ rc.1) ∙ f))
    (λ mid g w t s h. unique-filter j e (plan_means p w) t cs q h.1 h.0 r)

pub unique_then_filter-improves : (k : Known) (inside : Bool) (cs : List Column) (x y : Op) (zs : List Op) → unique_then_filter cs x y ≡ Some zs → Improves k inside cs (x ∷ y ∷ []) zs
unfolding unique_then_filter
unique_then_filter-improves k inside cs x y zs e =
    let r = both-some (join_of x) (filter_of y) (λ j q. when (is_unique j.0.kind && (reads_only (is_left_key j.0.on cs) q && reads_some q)) (V.Where q ∷ V.Join j.0 j.1 ∷ [])) zs e in
    let j = r.0.0 in
    let p = r.0.1 in
    let s = when-some (is_unique j.kind && (reads_only (is_left_key j.on cs) r.1 && reads_some r.1)) (V.Where r.1 ∷ V.Join j p ∷ []) zs r.4 in
    let a = and_parts (is_unique j.kind) (reads_only (is_left_key j.on cs) r.1 && reads_some r.1) s.0 in
    let b = and_parts (reads_only (is_left_key j.on cs) r.1) (reads_some r.1) a.1 in
    pair-along k inside cs x y (V.Join j p) (V.Where r.1) zs (V.Where r.1 ∷ V.Join j p ∷ []) (join-is x r.0 r.2) (filter-is y r.1 r.3) s.1 (record {
      becomes = unique-filter-becomes k inside cs j p r.1 a.0 b.0;
      lighter = swap-lighter (V.Join j p) (V.Where r.1) (and_then (plan_weight p) other) (weight-Where r.1) (weight-Join j p) (omega arith);
      no_longer = omega arith;
      no_larger = omega arith;
    })
