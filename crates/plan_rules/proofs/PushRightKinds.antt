-- A filter of right columns goes into the right plan of a join, kind by kind.
use Rattle.std.proofs.Common.{◌≡◌, ℕ, Bool, true, false, not, List, [], ◌∷◌, ◌++◌, map, filter, refl, sym, ap, ap₂, ◌∙◌, subst, inl, inr, arith}
use Rattle.std.specs.Prelude.{◌&&◌, Option, None, Some, if◌then◌else◌}
use Rattle.std.specs.List.{flat_map}
use Rattle.std.proofs.Math.Path.{fun_ext}
use Rattle.std.proofs.lemmas.Bool.{and_parts, cases_Bool}
use Rattle.kql_cells.specs.Seen.{row_at}
use Rattle.kql_cells.specs.Table.{Grid, RowFits}
use Rattle.kql_cells.specs.declared.schema.Column.{Column}
use Rattle.kql_cells.specs.declared.value.Value.{Value}
use Rattle.kql_bound.specs.declared.expr.BExpr.{BExpr}
use Rattle.kql_bound.specs.declared.parts.JoinKind.{JoinKind}
use Rattle.kql_bound.specs.declared.parts.JoinKind.TheVariants as join
use Rattle.kql_bound.specs.declared.parts.JoinPlan.{JoinPlan}
use Rattle.kql_bound.specs.declared.parts.OnPair.{OnPair}
use Rattle.kql_bound.specs.declared.plan.Op.{Op}
use Rattle.kql_bound.specs.declared.plan.Op.TheVariants as V
use Rattle.kql_bound.specs.declared.plan.Plan.{Plan}
use Rattle.kql_meaning.specs.Fits.{Known, plan_columns}
use Rattle.kql_meaning.specs.FittingOperators.{are_distinct, where_fits}
use Rattle.kql_meaning.specs.Groups.{firsts_of_keys}
use Rattle.kql_meaning.specs.Join.{both_columns, both_rows, has_left, join_columns, join_rows, join_table, keys_match, left_key, matches_left, or_one, pairs_of_right, right_alone, right_outer_rows, rows_match, shown_columns, shown_row}
use Rattle.kql_meaning.specs.RowByRow.{is_plain}
use Rattle.kql_meaning.specs.Tables.{absent_row, cell, names_of, places}
use Rattle.kql_meaning.specs.Where.{where_table}
use Rattle.kql_meaning.proofs.MemberLaws.{Member, member-of-filter, member-of-map}
use Rattle.kql_meaning.proofs.RowByRowLaws.{alone, cell-alone, cells-alone, map-same, passes, where-rows}
use Rattle.kql_fit_laws.proofs.RowFacts.{absent-row-fits, place-below, row-fits}
use Rattle.kql_fit_laws.specs.LawsOfOperators.{EachPlanKeeps}
use Rattle.kql_fit_laws.specs.LawsOfRows.{IsTable}
use Rattle.plan_rules.proofs.PushFirsts.{firsts-are}
use Rattle.plan_rules.proofs.PushIntoRight.{into-right-becomes, where-right}
use Rattle.plan_rules.proofs.PushJoin.{any-same, filter-flat-one, flat-of-rows}
use Rattle.plan_rules.proofs.PushRight.{inner-right, not-false, own, right-passes, right_alone_names, right_cells}
use Rattle.plan_rules.proofs.ReadValues.{id_names, names-plain, plain-of, same-names}
use Rattle.plan_rules.proofs.RowWise.{RowWise, filter-same, where-below}
use Rattle.plan_rules.proofs.RuleViews.{both-some, filter-is, join-is, pair-along, when-some}
use Rattle.plan_rules.proofs.Sizes.{into-small}
use Rattle.plan_rules.proofs.Weights.{into-lighter, weight-Where, weight-more}
use Rattle.plan_rules.specs.Becomes.{Becomes}
use Rattle.plan_rules.specs.Improves.{Improves}
use Rattle.plan_rules.specs.Reads.{reads_only, with_names}
use Rattle.plan_rules.specs.Rules.{filtered, is_right_name, join_then_right_filter, reads_some, right_name, shows_right, takes_right}
use Rattle.plan_rules.specs.Views.{filter_of, join_of}
use Rattle.kql_meaning.specs.Fits.{joined_columns}
use Rattle.kql_meaning.proofs.OperatorFitLaws.{join-out}
use Rattle.plan_columns.specs.Made.{plan_makes}
use Rattle.plan_columns.proofs.MadeLaws.{plan-makes-its}
use Rattle.plan_rules.proofs.PushJoin.{outside-some}
use Rattle.plan_rules.proofs.RuleViews.{two-columns}
use Rattle.plan_rules.specs.Rules.{over_right}

-- Rows, from right rows.

-- The table of one right row.
abbrev of_row : Grid → ℕ → Grid
of_row b k = alone b.columns (row_at b.lines k)

match-row : (on : List OnPair) (a b : Grid) (i k : ℕ) → rows_match on a b i k ≡ rows_match on a (of_row b k) i 0
unfolding rows_match
match-row [] a b i k = refl
match-row (p ∷ ps) a b i k = ap₂ (λ x y. x && y) (ap (keys_match (cell a i p.left)) (cell-alone b k p.right)) (match-row ps a b i k)

matches-row : (on : List OnPair) (a b : Grid) (k : ℕ) → matches_left on a b k ≡ matches_left on a (of_row b k) 0
unfolding matches_left
matches-row on a b k = filter-same (λ i. rows_match on a b i k) (λ i. rows_match on a (of_row b k) i 0) (places a) (λ i m. match-row on a b i k)

has-row : (on : List OnPair) (a b : Grid) (k : ℕ) → has_left on a b k ≡ has_left on a (of_row b k) 0
unfolding has_left
has-row on a b k = any-same (λ i. rows_match on a b i k) (λ i. rows_match on a (of_row b k) i 0) (places a) (λ i. match-row on a b i k)

shown-alone : (j : JoinPlan) (b : Grid) (k : ℕ) → shown_row j b k ≡ shown_row j (of_row b k) 0
unfolding shown_row
shown-alone j b k = cells-alone (shown_columns j b.columns) b k

pairs-row : (j : JoinPlan) (a b : Grid) (k : ℕ) → pairs_of_right j a b k ≡ pairs_of_right j a (of_row b k) 0
unfolding pairs_of_right both_rows
pairs-row j a b k =
    map-same (λ i. row_at a.lines i ++ shown_row j b k) (λ i. row_at a.lines i ++ shown_row j (of_row b k) 0) (λ i. ap (λ cs. row_at a.lines i ++ cs) (shown-alone j b k)) (matches_left j.on a b k)
    ∙ ap (map (λ i. row_at a.lines i ++ shown_row j (of_row b k) 0)) (matches-row j.on a b k)

alone-row : (j : JoinPlan) (a b : Grid) (k : ℕ) → right_alone j a b k ≡ right_alone j a (of_row b k) 0
unfolding right_alone
alone-row j a b k = ap (λ cs. absent_row a.columns ++ cs) (shown-alone j b k)

-- What a right row gives.
abbrev rows_by_right : JoinKind → JoinPlan → Grid → List Column → List Value → List (List Value)
rows_by_right join.RightOuter j a rc row = or_one (pairs_of_right j a (alone rc row) 0) (right_alone j a (alone rc row) 0)
rows_by_right join.RightSemi j a rc row = if has_left j.on a (alone rc row) 0 then row ∷ [] else []
rows_by_right join.RightAnti j a rc row = if not (has_left j.on a (alone rc row) 0) then row ∷ [] else []
rows_by_right _ j a rc row = []

outer : (j : JoinPlan) (a b : Grid) → join_rows join.RightOuter j a b ≡ flat_map (rows_by_right join.RightOuter j a b.columns) b.lines
unfolding join_rows right_outer_rows
outer j a b = flat-of-rows b (λ k. or_one (pairs_of_right j a b k) (right_alone j a b k)) (rows_by_right join.RightOuter j a b.columns) (λ k. ap₂ or_one (pairs-row j a b k) (alone-row j a b k))

semi : (j : JoinPlan) (a b : Grid) → join_rows join.RightSemi j a b ≡ flat_map (rows_by_right join.RightSemi j a b.columns) b.lines
unfolding join_rows
semi j a b = filter-flat-one (row_at b.lines) (has_left j.on a b) (places b) ∙ flat-of-rows b (λ k. if has_left j.on a b k then row_at b.lines k ∷ [] else []) (rows_by_right join.RightSemi j a b.columns) (λ k. ap (λ x. if x then row_at b.lines k ∷ [] else []) (has-row j.on a b k))

anti : (j : JoinPlan) (a b : Grid) → join_rows join.RightAnti j a b ≡ flat_map (rows_by_right join.RightAnti j a b.columns) b.lines
unfolding join_rows
anti j a b = filter-flat-one (row_at b.lines) (λ k. not (has_left j.on a b k)) (places b) ∙ flat-of-rows b (λ k. if not (has_left j.on a b k) then row_at b.lines k ∷ [] else []) (rows_by_right join.RightAnti j a b.columns) (λ k. ap (λ x. if not x then row_at b.lines k ∷ [] else []) (has-row j.on a b k))

-- The columns of each kind.

with-kind : (j : JoinPlan) (kind : JoinKind) → j.kind ≡ kind → (a b : Grid) → join_table j a b ≡ record { columns = join_columns kind j a.columns b.columns; lines = join_rows kind j a b }
unfolding join_table
with-kind j kind e a b = ap (λ (x : JoinKind). record { columns = join_columns x j a.columns b.columns; lines = join_rows x j a b }) e

both-shown : (kind : JoinKind) → takes_right kind ≡ true → shows_right kind ≡ false → (j : JoinPlan) (cs rc : List Column) → join_columns kind j cs rc ≡ both_columns j cs rc
unfolding join_columns
both-shown join.Inner e f j cs rc = refl
both-shown join.InnerUnique e f j cs rc = refl
both-shown join.RightOuter e f j cs rc = refl
both-shown join.RightSemi e f j cs rc = absurd cc
both-shown join.RightAnti e f j cs rc = absurd cc
both-shown _ e f j cs rc = absurd cc

right-shown : (kind : JoinKind) → shows_right kind ≡ true → (j : JoinPlan) (cs rc : List Column) → join_columns kind j cs rc ≡ rc
unfolding join_columns
right-shown join.RightSemi e j cs rc = refl
right-shown join.RightAnti e j cs rc = refl
right-shown _ e j cs rc = absurd cc

-- Both sides shown.

-- Right columns of a pair, or of a right row alone.
pair-cells : (j : JoinPlan) (a : Grid) (rc : List Column) (row : List Value) → IsTable a → (out : List Value) → Member out (rows_by_right join.RightOuter j a rc row) → (left : List Value) × RowFits a.columns left × (out ≡ left ++ right_cells j rc row)
unfolding pairs_of_right both_rows right_alone shown_row matches_left or_one
pair-cells j a rc row h out m = of-one (pairs_of_right j a (alone rc row) 0) (right_alone j a (alone rc row) 0)
    (λ o n.
    let s = member-of-map (λ i. row_at a.lines i ++ right_cells j rc row) (filter (λ i. rows_match j.on a (alone rc row) i 0) (places a)) o n in
    let i = member-of-filter (λ i. rows_match j.on a (alone rc row) i 0) (places a) s.0 s.1 in
    (row_at a.lines s.0, row-fits a s.0 h.1 (place-below a s.0 i.0), sym s.2))
    (absent_row a.columns, absent-row-fits a.columns, refl) m
  where
    Begins : List Value → Type 0
    Begins o = (left : List Value) × RowFits a.columns left × (o ≡ left ++ right_cells j rc row)

    of-one : (rows : List (List Value)) (one : List Value) → ((o : List Value) → Member o rows → Begins o) → Begins one → Member out (or_one rows one) → Begins out
    of-one [] one each b (inl e) = subst Begins e b
    of-one [] one each b (inr n) = absurd n
    of-one (r ∷ rs) one each b n = each out n

outer-right : (j : JoinPlan) (a b : Grid) (q : BExpr) → IsTable a → reads_only (right_alone_names j a.columns b.columns) q ≡ true → is_plain (with_names (own j a.columns b.columns) q) ≡ true → filter (passes q (both_columns j a.columns b.columns)) (join_rows join.RightOuter j a b) ≡ join_rows join.RightOuter j a (where_table (with_names (own j a.columns b.columns) q) b)
outer-right j a b q h r plain =
    let r2 = with_names (own j a.columns b.columns) q in
    let f = λ (u : Grid). grid (both_columns j a.columns u.columns) (join_rows join.RightOuter j a u) in
    let wise : RowWise f (λ rc. both_columns j a.columns rc) (rows_by_right join.RightOuter j a) = record { rows = λ u. ap (grid (both_columns j a.columns u.columns)) (outer j a u) } in
    ap (λ (u : Grid). u.lines) (sym (where-rows q (plain-of (right_alone_names j a.columns b.columns) q r) (f b))
    ∙ where-below q r2 (plain-of (right_alone_names j a.columns b.columns) q r) plain f (λ rc. both_columns j a.columns rc) (rows_by_right join.RightOuter j a) wise b
    (λ row m out n.
    let s = pair-cells j a b.columns row h out n in
    ap (passes q (both_columns j a.columns b.columns)) s.2 ∙ right-passes j a.columns b.columns s.0 row q s.1 r))
  where
    grid : List Column → List (List Value) → Grid
    grid cs ls = record { columns = cs; lines = ls }

-- The rows of a kind that shows both sides.
both-rows : (kind : JoinKind) → takes_right kind ≡ true → shows_right kind ≡ false → (j : JoinPlan) (a b : Grid) (q : BExpr) → IsTable a → reads_only (right_alone_names j a.columns b.columns) q ≡ true → is_plain (with_names (own j a.columns b.columns) q) ≡ true → filter (passes q (both_columns j a.columns b.columns)) (join_rows kind j a b) ≡ join_rows kind j a (where_table (with_names (own j a.columns b.columns) q) b)
unfolding join_rows firsts_of_keys
both-rows join.Inner e f j a b q h r plain = inner-right j a b q h r plain
both-rows join.InnerUnique e f j a b q h r plain = inner-right j (firsts_of_keys (left_key j.on a) a) b q (firsts-are (left_key j.on a) a h) r plain
both-rows join.RightOuter e f j a b q h r plain = outer-right j a b q h r plain
both-rows join.RightSemi e f j a b q h r plain = absurd cc
both-rows join.RightAnti e f j a b q h r plain = absurd cc
both-rows _ e f j a b q h r plain = absurd cc

both-table : (j : JoinPlan) (a b : Grid) (q : BExpr) → takes_right j.kind ≡ true → shows_right j.kind ≡ false → IsTable a → reads_only (right_alone_names j a.columns b.columns) q ≡ true → where_table q (join_table j a b) ≡ join_table j a (where_table (with_names (own j a.columns b.columns) q) b)
both-table j a b q e f h r =
    let plain = plain-of (right_alone_names j a.columns b.columns) q r in
    let r2 = with_names (own j a.columns b.columns) q in
    let plain2 = names-plain q (own j a.columns b.columns) plain in
    let shown = both-shown j.kind e f j a.columns b.columns in
    ap (where_table q) (with-kind j j.kind refl a b)
    ∙ (where-rows q plain (record { columns = join_columns j.kind j a.columns b.columns; lines = join_rows j.kind j a b })
    ∙ (ap₂ (λ (cs : List Column) (ls : List (List Value)). record { columns = cs; lines = ls })
    (ap (λ (u : Grid). join_columns j.kind j a.columns u.columns) (sym (where-rows r2 plain2 b)))
    (ap (λ cs. filter (passes q cs) (join_rows j.kind j a b)) shown ∙ both-rows j.kind e f j a b q h r plain2)
    ∙ sym (with-kind j j.kind refl a (where_table r2 b))))

-- Right columns alone.

if-row : (b : Bool) (row out : List Value) → Member out (if b then row ∷ [] else []) → row ≡ out
if-row true row out (inl e) = e
if-row true row out (inr m) = absurd m
if-row false row out m = absurd m

same-row : (kind : JoinKind) → shows_right kind ≡ true → (j : JoinPlan) (a : Grid) (rc : List Column) (row out : List Value) → Member out (rows_by_right kind j a rc row) → row ≡ out
same-row join.RightSemi e j a rc row out m = if-row (has_left j.on a (alone rc row) 0) row out m
same-row join.RightAnti e j a rc row out m = if-row (not (has_left j.on a (alone rc row) 0)) row out m
same-row _ e j a rc row out m = absurd cc

right-lines : (kind : JoinKind) → shows_right kind ≡ true → (j : JoinPlan) (a b : Grid) → join_rows kind j a b ≡ flat_map (rows_by_right kind j a b.columns) b.lines
right-lines join.RightSemi e j a b = semi j a b
right-lines join.RightAnti e j a b = anti j a b
right-lines _ e j a b = absurd cc

right-wise : (j : JoinPlan) → shows_right j.kind ≡ true → (a : Grid) → RowWise (λ b. join_table j a b) (λ rc. rc) (rows_by_right j.kind j a)
right-wise j e a = record {
  rows = λ b. with-kind j j.kind refl a b ∙ ap₂ (λ (cs : List Column) (ls : List (List Value)). record { columns = cs; lines = ls }) (right-shown j.kind e j a.columns b.columns) (right-lines j.kind e j a b);
}

right-table : (j : JoinPlan) (a b : Grid) (q : BExpr) → shows_right j.kind ≡ true → is_plain q ≡ true → where_table q (join_table j a b) ≡ join_table j a (where_table q b)
right-table j a b q e plain =
    where-below q q plain plain (λ u. join_table j a u) (λ rc. rc) (rows_by_right j.kind j a) (right-wise j e a) b
    (λ row m out n. ap (passes q b.columns) (sym (same-row j.kind e j a b.columns row out n)))

-- The rule.

both-becomes : EachPlanKeeps → (k : Known) (inside : Bool) (cs rc : List Column) (j : JoinPlan) (p : Plan) (q : BExpr) → takes_right j.kind ≡ true → shows_right j.kind ≡ false → j.lookup ≡ false → plan_columns p k ≡ Some rc → are_distinct (names_of rc) ≡ true → reads_only (right_alone_names j cs rc) q ≡ true → Becomes k inside cs (V.Join j p ∷ V.Where q ∷ []) (V.Join j (filtered p (with_names (own j cs rc) q)) ∷ [])
both-becomes each k inside cs rc j p q e f l known d r =
    into-right-becomes each k inside cs rc j p q (own j cs rc) known
    (λ g. where-right j cs rc q l d r ∙ (ap (where_fits q) (sym (both-shown j.kind e f j cs rc)) ∙ g))
    (λ a b h g.
    let reads : reads_only (right_alone_names j a.columns b.columns) q ≡ true = ap₂ (λ c1 c2. reads_only (right_alone_names j c1 c2) q) h.0 g.0 ∙ r in
    let names : with_names (own j a.columns b.columns) q ≡ with_names (own j cs rc) q = ap₂ (λ c1 c2. with_names (own j c1 c2) q) h.0 g.0 in
    both-table j a b q e f h.1 reads ∙ ap (λ x. join_table j a (where_table x b)) names)

right-becomes : EachPlanKeeps → (k : Known) (inside : Bool) (cs rc : List Column) (j : JoinPlan) (p : Plan) (q : BExpr) → shows_right j.kind ≡ true → plan_columns p k ≡ Some rc → is_plain q ≡ true → Becomes k inside cs (V.Join j p ∷ V.Where q ∷ []) (V.Join j (filtered p (with_names id_names q)) ∷ [])
right-becomes each k inside cs rc j p q e known plain =
    into-right-becomes each k inside cs rc j p q id_names known
    (λ g. ap (λ x. where_fits x rc) (same-names q) ∙ (ap (where_fits q) (sym (right-shown j.kind e j cs rc)) ∙ g))
    (λ a b h g. right-table j a b q e plain ∙ ap (λ x. join_table j a (where_table x b)) (sym (same-names q)))

names-both : (j : JoinPlan) (cs rc : List Column) → shows_right j.kind ≡ false → (is_right_name j cs rc ≡ right_alone_names j cs rc) × (right_name j cs rc ≡ own j cs rc)
unfolding is_right_name right_name
names-both j cs rc f = (fun_ext (λ n. rw f refl), fun_ext (λ n. rw f refl))

names-right : (j : JoinPlan) (cs rc : List Column) → shows_right j.kind ≡ true → right_name j cs rc ≡ id_names
unfolding right_name
names-right j cs rc f = fun_ext (λ n. rw f refl)

pub join-right-becomes : EachPlanKeeps → (k : Known) (inside : Bool) (cs rc : List Column) (j : JoinPlan) (p : Plan) (q : BExpr) → takes_right j.kind ≡ true → j.lookup ≡ false → plan_columns p k ≡ Some rc → are_distinct (names_of rc) ≡ true → reads_only (is_right_name j cs rc) q ≡ true → Becomes k inside cs (V.Join j p ∷ V.Where q ∷ []) (V.Join j (filtered p (with_names (right_name j cs rc) q)) ∷ [])
join-right-becomes each k inside cs rc j p q e l known d r = elim (cases_Bool (shows_right j.kind)) [
  | inl t ↦ subst (λ f. Becomes k inside cs (V.Join j p ∷ V.Where q ∷ []) (V.Join j (filtered p (with_names f q)) ∷ [])) (sym (names-right j cs rc t)) (right-becomes each k inside cs rc j p q t known (plain-of (is_right_name j cs rc) q r))
  | inr f ↦
      let n = names-both j cs rc f in
      subst (λ g. Becomes k inside cs (V.Join j p ∷ V.Where q ∷ []) (V.Join j (filtered p (with_names g q)) ∷ [])) (sym n.1) (both-becomes each k inside cs rc j p q e f l known d (ap (λ test. reads_only test q) (sym n.0) ∙ r))
]

-- The right plan of a join that fits has the columns that it makes.

joined-there : (j : JoinPlan) (cs mid : List Column) (o : Option (List Column)) → joined_columns j cs o ≡ Some mid → (rc : List Column) × (o ≡ Some rc)
unfolding joined_columns
joined-there j cs mid None e = absurd cc
joined-there j cs mid (Some rc) e = (rc, refl)

known-becomes : (k : Known) (inside : Bool) (cs : List Column) (j : JoinPlan) (p : Plan) (q : BExpr) (zs : List Op) → (plan_columns p k ≡ Some (plan_makes p k) → Becomes k inside cs (V.Join j p ∷ V.Where q ∷ []) zs) → Becomes k inside cs (V.Join j p ∷ V.Where q ∷ []) zs
known-becomes k inside cs j p q zs h = record {
  keeps = λ ds e.
      let t = two-columns k inside cs (V.Join j p) (V.Where q) ds e in
      let rc = joined-there j cs t.0 (plan_columns p k) (outside-some inside (joined_columns j cs (plan_columns p k)) t.0 (sym (join-out j p k inside cs) ∙ t.1)) in
      (h (rc.1 ∙ ap (λ c. Some c) (sym (plan-makes-its p k rc.0 rc.1)))).keeps ds e;
}

pub join_then_right_filter-improves : EachPlanKeeps → (k : Known) (inside : Bool) (cs : List Column) (x y : Op) (zs : List Op) → join_then_right_filter k cs x y ≡ Some zs → Improves k inside cs (x ∷ y ∷ []) zs
unfolding join_then_right_filter over_right
join_then_right_filter-improves each k inside cs x y zs e =
    let r = both-some (join_of x) (filter_of y) (λ j q. over_right cs j.0 j.1 q (plan_makes j.1 k)) zs e in
    let j = r.0.0 in
    let p = r.0.1 in
    let q = r.1 in
    let rc = plan_makes p k in
    let r2 = with_names (right_name j cs rc) q in
    let s = when-some (takes_right j.kind && (not j.lookup && (are_distinct (names_of rc) && (reads_only (is_right_name j cs rc) q && reads_some q)))) (V.Join j (filtered p r2) ∷ []) zs r.4 in
    let a = and_parts (takes_right j.kind) (not j.lookup && (are_distinct (names_of rc) && (reads_only (is_right_name j cs rc) q && reads_some q))) s.0 in
    let b = and_parts (not j.lookup) (are_distinct (names_of rc) && (reads_only (is_right_name j cs rc) q && reads_some q)) a.1 in
    let c = and_parts (are_distinct (names_of rc)) (reads_only (is_right_name j cs rc) q && reads_some q) b.1 in
    let d = and_parts (reads_only (is_right_name j cs rc) q) (reads_some q) c.1 in
    pair-along k inside cs x y (V.Join j p) (V.Where q) zs (V.Join j (filtered p r2) ∷ []) (join-is x r.0 r.2) (filter-is y q r.3) s.1 (record {
      becomes = known-becomes k inside cs j p q (V.Join j (filtered p r2) ∷ []) (λ known. join-right-becomes each k inside cs rc j p q a.0 (not-false j.lookup b.0) known c.0 d.0);
      lighter = into-lighter j p (filtered p r2) (V.Where q) (weight-Where q) (weight-more p (filtered p r2) (V.Where r2) (weight-Where r2) refl);
      no_longer = omega arith;
      no_larger = into-small j p (right_name j cs rc) q;
    })
