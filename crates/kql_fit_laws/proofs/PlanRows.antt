-- What operators with plans and operators in them make of tables, where those do what they should.
use Rattle.std.proofs.Common.{◌≡◌, ◌<◌, ℕ, Bool, true, false, List, [], ◌∷◌, map, length, filter, refl, sym, ap, ap₂, ◌∙◌, subst, inl, inr, rules}
use Rattle.std.specs.Prelude.{fold, None, Option, Some, option_and_then, option_map}
use Rattle.std.specs.List.{flat_map}
use Rattle.std.proofs.lemmas.Bool.{cases_Bool}
use Rattle.std.proofs.lemmas.List.Elements.{All-filter, All-nil}
use Rattle.kql_cells.specs.Named.{HasDistinctNames, column_name}
use Rattle.kql_cells.specs.Table.{Grid, RowFits}
use Rattle.kql_cells.specs.declared.schema.Column.{Column}
use Rattle.kql_cells.specs.declared.value.Value.{Value}
use Rattle.kql_bound.specs.declared.parts.JoinPlan.{JoinPlan}
use Rattle.kql_bound.specs.declared.plan.Op.{Op, the_lemmas}
use Rattle.kql_bound.specs.declared.plan.Op.TheOpen.{Op-F}
use Rattle.kql_bound.specs.declared.plan.Op.TheVariants as V
use Rattle.kql_bound.specs.declared.plan.Plan.{Plan}
use Rattle.kql_meaning.specs.Expressions.{column_kind}
use Rattle.kql_meaning.specs.Fits.{Known, all_columns, by_key, joined_columns, op_columns, ops_columns, outside_subqueries, plan_columns, plans_columns, united_columns}
use Rattle.kql_meaning.specs.FittingExpressions.{has_kind, is_key}
use Rattle.kql_meaning.specs.FittingOperators.{join_fits, union_fits}
use Rattle.kql_meaning.specs.Groups.{distinct_keys, group_of}
use Rattle.kql_meaning.specs.Join.{join_columns, join_table}
use Rattle.kql_meaning.specs.Partition.{key_in_column, partition_table}
use Rattle.kql_meaning.specs.Plans.{Gives, World, one_after_another, op_means, plan_means}
use Rattle.kql_meaning.specs.Tables.{emptied, places}
use Rattle.kql_meaning.specs.Union.{union_columns, union_table}
use Rattle.kql_meaning.specs.Values.{same_keys}
use Rattle.kql_meaning.proofs.MemberLaws.{Member, contains-member, member-of-flat}
use Rattle.kql_meaning.proofs.PlanLaws.{ops_mean-map}
use Rattle.kql_meaning.proofs.OperatorFitLaws.{after, after-none, after-some, join-out, ops-fold, partition-out, stays-none, union-out}
use Rattle.kql_fit_laws.proofs.JoinRows.{columns_of, join-table-of, union-table-of}
use Rattle.kql_fit_laws.proofs.RowFacts.{all-members, answer-some, gathered-table, of-all, places-inside}
use Rattle.kql_fit_laws.proofs.RowLaws.{made, means}
use Rattle.kql_fit_laws.specs.LawsOfRows.{IsTable, IsTableOf, JoinKeeps, OpKeeps, PartitionKeeps, PlanKeeps, UnionKeeps}

-- Outside subqueries.

pub outside-some : (inside : Bool) (columns : Option (List Column)) (cs : List Column) → outside_subqueries inside columns ≡ Some cs → columns ≡ Some cs
unfolding outside_subqueries
outside-some true columns cs e = cc
outside-some false columns cs e = e

-- Join.

joined-table : (k : Known) (w : World) (j : JoinPlan) (right : Plan) (t : Grid) (cs : List Column) → PlanKeeps k w right → IsTable t → (o : Option (List Column)) → plan_columns right k ≡ o → joined_columns j t.columns o ≡ Some cs → IsTableOf cs (join_table j t (plan_means right w))
unfolding joined_columns
joined-table k w j right t cs keeps h None e f = cc
joined-table k w j right t cs keeps h (Some rc) e f =
    let b = keeps rc e in
    let q = answer-some (join_fits j t.columns rc) (join_columns j.kind j t.columns rc) cs f in
    join-table-of j t (plan_means right w) cs h b.1 (ap (λ (r : List Column). join_columns j.kind j t.columns r) b.0 ∙ q.1) (subst (HasDistinctNames column_name) q.1 q.2)

pub join_keeps : JoinKeeps
join_keeps k w j right keeps inside t cs h fits =
    let outside = outside-some inside (joined_columns j t.columns (plan_columns right k)) cs (sym (join-out j right k inside t.columns) ∙ fits) in
    made cs (op_means (V.Join j right) w t) (join_table j t (plan_means right w)) (means (V.Join j right) (Op-F.Join j right) (search (rules, the_lemmas)) w t)
    (joined-table k w j right t cs keeps h (plan_columns right k) refl outside)

-- Union.

-- What plans mean.
abbrev pub grids : List Plan → World → List Grid
grids plans w = map (λ (plan : Gives). plan w) (map plan_means plans)

pub AllKeep : List Plan → World → List (List Column) → Type 0
AllKeep plans w all = (map columns_of (grids plans w) ≡ all) × ((t : Grid) → Member t (grids plans w) → IsTable t)

plans-next : (k : Known) (w : World) (p : Plan) (ps : List Plan) (all : List (List Column)) → PlanKeeps k w p → ((ms : List (List Column)) → all_columns (map plan_columns ps) k ≡ Some ms → AllKeep ps w ms) → (o : Option (List Column)) → plan_columns p k ≡ o → (r : Option (List (List Column))) → all_columns (map plan_columns ps) k ≡ r → option_and_then (λ one. option_map (λ more. one ∷ more) r) o ≡ Some all → AllKeep (p ∷ ps) w all
unfolding AllKeep
plans-next k w p ps all keeps rest None e r f g = cc
plans-next k w p ps all keeps rest (Some c) e None f g = cc
plans-next k w p ps all keeps rest (Some c) e (Some ms) f g =
    let same : c ∷ ms ≡ all = cc in
    let here = keeps c e in
    let later = rest ms f in (
      ap₂ (λ (d : List Column) (ds : List (List Column)). d ∷ ds) here.0 later.0 ∙ same,
      λ t m. elim m [
        | inl s ↦ subst IsTable s here.1
        | inr n ↦ later.1 t n
      ],
    )

pub plans-keep : (k : Known) (w : World) (ps : List Plan) → ((p : Plan) → Member p ps → PlanKeeps k w p) → (all : List (List Column)) → plans_columns ps k ≡ Some all → AllKeep ps w all
unfolding plans_columns all_columns AllKeep
plans-keep k w [] keeps all e = let none : [] ≡ all = cc in (none, λ t m. absurd m)
plans-keep k w (p ∷ ps) keeps all e =
    plans-next k w p ps all (keeps p (inl refl)) (λ ms f. plans-keep k w ps (λ q m. keeps q (inr m)) ms f) (plan_columns p k) refl (all_columns (map plan_columns ps) k) refl e

united-table : (k : Known) (w : World) (inner : Bool) (others : List Plan) (t : Grid) (cs : List Column) → ((p : Plan) → Member p others → PlanKeeps k w p) → IsTable t → (o : Option (List (List Column))) → plans_columns others k ≡ o → united_columns inner t.columns o ≡ Some cs → IsTableOf cs (union_table inner t (grids others w))
unfolding united_columns AllKeep
united-table k w inner others t cs keeps h None e f = cc
united-table k w inner others t cs keeps h (Some all) e f =
    let b = plans-keep k w others keeps all e in
    let columns = union_columns inner t.columns all in
    let q = answer-some (union_fits columns (t.columns ∷ all)) columns cs f in
    let fits = subst (λ (ds : List (List Column)). union_fits (union_columns inner t.columns ds) (t.columns ∷ ds) ≡ true) (sym b.0) q.0 in
    union-table-of inner t (grids others w) cs h b.1 (ap (λ (ds : List (List Column)). union_columns inner t.columns ds) b.0 ∙ q.1) (subst (HasDistinctNames column_name) q.1 q.2) fits

pub union_keeps : UnionKeeps
union_keeps k w inner others keeps inside t cs h fits =
    let outside = outside-some inside (united_columns inner t.columns (plans_columns others k)) cs (sym (union-out inner others k inside t.columns) ∙ fits) in
    made cs (op_means (V.Union inner others) w t) (union_table inner t (grids others w)) (means (V.Union inner others) (Op-F.Union inner others) (search (rules, the_lemmas)) w t)
    (united-table k w inner others t cs (λ p m. keeps p (contains-member others p m)) h (plans_columns others k) refl outside)

-- Partition.

-- Operators, one after another.
abbrev pub after_ops : List Op → World → Grid → Grid
after_ops ops w t = fold (λ before o. op_means o w before) t ops

ops-next : (k : Known) (w : World) (inside : Bool) (o : Op) (os : List Op) (t : Grid) (before cs : List Column) → OpKeeps k w o → IsTableOf before t → ((u : Grid) (mid : List Column) → IsTableOf mid u → fold (after k inside) (Some mid) os ≡ Some cs → IsTableOf cs (after_ops os w u)) → (next : Option (List Column)) → op_columns o k inside before ≡ next → fold (after k inside) next os ≡ Some cs → IsTableOf cs (after_ops os w (op_means o w t))
ops-next k w inside o os t before cs keeps h rest None f g = let none : None ≡ Some cs = sym (stays-none (after k inside) (after-none k inside) os) ∙ g in cc
ops-next k w inside o os t before cs keeps h rest (Some mid) f g =
    rest (op_means o w t) mid (keeps inside t mid h.1 (ap (λ (ds : List Column). op_columns o k inside ds) h.0 ∙ f)) g

pub ops-keep : (k : Known) (w : World) (inside : Bool) (ops : List Op) → ((o : Op) → Member o ops → OpKeeps k w o) → (t : Grid) (before cs : List Column) → IsTableOf before t → fold (after k inside) (Some before) ops ≡ Some cs → IsTableOf cs (after_ops ops w t)
ops-keep k w inside [] keeps t before cs h e = let same : before ≡ cs = cc in (h.0 ∙ same, h.1)
ops-keep k w inside (o ∷ os) keeps t before cs h e =
    ops-next k w inside o os t before cs (keeps o (inl refl)) h (λ u mid v g. ops-keep k w inside os (λ p m. keeps p (inr m)) u mid cs v g) (op_columns o k inside before) refl
    (ap (λ (b : Option (List Column)). fold (after k inside) b os) (sym (after-some k inside before o)) ∙ e)

-- A subquery.
abbrev pub subquery_of : List Op → World → Grid → Grid
subquery_of ops w u = one_after_another (map op_means ops) w u

pub subquery-keeps : (k : Known) (w : World) (ops : List Op) → ((o : Op) → Member o ops → OpKeeps k w o) → (t : Grid) (cs : List Column) → IsTable t → ops_columns ops k true t.columns ≡ Some cs → IsTableOf cs (subquery_of ops w t)
subquery-keeps k w ops keeps t cs h e =
    subst (IsTableOf cs) (sym (ops_mean-map ops w t)) (ops-keep k w true ops keeps t t.columns cs (refl, h) (sym (ops-fold ops k true t.columns) ∙ e))

pub group-table : (key : ℕ → List Value) (t : Grid) (v : List Value) → IsTable t → IsTable (group_of key t v)
unfolding group_of
group-table key t v h = gathered-table t (filter (λ i. same_keys (key i) v) (places t)) h (All-filter (λ i. same_keys (key i) v) (λ i. i < length t.lines) (places t) (places-inside t))

pub group-columns : (key : ℕ → List Value) (t : Grid) (v : List Value) → (group_of key t v).columns ≡ t.columns
unfolding group_of
group-columns key t v = refl

pub emptied-table : (t : Grid) → IsTable t → IsTable (emptied t)
unfolding emptied
emptied-table t h = (h.0, All-nil (RowFits t.columns))

pub emptied-columns : (t : Grid) → (emptied t).columns ≡ t.columns
unfolding emptied
emptied-columns t = refl

partition-table : (c : List ℕ) (f : Grid → Grid) (t : Grid) (cs : List Column) → IsTableOf cs (f (emptied t)) → ((v : List Value) → IsTableOf cs (f (group_of (key_in_column c t) t v))) → IsTableOf cs (partition_table c f t)
unfolding partition_table
partition-table c f t cs empty groups =
    let columns = (f (emptied t)).columns in
    let lines = λ (v : List Value). (f (group_of (key_in_column c t) t v)).lines in
    let all = all-members (RowFits columns) (flat_map lines (distinct_keys (key_in_column c t) t))
    (λ row m.
    let q = member-of-flat lines (distinct_keys (key_in_column c t) t) row m in
    let g = groups q.0 in
    let same : (f (group_of (key_in_column c t) t q.0)).columns ≡ columns = g.0 ∙ sym empty.0 in
    subst (λ (ds : List Column). RowFits ds row) same (of-all (RowFits (f (group_of (key_in_column c t) t q.0)).columns) (lines q.0) row g.1.1 q.2)) in
    (empty.0, (empty.1.0, all))

pub partition_keeps : PartitionKeeps
unfolding by_key
partition_keeps k w c ops keeps inside t cs h fits =
    let outside = outside-some inside (by_key (has_kind is_key (column_kind c t.columns)) (ops_columns ops k true t.columns)) cs (sym (partition-out c ops k inside t.columns) ∙ fits) in
    let each = λ (o : Op) (m : Member o ops). keeps o (contains-member ops o m) in
    elim (cases_Bool (has_kind is_key (column_kind c t.columns))) [
      | inl known ↦
          let some : ops_columns ops k true t.columns ≡ Some cs = rw known at outside in
          made cs (op_means (V.Partition c ops) w t) (partition_table c (subquery_of ops w) t) (means (V.Partition c ops) (Op-F.Partition c ops) (search (rules, the_lemmas)) w t)
          (partition-table c (subquery_of ops w) t cs
          (subquery-keeps k w ops each (emptied t) cs (emptied-table t h) (ap (λ (ds : List Column). ops_columns ops k true ds) (emptied-columns t) ∙ some))
          (λ v. subquery-keeps k w ops each (group_of (key_in_column c t) t v) cs (group-table (key_in_column c t) t v h) (ap (λ (ds : List Column). ops_columns ops k true ds) (group-columns (key_in_column c t) t v) ∙ some)))
      | inr unknown ↦ let none : None ≡ Some cs = rw unknown at outside in cc
    ]

pub ruleset plan_row_laws = (join_keeps, union_keeps, partition_keeps)
