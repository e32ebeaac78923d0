-- Where plans and operators in an operator are replaced by what they become.
use Rattle.std.proofs.Common.{◌≡◌, ℕ, Bool, true, false, List, [], ◌∷◌, ◌++◌, map, refl, sym, ap, ap₂, ◌∙◌, rules}
use Rattle.std.specs.Prelude.{Option, None, Some, option_and_then, option_map}
use Rattle.std.specs.List.{flat_map}
use Rattle.std.proofs.lemmas.List.Elements.{All-nil}
use Rattle.kql_cells.specs.Table.{Grid, RowFits}
use Rattle.kql_cells.specs.declared.schema.Column.{Column}
use Rattle.kql_cells.specs.declared.value.Value.{Value}
use Rattle.kql_bound.specs.declared.parts.JoinPlan.{JoinPlan}
use Rattle.kql_bound.specs.declared.plan.Op.{Op, the_lemmas}
use Rattle.kql_bound.specs.declared.plan.Op.TheOpen.{Op-F}
use Rattle.kql_bound.specs.declared.plan.Op.TheVariants as V
use Rattle.kql_bound.specs.declared.plan.Plan.{Plan}
use Rattle.kql_meaning.specs.Expressions.{column_kind}
use Rattle.kql_meaning.specs.Fits.{Known, all_columns, by_key, joined_columns, op_columns, ops_columns, outside_subqueries, plan_columns, plans_columns, united_columns}
use Rattle.kql_meaning.specs.FittingExpressions.{has_kind, is_key}
use Rattle.kql_meaning.specs.Groups.{distinct_keys, group_of}
use Rattle.kql_meaning.specs.Join.{join_table}
use Rattle.kql_meaning.specs.Partition.{key_in_column, partition_table}
use Rattle.kql_meaning.specs.Plans.{Gives, World, one_after_another, op_means, plan_means}
use Rattle.kql_meaning.specs.Tables.{emptied}
use Rattle.kql_meaning.specs.Union.{union_table}
use Rattle.kql_meaning.proofs.PlanLaws.{ops_mean-map}
use Rattle.kql_meaning.proofs.OperatorFitLaws.{after-some, join-out, ops-fold, partition-out, union-out}
use Rattle.kql_fit_laws.proofs.PlanRows.{group-columns, group-table}
use Rattle.kql_fit_laws.proofs.RowLaws.{means}
use Rattle.kql_fit_laws.specs.LawsOfPrograms.{Stands}
use Rattle.kql_fit_laws.specs.LawsOfRows.{IsTable, IsTableOf}
use Rattle.plan_rules.specs.Becomes.{Becomes, EachBecomes, PlanBecomes}

outside-some : (inside : Bool) (columns : Option (List Column)) (cs : List Column) → outside_subqueries inside columns ≡ Some cs → columns ≡ Some cs
unfolding outside_subqueries
outside-some true columns cs e = cc
outside-some false columns cs e = e

-- One operator alone.

pub one-columns : (o : Op) (k : Known) (inside : Bool) (cs : List Column) → ops_columns (o ∷ []) k inside cs ≡ op_columns o k inside cs
one-columns o k inside cs = ops-fold (o ∷ []) k inside cs ∙ after-some k inside cs o

pub becomes-one : (k : Known) (inside : Bool) (cs : List Column) (o p : Op) → ((ds : List Column) → op_columns o k inside cs ≡ Some ds → (op_columns p k inside cs ≡ Some ds) × ((w : World) (t : Grid) → Stands k w → IsTableOf cs t → op_means p w t ≡ op_means o w t)) → Becomes k inside cs (o ∷ []) (p ∷ [])
becomes-one k inside cs o p keep = record {
  keeps = λ ds e.
      let r = keep ds (sym (one-columns o k inside cs) ∙ e) in
      (one-columns p k inside cs ∙ r.0, r.1);
}

-- Join.

join-next : (k : Known) (j : JoinPlan) (p q : Plan) → PlanBecomes k p q → (left cs : List Column) → (o : Option (List Column)) → plan_columns p k ≡ o → joined_columns j left o ≡ Some cs → (plan_columns q k ≡ plan_columns p k) × ((w : World) → Stands k w → plan_means q w ≡ plan_means p w)
unfolding joined_columns
join-next k j p q a left cs None e f = cc
join-next k j p q a left cs (Some rc) e f = let r = a.keeps rc e in (r.0 ∙ sym e, r.1)

pub join-means : (j : JoinPlan) (p : Plan) (w : World) (t : Grid) → op_means (V.Join j p) w t ≡ join_table j t (plan_means p w)
join-means j p w t = means (V.Join j p) (Op-F.Join j p) (search (rules, the_lemmas)) w t

pub join-becomes : (k : Known) (inside : Bool) (cs : List Column) (j : JoinPlan) (p q : Plan) → PlanBecomes k p q → Becomes k inside cs (V.Join j p ∷ []) (V.Join j q ∷ [])
join-becomes k inside cs j p q a = becomes-one k inside cs (V.Join j p) (V.Join j q) (λ ds e.
    let within = outside-some inside (joined_columns j cs (plan_columns p k)) ds (sym (join-out j p k inside cs) ∙ e) in
    let r = join-next k j p q a cs ds (plan_columns p k) refl within in (
      join-out j q k inside cs ∙ (ap (λ x. outside_subqueries inside (joined_columns j cs x)) r.0 ∙ (sym (join-out j p k inside cs) ∙ e)),
      λ w t s h. join-means j q w t ∙ (ap (λ x. join_table j t x) (r.1 w s) ∙ sym (join-means j p w t)),
    ))

-- Union.

abbrev grids : List Plan → World → List Grid
grids plans w = map (λ (plan : Gives). plan w) (map plan_means plans)

EachKept : Known → List Plan → List Plan → List (List Column) → Type 0
EachKept k ps qs all = (plans_columns qs k ≡ Some all) × ((w : World) → Stands k w → grids qs w ≡ grids ps w)

each-next : (k : Known) (p q : Plan) (ps qs : List Plan) → PlanBecomes k p q → ((ms : List (List Column)) → all_columns (map plan_columns ps) k ≡ Some ms → EachKept k ps qs ms) → (all : List (List Column)) (o : Option (List Column)) → plan_columns p k ≡ o → (r : Option (List (List Column))) → all_columns (map plan_columns ps) k ≡ r → option_and_then (λ one. option_map (λ more. one ∷ more) r) o ≡ Some all → EachKept k (p ∷ ps) (q ∷ qs) all
unfolding EachKept plans_columns all_columns
each-next k p q ps qs a rest all None e r f g = cc
each-next k p q ps qs a rest all (Some c) e None f g = cc
each-next k p q ps qs a rest all (Some c) e (Some ms) f g =
    let here = a.keeps c e in
    let later = rest ms f in
    (rw (here.0, later.0) g, λ w s. ap₂ (λ (u : Grid) (us : List Grid). u ∷ us) (here.1 w s) (later.1 w s))

each-becomes : (k : Known) (ps qs : List Plan) → EachBecomes k ps qs → (all : List (List Column)) → plans_columns ps k ≡ Some all → EachKept k ps qs all
unfolding EachKept plans_columns all_columns
each-becomes k [] [] a all e = (e, λ w s. refl)
each-becomes k [] (q ∷ qs) a all e = absurd a
each-becomes k (p ∷ ps) [] a all e = absurd a
each-becomes k (p ∷ ps) (q ∷ qs) a all e =
    each-next k p q ps qs a.0 (λ ms f. each-becomes k ps qs a.1 ms f) all (plan_columns p k) refl (all_columns (map plan_columns ps) k) refl e

union-next : (k : Known) (inner : Bool) (ps qs : List Plan) → EachBecomes k ps qs → (left cs : List Column) → (o : Option (List (List Column))) → plans_columns ps k ≡ o → united_columns inner left o ≡ Some cs → (plans_columns qs k ≡ plans_columns ps k) × ((w : World) → Stands k w → grids qs w ≡ grids ps w)
unfolding united_columns EachKept
union-next k inner ps qs a left cs None e f = cc
union-next k inner ps qs a left cs (Some all) e f = let r = each-becomes k ps qs a all e in (r.0 ∙ sym e, r.1)

union-means : (inner : Bool) (ps : List Plan) (w : World) (t : Grid) → op_means (V.Union inner ps) w t ≡ union_table inner t (grids ps w)
union-means inner ps w t = means (V.Union inner ps) (Op-F.Union inner ps) (search (rules, the_lemmas)) w t

pub union-becomes : (k : Known) (inside : Bool) (cs : List Column) (inner : Bool) (ps qs : List Plan) → EachBecomes k ps qs → Becomes k inside cs (V.Union inner ps ∷ []) (V.Union inner qs ∷ [])
union-becomes k inside cs inner ps qs a = becomes-one k inside cs (V.Union inner ps) (V.Union inner qs) (λ ds e.
    let within = outside-some inside (united_columns inner cs (plans_columns ps k)) ds (sym (union-out inner ps k inside cs) ∙ e) in
    let r = union-next k inner ps qs a cs ds (plans_columns ps k) refl within in (
      union-out inner qs k inside cs ∙ (ap (λ x. outside_subqueries inside (united_columns inner cs x)) r.0 ∙ (sym (union-out inner ps k inside cs) ∙ e)),
      λ w t s h. union-means inner qs w t ∙ (ap (λ x. union_table inner t x) (r.1 w s) ∙ sym (union-means inner ps w t)),
    ))

-- Partition.

abbrev subquery_of : List Op → World → Grid → Grid
subquery_of ops w u = one_after_another (map op_means ops) w u

emptied-table : (t : Grid) → IsTable t → IsTable (emptied t)
unfolding emptied
emptied-table t h = (h.0, All-nil (RowFits t.columns))

emptied-columns : (t : Grid) → (emptied t).columns ≡ t.columns
unfolding emptied
emptied-columns t = refl

flat-same : {X Y : Type 0} (f g : X → List Y) (xs : List X) → ((x : X) → f x ≡ g x) → flat_map f xs ≡ flat_map g xs
flat-same f g [] h = refl
flat-same f g (x ∷ xs) h = ap₂ (λ a b. a ++ b) (h x) (flat-same f g xs h)

partition-same : (c : List ℕ) (f g : Grid → Grid) (t : Grid) → IsTable t → ((u : Grid) → IsTable u → u.columns ≡ t.columns → f u ≡ g u) → partition_table c f t ≡ partition_table c g t
unfolding partition_table
partition-same c f g t h same =
    ap₂ (λ (cs : List Column) (ls : List (List Value)). record { columns = cs; lines = ls })
    (ap (λ (u : Grid). u.columns) (same (emptied t) (emptied-table t h) (emptied-columns t)))
    (flat-same (λ v. (f (group_of (key_in_column c t) t v)).lines) (λ v. (g (group_of (key_in_column c t) t v)).lines) (distinct_keys (key_in_column c t) t)
    (λ v. ap (λ (u : Grid). u.lines) (same (group_of (key_in_column c t) t v) (group-table (key_in_column c t) t v h) (group-columns (key_in_column c t) t v))))

partition-means : (c : List ℕ) (ops : List Op) (w : World) (t : Grid) → op_means (V.Partition c ops) w t ≡ partition_table c (subquery_of ops w) t
partition-means c ops w t = means (V.Partition c ops) (Op-F.Partition c ops) (search (rules, the_lemmas)) w t

key-some : (b : Bool) (o : Option (List Column)) (cs : List Column) → by_key b o ≡ Some cs → (b ≡ true) × (o ≡ Some cs)
unfolding by_key
key-some true o cs e = (refl, e)
key-some false o cs e = cc

pub partition-becomes : (k : Known) (inside : Bool) (cs : List Column) (c : List ℕ) (xs ys : List Op) → Becomes k true cs xs ys → Becomes k inside cs (V.Partition c xs ∷ []) (V.Partition c ys ∷ [])
partition-becomes k inside cs c xs ys a = becomes-one k inside cs (V.Partition c xs) (V.Partition c ys) (λ ds e.
    let b = has_kind is_key (column_kind c cs) in
    let within = outside-some inside (by_key b (ops_columns xs k true cs)) ds (sym (partition-out c xs k inside cs) ∙ e) in
    let some = key-some b (ops_columns xs k true cs) ds within in
    let r = a.keeps ds some.1 in (
      partition-out c ys k inside cs ∙ (ap (λ x. outside_subqueries inside (by_key b x)) (r.0 ∙ sym some.1) ∙ (sym (partition-out c xs k inside cs) ∙ e)),
      λ w t s h. partition-means c ys w t ∙ (partition-same c (subquery_of ys w) (subquery_of xs w) t h.1 (λ u g same. ops_mean-map ys w u ∙ (r.1 w u s (same ∙ h.0, g) ∙ sym (ops_mean-map xs w u))) ∙ sym (partition-means c xs w t)),
    ))
