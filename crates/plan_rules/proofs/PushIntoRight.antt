-- A filter of right columns behind an inner join becomes one at the end of the right plan.
use Rattle.std.proofs.Common.{◌≡◌, ℕ, Bool, true, false, List, [], ◌∷◌, ◌++◌, refl, sym, ap, ◌∙◌, inl, inr}
use Rattle.std.specs.Prelude.{◌&&◌, not, bytes_eq, cond, fold, Option, None, Some}
use Rattle.std.proofs.lemmas.Bool.{and_parts, cases_Bool}
use Rattle.std.proofs.lemmas.Slice.Eq.{bytes_eq-Decides}
use Rattle.kql_cells.specs.Table.{Grid}
use Rattle.kql_cells.specs.declared.schema.Column.{Column}
use Rattle.kql_cells.specs.declared.value.Kind.TheVariants as kind
use Rattle.kql_functions.specs.Kinds.{same_kind}
use Rattle.kql_bound.specs.declared.expr.BExpr.{BExpr}
use Rattle.kql_bound.specs.declared.parts.JoinPlan.{JoinPlan}
use Rattle.kql_bound.specs.declared.plan.Op.{Op}
use Rattle.kql_bound.specs.declared.plan.Op.TheVariants as V
use Rattle.kql_bound.specs.declared.plan.Plan.{Plan}
use Rattle.kql_meaning.specs.declared.position.Position.TheVariants as position
use Rattle.kql_meaning.specs.Expressions.{column_kind}
use Rattle.kql_meaning.specs.Fits.{Known, joined_columns, of_columns, ops_columns, outside_subqueries, plan_columns, source_columns}
use Rattle.kql_meaning.specs.FittingOperators.{are_distinct, join_fits, where_fits}
use Rattle.kql_meaning.specs.Join.{both_columns, free_name, join_columns, join_table, renamed, shown_columns}
use Rattle.kql_meaning.specs.Plans.{World, op_means, plan_means, source_table}
use Rattle.kql_meaning.specs.Tables.{has_column, is_name_among, names_of}
use Rattle.kql_meaning.specs.Where.{where_table}
use Rattle.kql_meaning.proofs.PlanLaws.{plan_means-out}
use Rattle.kql_meaning.proofs.OperatorFitLaws.{after, join-out, op-Where, ops-fold, plan-out}
use Rattle.kql_fit_laws.proofs.RowFacts.{columns-some}
use Rattle.kql_fit_laws.specs.LawsOfOperators.{EachPlanKeeps}
use Rattle.kql_fit_laws.specs.LawsOfRows.{IsTableOf}
use Rattle.plan_rules.proofs.Context.{columns-append}
use Rattle.kql_meaning.proofs.NamedCells.{has-append, has-cons, has-none, kind-append, kind-cons}
use Rattle.plan_rules.proofs.PushExtend.{kept-if, made-some}
use Rattle.plan_rules.proofs.PushRight.{not-false, own, right_alone_names}
use Rattle.plan_rules.proofs.PushJoin.{outside-some}
use Rattle.plan_rules.specs.Rules.{filtered}
use Rattle.plan_rules.proofs.ReadFits.{SameColumns, fits-as-alike}
use Rattle.plan_rules.proofs.RuleViews.{pair-becomes}
use Rattle.plan_rules.proofs.ShortRules.{where-means}
use Rattle.plan_rules.proofs.Subplans.{join-means, one-columns}
use Rattle.plan_rules.specs.Becomes.{Becomes, ops_mean}
use Rattle.plan_rules.specs.OwnNames.{own_name}
use Rattle.plan_rules.specs.Reads.{reads_only, with_names}

-- The type of a right column, where no two have one name.

same-eq : (n : List ℕ) → bytes_eq n n ≡ true
same-eq n = (bytes_eq-Decides n n).1 refl

has-own : (taken : List (List ℕ)) (rc : List Column) (n : List ℕ) → has_column n (renamed taken rc) ≡ true → has_column (own_name taken rc n) rc ≡ true
unfolding renamed own_name
has-own taken [] n h = let no : false ≡ true = sym (has-none n) ∙ h in absurd cc
has-own taken (c ∷ cs) n h = elim (cases_Bool (bytes_eq (free_name taken c.name) n)) [
  | inl t ↦ rw t (has-cons c cs c.name ∙ rw (same-eq c.name) refl)
  | inr g ↦
      let rest : has_column n (renamed (taken ++ free_name taken c.name ∷ []) cs) ≡ true = let e = sym (has-cons (record { name = free_name taken c.name; kind = c.kind }) (renamed (taken ++ free_name taken c.name ∷ []) cs) n) ∙ h in rw g at e in
      let there = has-own (taken ++ free_name taken c.name ∷ []) cs n rest in
      rw g (has-cons c cs (own_name (taken ++ free_name taken c.name ∷ []) cs n) ∙ either (bytes_eq c.name (own_name (taken ++ free_name taken c.name ∷ []) cs n)) there)
]
  where
    either : {x : Bool} (b : Bool) → x ≡ true → cond b true x ≡ true
    either true e = refl
    either false e = e

other-name : (c : Column) (cs : List Column) (m : List ℕ) → not (is_name_among (names_of cs) c.name) ≡ true → has_column m cs ≡ true → bytes_eq c.name m ≡ false
unfolding has_column
other-name c cs m h there = elim (cases_Bool (bytes_eq c.name m)) [
  | inl t ↦
      let among : is_name_among (names_of cs) c.name ≡ true = ap (is_name_among (names_of cs)) ((bytes_eq-Decides c.name m).0 t) ∙ there in
      let no : false ≡ true = ap not (sym among) ∙ h in
      absurd cc
  | inr f ↦ f
]

kind-own : (taken : List (List ℕ)) (rc : List Column) (n : List ℕ) → are_distinct (names_of rc) ≡ true → has_column n (renamed taken rc) ≡ true → column_kind (own_name taken rc n) rc ≡ column_kind n (renamed taken rc)
unfolding renamed own_name are_distinct names_of
kind-own taken [] n d h = let no : false ≡ true = sym (has-none n) ∙ h in absurd cc
kind-own taken (c ∷ cs) n d h = elim (cases_Bool (bytes_eq (free_name taken c.name) n)) [
  | inl t ↦ rw t (kind-cons c cs c.name ∙ rw (same-eq c.name) (sym (kind-cons (record { name = free_name taken c.name; kind = c.kind }) (renamed (taken ++ free_name taken c.name ∷ []) cs) n ∙ rw t refl)))
  | inr g ↦
      let more = taken ++ free_name taken c.name ∷ [] in
      let p = and_parts (not (is_name_among (names_of cs) c.name)) (are_distinct (names_of cs)) d in
      let rest : has_column n (renamed more cs) ≡ true = let e = sym (has-cons (record { name = free_name taken c.name; kind = c.kind }) (renamed more cs) n) ∙ h in rw g at e in
      let off = other-name c cs (own_name more cs n) p.0 (has-own more cs n rest) in
      rw g (kind-cons c cs (own_name more cs n) ∙ rw off (kind-own more cs n p.1 rest ∙ sym (kind-cons (record { name = free_name taken c.name; kind = c.kind }) (renamed more cs) n ∙ rw g refl)))
]

shown-all : (j : JoinPlan) (rc : List Column) → j.lookup ≡ false → shown_columns j rc ≡ rc
unfolding shown_columns
shown-all j rc l = rw l refl

-- The same over columns that are shown.
shown-alike : (cs rc shown : List Column) → shown ≡ rc → are_distinct (names_of rc) ≡ true → (n : List ℕ) → (not (has_column n cs) && has_column n (renamed (names_of cs) shown)) ≡ true → (has_column (own_name (names_of cs) shown n) rc ≡ has_column n (cs ++ renamed (names_of cs) shown)) × (column_kind (own_name (names_of cs) shown n) rc ≡ column_kind n (cs ++ renamed (names_of cs) shown))
shown-alike cs rc shown e d n h =
    let p = and_parts (not (has_column n cs)) (has_column n (renamed (names_of cs) shown)) h in
    let out = not-false (has_column n cs) p.0 in
    let there : has_column n (renamed (names_of cs) rc) ≡ true = ap (λ ds. has_column n (renamed (names_of cs) ds)) (sym e) ∙ p.1 in
    let kinds : column_kind (own_name (names_of cs) shown n) rc ≡ column_kind n (renamed (names_of cs) shown) = ap (λ ds. column_kind (own_name (names_of cs) ds n) rc) e ∙ (kind-own (names_of cs) rc n d there ∙ ap (λ ds. column_kind n (renamed (names_of cs) ds)) (sym e)) in
    let has : has_column (own_name (names_of cs) shown n) rc ≡ true = ap (λ ds. has_column (own_name (names_of cs) ds n) rc) e ∙ has-own (names_of cs) rc n there in
    (has ∙ sym (has-append cs (renamed (names_of cs) shown) n ∙ rw out p.1), kinds ∙ sym (kind-append cs (renamed (names_of cs) shown) n ∙ rw out refl))

pub right-columns : (j : JoinPlan) (cs rc : List Column) → j.lookup ≡ false → are_distinct (names_of rc) ≡ true → SameColumns (right_alone_names j cs rc) (own j cs rc) rc (both_columns j cs rc)
unfolding both_columns
right-columns j cs rc l d n h = shown-alike cs rc (shown_columns j rc) (shown-all j rc l) d n h

pub where-right : (j : JoinPlan) (cs rc : List Column) (q : BExpr) → j.lookup ≡ false → are_distinct (names_of rc) ≡ true → reads_only (right_alone_names j cs rc) q ≡ true → where_fits (with_names (own j cs rc) q) rc ≡ where_fits q (both_columns j cs rc)
unfolding where_fits
where-right j cs rc q l d r = fits-as-alike (same_kind kind.Bool) q (right_alone_names j cs rc) (own j cs rc) r rc (both_columns j cs rc) (right-columns j cs rc l d) position.Window

-- The right plan with a filter at its end.

filtered-next : (k : Known) (p : Plan) (r : BExpr) (rc : List Column) → where_fits r rc ≡ true → (o : Option (List Column)) → source_columns p.source k ≡ o → of_columns o (λ cs. ops_columns p.ops k false cs) ≡ Some rc → of_columns o (λ cs. ops_columns (p.ops ++ V.Where r ∷ []) k false cs) ≡ Some rc
unfolding of_columns
filtered-next k p r rc fit None e f = absurd cc
filtered-next k p r rc fit (Some cs) e f =
    columns-append p.ops (V.Where r ∷ []) k false cs ∙ (ap (λ z. fold (after k false) z (V.Where r ∷ [])) f ∙ (sym (ops-fold (V.Where r ∷ []) k false rc) ∙ (one-columns (V.Where r) k false rc ∙ (op-Where r k false rc ∙ kept-if (where_fits r rc) rc fit))))

filtered-columns : (k : Known) (p : Plan) (r : BExpr) (rc : List Column) → where_fits r rc ≡ true → plan_columns p k ≡ Some rc → plan_columns (filtered p r) k ≡ Some rc
filtered-columns k p r rc fit e = plan-out (filtered p r) k ∙ filtered-next k p r rc fit (source_columns p.source k) refl (sym (plan-out p k) ∙ e)

fold-append : {X Y : Type 0} (f : Y → X → Y) (z : Y) (xs ys : List X) → fold f z (xs ++ ys) ≡ fold f (fold f z xs) ys
fold-append f z [] ys = refl
fold-append f z (x ∷ xs) ys = fold-append f (f z x) xs ys

filtered-means : (p : Plan) (r : BExpr) (w : World) → plan_means (filtered p r) w ≡ where_table r (plan_means p w)
filtered-means p r w =
    plan_means-out (filtered p r) w
    ∙ (fold-append (λ (before : Grid) (op : Op). op_means op w before) (source_table p.source w) p.ops (V.Where r ∷ [])
    ∙ (where-means r w (ops_mean p.ops w (source_table p.source w)) ∙ ap (where_table r) (sym (plan_means-out p w))))

joined-at : (j : JoinPlan) (cs mid rc : List Column) (o : Option (List Column)) → o ≡ Some rc → joined_columns j cs o ≡ Some mid → join_columns j.kind j cs rc ≡ mid
unfolding joined_columns
joined-at j cs mid rc None e f = absurd cc
joined-at j cs mid rc (Some c) e f = let same : c ≡ rc = cc in ap (λ d. join_columns j.kind j cs d) (sym same) ∙ made-some (join_fits j cs c) (join_columns j.kind j cs c) mid f

-- What a join becomes whose right plan gets a filter of q under other names.
pub into-right-becomes : EachPlanKeeps → (k : Known) (inside : Bool) (cs rc : List Column) (j : JoinPlan) (p : Plan) (q : BExpr) (f : List ℕ → List ℕ) → plan_columns p k ≡ Some rc → (where_fits q (join_columns j.kind j cs rc) ≡ true → where_fits (with_names f q) rc ≡ true) → ((a b : Grid) → IsTableOf cs a → IsTableOf rc b → where_table q (join_table j a b) ≡ join_table j a (where_table (with_names f q) b)) → Becomes k inside cs (V.Join j p ∷ V.Where q ∷ []) (V.Join j (filtered p (with_names f q)) ∷ [])
into-right-becomes each k inside cs rc j p q f known fits same = pair-becomes k inside cs (V.Join j p) (V.Where q) (V.Join j (filtered p (with_names f q)) ∷ []) (λ mid ds e g.
    let r = with_names f q in
    let within = outside-some inside (joined_columns j cs (plan_columns p k)) mid (sym (join-out j p k inside cs) ∙ e) in
    let made = joined-at j cs mid rc (plan_columns p k) known within in
    let b = columns-some (where_fits q mid) mid ds (sym (op-Where q k inside mid) ∙ g) in
    let fit : where_fits r rc ≡ true = fits (ap (where_fits q) made ∙ b.0) in
    let still : plan_columns (filtered p r) k ≡ plan_columns p k = filtered-columns k p r rc fit known ∙ sym known in (
      one-columns (V.Join j (filtered p r)) k inside cs ∙ (join-out j (filtered p r) k inside cs ∙ (ap (λ x. outside_subqueries inside (joined_columns j cs x)) still ∙ (sym (join-out j p k inside cs) ∙ (e ∙ ap (λ c. Some c) b.1)))),
      λ w t s h.
          let right = plan_means p w in
          join-means j (filtered p r) w t ∙ (ap (join_table j t) (filtered-means p r w) ∙ (sym (same t right h (each k w s p rc known)) ∙ (ap (where_table q) (sym (join-means j p w t)) ∙ sym (where-means q w (op_means (V.Join j p) w t))))),
    ))
