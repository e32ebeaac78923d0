-- What is known where a view or a rule gives something.
use Rattle.std.proofs.Common.{◌≡◌, ℕ, Bool, true, false, List, [], ◌∷◌, refl, sym, ap, ◌∙◌, subst}
use Rattle.std.specs.Prelude.{Option, None, Some, fold}
use Rattle.kql_cells.specs.Table.{Grid}
use Rattle.kql_cells.specs.declared.schema.Column.{Column}
use Rattle.kql_bound.specs.declared.expr.BExpr.{BExpr, out-BExpr, roll-BExpr, roll-out-BExpr}
use Rattle.kql_bound.specs.declared.expr.BExpr.TheOpen.{BExpr-F}
use Rattle.kql_bound.specs.declared.expr.BExpr.TheVariants as E
use Rattle.kql_bound.specs.declared.literal.Lit.{Lit}
use Rattle.kql_bound.specs.declared.parts.BItem.{BItem}
use Rattle.kql_bound.specs.declared.parts.BKey.{BKey}
use Rattle.kql_bound.specs.declared.parts.Expand.{Expand}
use Rattle.kql_bound.specs.declared.parts.GroupPlan.{GroupPlan}
use Rattle.kql_bound.specs.declared.parts.JoinPlan.{JoinPlan}
use Rattle.kql_bound.specs.declared.parts.ParsePlan.{ParsePlan}
use Rattle.kql_bound.specs.declared.plan.Op.{Op, out-Op, roll-Op, roll-out-Op}
use Rattle.kql_bound.specs.declared.plan.Op.TheOpen.{Op-F}
use Rattle.kql_bound.specs.declared.plan.Op.TheVariants as V
use Rattle.kql_bound.specs.declared.plan.Plan.{Plan}
use Rattle.kql_meaning.specs.Fits.{Known, op_columns, ops_columns}
use Rattle.kql_meaning.specs.FittingExpressions.{literal_of, literal_step}
use Rattle.kql_meaning.specs.Plans.{World, op_means}
use Rattle.kql_meaning.proofs.OperatorFitLaws.{after, ops-fold}
use Rattle.kql_fit_laws.specs.LawsOfPrograms.{Stands}
use Rattle.kql_fit_laws.specs.LawsOfRows.{IsTableOf}
use Rattle.plan_rules.proofs.Context.{columns-cons, columns-next, lost}
use Rattle.plan_rules.proofs.Subplans.{one-columns}
use Rattle.plan_rules.specs.Becomes.{Becomes, ops_mean}
use Rattle.plan_rules.specs.Improves.{Improves}
use Rattle.plan_rules.specs.Rules.{both_of, when}
use Rattle.plan_rules.specs.Views.{expand_of, expand_step, group_of_op, group_step, is_count, is_count_step, parse_of, parse_step, top_of, top_step, extend_of, extend_step, filter_of, filter_step, is_serialize, is_serialize_step, join_of, join_step, project_of, project_step, sort_of, sort_step, take_of, take_step}

-- Views.

pub rolled : (x : Op) (f : Op-F Op Plan) → out-Op x ≡ f → x ≡ roll-Op f
rolled x f e = sym (roll-out-Op x) ∙ ap roll-Op e

filter-at : (f : Op-F Op Plan) (q : BExpr) → filter_step f ≡ Some q → f ≡ Op-F.Where q
filter-at (Op-F.Where e) q h = let same : e ≡ q = cc in ap (λ x. Op-F.Where x) same
filter-at _ q h = absurd cc

pub filter-is : (x : Op) (q : BExpr) → filter_of x ≡ Some q → x ≡ V.Where q
unfolding filter_of
filter-is x q h = rolled x (Op-F.Where q) (filter-at (out-Op x) q h) ∙ V.rolls-Where q

take-at : (f : Op-F Op Plan) (n : ℕ) → take_step f ≡ Some n → f ≡ Op-F.Take n
take-at (Op-F.Take m) n h = let same : m ≡ n = cc in ap (λ x. Op-F.Take x) same
take-at _ n h = absurd cc

pub take-is : (x : Op) (n : ℕ) → take_of x ≡ Some n → x ≡ V.Take n
unfolding take_of
take-is x n h = rolled x (Op-F.Take n) (take-at (out-Op x) n h) ∙ V.rolls-Take n

extend-at : (f : Op-F Op Plan) (items : List BItem) → extend_step f ≡ Some items → f ≡ Op-F.Extend items
extend-at (Op-F.Extend is) items h = let same : is ≡ items = cc in ap (λ x. Op-F.Extend x) same
extend-at _ items h = absurd cc

pub extend-is : (x : Op) (items : List BItem) → extend_of x ≡ Some items → x ≡ V.Extend items
unfolding extend_of
extend-is x items h = rolled x (Op-F.Extend items) (extend-at (out-Op x) items h) ∙ V.rolls-Extend items

project-at : (f : Op-F Op Plan) (items : List BItem) → project_step f ≡ Some items → f ≡ Op-F.Project items
project-at (Op-F.Project is) items h = let same : is ≡ items = cc in ap (λ x. Op-F.Project x) same
project-at _ items h = absurd cc

pub project-is : (x : Op) (items : List BItem) → project_of x ≡ Some items → x ≡ V.Project items
unfolding project_of
project-is x items h = rolled x (Op-F.Project items) (project-at (out-Op x) items h) ∙ V.rolls-Project items

sort-at : (f : Op-F Op Plan) (keys : List BKey) → sort_step f ≡ Some keys → f ≡ Op-F.Sort keys
sort-at (Op-F.Sort ks) keys h = let same : ks ≡ keys = cc in ap (λ x. Op-F.Sort x) same
sort-at _ keys h = absurd cc

pub sort-is : (x : Op) (keys : List BKey) → sort_of x ≡ Some keys → x ≡ V.Sort keys
unfolding sort_of
sort-is x keys h = rolled x (Op-F.Sort keys) (sort-at (out-Op x) keys h) ∙ V.rolls-Sort keys

join-at : (f : Op-F Op Plan) (j : JoinPlan × Plan) → join_step f ≡ Some j → f ≡ Op-F.Join j.0 j.1
join-at (Op-F.Join a p) j h = let same : (a, p) ≡ j = cc in ap (λ (x : JoinPlan × Plan). Op-F.Join x.0 x.1) same
join-at _ j h = absurd cc

pub join-is : (x : Op) (j : JoinPlan × Plan) → join_of x ≡ Some j → x ≡ V.Join j.0 j.1
unfolding join_of
join-is x j h = rolled x (Op-F.Join j.0 j.1) (join-at (out-Op x) j h) ∙ V.rolls-Join j.0 j.1

serialize-at : (f : Op-F Op Plan) → is_serialize_step f ≡ true → f ≡ Op-F.Serialize
serialize-at Op-F.Serialize h = refl
serialize-at _ h = absurd cc

pub serialize-is : (x : Op) → is_serialize x ≡ true → x ≡ V.Serialize
unfolding is_serialize
serialize-is x h = rolled x Op-F.Serialize (serialize-at (out-Op x) h) ∙ V.rolls-Serialize

expand-at : (f : Op-F Op Plan) (v : Expand) → expand_step f ≡ Some v → f ≡ Op-F.MvExpand v
expand-at (Op-F.MvExpand w) v h = let same : w ≡ v = cc in ap (λ x. Op-F.MvExpand x) same
expand-at _ v h = absurd cc

pub expand-is : (x : Op) (v : Expand) → expand_of x ≡ Some v → x ≡ V.MvExpand v
unfolding expand_of
expand-is x v h = rolled x (Op-F.MvExpand v) (expand-at (out-Op x) v h) ∙ V.rolls-MvExpand v

parse-at : (f : Op-F Op Plan) (v : ParsePlan) → parse_step f ≡ Some v → f ≡ Op-F.Parse v
parse-at (Op-F.Parse w) v h = let same : w ≡ v = cc in ap (λ x. Op-F.Parse x) same
parse-at _ v h = absurd cc

pub parse-is : (x : Op) (v : ParsePlan) → parse_of x ≡ Some v → x ≡ V.Parse v
unfolding parse_of
parse-is x v h = rolled x (Op-F.Parse v) (parse-at (out-Op x) v h) ∙ V.rolls-Parse v

group-at : (f : Op-F Op Plan) (v : GroupPlan) → group_step f ≡ Some v → f ≡ Op-F.Summarize v
group-at (Op-F.Summarize w) v h = let same : w ≡ v = cc in ap (λ x. Op-F.Summarize x) same
group-at _ v h = absurd cc

pub group-is : (x : Op) (v : GroupPlan) → group_of_op x ≡ Some v → x ≡ V.Summarize v
unfolding group_of_op
group-is x v h = rolled x (Op-F.Summarize v) (group-at (out-Op x) v h) ∙ V.rolls-Summarize v

top-at : (f : Op-F Op Plan) (t : ℕ × List BKey) → top_step f ≡ Some t → f ≡ Op-F.Top t.0 t.1
top-at (Op-F.Top n ks) t h = let same : (n, ks) ≡ t = cc in ap (λ (x : ℕ × List BKey). Op-F.Top x.0 x.1) same
top-at _ t h = absurd cc

pub top-is : (x : Op) (t : ℕ × List BKey) → top_of x ≡ Some t → x ≡ V.Top t.0 t.1
unfolding top_of
top-is x t h = rolled x (Op-F.Top t.0 t.1) (top-at (out-Op x) t h) ∙ V.rolls-Top t.0 t.1

count-at : (f : Op-F Op Plan) → is_count_step f ≡ true → f ≡ Op-F.Count
count-at Op-F.Count h = refl
count-at _ h = absurd cc

pub count-is : (x : Op) → is_count x ≡ true → x ≡ V.Count
unfolding is_count
count-is x h = rolled x Op-F.Count (count-at (out-Op x) h) ∙ V.rolls-Count

literal-at : (f : BExpr-F BExpr) (l : Lit) → literal_step f ≡ Some l → f ≡ BExpr-F.Literal l
literal-at (BExpr-F.Literal m) l h = let same : m ≡ l = cc in ap (λ x. BExpr-F.Literal x) same
literal-at _ l h = absurd cc

pub literal-is : (e : BExpr) (l : Lit) → literal_of e ≡ Some l → e ≡ E.Literal l
unfolding literal_of
literal-is e l h = sym (roll-out-BExpr e) ∙ (ap roll-BExpr (literal-at (out-BExpr e) l h) ∙ E.rolls-Literal l)

-- Steps of a rule.

pub both-some : {A B C : Type 0} (a : Option A) (b : Option B) (f : A → B → Option C) (c : C) → both_of a b f ≡ Some c → (x : A) × (y : B) × (a ≡ Some x) × (b ≡ Some y) × (f x y ≡ Some c)
both-some None None f c e = absurd cc
both-some None (Some y) f c e = absurd cc
both-some (Some x) None f c e = absurd cc
both-some (Some x) (Some y) f c e = (x, y, refl, refl, e)

pub when-some : (b : Bool) (zs ys : List Op) → when b zs ≡ Some ys → (b ≡ true) × (zs ≡ ys)
when-some true zs ys e = (refl, cc)
when-some false zs ys e = absurd cc

-- Two neighbours that fit.

two-next : (k : Known) (inside : Bool) (cs : List Column) (x y : Op) (ds : List Column) (o : Option (List Column)) → op_columns x k inside cs ≡ o → fold (after k inside) o (y ∷ []) ≡ Some ds → (mid : List Column) × (op_columns x k inside cs ≡ Some mid) × (op_columns y k inside mid ≡ Some ds)
two-next k inside cs x y ds None e f = let none = lost k inside (y ∷ []) ds f in absurd cc
two-next k inside cs x y ds (Some mid) e f = (mid, e, sym (one-columns y k inside mid) ∙ (ops-fold (y ∷ []) k inside mid ∙ f))

pub two-columns : (k : Known) (inside : Bool) (cs : List Column) (x y : Op) (ds : List Column) → ops_columns (x ∷ y ∷ []) k inside cs ≡ Some ds → (mid : List Column) × (op_columns x k inside cs ≡ Some mid) × (op_columns y k inside mid ≡ Some ds)
two-columns k inside cs x y ds e = two-next k inside cs x y ds (op_columns x k inside cs) refl (sym (columns-cons x (y ∷ []) k inside cs) ∙ e)

pub two-fit : (k : Known) (inside : Bool) (cs mid : List Column) (x y : Op) (ds : List Column) → op_columns x k inside cs ≡ Some mid → op_columns y k inside mid ≡ Some ds → ops_columns (x ∷ y ∷ []) k inside cs ≡ Some ds
two-fit k inside cs mid x y ds e f = columns-next x (y ∷ []) k inside cs mid e ∙ (one-columns y k inside mid ∙ f)

-- What two neighbours become, from what the operators make.
pub pair-becomes : (k : Known) (inside : Bool) (cs : List Column) (x y : Op) (zs : List Op) → ((mid ds : List Column) → op_columns x k inside cs ≡ Some mid → op_columns y k inside mid ≡ Some ds → (ops_columns zs k inside cs ≡ Some ds) × ((w : World) (t : Grid) → Stands k w → IsTableOf cs t → ops_mean zs w t ≡ op_means y w (op_means x w t))) → Becomes k inside cs (x ∷ y ∷ []) zs
pair-becomes k inside cs x y zs keep = record {
  keeps = λ ds e. let q = two-columns k inside cs x y ds e in keep q.0 ds q.1 q.2;
}

pub pair-along : (k : Known) (inside : Bool) (cs : List Column) (x y u v : Op) (zs ws : List Op) → x ≡ u → y ≡ v → ws ≡ zs → Improves k inside cs (u ∷ v ∷ []) ws → Improves k inside cs (x ∷ y ∷ []) zs
pair-along k inside cs x y u v zs ws e f g h =
    subst (λ a. Improves k inside cs (a ∷ y ∷ []) zs) (sym e) (subst (λ b. Improves k inside cs (u ∷ b ∷ []) zs) (sym f) (subst (λ c. Improves k inside cs (u ∷ v ∷ []) c) g h))

pub one-along : (k : Known) (inside : Bool) (cs : List Column) (x u : Op) (zs ws : List Op) → x ≡ u → ws ≡ zs → Improves k inside cs (u ∷ []) ws → Improves k inside cs (x ∷ []) zs
one-along k inside cs x u zs ws e g h = subst (λ a. Improves k inside cs (a ∷ []) zs) (sym e) (subst (λ c. Improves k inside cs (u ∷ []) c) g h)
