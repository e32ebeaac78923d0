-- The rules that leave fewer operators: filters that keep all, `serialize`, `take` behind `take`, and `take` behind `sort`.
use Rattle.std.proofs.Common.{◌≡◌, ◌≤◌, nat_le, ℕ, zero, suc, Bool, true, List, [], ◌∷◌, take, min, refl, sym, ap, ◌∙◌, inl, inr, arith, rules}
use Rattle.std.specs.Prelude.{Option, None, Some, option_and_then}
use Rattle.std.proofs.lemmas.List.{take-take}
use Rattle.std.proofs.lemmas.Bool.{cases_Bool}
use Rattle.kql_cells.specs.Table.{Grid, gathered}
use Rattle.kql_cells.specs.declared.schema.Column.{Column}
use Rattle.kql_cells.specs.declared.value.Value.{Value}
use Rattle.kql_cells.specs.declared.value.Value.TheVariants as value
use Rattle.kql_bound.specs.declared.expr.BExpr.{BExpr}
use Rattle.kql_bound.specs.declared.expr.BExpr.TheVariants as E
use Rattle.kql_bound.specs.declared.literal.Lit.{Lit}
use Rattle.kql_bound.specs.declared.parts.BItem.{BItem}
use Rattle.kql_bound.specs.declared.parts.BKey.{BKey}
use Rattle.kql_bound.specs.declared.plan.Op.{Op, the_lemmas}
use Rattle.kql_bound.specs.declared.plan.Op.TheOpen.{Op-F}
use Rattle.kql_bound.specs.declared.plan.Op.TheVariants as V
use Rattle.kql_meaning.specs.Expressions.{val}
use Rattle.kql_meaning.specs.Extend.{extend_table}
use Rattle.kql_meaning.specs.Fits.{Known}
use Rattle.kql_meaning.specs.FittingExpressions.{literal_of}
use Rattle.kql_meaning.specs.FittingOperators.{where_fits}
use Rattle.kql_meaning.specs.Plans.{World, op_means}
use Rattle.kql_meaning.specs.Sort.{sort_table, top_table}
use Rattle.kql_meaning.specs.Tables.{places}
use Rattle.kql_meaning.specs.TakeAndCount.{count_table, take_table}
use Rattle.kql_meaning.specs.MvExpand.{expand_table}
use Rattle.kql_meaning.specs.Parse.{parse_table}
use Rattle.kql_meaning.specs.Project.{project_table}
use Rattle.kql_meaning.specs.Summarize.{summarize_table}
use Rattle.kql_bound.specs.declared.parts.Expand.{Expand}
use Rattle.kql_bound.specs.declared.parts.GroupPlan.{GroupPlan}
use Rattle.kql_bound.specs.declared.parts.ParsePlan.{ParsePlan}
use Rattle.kql_meaning.specs.Values.{holds}
use Rattle.kql_meaning.specs.Where.{where_table}
use Rattle.kql_scalar_fns.specs.Logic.{truth}
use Rattle.kql_meaning.proofs.ListLaws.{gathered-all}
use Rattle.kql_meaning.proofs.SortLaws.{top_is_first_of_sorted}
use Rattle.kql_meaning.proofs.ValueLaws.{val-Literal}
use Rattle.kql_meaning.proofs.OperatorFitLaws.{op-Serialize, op-Sort, op-Take, op-Top, op-Where}
use Rattle.kql_meaning.proofs.OperatorFitLaws.{ops-start}
use Rattle.kql_fit_laws.proofs.RowFacts.{columns-some}
use Rattle.kql_fit_laws.proofs.RowLaws.{means}
use Rattle.plan_rules.proofs.RowWise.{filter-same, filter-yes}
use Rattle.plan_rules.proofs.RuleViews.{both-some, filter-is, literal-is, one-along, pair-along, pair-becomes, serialize-is, sort-is, take-is, when-some}
use Rattle.plan_rules.proofs.Subplans.{one-columns}
use Rattle.plan_rules.proofs.Sizes.{op_size-Sort, op_size-Take, op_size-Top}
use Rattle.plan_rules.proofs.Weights.{one-to-none, two-to-one, weight-Serialize, weight-Sort, weight-Take, weight-Top, weight-Where}
use Rattle.plan_rules.specs.Becomes.{Becomes}
use Rattle.plan_rules.specs.Improves.{Improves}
use Rattle.plan_rules.specs.Rules.{bare_serialize, is_true_literal, is_true_value, sort_then_take, true_filter, two_takes, when}
use Rattle.plan_rules.specs.Views.{filter_of, is_serialize, sort_of, take_of}
use Rattle.plan_rules.specs.Weight.{mover, other}

-- What operators make.

pub where-means : (q : BExpr) (w : World) (t : Grid) → op_means (V.Where q) w t ≡ where_table q t
where-means q w t = means (V.Where q) (Op-F.Where q) (search (rules, the_lemmas)) w t

pub take-means : (n : ℕ) (w : World) (t : Grid) → op_means (V.Take n) w t ≡ take_table n t
take-means n w t = means (V.Take n) (Op-F.Take n) (search (rules, the_lemmas)) w t

pub sort-means : (keys : List BKey) (w : World) (t : Grid) → op_means (V.Sort keys) w t ≡ sort_table keys t
sort-means keys w t = means (V.Sort keys) (Op-F.Sort keys) (search (rules, the_lemmas)) w t

pub top-means : (n : ℕ) (keys : List BKey) (w : World) (t : Grid) → op_means (V.Top n keys) w t ≡ top_table n keys t
top-means n keys w t = means (V.Top n keys) (Op-F.Top n keys) (search (rules, the_lemmas)) w t

pub serialize-means : (w : World) (t : Grid) → op_means V.Serialize w t ≡ t
serialize-means w t = means V.Serialize Op-F.Serialize (search (rules, the_lemmas)) w t

pub extend-means : (items : List BItem) (w : World) (t : Grid) → op_means (V.Extend items) w t ≡ extend_table items t
extend-means items w t = means (V.Extend items) (Op-F.Extend items) (search (rules, the_lemmas)) w t

pub project-means : (items : List BItem) (w : World) (t : Grid) → op_means (V.Project items) w t ≡ project_table items t
project-means items w t = means (V.Project items) (Op-F.Project items) (search (rules, the_lemmas)) w t

pub count-means : (w : World) (t : Grid) → op_means V.Count w t ≡ count_table t
count-means w t = means V.Count Op-F.Count (search (rules, the_lemmas)) w t

pub expand-means : (x : Expand) (w : World) (t : Grid) → op_means (V.MvExpand x) w t ≡ expand_table x t
expand-means x w t = means (V.MvExpand x) (Op-F.MvExpand x) (search (rules, the_lemmas)) w t

pub parse-means : (p : ParsePlan) (w : World) (t : Grid) → op_means (V.Parse p) w t ≡ parse_table p t
parse-means p w t = means (V.Parse p) (Op-F.Parse p) (search (rules, the_lemmas)) w t

pub group-means : (g : GroupPlan) (w : World) (t : Grid) → op_means (V.Summarize g) w t ≡ summarize_table g t
group-means g w t = means (V.Summarize g) (Op-F.Summarize g) (search (rules, the_lemmas)) w t

pub some-same : (a b : List Column) → Some a ≡ Some b → a ≡ b
some-same a b e = cc

-- `where true`.

true-value : (v : Value) → is_true_value v ≡ true → holds v ≡ true
unfolding holds truth
true-value (value.Bool b) e = e
true-value _ e = absurd cc

true-rows : (l : Lit) → is_true_value l.value ≡ true → (t : Grid) → where_table (E.Literal l) t ≡ t
unfolding where_table
true-rows l e t =
    ap (gathered t) (filter-same (λ i. holds (val (E.Literal l) t i [])) (λ i. true) (places t) (λ i m. ap holds (val-Literal l t i []) ∙ true-value l.value e) ∙ filter-yes (places t))
    ∙ gathered-all t

true-literal : (o : Option Lit) → is_true_literal o ≡ true → (l : Lit) × (o ≡ Some l) × (is_true_value l.value ≡ true)
true-literal None e = absurd cc
true-literal (Some l) e = (l, refl, e)

true-becomes : (k : Known) (inside : Bool) (cs : List Column) (l : Lit) → is_true_value l.value ≡ true → Becomes k inside cs (V.Where (E.Literal l) ∷ []) []
true-becomes k inside cs l e = record {
  keeps = λ ds f.
      let q = E.Literal l in
      let same = columns-some (where_fits q cs) cs ds (sym (op-Where q k inside cs) ∙ (sym (one-columns (V.Where q) k inside cs) ∙ f)) in
      (ops-start k inside cs ∙ ap (λ c. Some c) same.1, λ w t s h. sym (where-means q w t ∙ true-rows l e t));
}

then-some : (o : Option BExpr) (zs : List Op) → option_and_then (λ q. when (is_true_literal (literal_of q)) []) o ≡ Some zs → (q : BExpr) × (o ≡ Some q) × (is_true_literal (literal_of q) ≡ true) × ([] ≡ zs)
then-some None zs e = absurd cc
then-some (Some q) zs e = let r = when-some (is_true_literal (literal_of q)) [] zs e in (q, refl, r.0, r.1)

pub true_filter-improves : (k : Known) (inside : Bool) (cs : List Column) (x : Op) (zs : List Op) → true_filter x ≡ Some zs → Improves k inside cs (x ∷ []) zs
unfolding true_filter
true_filter-improves k inside cs x zs e =
    let r = then-some (filter_of x) zs e in
    let l = true-literal (literal_of r.0) r.2 in
    let is : x ≡ V.Where (E.Literal l.0) = filter-is x r.0 r.1 ∙ ap V.Where (literal-is r.0 l.0 l.1) in
    one-along k inside cs x (V.Where (E.Literal l.0)) zs [] is r.3 (record {
      becomes = true-becomes k inside cs l.0 l.2;
      lighter = one-to-none (V.Where (E.Literal l.0)) mover (weight-Where (E.Literal l.0)) (omega arith);
      no_longer = omega arith;
      no_larger = omega arith;
    })

-- `serialize`.

serialize-becomes : (k : Known) (inside : Bool) (cs : List Column) → Becomes k inside cs (V.Serialize ∷ []) []
serialize-becomes k inside cs = record {
  keeps = λ ds f.
      let same = some-same cs ds (sym (op-Serialize k inside cs) ∙ (sym (one-columns V.Serialize k inside cs) ∙ f)) in
      (ops-start k inside cs ∙ ap (λ c. Some c) same, λ w t s h. sym (serialize-means w t));
}

pub bare_serialize-improves : (k : Known) (inside : Bool) (cs : List Column) (x : Op) (zs : List Op) → bare_serialize x ≡ Some zs → Improves k inside cs (x ∷ []) zs
unfolding bare_serialize
bare_serialize-improves k inside cs x zs e =
    let r = when-some (is_serialize x) [] zs e in
    one-along k inside cs x V.Serialize zs [] (serialize-is x r.0) r.1 (record {
      becomes = serialize-becomes k inside cs;
      lighter = one-to-none V.Serialize other weight-Serialize (omega arith);
      no_longer = omega arith;
      no_larger = omega arith;
    })

-- `take` behind `take`.

take-less : {X : Type 0} (m n : ℕ) (xs : List X) → n ≤ m → take m (take n xs) ≡ take n xs
take-less zero n xs h = let none : n ≡ 0 = omega arith in rw none refl
take-less (suc m) zero xs h = refl
take-less (suc m) (suc n) [] h = refl
take-less (suc m) (suc n) (x ∷ xs) h = ap (λ ys. x ∷ ys) (take-less m n xs (omega arith))

take-min : {X : Type 0} (a b : ℕ) (xs : List X) → take (min a b) xs ≡ take b (take a xs)
take-min a b xs = elim (cases_Bool (nat_le a b)) [
  | inl t ↦ let h : a ≤ b = grind (arith, t) in let e : min a b ≡ a = omega (arith, h) in ap (λ n. take n xs) e ∙ sym (take-less b a xs h)
  | inr f ↦ let h : b ≤ a = grind (arith, f) in let e : min a b ≡ b = omega (arith, h) in ap (λ n. take n xs) e ∙ sym (take-take b a xs h)
]

pub takes-table : (a b : ℕ) (t : Grid) → take_table (min a b) t ≡ take_table b (take_table a t)
unfolding take_table
takes-table a b t = ap (λ (ls : List (List Value)). record { columns = t.columns; lines = ls }) (take-min a b t.lines)

pub takes-becomes : (k : Known) (inside : Bool) (cs : List Column) (a b : ℕ) → Becomes k inside cs (V.Take a ∷ V.Take b ∷ []) (V.Take (min a b) ∷ [])
takes-becomes k inside cs a b = pair-becomes k inside cs (V.Take a) (V.Take b) (V.Take (min a b) ∷ []) (λ mid ds e f. (
  one-columns (V.Take (min a b)) k inside cs ∙ (op-Take (min a b) k inside cs ∙ (sym (op-Take a k inside cs) ∙ (e ∙ (sym (op-Take b k inside mid) ∙ f)))),
  λ w t s h. take-means (min a b) w t ∙ (takes-table a b t ∙ (ap (take_table b) (sym (take-means a w t)) ∙ sym (take-means b w (op_means (V.Take a) w t)))),
))

pub two_takes-improves : (k : Known) (inside : Bool) (cs : List Column) (x y : Op) (zs : List Op) → two_takes x y ≡ Some zs → Improves k inside cs (x ∷ y ∷ []) zs
unfolding two_takes
two_takes-improves k inside cs x y zs e =
    let r = both-some (take_of x) (take_of y) (λ a b. when true (V.Take (min a b) ∷ [])) zs e in
    let s = when-some true (V.Take (min r.0 r.1) ∷ []) zs r.4 in
    pair-along k inside cs x y (V.Take r.0) (V.Take r.1) zs (V.Take (min r.0 r.1) ∷ []) (take-is x r.0 r.2) (take-is y r.1 r.3) s.1 (record {
      becomes = takes-becomes k inside cs r.0 r.1;
      lighter = two-to-one (V.Take r.0) (V.Take r.1) (V.Take (min r.0 r.1)) mover mover mover (weight-Take r.0) (weight-Take r.1) (weight-Take (min r.0 r.1)) (omega arith) (omega arith) (omega arith);
      no_longer = omega arith;
      no_larger = omega (arith, op_size-Take r.0, op_size-Take (min r.0 r.1));
    })

-- `take` behind `sort`.

pub top-becomes : (k : Known) (inside : Bool) (cs : List Column) (keys : List BKey) (n : ℕ) → Becomes k inside cs (V.Sort keys ∷ V.Take n ∷ []) (V.Top n keys ∷ [])
top-becomes k inside cs keys n = pair-becomes k inside cs (V.Sort keys) (V.Take n) (V.Top n keys ∷ []) (λ mid ds e f. (
  one-columns (V.Top n keys) k inside cs ∙ (op-Top n keys k inside cs ∙ (sym (op-Sort keys k inside cs) ∙ (e ∙ (sym (op-Take n k inside mid) ∙ f)))),
  λ w t s h. top-means n keys w t ∙ (top_is_first_of_sorted n keys t ∙ (ap (take_table n) (sym (sort-means keys w t)) ∙ sym (take-means n w (op_means (V.Sort keys) w t)))),
))

pub sort_then_take-improves : (k : Known) (inside : Bool) (cs : List Column) (x y : Op) (zs : List Op) → sort_then_take x y ≡ Some zs → Improves k inside cs (x ∷ y ∷ []) zs
unfolding sort_then_take
sort_then_take-improves k inside cs x y zs e =
    let r = both-some (sort_of x) (take_of y) (λ keys n. when true (V.Top n keys ∷ [])) zs e in
    let s = when-some true (V.Top r.1 r.0 ∷ []) zs r.4 in
    pair-along k inside cs x y (V.Sort r.0) (V.Take r.1) zs (V.Top r.1 r.0 ∷ []) (sort-is x r.0 r.2) (take-is y r.1 r.3) s.1 (record {
      becomes = top-becomes k inside cs r.0 r.1;
      lighter = two-to-one (V.Sort r.0) (V.Take r.1) (V.Top r.1 r.0) other mover other (weight-Sort r.0) (weight-Take r.1) (weight-Top r.1 r.0) (omega arith) (omega arith) (omega arith);
      no_longer = omega arith;
      no_larger = omega (arith, op_size-Sort r.0, op_size-Top r.1 r.0);
    })
