-- `take` behind `top`, and operators that a count does not see.
use Rattle.std.proofs.Common.{◌≡◌, ℕ, Bool, true, List, [], ◌∷◌, length, min, refl, sym, ap, ◌∙◌, subst, arith}
use Rattle.std.specs.Prelude.{◌&&◌, Some, pos}
use Rattle.std.proofs.lemmas.Bool.{and_parts}
use Rattle.std.proofs.lemmas.List.{length-map}
use Rattle.std.proofs.lemmas.List.FromFn.{length-range_with_len}
use Rattle.std.proofs.lemmas.List.Sorted.{length_permutation}
use Rattle.kql_cells.specs.Table.{Grid}
use Rattle.kql_cells.specs.Seen.{row_at}
use Rattle.kql_cells.specs.declared.schema.Column.{Column}
use Rattle.kql_bound.specs.declared.parts.BItem.{BItem}
use Rattle.kql_bound.specs.declared.parts.BKey.{BKey}
use Rattle.kql_bound.specs.declared.plan.Op.{Op, out-Op}
use Rattle.kql_bound.specs.declared.plan.Op.TheOpen.{Op-F}
use Rattle.kql_bound.specs.declared.plan.Op.TheVariants as V
use Rattle.kql_bound.specs.declared.plan.Plan.{Plan}
use Rattle.kql_meaning.specs.Extend.{extend_table}
use Rattle.kql_meaning.specs.Fits.{Known}
use Rattle.kql_meaning.specs.Numbers.{counted}
use Rattle.kql_meaning.specs.Plans.{World, op_means}
use Rattle.kql_meaning.specs.Project.{project_table}
use Rattle.kql_meaning.specs.Sort.{sort_table, sorted_places, top_table}
use Rattle.kql_meaning.specs.Tables.{places, places_below}
use Rattle.kql_meaning.specs.TakeAndCount.{count_columns, count_table, take_table}
use Rattle.kql_meaning.proofs.OperatorFitLaws.{op-Count, op-Take, op-Top}
use Rattle.kql_meaning.proofs.SortLaws.{sort_rearranges, top_is_first_of_sorted}
use Rattle.kql_scalar_fns.specs.Arguments.{long_or_null}
use Rattle.kql_ticks.specs.Ranges.{fit}
use Rattle.plan_rules.proofs.RuleViews.{both-some, count-is, pair-along, pair-becomes, rolled, take-is, top-is, when-some}
use Rattle.plan_rules.proofs.ShortRules.{count-means, extend-means, project-means, sort-means, take-means, takes-table, top-means}
use Rattle.plan_rules.proofs.Subplans.{one-columns}
use Rattle.plan_rules.proofs.Sizes.{op_size-Top}
use Rattle.plan_rules.proofs.Weights.{two-to-one, weight-Count, weight-Extend, weight-Project, weight-Sort, weight-Take, weight-Top}
use Rattle.plan_rules.specs.Becomes.{Becomes}
use Rattle.plan_rules.specs.Improves.{Improves}
use Rattle.plan_rules.specs.Rules.{top_then_take, unseen_then_count, when}
use Rattle.plan_rules.specs.Views.{is_count, keeps_count, keeps_count_step, take_of, top_of}
use Rattle.plan_rules.specs.Weight.{mover, op_weight, other}

-- `take` behind `top`.

top-table : (n m : ℕ) (keys : List BKey) (t : Grid) → top_table (min n m) keys t ≡ take_table m (top_table n keys t)
top-table n m keys t = top_is_first_of_sorted (min n m) keys t ∙ (takes-table n m (sort_table keys t) ∙ ap (take_table m) (sym (top_is_first_of_sorted n keys t)))

pub top-take-becomes : (k : Known) (inside : Bool) (cs : List Column) (n m : ℕ) (keys : List BKey) → Becomes k inside cs (V.Top n keys ∷ V.Take m ∷ []) (V.Top (min n m) keys ∷ [])
top-take-becomes k inside cs n m keys = pair-becomes k inside cs (V.Top n keys) (V.Take m) (V.Top (min n m) keys ∷ []) (λ mid ds e f. (
  one-columns (V.Top (min n m) keys) k inside cs ∙ (op-Top (min n m) keys k inside cs ∙ (sym (op-Top n keys k inside cs) ∙ (e ∙ (sym (op-Take m k inside mid) ∙ f)))),
  λ w t s h. top-means (min n m) keys w t ∙ (top-table n m keys t ∙ (ap (take_table m) (sym (top-means n keys w t)) ∙ sym (take-means m w (op_means (V.Top n keys) w t)))),
))

pub top_then_take-improves : (k : Known) (inside : Bool) (cs : List Column) (x y : Op) (zs : List Op) → top_then_take x y ≡ Some zs → Improves k inside cs (x ∷ y ∷ []) zs
unfolding top_then_take
top_then_take-improves k inside cs x y zs e =
    let r = both-some (top_of x) (take_of y) (λ t m. when true (V.Top (min t.0 m) t.1 ∷ [])) zs e in
    let n = r.0.0 in
    let keys = r.0.1 in
    let s = when-some true (V.Top (min n r.1) keys ∷ []) zs r.4 in
    pair-along k inside cs x y (V.Top n keys) (V.Take r.1) zs (V.Top (min n r.1) keys ∷ []) (top-is x r.0 r.2) (take-is y r.1 r.3) s.1 (record {
      becomes = top-take-becomes k inside cs n r.1 keys;
      lighter = two-to-one (V.Top n keys) (V.Take r.1) (V.Top (min n r.1) keys) other mover other (weight-Top n keys) (weight-Take r.1) (weight-Top (min n r.1) keys) (omega arith) (omega arith) (omega arith);
      no_longer = omega arith;
      no_larger = omega (arith, op_size-Top n keys, op_size-Top (min n r.1) keys);
    })

-- The number of rows.

pub places-long : (t : Grid) → length (places t) ≡ length t.lines
unfolding places places_below
places-long t = length-range_with_len 0 (length t.lines)

sort-long : (keys : List BKey) (t : Grid) → length (sort_table keys t).lines ≡ length t.lines
unfolding sort_table
sort-long keys t = length-map (sorted_places keys t) (row_at t.lines) ∙ (length_permutation (places t) (sorted_places keys t) (sort_rearranges keys t) ∙ places-long t)

extend-long : (items : List BItem) (t : Grid) → length (extend_table items t).lines ≡ length t.lines
unfolding extend_table
extend-long items t = length-map (places t) _ ∙ places-long t

pub project-long : (items : List BItem) (t : Grid) → length (project_table items t).lines ≡ length t.lines
unfolding project_table
project-long items t = length-map (places t) _ ∙ places-long t

-- What is said of an operator that a count does not see.
record Unseen (x : Op) : Type 0 where
  count : (w : World) (t : Grid) → length (op_means x w t).lines ≡ length t.lines
  weight : op_weight x ≡ other

unseen-at : (f : Op-F Op Plan) → keeps_count_step f ≡ true → (x : Op) → out-Op x ≡ f → Unseen x
unseen-at (Op-F.Sort keys) h x e =
    subst Unseen (sym (rolled x (Op-F.Sort keys) e ∙ V.rolls-Sort keys)) (record { count = λ w t. ap (λ (u : Grid). length u.lines) (sort-means keys w t) ∙ sort-long keys t; weight = weight-Sort keys })
unseen-at (Op-F.Extend items) h x e =
    subst Unseen (sym (rolled x (Op-F.Extend items) e ∙ V.rolls-Extend items)) (record { count = λ w t. ap (λ (u : Grid). length u.lines) (extend-means items w t) ∙ extend-long items t; weight = weight-Extend items })
unseen-at (Op-F.Project items) h x e =
    subst Unseen (sym (rolled x (Op-F.Project items) e ∙ V.rolls-Project items)) (record { count = λ w t. ap (λ (u : Grid). length u.lines) (project-means items w t) ∙ project-long items t; weight = weight-Project items })
unseen-at _ h x e = absurd cc

unseen : (x : Op) → keeps_count x ≡ true → Unseen x
unfolding keeps_count
unseen x h = unseen-at (out-Op x) h x refl

count-same : (t u : Grid) → length t.lines ≡ length u.lines → count_table t ≡ count_table u
unfolding count_table counted
count-same t u e = ap (λ n. record { columns = count_columns; lines = (long_or_null (fit (pos n)) ∷ []) ∷ [] }) e

pub unseen-becomes : (k : Known) (inside : Bool) (cs : List Column) (x : Op) → keeps_count x ≡ true → Becomes k inside cs (x ∷ V.Count ∷ []) (V.Count ∷ [])
unseen-becomes k inside cs x h = pair-becomes k inside cs x V.Count (V.Count ∷ []) (λ mid ds e f. (
  one-columns V.Count k inside cs ∙ (op-Count k inside cs ∙ (sym (op-Count k inside mid) ∙ f)),
  λ w t s g. count-means w t ∙ (sym (count-same (op_means x w t) t ((unseen x h).count w t)) ∙ sym (count-means w (op_means x w t))),
))

pub unseen_then_count-improves : (k : Known) (inside : Bool) (cs : List Column) (x y : Op) (zs : List Op) → unseen_then_count x y ≡ Some zs → Improves k inside cs (x ∷ y ∷ []) zs
unfolding unseen_then_count
unseen_then_count-improves k inside cs x y zs e =
    let s = when-some (keeps_count x && is_count y) (V.Count ∷ []) zs e in
    let b = and_parts (keeps_count x) (is_count y) s.0 in
    pair-along k inside cs x y x V.Count zs (V.Count ∷ []) refl (count-is y b.1) s.1 (record {
      becomes = unseen-becomes k inside cs x b.0;
      lighter = two-to-one x V.Count V.Count other other other (unseen x b.0).weight weight-Count weight-Count (omega arith) (omega arith) (omega arith);
      no_longer = omega arith;
      no_larger = omega arith;
    })
