-- The columns that the rules on an operator ask for.
use Rattle.std.proofs.Common.{◌≡◌, ℕ, Bool, true, false, List, [], ◌∷◌, length, refl, sym, ap, ap₂, ◌∙◌, subst}
use Rattle.std.specs.Prelude.{◌||◌, slice_get, unwrap_or, None, Option, Some, is_some, option_and_then}
use Rattle.kql_cells.specs.declared.schema.Column.{Column}
use Rattle.kql_bound.specs.declared.plan.Op.{Op}
use Rattle.kql_meaning.specs.Fits.{Known}
use Rattle.plan_columns.specs.Made.{ops_make}
use Rattle.plan_rules.specs.Rules.{both_of, bare_serialize, expand_then_filter, extend_then_filter, group_then_filter, idle_projection, join_then_filter, join_then_right_filter, parse_then_filter, project_then_filter, sort_then_filter, true_filter, unique_then_filter}
use Rattle.plan_rules.specs.Views.{filter_of, join_of, project_of}
use Rattle.plan_neighbours.specs.Table.{change_rule, merge_rule, rename_rule, single_rule}
use Rattle.plan_swaps.specs.Swaps.{filter_rule, first_some, swap_rule, take_rule}
use Rattle.plan_push.proofs.PlaceSteps.{found-here}
use Rattle.plan_push.specs.Walk.{Begun, Found, Ready, Walk, next_change, next_swaps}

-- Rules that do not ask for them.

and-none : {A B : Type 0} (o : Option A) (f : A → Option B) → o ≡ None → option_and_then f o ≡ None
and-none None f e = refl
and-none (Some a) f e = absurd cc

none-both : {A B C : Type 0} (b : Option B) (f : A → B → Option C) → both_of None b f ≡ None
none-both None f = refl
none-both (Some b) f = refl

both-none : {A B C : Type 0} (a : Option A) (b : Option B) (f : A → B → Option C) → a ≡ None → both_of a b f ≡ None
both-none None b f e = none-both b f
both-none (Some a) b f e = absurd cc

idle-none : (cs : List Column) (x : Op) → project_of x ≡ None → idle_projection cs x ≡ None
unfolding idle_projection
idle-none cs x e = and-none (project_of x) _ e

left-none : (cs : List Column) (x y : Op) → join_of x ≡ None → join_then_filter cs x y ≡ None
unfolding join_then_filter
left-none cs x y e = both-none (join_of x) (filter_of y) _ e

unique-none : (cs : List Column) (x y : Op) → join_of x ≡ None → unique_then_filter cs x y ≡ None
unfolding unique_then_filter
unique-none cs x y e = both-none (join_of x) (filter_of y) _ e

right-none : (k : Known) (cs : List Column) (x y : Op) → join_of x ≡ None → join_then_right_filter k cs x y ≡ None
unfolding join_then_right_filter
right-none k cs x y e = both-none (join_of x) (filter_of y) _ e

single-free : (cs ds : List Column) (x : Op) → project_of x ≡ None → single_rule cs x ≡ single_rule ds x
unfolding single_rule
single-free cs ds x e = ap (λ o. first_some (true_filter x) (first_some (bare_serialize x) o)) (idle-none cs x e ∙ sym (idle-none ds x e))

filter-free : (cs ds : List Column) (x y : Op) → join_of x ≡ None → filter_rule cs x y ≡ filter_rule ds x y
unfolding filter_rule
filter-free cs ds x y e =
    ap₂ (λ a b. first_some (extend_then_filter x y) (first_some (sort_then_filter x y) (first_some (expand_then_filter x y) (first_some (parse_then_filter x y) (first_some a b)))))
    (left-none cs x y e ∙ sym (left-none ds x y e)) (unique-none cs x y e ∙ sym (unique-none ds x y e))

swap-free : (cs ds : List Column) (x y : Op) → join_of x ≡ None → swap_rule cs x y ≡ swap_rule ds x y
unfolding swap_rule
swap-free cs ds x y e = ap (λ o. first_some (take_rule x y) o) (filter-free cs ds x y e)

rename-free : (k : Known) (cs ds : List Column) (x y : Op) → join_of x ≡ None → rename_rule k cs x y ≡ rename_rule k ds x y
unfolding rename_rule
rename-free k cs ds x y e = ap (λ o. first_some (project_then_filter x y) (first_some o (group_then_filter x y))) (right-none k cs x y e ∙ sym (right-none k ds x y e))

change-free : (k : Known) (cs ds : List Column) (x y : Op) → join_of x ≡ None → change_rule k cs x y ≡ change_rule k ds x y
unfolding change_rule
change-free k cs ds x y e = ap (λ o. first_some (merge_rule x y) o) (rename-free k cs ds x y e)

-- What is ready.

neither : {A B : Type 0} (a : Option A) (b : Option B) → (is_some a || is_some b) ≡ false → (a ≡ None) × (b ≡ None)
neither None None e = (refl, refl)
neither None (Some b) e = absurd cc
neither (Some a) None e = absurd cc
neither (Some a) (Some b) e = absurd cc

pub ready-free : (k : Known) (cs : List Column) (before : List (List Column)) (passed : List Op) (x : Op) → (is_some (project_of x) || is_some (join_of x)) ≡ false → Begun k cs before passed → Ready k cs before passed x
ready-free k cs before passed x e b =
    let none = neither (project_of x) (join_of x) e in
    let here = unwrap_or (slice_get before (length passed)) [] in
    let there = ops_make passed k cs in
    record {
      begun = b;
      single = single-free here there x none.0;
      swaps = λ y. swap-free here there x y none.1;
      change = λ y. change-free k here there x y none.1;
    }

pub ready-found : (k : Known) (cs : List Column) (before : List (List Column)) (passed : List Op) (x : Op) → Found k cs before passed → Ready k cs before passed x
ready-found k cs before passed x f =
    let same = found-here k cs before passed (length passed) refl f in
    record {
      begun = f.begun;
      single = ap (λ c. single_rule c x) same;
      swaps = λ y. ap (λ c. swap_rule c x y) same;
      change = λ y. ap (λ c. change_rule k c x y) same;
    }

-- The same of the columns that are at hand at a step.
pub record Here (k : Known) (cs now : List Column) (before : List (List Column)) (passed : List Op) (x : Op) : Type 0 where
  pub begun : Begun k cs before passed
  pub single : single_rule now x ≡ single_rule (ops_make passed k cs) x
  pub swaps : (y : Op) → swap_rule now x y ≡ swap_rule (ops_make passed k cs) x y
  pub change : (y : Op) → change_rule k now x y ≡ change_rule k (ops_make passed k cs) x y

ready-here : (k : Known) (cs now : List Column) (mid : List (List Column)) (passed : List Op) (x : Op) → now ≡ unwrap_or (slice_get mid (length passed)) [] → Ready k cs mid passed x → Here k cs now mid passed x
ready-here k cs now mid passed x e r = record {
  begun = r.begun;
  single = ap (λ c. single_rule c x) e ∙ r.single;
  swaps = λ y. ap (λ c. swap_rule c x y) e ∙ r.swaps y;
  change = λ y. ap (λ c. change_rule k c x y) e ∙ r.change y;
}

pub here-now : (k : Known) (inside : Bool) (cs now : List Column) (before mid seen : List (List Column)) (passed slice waiting : List Op) (x : Op) (n : ℕ) → slice ≡ passed → ((ds : List Column) → Begun k ds before slice → Ready k ds mid slice x) → seen ≡ mid → n ≡ length passed → now ≡ unwrap_or (slice_get seen n) [] → Walk k inside cs before passed waiting → Here k cs now mid passed x
here-now k inside cs now before mid seen passed slice waiting x n p ready s l e walk =
    let begun : Begun k cs before slice = subst (λ v. Begun k cs before v) (sym p) walk.columns in
    ready-here k cs now mid passed x (e ∙ ap₂ (λ (v : List (List Column)) m. unwrap_or (slice_get v m) []) s l) (subst (λ v. Ready k cs mid v x) p (ready cs begun))

pub swaps-here : (k : Known) (cs now : List Column) (before : List (List Column)) (passed : List Op) (x : Op) (r : List Op) → Here k cs now before passed x → next_swaps now x r ≡ next_swaps (ops_make passed k cs) x r
swaps-here k cs now before passed x [] h = refl
swaps-here k cs now before passed x (y ∷ ys) h = ap is_some (h.swaps y)

pub change-here : (k : Known) (cs now : List Column) (before : List (List Column)) (passed : List Op) (x : Op) (r : List Op) → Here k cs now before passed x → next_change k now x r ≡ next_change k (ops_make passed k cs) x r
change-here k cs now before passed x [] h = refl
change-here k cs now before passed x (y ∷ ys) h = h.change y
