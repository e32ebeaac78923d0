-- What is settled fits: at each of its places the columns are known.
use Rattle.std.proofs.Common.{◌≡◌, Bool, true, false, List, [], ◌∷◌, refl, sym, ap, ◌∙◌, subst}
use Rattle.std.specs.Prelude.{◌&&◌, not, fold, IsSome, None, Option, Some, is_some, option_and_then}
use Rattle.std.proofs.lemmas.Bool.{and_parts}
use Rattle.kql_cells.specs.declared.schema.Column.{Column}
use Rattle.kql_bound.specs.declared.plan.Op.{Op}
use Rattle.kql_bound.specs.declared.plan.Plan.{Plan}
use Rattle.kql_bound.specs.declared.plan.Program.{Program}
use Rattle.kql_meaning.specs.Fits.{Known, known_of, lets_columns, of_columns, op_columns, ops_columns, plan_columns, program_columns, source_columns}
use Rattle.kql_meaning.proofs.OperatorFitLaws.{after, ops-fold, plan-out}
use Rattle.plan_rules.proofs.Context.{columns-cons}
use Rattle.plan_push.proofs.SettledSteps.{settled-cons, settled-plan-out}
use Rattle.plan_rules.specs.FoldedPlans.{is_program_folded}
use Rattle.plan_push.specs.Settled.{if_known, is_quiet, lets_settled, settled, settled_op, settled_ops, settled_plan}
use Rattle.plan_neighbours.specs.Table.{rule_at}

known : {X : Type 0} (o : Option X) (f : X → Bool) → if_known o f ≡ true → (x : X) × (o ≡ Some x) × (f x ≡ true)
known None f h = absurd cc
known (Some x) f h = (x, refl, h)

pub settled-ops-fit : (xs : List Op) (k : Known) (inside : Bool) (cs : List Column) → settled_ops xs k inside cs ≡ true → IsSome (ops_columns xs k inside cs)
settled-ops-fit [] k inside cs h = subst (λ o. IsSome o) (sym (ops-fold [] k inside cs)) refl
settled-ops-fit (x ∷ xs) k inside cs h =
    let behind = if_known (op_columns x k inside cs) (settled_ops xs k inside) in
    let a = and_parts (not (is_some (rule_at k cs (x ∷ xs)))) (settled_op x k inside cs && behind) (sym (settled-cons x xs k inside cs) ∙ h) in
    let b = and_parts (settled_op x k inside cs) behind a.1 in
    let next = known (op_columns x k inside cs) (settled_ops xs k inside) b.1 in
    let made = columns-cons x xs k inside cs ∙ (ap (λ o. fold (after k inside) o xs) next.1 ∙ sym (ops-fold xs k inside next.0)) in
    subst (λ o. IsSome o) (sym made) (settled-ops-fit xs k inside next.0 next.2)

pub settled-plan-fits : (p : Plan) (k : Known) → settled_plan p k ≡ true → IsSome (plan_columns p k)
unfolding of_columns
settled-plan-fits p k h =
    let first = known (source_columns p.source k) (settled_ops p.ops k false) (sym (settled-plan-out p k) ∙ h) in
    let made = plan-out p k ∙ ap (λ o. of_columns o (λ cs. ops_columns p.ops k false cs)) first.1 in
    subst (λ o. IsSome o) (sym made) (settled-ops-fit p.ops k false first.0 first.2)

-- A program that is settled fits its own tables.
pub settled-fits : (p : Program) → settled p ≡ true → IsSome (program_columns p)
unfolding settled is_quiet program_columns
settled-fits p h =
    let quiet = (and_parts (is_quiet p) (is_program_folded p) h).0 in
    let main = if_known (lets_columns p.lets p.tables) (λ ls. settled_plan p.main (known_of p.tables ls)) in
    let a = and_parts (lets_settled p.tables [] p.lets) main quiet in
    let lets = known (lets_columns p.lets p.tables) (λ ls. settled_plan p.main (known_of p.tables ls)) a.1 in
    subst (λ o. IsSome (option_and_then (λ ls. plan_columns p.main (known_of p.tables ls)) o)) (sym lets.1) (settled-plan-fits p.main (known_of p.tables lets.0) lets.2)
