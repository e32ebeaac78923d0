-- The equations of whether plans can be lifted.
use Rattle.std.proofs.Common.{◌≡◌, ℕ, Bool, List, [], ◌∷◌, map, refl, sym, ap, ap₂, ◌∙◌}
use Rattle.std.specs.Prelude.{◌&&◌}
use Rattle.std.specs.List.{list_all}
use Rattle.kql_cells.specs.declared.schemas.NamedSchema.{NamedSchema}
use Rattle.kql_bound.specs.declared.parts.JoinPlan.{JoinPlan}
use Rattle.kql_bound.specs.declared.plan.Op.{Op, para-roll-Op}
use Rattle.kql_bound.specs.declared.plan.Op.TheOpen.{Op-F}
use Rattle.kql_bound.specs.declared.plan.Op.TheVariants as V
use Rattle.kql_bound.specs.declared.plan.Plan.{Plan, para-roll-Plan}
use Rattle.pattern_lift.specs.Prefixes.{table_read}
use Rattle.pattern_laws.specs.Liftable.{OpTest, PlanTest, columns_read, has_no_calls, ops_are_liftable, plan_is_liftable, plan_liftable_step, source_is_own, within_is_liftable, within_step}

module _ (marks : List ℕ) (tables : List NamedSchema) where
  abbrev tested_op : Op → OpTest
  tested_op o = (o, within_is_liftable marks tables o)

  abbrev tested_plan : Plan → PlanTest
  tested_plan p = (p, plan_is_liftable marks tables p)

  firsts : (ops : List Op) → map (λ (o : OpTest). o.0) (map tested_op ops) ≡ ops
  firsts [] = refl
  firsts (o ∷ os) = ap (λ (rest : List Op). o ∷ rest) (firsts os)

  all-ops : (ops : List Op) → list_all (λ (o : OpTest). o.1) (map tested_op ops) ≡ list_all (within_is_liftable marks tables) ops
  all-ops [] = refl
  all-ops (o ∷ os) = ap (λ b. within_is_liftable marks tables o && b) (all-ops os)

  all-apart : (ops : List Op) → list_all (λ (o : OpTest). has_no_calls o.0 && o.1) (map tested_op ops) ≡ list_all (λ (o : Op). has_no_calls o && within_is_liftable marks tables o) ops
  all-apart [] = refl
  all-apart (o ∷ os) = ap (λ b. (has_no_calls o && within_is_liftable marks tables o) && b) (all-apart os)

  all-plans : (ps : List Plan) → list_all (λ (p : PlanTest). p.1) (map tested_plan ps) ≡ list_all (plan_is_liftable marks tables) ps
  all-plans [] = refl
  all-plans (p ∷ ps) = ap (λ b. plan_is_liftable marks tables p && b) (all-plans ps)

  pub within-Join : (j : JoinPlan) (right : Plan) → within_is_liftable marks tables (V.Join j right) ≡ plan_is_liftable marks tables right
  unfolding within_is_liftable plan_is_liftable
  within-Join j right = ap (within_is_liftable marks tables) (sym (V.rolls-Join j right)) ∙ para-roll-Op Bool Bool within_step (plan_liftable_step marks tables) (Op-F.Join j right)

  pub within-Union : (inner : Bool) (others : List Plan) → within_is_liftable marks tables (V.Union inner others) ≡ list_all (plan_is_liftable marks tables) others
  unfolding within_is_liftable plan_is_liftable
  within-Union inner others = ap (within_is_liftable marks tables) (sym (V.rolls-Union inner others)) ∙ (para-roll-Op Bool Bool within_step (plan_liftable_step marks tables) (Op-F.Union inner others) ∙ all-plans others)

  pub within-Partition : (c : List ℕ) (ops : List Op) → within_is_liftable marks tables (V.Partition c ops) ≡ list_all (λ (o : Op). has_no_calls o && within_is_liftable marks tables o) ops
  unfolding within_is_liftable plan_is_liftable
  within-Partition c ops = ap (within_is_liftable marks tables) (sym (V.rolls-Partition c ops)) ∙ (para-roll-Op Bool Bool within_step (plan_liftable_step marks tables) (Op-F.Partition c ops) ∙ all-apart ops)

  pub liftable-plan : (p : Plan) → plan_is_liftable marks tables p ≡ (source_is_own marks (table_read p.source) && (ops_are_liftable marks (columns_read tables (table_read p.source)) p.ops && list_all (within_is_liftable marks tables) p.ops))
  unfolding within_is_liftable plan_is_liftable
  liftable-plan p =
      para-roll-Plan Bool Bool within_step (plan_liftable_step marks tables) (record { source = p.source; ops = p.ops })
      ∙ ap₂ (λ (os : List Op) (b : Bool). source_is_own marks (table_read p.source) && (ops_are_liftable marks (columns_read tables (table_read p.source)) os && b)) (firsts p.ops) (all-ops p.ops)
