-- The equations of whether the calls of plans are placed.
use Rattle.std.proofs.Common.{◌≡◌, ℕ, Bool, List, [], ◌∷◌, map, refl, sym, ap, ap₂, ◌∙◌}
use Rattle.std.specs.Prelude.{◌&&◌}
use Rattle.std.specs.List.{list_all}
use Rattle.kql_cells.specs.declared.schemas.NamedSchema.{NamedSchema}
use Rattle.kql_bound.specs.declared.parts.JoinPlan.{JoinPlan}
use Rattle.kql_bound.specs.declared.plan.Op.{Op, para-roll-Op}
use Rattle.kql_bound.specs.declared.plan.Op.TheOpen.{Op-F}
use Rattle.kql_bound.specs.declared.plan.Op.TheVariants as V
use Rattle.kql_bound.specs.declared.plan.Plan.{Plan, para-roll-Plan}
use Rattle.pattern_lift.specs.Prefixes.{table_read}
use Rattle.pattern_laws.specs.Liftable.{OpTest, PlanTest, columns_read, has_no_calls, within_step}
use Rattle.pattern_run.specs.Placed.{ops_are_placed, placed_step, plan_is_placed, within_is_placed}

module _ (tables : List NamedSchema) where
  abbrev tested_op : Op → OpTest
  tested_op o = (o, within_is_placed tables o)

  abbrev tested_plan : Plan → PlanTest
  tested_plan p = (p, plan_is_placed tables p)

  firsts : (ops : List Op) → map (λ (o : OpTest). o.0) (map tested_op ops) ≡ ops
  firsts [] = refl
  firsts (o ∷ os) = ap (λ (rest : List Op). o ∷ rest) (firsts os)

  all-ops : (ops : List Op) → list_all (λ (o : OpTest). o.1) (map tested_op ops) ≡ list_all (within_is_placed tables) ops
  all-ops [] = refl
  all-ops (o ∷ os) = ap (λ b. within_is_placed tables o && b) (all-ops os)

  all-apart : (ops : List Op) → list_all (λ (o : OpTest). has_no_calls o.0 && o.1) (map tested_op ops) ≡ list_all (λ (o : Op). has_no_calls o && within_is_placed tables o) ops
  all-apart [] = refl
  all-apart (o ∷ os) = ap (λ b. (has_no_calls o && within_is_placed tables o) && b) (all-apart os)

  all-plans : (ps : List Plan) → list_all (λ (p : PlanTest). p.1) (map tested_plan ps) ≡ list_all (plan_is_placed tables) ps
  all-plans [] = refl
  all-plans (p ∷ ps) = ap (λ b. plan_is_placed tables p && b) (all-plans ps)

  pub placed-Join : (j : JoinPlan) (right : Plan) → within_is_placed tables (V.Join j right) ≡ plan_is_placed tables right
  unfolding within_is_placed plan_is_placed
  placed-Join j right = ap (within_is_placed tables) (sym (V.rolls-Join j right)) ∙ para-roll-Op Bool Bool within_step (placed_step tables) (Op-F.Join j right)

  pub placed-Union : (inner : Bool) (others : List Plan) → within_is_placed tables (V.Union inner others) ≡ list_all (plan_is_placed tables) others
  unfolding within_is_placed plan_is_placed
  placed-Union inner others = ap (within_is_placed tables) (sym (V.rolls-Union inner others)) ∙ (para-roll-Op Bool Bool within_step (placed_step tables) (Op-F.Union inner others) ∙ all-plans others)

  pub placed-Partition : (c : List ℕ) (ops : List Op) → within_is_placed tables (V.Partition c ops) ≡ list_all (λ (o : Op). has_no_calls o && within_is_placed tables o) ops
  unfolding within_is_placed plan_is_placed
  placed-Partition c ops = ap (within_is_placed tables) (sym (V.rolls-Partition c ops)) ∙ (para-roll-Op Bool Bool within_step (placed_step tables) (Op-F.Partition c ops) ∙ all-apart ops)

  pub placed-plan : (p : Plan) → plan_is_placed tables p ≡ (ops_are_placed (columns_read tables (table_read p.source)) p.ops && list_all (within_is_placed tables) p.ops)
  unfolding within_is_placed plan_is_placed
  placed-plan p =
      para-roll-Plan Bool Bool within_step (placed_step tables) (record { source = p.source; ops = p.ops })
      ∙ ap₂ (λ (os : List Op) (b : Bool). ops_are_placed (columns_read tables (table_read p.source)) os && b) (firsts p.ops) (all-ops p.ops)
