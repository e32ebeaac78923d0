use Rattle.std.proofs.Common.{◌<◌, ◌∷◌, ◌+◌, ◌∙◌, ℕ, [], ap, arith, drop, false, length, map, refl, rules, subst, sym}
use Rattle.std.specs.Prelude.{slice_index_or, slice_range}
use Rattle.std.proofs.lemmas.List.{map-append}
use Rattle.kql_bound.specs.declared.plan.Op.{the_lemmas}
use Rattle.kql_plain.specs.AtHand.{OpsFit, PlansFit, world_of}
use Rattle.phase_laws.specs.Runs.{made_of}
use Rattle.kql_plain.specs.Inputs.{input_table}
use Rattle.kql_plain.proofs.OperatorLaws as operators
use Rattle.kql_plain.proofs.PlanLaws as plans
use Rattle.phase_run.proofs.RunSteps as runs
use Rattle.phase_run.proofs.ToldSteps as told
use Rattle.phase_run.proofs.ToldSteps.{HoldNone, Telling}
use Rattle.phase_run.proofs.plans.+plan_input.Goals as goal
use Rattle.phase_run.proofs.plans.+plan_input.Goals.{ops_input-then-holds_plan+in_ok-before+in_ok-next, ops_input-else-holds_plan}

-- The plans in an operator.

pub op_table-plan_input-requires : goal.op_table-plan_input-requires
op_table-plan_input-requires g t c κs within = (
  search (rules, the_lemmas),
  (within.0, (within.1, (first_of (assumption (c.requires-raw, c.requires), search (rules, c.requires-raw)), (first_of (assumption (c.requires-raw, c.requires), search (rules, c.requires-raw)), operators.right-fits c.args.op.now c.in-Join.join c.in-Join.right (world_of c.args.catalogue.now c.args.lets.now) (input_table c.args.from) c.in-Join.is c.requires.fits)))),
)

pub op_table-plans_inputs-requires : goal.op_table-plans_inputs-requires
op_table-plans_inputs-requires g t c κs within = (
  search (rules, the_lemmas),
  (within.0, (within.1, (first_of (assumption (c.requires-raw, c.requires), search (rules, c.requires-raw)), (first_of (assumption (c.requires-raw, c.requires), search (rules, c.requires-raw)), operators.others-all-fit c.args.op.now c.in-Union.inner c.in-Union.others c.as_slice.result.now (world_of c.args.catalogue.now c.args.lets.now) (input_table c.args.from) c.in-Union.is c.as_slice.ensures.items c.requires.fits)))),
)

-- Operators, one after another.

pub ops_input-run_ops-requires : goal.ops_input-run_ops-requires
ops_input-run_ops-requires g t c =
    let w = world_of c.args.catalogue.now c.args.lets.now in
    (first_of (assumption (c.requires-raw, c.requires), search (rules, c.requires-raw)), (first_of (assumption (c.requires-raw, c.requires), search (rules, c.requires-raw)), (runs.run-of-rest-fits c.args.ops.now (slice_range c.args.ops.now c.loop-op.begun c.loop-op.at) c.loop-op.begun c.loop-op.at w (input_table c.loop-op.made) c.loop-op.invariant.begun refl c.loop-op.invariant.fit, c.loop-op.invariant.none)))

pub ops_input-op_table-requires : goal.ops_input-op_table-requires
ops_input-op_table-requires g t c κs within =
    let w = world_of c.args.catalogue.now c.args.lets.now in
    let here = c.loop-op.invariant.at in
    let inside : c.loop-op.at < length c.args.ops.now = omega (arith, c.loop-op-test.true, here) in
    let is = c.op-item.is ∙ ap (λ (n : ℕ). slice_index_or c.args.ops.now n c.op-item.result) (sym here) in
    let held = runs.held-fits c.args.ops.now (slice_range c.args.ops.now c.loop-op.begun c.loop-op.at) c.loop-op.begun c.loop-op.at c.op-item.result w (input_table c.loop-op.made) (input_table c.in_ok-before.before)
    c.loop-op.invariant.begun inside is refl c.loop-op.invariant.fit c.in_ok-before.ensures.table in (
      search (rules, the_lemmas),
      (within.0, (within.1, (first_of (assumption (c.requires-raw, c.requires), search (rules, c.requires-raw)), (first_of (assumption (c.requires-raw, c.requires), search (rules, c.requires-raw)), (operators.first-fits c.op-item.result (drop (c.loop-op.at + 1) c.args.ops.now) w (input_table c.in_ok-before.before) held, sym c.holds_plan.ensures.holds ∙ c.if-holds_plan.true))))),
    )

pub ops_input-loop-op-preserved : goal.ops_input-loop-op-preserved
ops_input-loop-op-preserved g t c =
    let w = world_of c.args.catalogue.now c.args.lets.now in
    let ops = c.args.ops.now in
    let begun = c.loop-op.begun in
    let at = c.loop-op.at in
    let so_far = c.loop-op.invariant in
    let inside : at < length ops = omega (arith, c.loop-op-test.true, so_far.at) in
    let is = c.op-item.is ∙ ap (λ (n : ℕ). slice_index_or ops n c.op-item.result) (sym so_far.at) in
    elim c.if-holds_plan.branch [
      | ops_input-then-holds_plan+in_ok-before+in_ok-next s ↦ let made = ap input_table s.made-is ∙ s.in_ok-next.ensures.table in record {
        at = ap (λ (n : ℕ). n + 1) so_far.at;
        begun = omega (arith, s.begun-is);
        fit = runs.held-step-fits ops begun at c.if-holds_plan.begun c.op-item.result w (input_table c.loop-op.made) (input_table s.in_ok-before.before) (input_table c.if-holds_plan.made) so_far.begun inside is so_far.fit s.in_ok-before.ensures.table made s.begun-is;
        rest = runs.held-step-done ops begun at c.if-holds_plan.begun c.op-item.result w (input_table c.loop-op.made) (input_table s.in_ok-before.before) (input_table c.if-holds_plan.made) _ so_far.begun inside is s.in_ok-before.ensures.table made s.begun-is so_far.rest;
        none = told.run-none ops c.if-holds_plan.begun (at + 1) (omega (arith, s.begun-is));
        told = subst (λ (p : _). Telling _ p _ _) (sym s.phases-is) (told.held-told _ _ _ _ _ ops begun at c.if-holds_plan.begun c.op-item.result so_far.begun inside is (sym c.holds_plan.ensures.holds ∙ s.if-holds_plan.true) s.begun-is so_far.told s.in_ok-before.ensures.told s.in_ok-next.ensures.told);
      }
      | ops_input-else-holds_plan s ↦ let same = ap input_table s.made-is in record {
        at = ap (λ (n : ℕ). n + 1) so_far.at;
        begun = omega (arith, s.begun-is, so_far.begun);
        fit = subst (λ (n : ℕ). OpsFit (drop n ops) w (input_table c.if-holds_plan.made)) (sym s.begun-is) (subst (λ u. OpsFit (drop begun ops) w u) (sym same) so_far.fit);
        rest = ap (λ (n : ℕ). made_of (drop n ops) w (input_table c.if-holds_plan.made)) s.begun-is ∙ (ap (made_of (drop begun ops) w) same ∙ so_far.rest);
        none = subst (λ (n : ℕ). HoldNone (slice_range ops n (at + 1))) (sym s.begun-is) (told.run-none-more ops begun at (at + 1) c.op-item.result so_far.begun inside is (sym c.holds_plan.ensures.holds ∙ s.if-holds_plan.false) refl so_far.none);
        told = told.kept-told _ _ _ _ ops begun c.if-holds_plan.begun s.phases-is s.begun-is so_far.told;
      }
    ]

pub ops_input-run_ops-requires-2 : goal.ops_input-run_ops-requires-2
ops_input-run_ops-requires-2 g t c = (first_of (assumption (c.requires-raw, c.requires), search (rules, c.requires-raw)), (first_of (assumption (c.requires-raw, c.requires), search (rules, c.requires-raw)), (runs.last-fits c.args.ops.now c.loop-op.begun (world_of c.args.catalogue.now c.args.lets.now) (input_table c.loop-op.made) c.loop-op.invariant.fit, told.last-none c.args.ops.now c.loop-op.begun c.loop-op.at (omega (arith, c.loop-op-test.false, c.loop-op.invariant.at)) c.loop-op.invariant.none)))

pub ops_input-returns : goal.ops_input-returns
ops_input-returns g t c = record {
  table = runs.last-done c.args.ops.now c.loop-op.begun (world_of c.args.catalogue.now c.args.lets.now) (input_table c.loop-op.made) (input_table c.in_ok-last.last) _ c.in_ok-last.ensures.table c.loop-op.invariant.rest;
  told = told.last-told _ _ _ _ c.args.ops.now c.loop-op.begun c.loop-op.invariant.told c.in_ok-last.ensures.told;
}

pub plan_input-ops_input-requires : goal.plan_input-ops_input-requires
plan_input-ops_input-requires g t c κs within =
    let w = world_of c.args.catalogue.now c.args.lets.now in (
      search (rules, the_lemmas),
      (within.0, (within.1, (first_of (assumption (c.requires-raw, c.requires), search (rules, c.requires-raw)), (first_of (assumption (c.requires-raw, c.requires), search (rules, c.requires-raw)), subst (λ os. OpsFit os w (input_table c.in-Ok.source)) (sym c.as_slice.ensures.items) (subst (λ u. OpsFit c.args.plan.now.ops w u) (sym c.in-Ok.ensures.table) (plans.ops-fit c.args.plan.now w c.requires.fits)))))),
    )

-- Plans.

pub plans_inputs-plan_input-requires : goal.plans_inputs-plan_input-requires
plans_inputs-plan_input-requires g t c κs within =
    let left = operators.rest-at c.args.plans.now c.loop-plan.plan-index c.plan-item.result (omega (arith, c.loop-plan-test.true)) c.plan-item.is in
    let rest = drop (c.loop-plan.plan-index + 1) c.args.plans.now in
    let w = world_of c.args.catalogue.now c.args.lets.now in (
      search (rules, the_lemmas),
      (within.0, (within.1, (first_of (assumption (c.requires-raw, c.requires), search (rules, c.requires-raw)), (first_of (assumption (c.requires-raw, c.requires), search (rules, c.requires-raw)), plans.first-fits c.plan-item.result rest w (subst (λ ps. PlansFit ps w) left c.loop-plan.invariant.fit))))),
    )

pub plans_inputs-loop-plan-preserved : goal.plans_inputs-loop-plan-preserved
plans_inputs-loop-plan-preserved g t c =
    let left = operators.rest-at c.args.plans.now c.loop-plan.plan-index c.plan-item.result (omega (arith, c.loop-plan-test.true)) c.plan-item.is in
    let rest = drop (c.loop-plan.plan-index + 1) c.args.plans.now in
    let w = world_of c.args.catalogue.now c.args.lets.now in
    let made = map input_table c.loop-plan.made.items in
    let pushed = ap (map input_table) c.in_ok-push.ensures.items ∙ map-append input_table c.loop-plan.made.items (c.in_ok-table.table ∷ []) in
    record {
      fit = plans.others-fit c.plan-item.result rest w (subst (λ ps. PlansFit ps w) left c.loop-plan.invariant.fit);
      rest = plans.more-tables c.plan-item.result rest (drop c.loop-plan.plan-index c.args.plans.now) w made (map input_table c.push.new.self.items) _ (input_table c.in_ok-table.table) left c.in_ok-table.ensures.table pushed c.loop-plan.invariant.rest;
      told = told.plans-next _ _ _ _ (drop c.loop-plan.plan-index c.args.plans.now) c.plan-item.result rest left c.loop-plan.invariant.told c.in_ok-table.ensures.told;
    }

-- The phases of the plans in an operator, and of a plan.

pub op_table-returns-in-Join-clause-told : goal.op_table-returns-in-Join-clause-told
op_table-returns-in-Join-clause-told g t c =
    told.along c.run_told_join.result _ _
    (told.join-told c.args.phases.now c.plan_input.new.phases c.run_told_join.new.phases c.args.op.now c.in-Join.join c.in-Join.right c.in-Join.is c.in_ok-right-in-Join.ensures.told)
    c.run_told_join.ensures.told

pub op_table-run_told_join-requires : goal.op_table-run_told_join-requires
op_table-run_told_join-requires g t c =
    let w = world_of c.args.catalogue.now c.args.lets.now in
    let other = c.as_table-in-Join.ensures.table ∙ c.in_ok-right-in-Join.ensures.table in (
      first_of (assumption (c.requires-raw, c.requires), search (rules, c.requires-raw)),
      (
        first_of (assumption (c.requires-raw, c.requires), search (rules, c.requires-raw)),
        (
          operators.join-fits-lent c.args.op.now c.in-Join.join c.in-Join.right w (input_table c.args.from) c.as_table.result.now c.as_table-in-Join.result.now c.in-Join.is c.requires.fits c.as_table.ensures.table other,
          operators.join-names-lent c.args.op.now c.in-Join.join c.in-Join.right w (input_table c.args.from) c.as_table.result.now c.as_table-in-Join.result.now c.in-Join.is c.requires.fits c.as_table.ensures.table other,
        ),
      ),
    )

pub op_table-returns-in-Union-clause-told : goal.op_table-returns-in-Union-clause-told
op_table-returns-in-Union-clause-told g t c =
    told.always c.union_tables.result _
    (told.union-told c.args.phases.now c.plans_inputs.new.phases c.tell.new.self c.args.op.now c.in-Union.inner c.in-Union.others c.as_slice.result.now c.in-Union.is c.as_slice.ensures.items c.in_ok-others-in-Union.ensures.told
    (told.one-told c.plans_inputs.new.phases c.tell.new.self _ false refl c.in_ok-tell-in-Union.ensures.workers c.in_ok-tell-in-Union.ensures.report))

pub plan_input-returns-in-Ok-clause-told : goal.plan_input-returns-in-Ok-clause-told
plan_input-returns-in-Ok-clause-told g t c = told.along c.ops_input.result _ _ (told.plan-told _ _ c.args.plan.now c.as_slice.result.now c.as_slice.ensures.items) c.ops_input.ensures.told
