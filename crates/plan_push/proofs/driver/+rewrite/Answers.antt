use Rattle.std.proofs.Common.{◌≡◌, ◌∙◌, refl, sym, ap, subst, arith, rules, true}
use Rattle.std.specs.Prelude.{IsSome, Some}
use Rattle.kql_bound.specs.declared.plan.Op.{the_lemmas}
use Rattle.kql_meaning.specs.Fits.{known_of, op_columns, plan_columns, ops_columns, plans_columns, source_columns}
use Rattle.kql_fit_laws.proofs.OperatorLaws.{each_op_keeps, each_source_keeps}
use Rattle.plan_push.proofs.DriveSteps.{found-none, found-some, join-arm, join-fits, op-there, partition-arm, partition-fits, plan-none-now, plan-ops-now, plan-some-now, source-made-some, made-some, union-arm, union-fits}
use Rattle.plan_push.proofs.RewrittenSteps.{rewritten-better, rewritten-first, rewritten-settled, rewritten-turn}
use Rattle.plan_push.proofs.ProgramSteps.{plan-there, plans-end, plans-turn, plans-with}
use Rattle.plan_push.proofs.driver.+rewrite.Goals as goal

pub rewritten_op-rewritten_plan-requires : goal.rewritten_op-rewritten_plan-requires
rewritten_op-rewritten_plan-requires t c =
    let k = known_of c.args.tables.now c.args.lets.now in
    (search (rules, the_lemmas), join-fits c.in-Join.join c.in-Join.right k c.args.inside c.args.columns.now (subst (λ o. IsSome (op_columns o k c.args.inside c.args.columns.now)) c.in-Join.is c.requires))

pub rewritten_op-rewritten_plans-requires : goal.rewritten_op-rewritten_plans-requires
rewritten_op-rewritten_plans-requires t c =
    (search (rules, the_lemmas), subst (λ ps. IsSome (plans_columns ps (known_of c.args.tables.now c.args.lets.now))) (sym c.as_slice.ensures.items) (union-fits c.in-Union.inner c.in-Union.others (known_of c.args.tables.now c.args.lets.now) c.args.inside c.args.columns.now (subst (λ o. IsSome (op_columns o (known_of c.args.tables.now c.args.lets.now) c.args.inside c.args.columns.now)) c.in-Union.is c.requires)))

pub rewritten_op-rewritten_ops-requires : goal.rewritten_op-rewritten_ops-requires
rewritten_op-rewritten_ops-requires t c =
    (search (rules, the_lemmas), subst (λ os. IsSome (ops_columns os (known_of c.args.tables.now c.args.lets.now) true c.args.columns.now)) (sym c.as_slice-in-Partition.ensures.items) (partition-fits c.in-Partition.key c.in-Partition.ops (known_of c.args.tables.now c.args.lets.now) c.args.inside c.args.columns.now (subst (λ o. IsSome (op_columns o (known_of c.args.tables.now c.args.lets.now) c.args.inside c.args.columns.now)) c.in-Partition.is c.requires)))

pub rewritten_op-returns-in_ok-made-in-Join : goal.rewritten_op-returns-in_ok-made-in-Join
rewritten_op-returns-in_ok-made-in-Join t c =
    record { found = join-arm c.args.op.now c.in-Join.join c.in-Join.right (known_of c.args.tables.now c.args.lets.now) c.args.inside c.args.columns.now c.in_ok-made-in-Join.made c.in_join.result c.in-Join.is c.in_ok-made-in-Join.ensures.found c.in_join.ensures.op }

pub rewritten_op-returns-in_ok-made-in-Union : goal.rewritten_op-returns-in_ok-made-in-Union
rewritten_op-returns-in_ok-made-in-Union t c =
    record { found = union-arm c.args.op.now c.in-Union.inner c.in-Union.others c.as_slice.result.now (known_of c.args.tables.now c.args.lets.now) c.args.inside c.args.columns.now c.in_ok-made-in-Union.made c.in_union.result c.in-Union.is c.as_slice.ensures.items c.in_ok-made-in-Union.ensures.found c.in_union.ensures.op }

pub rewritten_op-returns-in_ok-made-in-Partition : goal.rewritten_op-returns-in_ok-made-in-Partition
rewritten_op-returns-in_ok-made-in-Partition t c =
    record { found = partition-arm c.args.op.now c.in-Partition.key c.in-Partition.ops c.as_slice-in-Partition.result.now (known_of c.args.tables.now c.args.lets.now) c.args.inside c.args.columns.now c.in_ok-made-in-Partition.made c.in_partition.result c.in-Partition.is c.as_slice-in-Partition.ensures.items c.in_ok-made-in-Partition.ensures.found c.in_partition.ensures.op }

pub rewritten_ops-returns-in-Some : goal.rewritten_ops-returns-in-Some
rewritten_ops-returns-in-Some t c =
    record { found = found-some c.in_ok-made.field-0 _ _ c.in-Some.made c.in_ok-made.ensures.found c.in-Some.is }

pub rewritten_ops-loop-i-init : goal.rewritten_ops-loop-i-init
rewritten_ops-loop-i-init t c =
    rewritten-first (known_of c.args.tables.now c.args.lets.now) c.args.inside c.args.columns.now c.args.ops.now c.in_ok-before.before c.new-all.result c.in_ok-before.ensures.same c.new-all.ensures.empty (found-none c.in_ok-made.field-0 _ _ c.in_ok-made.ensures.found c.in_default.is)

pub rewritten_ops-rewritten_op-requires : goal.rewritten_ops-rewritten_op-requires
rewritten_ops-rewritten_op-requires t c =
    (search (rules, the_lemmas), op-there c.args.ops.now c.loop-i.i c.index-ops-i.result (known_of c.args.tables.now c.args.lets.now) c.args.inside c.args.columns.now c.loop-i.before c.as_slice.result.now c.loop-i-test.true c.index-ops-i.is c.loop-i.invariant.columns c.as_slice.ensures.items c.requires)

pub rewritten_ops-loop-i-preserved : goal.rewritten_ops-loop-i-preserved
rewritten_ops-loop-i-preserved t c =
    let made = made-some c.index-ops-i-in-loop-i-2.result (known_of c.args.tables.now c.args.lets.now) c.args.inside c.as_slice-in-loop-i.result.now c.in_ok-next.next (op-there c.args.ops.now c.loop-i.i c.index-ops-i-in-loop-i-2.result (known_of c.args.tables.now c.args.lets.now) c.args.inside c.args.columns.now c.loop-i.before c.as_slice-in-loop-i.result.now c.loop-i-test.true c.index-ops-i-in-loop-i-2.is c.loop-i.invariant.columns c.as_slice-in-loop-i.ensures.items c.requires) c.in_ok-next.ensures.columns in
    rewritten-turn each_op_keeps (known_of c.args.tables.now c.args.lets.now) c.args.inside c.args.columns.now c.args.ops.now c.loop-i.i c.loop-i.before c.as_slice.result.now c.as_slice-in-loop-i.result.now c.in_ok-next.next c.loop-i.all c.push_op.new.all c.loop-i.changed c.in_ok-fired.fired c.either-changed.result c.index-ops-i.result c.index-ops-i-in-loop-i.result c.index-ops-i-in-loop-i-2.result c.in_ok-made-2.made c.loop-i.invariant c.loop-i-test.true c.index-ops-i.is c.index-ops-i-in-loop-i.is c.index-ops-i-in-loop-i-2.is c.as_slice.ensures.items c.as_slice-in-loop-i.ensures.items c.in_ok-made-2.ensures.found c.in_ok-fired.ensures.added c.in_ok-fired.ensures.fired c.either-changed.ensures.either made

pub rewritten_ops-returns-then-changed : goal.rewritten_ops-returns-then-changed
rewritten_ops-returns-then-changed t c =
    record { found = rewritten-better (known_of c.args.tables.now c.args.lets.now) c.args.inside c.args.columns.now c.args.ops.now c.loop-i.i c.loop-i.before c.loop-i.all c.loop-i.changed c.loop-i.invariant (omega arith) c.if-changed.true }

pub rewritten_ops-returns : goal.rewritten_ops-returns
rewritten_ops-returns t c =
    record { found = rewritten-settled (known_of c.args.tables.now c.args.lets.now) c.args.inside c.args.columns.now c.args.ops.now c.loop-i.i c.loop-i.before c.loop-i.all c.loop-i.changed c.loop-i.invariant (omega arith) c.if-changed.false }

pub rewritten_plan-rewritten_ops-requires : goal.rewritten_plan-rewritten_ops-requires
rewritten_plan-rewritten_ops-requires t c =
    (search (rules, the_lemmas), plan-ops-now c.args.plan.now (known_of c.args.tables.now c.args.lets.now) c.in_ok-columns.columns c.as_slice-2.result.now c.as_slice.result.now (source-made-some c.args.plan.now (known_of c.args.tables.now c.args.lets.now) c.in_ok-columns.columns c.requires c.in_ok-columns.ensures.columns) c.as_slice.ensures.items c.as_slice-2.ensures.items c.requires)

pub rewritten_plan-returns-in_default : goal.rewritten_plan-returns-in_default
rewritten_plan-returns-in_default t c =
    record { found = plan-none-now c.args.plan.now (known_of c.args.tables.now c.args.lets.now) c.in_ok-columns.columns c.as_slice-2.result.now c.as_slice.result.now c.in_ok-ops.field-0 (source-made-some c.args.plan.now (known_of c.args.tables.now c.args.lets.now) c.in_ok-columns.columns c.requires c.in_ok-columns.ensures.columns) c.as_slice.ensures.items c.as_slice-2.ensures.items c.in_ok-ops.ensures.found c.in_default.is }

pub rewritten_plan-returns : goal.rewritten_plan-returns
rewritten_plan-returns t c =
    record { found = plan-some-now each_source_keeps c.args.plan.now (record { source = c.in_ok-source.source; ops = c.in-Some.ops }) (known_of c.args.tables.now c.args.lets.now) c.in_ok-columns.columns c.as_slice-2.result.now c.as_slice.result.now c.in_ok-ops.field-0 (source-made-some c.args.plan.now (known_of c.args.tables.now c.args.lets.now) c.in_ok-columns.columns c.requires c.in_ok-columns.ensures.columns) c.as_slice.ensures.items c.as_slice-2.ensures.items c.in_ok-ops.ensures.found c.in-Some.is c.in_ok-source.ensures.same }

pub rewritten_plans-rewritten_plan-requires : goal.rewritten_plans-rewritten_plan-requires
rewritten_plans-rewritten_plan-requires t c =
    (search (rules, the_lemmas), plan-there c.args.plans.now (known_of c.args.tables.now c.args.lets.now) c.loop-i.i c.index-plans-i.result c.loop-i-test.true c.index-plans-i.is c.requires)

pub rewritten_plans-returns-in-Some : goal.rewritten_plans-returns-in-Some
rewritten_plans-returns-in-Some t c =
    record { found = plans-with (known_of c.args.tables.now c.args.lets.now) c.args.plans.now c.in_ok-all.all c.loop-i.i c.index-plans-i.result c.in-Some.made c.loop-i-test.true c.index-plans-i.is (found-some c.in_ok-made.field-0 _ _ c.in-Some.made c.in_ok-made.ensures.found c.in-Some.is) c.in_ok-all.ensures.all }

pub rewritten_plans-loop-i-preserved : goal.rewritten_plans-loop-i-preserved
rewritten_plans-loop-i-preserved t c =
    c.loop-i.invariant ∙ plans-turn c.args.plans.now (known_of c.args.tables.now c.args.lets.now) c.loop-i.i c.index-plans-i.result c.loop-i-test.true c.index-plans-i.is (found-none c.in_ok-made.field-0 _ _ c.in_ok-made.ensures.found c.in_default.is)

pub rewritten_plans-returns : goal.rewritten_plans-returns
rewritten_plans-returns t c =
    record { found = c.loop-i.invariant ∙ plans-end c.args.plans.now (known_of c.args.tables.now c.args.lets.now) c.loop-i.i (omega arith) }
