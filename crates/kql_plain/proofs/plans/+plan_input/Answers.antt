use Rattle.std.proofs.Common.{◌≡◌, ◌∷◌, ◌+◌, ◌++◌, ◌∙◌, ℕ, List, [], ap, arith, drop, map, rules, subst, sym}
use Rattle.std.specs.Prelude.{IfOk, is_some}
use Rattle.std.proofs.lemmas.List.{map-append}
use Rattle.kql_cells.specs.Named.{column_name, place_of}
use Rattle.kql_cells.specs.Table.{Grid}
use Rattle.kql_bound.specs.declared.plan.Op.{the_lemmas}
use Rattle.kql_meaning.specs.Tables.{emptied}
use Rattle.kql_plain.specs.AtHand.{OpsFit, PlansFit, world_of}
use Rattle.kql_plain.specs.Inputs.{input_table}
use Rattle.kql_plain.proofs.OperatorLaws as operators
use Rattle.kql_plain.proofs.PartitionSteps as partition
use Rattle.kql_plain.proofs.PlanLaws as plans
use Rattle.kql_plain.proofs.plans.+plan_input.Goals as goal
use Rattle.kql_plain.proofs.plans.+plan_input.Goals.{ops_input-then-changes+in_ok-next, ops_input-else-changes}

-- The plans in an operator.

pub op_table-plan_input-requires : goal.op_table-plan_input-requires
op_table-plan_input-requires t c = (
  search (rules, the_lemmas),
  operators.right-fits c.args.op.now c.in-Join.join c.in-Join.right (world_of c.args.catalogue.now c.args.lets.now) (input_table c.args.from) c.in-Join.is c.requires.fits,
)

pub op_table-plans_inputs-requires : goal.op_table-plans_inputs-requires
op_table-plans_inputs-requires t c = (
  search (rules, the_lemmas),
  operators.others-all-fit c.args.op.now c.in-Union.inner c.in-Union.others c.as_slice-in-Union.result.now (world_of c.args.catalogue.now c.args.lets.now) (input_table c.args.from) c.in-Union.is c.as_slice-in-Union.ensures.items c.requires.fits,
)

-- Operators, one after another.

pub ops_input-op_table-requires : goal.ops_input-op_table-requires
ops_input-op_table-requires t c =
    let left = operators.rest-at c.args.ops.now c.loop-op.op-index c.op-item.result (omega (arith, c.loop-op-test.true)) c.op-item.is in
    let rest = drop (c.loop-op.op-index + 1) c.args.ops.now in
    let w = world_of c.args.catalogue.now c.args.lets.now in (
      search (rules, the_lemmas),
      operators.first-fits c.op-item.result rest w (input_table c.loop-op.made) (subst (λ os. OpsFit os w (input_table c.loop-op.made)) left c.loop-op.invariant.fit),
    )

pub ops_input-loop-op-preserved : goal.ops_input-loop-op-preserved
ops_input-loop-op-preserved t c =
    let left = operators.rest-at c.args.ops.now c.loop-op.op-index c.op-item.result (omega (arith, c.loop-op-test.true)) c.op-item.is in
    let rest = drop (c.loop-op.op-index + 1) c.args.ops.now in
    let w = world_of c.args.catalogue.now c.args.lets.now in
    let before = input_table c.loop-op.made in
    let fits = subst (λ os. OpsFit os w before) left c.loop-op.invariant.fit in
    elim c.if-changes.branch [
      | ops_input-then-changes+in_ok-next s ↦ let made = ap input_table s.made-is ∙ s.in_ok-next.ensures.table in record {
        fit = subst (λ u. OpsFit rest w u) (sym made) (operators.others-fit c.op-item.result rest w before fits);
        rest = operators.more-done c.op-item.result rest (drop c.loop-op.op-index c.args.ops.now) w before (input_table c.if-changes.made) _ left made c.loop-op.invariant.rest;
      }
      | ops_input-else-changes s ↦ let same = ap input_table s.made-is in let still = c.changes.ensures.unchanged s.if-changes.false in record {
        fit = subst (λ u. OpsFit rest w u) (sym same) (operators.unchanged-fits c.op-item.result rest w before still fits);
        rest = operators.unchanged-done c.op-item.result rest (drop c.loop-op.op-index c.args.ops.now) w before (input_table c.if-changes.made) _ left still same c.loop-op.invariant.rest;
      }
    ]

pub ops_input-returns : goal.ops_input-returns
ops_input-returns t c =
    let none = operators.rest-none c.args.ops.now c.loop-op.op-index (omega (arith, c.loop-op-test.false)) in
    record { table = operators.all-done (drop c.loop-op.op-index c.args.ops.now) (world_of c.args.catalogue.now c.args.lets.now) (input_table c.loop-op.made) _ none c.loop-op.invariant.rest }

pub plan_input-ops_input-requires : goal.plan_input-ops_input-requires
plan_input-ops_input-requires t c =
    let w = world_of c.args.catalogue.now c.args.lets.now in (
      search (rules, the_lemmas),
      subst (λ os. OpsFit os w (input_table c.in-Ok.source)) (sym c.as_slice.ensures.items)
          (subst (λ u. OpsFit c.args.plan.now.ops w u) (sym c.in-Ok.ensures.table) (plans.ops-fit c.args.plan.now w c.requires.fits)),
    )

-- Plans.

pub plans_inputs-plan_input-requires : goal.plans_inputs-plan_input-requires
plans_inputs-plan_input-requires t c =
    let left = operators.rest-at c.args.plans.now c.loop-plan.plan-index c.plan-item.result (omega (arith, c.loop-plan-test.true)) c.plan-item.is in
    let rest = drop (c.loop-plan.plan-index + 1) c.args.plans.now in
    let w = world_of c.args.catalogue.now c.args.lets.now in (
      search (rules, the_lemmas),
      plans.first-fits c.plan-item.result rest w (subst (λ ps. PlansFit ps w) left c.loop-plan.invariant.fit),
    )

pub plans_inputs-loop-plan-preserved : goal.plans_inputs-loop-plan-preserved
plans_inputs-loop-plan-preserved t c =
    let left = operators.rest-at c.args.plans.now c.loop-plan.plan-index c.plan-item.result (omega (arith, c.loop-plan-test.true)) c.plan-item.is in
    let rest = drop (c.loop-plan.plan-index + 1) c.args.plans.now in
    let w = world_of c.args.catalogue.now c.args.lets.now in
    let made = map input_table c.loop-plan.made.items in
    let pushed = ap (map input_table) c.in_ok-push.ensures.items ∙ map-append input_table c.loop-plan.made.items (c.in_ok-table.table ∷ []) in
    record {
      fit = plans.others-fit c.plan-item.result rest w (subst (λ ps. PlansFit ps w) left c.loop-plan.invariant.fit);
      rest = plans.more-tables c.plan-item.result rest (drop c.loop-plan.plan-index c.args.plans.now) w made (map input_table c.push.new.self.items) _ (input_table c.in_ok-table.table) left c.in_ok-table.ensures.table pushed c.loop-plan.invariant.rest;
    }

-- A partition.

pub op_table-ops_input-requires : goal.op_table-ops_input-requires
op_table-ops_input-requires t c =
    let w = world_of c.args.catalogue.now c.args.lets.now in
    let none = c.in_ok-none-in-Partition.ensures.rows ∙ ap emptied c.as_table-table.ensures.table in
    let fits = partition.subquery-fits c.args.op.now c.in-Partition.key c.in-Partition.ops w (input_table c.args.from) c.in-Partition.is c.requires.fits in (
      search (rules, the_lemmas),
      subst (λ os. OpsFit os w c.in_ok-none-in-Partition.none) (sym c.as_slice-in-Partition-2.ensures.items) (partition.emptied-fits c.in-Partition.ops w (input_table c.args.from) c.in_ok-none-in-Partition.none none fits),
    )

pub op_table-rows_by_key-requires : goal.op_table-rows_by_key-requires
op_table-rows_by_key-requires t c =
    let w = world_of c.args.catalogue.now c.args.lets.now in
    let there = partition.key-there c.args.op.now c.in-Partition.key c.in-Partition.ops w (input_table c.args.from) c.in-Partition.is c.requires.fits in
    record {
      column = ap (λ (n : List ℕ). is_some (place_of column_name n c.as_table-table.result.now.columns)) c.as_str-in-Partition.ensures.same
          ∙ (ap (λ (u : Grid). is_some (place_of column_name c.in-Partition.key u.columns)) c.as_table-table.ensures.table ∙ there);
    }

pub op_table-gather-requires : goal.op_table-gather-requires
op_table-gather-requires t c =
    partition.list-inside c.as_str-in-Partition.result.now c.as_table-table.result.now c.in_ok-keyed-in-Partition.keyed c.loop-number.number c.get.result.now c.in_ok-keyed-in-Partition.ensures.rows
    (omega (arith, c.loop-number-test.true, c.len-number-end.ensures.count)) c.get.ensures.same

pub op_table-ops_input-requires-in-loop-number : goal.op_table-ops_input-requires-in-loop-number
op_table-ops_input-requires-in-loop-number t c =
    let w = world_of c.args.catalogue.now c.args.lets.now in
    let table = c.as_table-table.result.now in
    let fits = partition.subquery-fits c.args.op.now c.in-Partition.key c.in-Partition.ops w (input_table c.args.from) c.in-Partition.is c.requires.fits in
    let here = subst (λ u. OpsFit c.in-Partition.ops w u) (sym c.as_table-table.ensures.table) fits in
    let inside = partition.list-inside c.as_str-in-Partition.result.now table c.in_ok-keyed-in-Partition.keyed c.loop-number.number c.get.result.now c.in_ok-keyed-in-Partition.ensures.rows
    (omega (arith, c.loop-number-test.true, c.len-number-end.ensures.count)) c.get.ensures.same in (
      search (rules, the_lemmas, c.decreases, c.in-Partition.is, c.as_slice-in-loop-number.ensures.items),
      subst (λ os. OpsFit os w c.in_ok-rows-in-Partition.rows) (sym c.as_slice-in-loop-number.ensures.items)
          (subst (λ u. OpsFit c.in-Partition.ops w u) (sym c.in_ok-rows-in-Partition.ensures.rows) (partition.rows-fit c.in-Partition.ops w table c.get.result.now here inside)),
    )

pub op_table-append-requires : goal.op_table-append-requires
op_table-append-requires t c =
    let w = world_of c.args.catalogue.now c.args.lets.now in
    let table = c.as_table-table.result.now in
    let ops = c.in-Partition.ops in
    let fits = partition.subquery-fits c.args.op.now c.in-Partition.key ops w (input_table c.args.from) c.in-Partition.is c.requires.fits in
    let here = subst (λ u. OpsFit ops w u) (sym c.as_table-table.ensures.table) fits in
    let inside = partition.list-inside c.as_str-in-Partition.result.now table c.in_ok-keyed-in-Partition.keyed c.loop-number.number c.get.result.now c.in_ok-keyed-in-Partition.ensures.rows
    (omega (arith, c.loop-number-test.true, c.len-number-end.ensures.count)) c.get.ensures.same in
    let part = (c.in_ok-part-in-Partition.ensures.table ∙ c.in_ok-given-in-Partition.ensures.table) ∙ ap (λ os. partition.made_of os w c.in_ok-rows-in-Partition.rows) c.as_slice-in-loop-number.ensures.items in
    partition.same-kinds ops w table c.in_ok-rows-in-Partition.rows c.in_ok-part-in-Partition.part c.loop-number.made c.get.result.now here c.in_ok-rows-in-Partition.ensures.rows part inside c.loop-number.invariant.columns

pub op_table-loop-number-init : goal.op_table-loop-number-init
op_table-loop-number-init t c =
    let w = world_of c.args.catalogue.now c.args.lets.now in
    record {
      columns = ap (λ (g : Grid). g.columns) c.truncate.ensures.rest
          ∙ (ap (λ (g : Grid). g.columns) ((c.in_ok-made-in-Partition.ensures.table ∙ c.in_ok-empty-in-Partition.ensures.table) ∙ ap (λ os. partition.made_of os w c.in_ok-none-in-Partition.none) c.as_slice-in-Partition-2.ensures.items)
          ∙ ap (λ (u : Grid). (partition.made_of c.in-Partition.ops w u).columns) c.in_ok-none-in-Partition.ensures.rows);
      lines = ap (λ (g : Grid). g.lines) c.truncate.ensures.rest;
    }

pub op_table-loop-number-preserved : goal.op_table-loop-number-preserved
op_table-loop-number-preserved t c =
    let w = world_of c.args.catalogue.now c.args.lets.now in
    let part = (c.in_ok-part-in-Partition.ensures.table ∙ c.in_ok-given-in-Partition.ensures.table) ∙ ap (λ os. partition.made_of os w c.in_ok-rows-in-Partition.rows) c.as_slice-in-loop-number.ensures.items in
    let more = partition.rows-more c.in-Partition.ops w c.as_table-table.result.now c.in_ok-keyed-in-Partition.keyed c.loop-number.number c.get.result.now c.in_ok-part-in-Partition.part c.in_ok-rows-in-Partition.rows
    (omega (arith, c.loop-number-test.true, c.len-number-end.ensures.count)) c.get.ensures.same c.in_ok-rows-in-Partition.ensures.rows part in
    record {
      columns = ap (λ (g : Grid). g.columns) c.in_ok-append-in-Partition.ensures.added ∙ c.loop-number.invariant.columns;
      lines = ap (λ (g : Grid). g.lines) c.in_ok-append-in-Partition.ensures.added ∙ (ap (λ rows. rows ++ c.in_ok-part-in-Partition.part.lines) c.loop-number.invariant.lines ∙ sym more);
    }

pub op_table-returns-after-loop-number : goal.op_table-returns-after-loop-number
op_table-returns-after-loop-number t c =
    let w = world_of c.args.catalogue.now c.args.lets.now in
    record {
      table = partition.all-means c.args.op.now c.in-Partition.key c.as_str-in-Partition.result.now c.in-Partition.ops w (input_table c.args.from) c.as_table-table.result.now c.in_ok-keyed-in-Partition.keyed c.loop-number.number c.loop-number.made
          c.in-Partition.is c.as_str-in-Partition.ensures.same c.as_table-table.ensures.table c.in_ok-keyed-in-Partition.ensures.rows (omega (arith, c.loop-number-test.false, c.len-number-end.ensures.count)) c.loop-number.invariant.columns c.loop-number.invariant.lines;
    }

-- A partition of a scan alone.

pub op_table-scanned_by_key-requires-clause-column : goal.op_table-scanned_by_key-requires-clause-column
op_table-scanned_by_key-requires-clause-column t c =
    let w = world_of c.args.catalogue.now c.args.lets.now in
    let there = partition.key-there c.args.op.now c.in-Partition.key c.in-Partition.ops w (input_table c.args.from) c.in-Partition.is c.requires.fits in
    ap (λ (n : List ℕ). is_some (place_of column_name n c.as_table-table.result.now.columns)) c.as_str.ensures.same
    ∙ (ap (λ (u : Grid). is_some (place_of column_name c.in-Partition.key u.columns)) c.as_table-table.ensures.table ∙ there)

pub op_table-scanned_by_key-requires-clause-fits : goal.op_table-scanned_by_key-requires-clause-fits
op_table-scanned_by_key-requires-clause-fits t c =
    partition.scan-fits c.args.op.now c.in-Partition.key c.in-Partition.ops c.as_slice-in-Partition.result.now c.in-Some.scan.now (world_of c.args.catalogue.now c.args.lets.now) (input_table c.args.from) c.as_table-table.result.now
    c.in-Partition.is c.as_slice-in-Partition.ensures.items c.in-Some.ensures.alone c.as_table-table.ensures.table c.requires.fits

pub op_table-returns-in-Some : goal.op_table-returns-in-Some
op_table-returns-in-Some t c =
    let means = partition.scan-means c.args.op.now c.in-Partition.key c.as_str.result.now c.in-Partition.ops c.as_slice-in-Partition.result.now c.in-Some.scan.now (world_of c.args.catalogue.now c.args.lets.now) (input_table c.args.from) c.as_table-table.result.now
    c.in-Partition.is c.as_slice-in-Partition.ensures.items c.in-Some.ensures.alone c.as_str.ensures.same c.as_table-table.ensures.table in
    record { table = subst (λ g. IfOk c.scanned_by_key.result (λ r. r ≡ g)) means c.scanned_by_key.ensures.table }
