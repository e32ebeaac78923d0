use Rattle.std.proofs.Common.{◌≡◌, ◌++◌, drop, map, take}
use Rattle.kql_meaning.specs.Plans.{one_after_another, op_means}
use Rattle.kql_meaning.specs.Tables.{emptied}
use Rattle.kql_plain.specs.AtHand.{OpsFit, PlansFit, plans_mean, world_of}
use Rattle.kql_plain.specs.Inputs.{input_table}
use Rattle.kql_plain.proofs.PartitionSteps.{made_of, rows_made}
use Rattle.kql_plain.proofs.plans.+plan_input.Given as goal

-- the operators that are left fit, and make of the table so far what all make of the first
abbrev pub invariant-ops_input-loop-op : goal.invariant-ops_input-loop-op
invariant-ops_input-loop-op l = record {
  fit : OpsFit (drop l.op-index l.ops) (world_of l.catalogue l.lets) (input_table l.made);
  rest : one_after_another (map op_means (drop l.op-index l.ops)) (world_of l.catalogue l.lets) (input_table l.made) ≡ one_after_another (map op_means l.ops) (world_of l.catalogue l.lets) (input_table l.fn.from);
}

-- the plans that are left fit, and their tables stand behind those so far
abbrev pub invariant-plans_inputs-loop-plan : goal.invariant-plans_inputs-loop-plan
invariant-plans_inputs-loop-plan l = record {
  fit : PlansFit (drop l.plan-index l.plans) (world_of l.catalogue l.lets);
  rest : map input_table l.made.items ++ plans_mean (drop l.plan-index l.plans) (world_of l.catalogue l.lets) ≡ plans_mean l.plans (world_of l.catalogue l.lets);
}

-- the rows so far are those of the keys so far, in the columns that the operators make of no rows
abbrev pub invariant-op_table-loop-number : goal.invariant-op_table-loop-number
invariant-op_table-loop-number l = record {
  columns : l.made.columns ≡ (made_of l.ops (world_of l.catalogue l.lets) (emptied l.table)).columns;
  lines : l.made.lines ≡ rows_made l.ops (world_of l.catalogue l.lets) l.table (take l.number l.lists);
}
