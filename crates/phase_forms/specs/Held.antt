-- Operators that may go by pieces of their own, and operators that hold a plan: `join` and `lookup` that of their right side, `union` those of the other tables.
use Rattle.std.specs.Prelude.{Bool, true, false}
use Rattle.kql_bound.specs.declared.plan.Op.{Op, out-Op}
use Rattle.kql_bound.specs.declared.plan.Op.TheOpen.{Op-F}
use Rattle.kql_bound.specs.declared.plan.Plan.{Plan}

abbrev pub holds_plan_step : Op-F Op Plan → Bool
holds_plan_step (Op-F.Join j right) = true
holds_plan_step (Op-F.Union inner others) = true
holds_plan_step _ = false

unfoldable pub holds_plan : Op → Bool
holds_plan o = holds_plan_step (out-Op o)

abbrev pub goes_alone_step : Op-F Op Plan → Bool
goes_alone_step (Op-F.Extend items) = true
goes_alone_step (Op-F.Project items) = true
goes_alone_step (Op-F.Top n keys) = true
goes_alone_step (Op-F.Summarize g) = true
goes_alone_step (Op-F.MakeSeries s) = true
goes_alone_step (Op-F.Join j right) = true
goes_alone_step (Op-F.Partition column ops) = true
goes_alone_step _ = false

unfoldable pub goes_alone : Op → Bool
goes_alone o = goes_alone_step (out-Op o)
