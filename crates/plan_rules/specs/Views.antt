-- What an operator is, where a rule asks for one of a kind.
use Rattle.std.specs.Prelude.{ℕ, Bool, true, false, List, Option, None, Some}
use Rattle.kql_bound.specs.declared.expr.BExpr.{BExpr}
use Rattle.kql_bound.specs.declared.parts.BItem.{BItem}
use Rattle.kql_bound.specs.declared.parts.BKey.{BKey}
use Rattle.kql_bound.specs.declared.parts.Expand.{Expand}
use Rattle.kql_bound.specs.declared.parts.GroupPlan.{GroupPlan}
use Rattle.kql_bound.specs.declared.parts.JoinPlan.{JoinPlan}
use Rattle.kql_bound.specs.declared.parts.ParsePlan.{ParsePlan}
use Rattle.kql_bound.specs.declared.plan.Op.{Op, out-Op}
use Rattle.kql_bound.specs.declared.plan.Op.TheOpen.{Op-F}
use Rattle.kql_bound.specs.declared.plan.Plan.{Plan}

abbrev pub filter_step : Op-F Op Plan → Option BExpr
filter_step (Op-F.Where e) = Some e
filter_step _ = None

unfoldable pub filter_of : Op → Option BExpr
filter_of op = filter_step (out-Op op)

abbrev pub take_step : Op-F Op Plan → Option ℕ
take_step (Op-F.Take n) = Some n
take_step _ = None

unfoldable pub take_of : Op → Option ℕ
take_of op = take_step (out-Op op)

abbrev pub extend_step : Op-F Op Plan → Option (List BItem)
extend_step (Op-F.Extend items) = Some items
extend_step _ = None

unfoldable pub extend_of : Op → Option (List BItem)
extend_of op = extend_step (out-Op op)

abbrev pub sort_step : Op-F Op Plan → Option (List BKey)
sort_step (Op-F.Sort keys) = Some keys
sort_step _ = None

unfoldable pub sort_of : Op → Option (List BKey)
sort_of op = sort_step (out-Op op)

abbrev pub join_step : Op-F Op Plan → Option (JoinPlan × Plan)
join_step (Op-F.Join j right) = Some (j, right)
join_step _ = None

unfoldable pub join_of : Op → Option (JoinPlan × Plan)
join_of op = join_step (out-Op op)

abbrev pub is_serialize_step : Op-F Op Plan → Bool
is_serialize_step Op-F.Serialize = true
is_serialize_step _ = false

unfoldable pub is_serialize : Op → Bool
is_serialize op = is_serialize_step (out-Op op)

abbrev pub project_step : Op-F Op Plan → Option (List BItem)
project_step (Op-F.Project items) = Some items
project_step _ = None

unfoldable pub project_of : Op → Option (List BItem)
project_of op = project_step (out-Op op)

abbrev pub top_step : Op-F Op Plan → Option (ℕ × List BKey)
top_step (Op-F.Top n keys) = Some (n, keys)
top_step _ = None

unfoldable pub top_of : Op → Option (ℕ × List BKey)
top_of op = top_step (out-Op op)

abbrev pub expand_step : Op-F Op Plan → Option Expand
expand_step (Op-F.MvExpand x) = Some x
expand_step _ = None

unfoldable pub expand_of : Op → Option Expand
expand_of op = expand_step (out-Op op)

abbrev pub parse_step : Op-F Op Plan → Option ParsePlan
parse_step (Op-F.Parse p) = Some p
parse_step _ = None

unfoldable pub parse_of : Op → Option ParsePlan
parse_of op = parse_step (out-Op op)

abbrev pub group_step : Op-F Op Plan → Option GroupPlan
group_step (Op-F.Summarize g) = Some g
group_step _ = None

unfoldable pub group_of_op : Op → Option GroupPlan
group_of_op op = group_step (out-Op op)

abbrev pub is_count_step : Op-F Op Plan → Bool
is_count_step Op-F.Count = true
is_count_step _ = false

unfoldable pub is_count : Op → Bool
is_count op = is_count_step (out-Op op)

-- Operators that a count does not see: `sort`, `extend` and `project` give as many rows as there are.
abbrev pub keeps_count_step : Op-F Op Plan → Bool
keeps_count_step (Op-F.Sort keys) = true
keeps_count_step (Op-F.Extend items) = true
keeps_count_step (Op-F.Project items) = true
keeps_count_step _ = false

unfoldable pub keeps_count : Op → Bool
keeps_count op = keeps_count_step (out-Op op)
