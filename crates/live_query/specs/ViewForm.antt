-- Which programs a view can keep: one `summarize` over a table, of which `distinct` is one, without a table let.
use Rattle.std.specs.Prelude.{Bool, List, [], ◌∷◌, Option, None, is_some}
use Rattle.kql_bound.specs.declared.parts.GroupPlan.{GroupPlan}
use Rattle.kql_bound.specs.declared.plan.Op.{Op}
use Rattle.kql_bound.specs.declared.plan.Plan.{Plan}
use Rattle.kql_bound.specs.declared.plan.Program.{Program}
use Rattle.kql_bound.specs.declared.plan.Source.{Source}
use Rattle.kql_bound.specs.declared.plan.Source.TheVariants as source
use Rattle.plan_rules.specs.Views.{group_of_op}

-- what the `summarize` of these operators takes, where they are it alone
abbrev pub one_group : List Op → Option GroupPlan
one_group [] = None
one_group (op ∷ []) = group_of_op op
one_group (op ∷ next ∷ ops) = None

-- the same of a plan, where its source is a table that was handed in
abbrev pub over_table : Source → Option GroupPlan → Option GroupPlan
over_table (source.Table name) group = group
over_table _ group = None

-- and where no let of a table stands before it
abbrev pub without_lets : List Plan → Option GroupPlan → Option GroupPlan
without_lets [] group = group
without_lets (p ∷ ps) group = None

-- what the one `summarize` of a program takes that a view can keep
unfoldable pub view_of : Program → Option GroupPlan
view_of p = without_lets p.lets (over_table p.main.source (one_group p.main.ops))

-- whether a view can keep it
abbrev pub is_view : Program → Bool
is_view p = is_some (view_of p)
