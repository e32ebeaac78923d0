-- No rule fires anywhere in a program, its lets or its subplans, and no constant in it is left to fold.
use Rattle.std.specs.Prelude.{Bool, true, false, not, ◌&&◌, List, [], ◌∷◌, ◌++◌, Option, None, Some, fold, is_some, map, option_and_then}
use Rattle.std.specs.List.{list_all}
use Rattle.kql_cells.specs.declared.schemas.NamedSchema.{NamedSchema}
use Rattle.kql_cells.specs.declared.schema.Column.{Column}
use Rattle.kql_bound.specs.declared.plan.Op.{Op, para-Op}
use Rattle.kql_bound.specs.declared.plan.Op.TheOpen.{Op-F, Plan-F}
use Rattle.kql_bound.specs.declared.plan.Plan.{Plan, para-Plan}
use Rattle.kql_bound.specs.declared.plan.Program.{Program}
use Rattle.kql_meaning.specs.Fits.{Known, known_of, lets_columns, op_columns, plan_columns, source_columns}
use Rattle.plan_rules.specs.FoldedPlans.{is_program_folded}
use Rattle.plan_neighbours.specs.Table.{rule_at}

-- A test that goes on with what is there, and fails where there is nothing: what fits has columns at each of its places.
abbrev pub if_known : {X : Type 0} → Option X → (X → Bool) → Bool
if_known None f = false
if_known (Some x) f = f x

abbrev pub OpTest : Type 0
OpTest = Known → Bool → List Column → Bool

abbrev pub PlanTest : Type 0
PlanTest = Known → Bool

-- Operators, each with a test of what is in it.
abbrev pub settled_along : List (Op × OpTest) → Known → Bool → List Column → Bool
settled_along [] k inside cs = true
settled_along (x ∷ xs) k inside cs =
    not (is_some (rule_at k cs (map (λ (y : Op × OpTest). y.0) (x ∷ xs)))) && (x.1 k inside cs && if_known (op_columns x.0 k inside cs) (settled_along xs k inside))

abbrev pub settled_step : Op-F (Op × OpTest) (Plan × PlanTest) → OpTest
settled_step (Op-F.Join j right) k inside cs = right.1 k
settled_step (Op-F.Union inner others) k inside cs = list_all (λ (p : Plan × PlanTest). p.1 k) others
settled_step (Op-F.Partition c ops) k inside cs = settled_along ops k true cs
settled_step _ k inside cs = true

abbrev pub settled_plan_step : Plan-F (Op × OpTest) (Plan × PlanTest) → PlanTest
settled_plan_step p k = if_known (source_columns p.source k) (settled_along p.ops k false)

unfoldable pub settled_op : Op → OpTest
settled_op = para-Op OpTest PlanTest settled_step settled_plan_step

unfoldable pub settled_plan : Plan → PlanTest
settled_plan = para-Plan OpTest PlanTest settled_step settled_plan_step

unfoldable pub settled_ops : List Op → OpTest
settled_ops ops k inside cs = settled_along (map (λ x. (x, settled_op x)) ops) k inside cs

-- Lets, each over those before it.
abbrev pub lets_settled : List NamedSchema → List (List Column) → List Plan → Bool
lets_settled tables ls [] = true
lets_settled tables ls (p ∷ ps) = settled_plan p (known_of tables ls) && if_known (plan_columns p (known_of tables ls)) (λ c. lets_settled tables (ls ++ c ∷ []) ps)

-- A program in which no rule of the table fires.
unfoldable pub is_quiet : Program → Bool
is_quiet p = lets_settled p.tables [] p.lets && if_known (lets_columns p.lets p.tables) (λ ls. settled_plan p.main (known_of p.tables ls))

-- A program to which no rule applies: none of the table fires, and no node of an expression is a constant, but for literals.
unfoldable pub settled : Program → Bool
settled p = is_quiet p && is_program_folded p
