-- Which lets plans name, and where a let is read for the last time.
use Rattle.std.specs.Prelude.{ℕ, Bool, false, not, nat_le, ◌==◌, ◌||◌, List, [], ◌∷◌}
use Rattle.std.specs.List.{list_any}
use Rattle.kql_bound.specs.declared.plan.Op.{Op, fold-Op}
use Rattle.kql_bound.specs.declared.plan.Op.TheOpen.{Op-F, Plan-F}
use Rattle.kql_bound.specs.declared.plan.Plan.{Plan, fold-Plan}
use Rattle.kql_bound.specs.declared.plan.Source.{Source}
use Rattle.kql_bound.specs.declared.plan.Source.TheVariants as source

-- Whether a source is the let of a number.
unfoldable pub source_names : ℕ → Source → Bool
source_names i (source.Table name) = false
source_names i (source.Let k) = k == i
source_names i (source.Range column from to step) = false
source_names i (source.Print items) = false

-- Whether an operator names a let, from whether the operators and plans in it do.
abbrev pub op_names_step : Op-F Bool Bool → Bool
op_names_step (Op-F.Where e) = false
op_names_step (Op-F.Extend items) = false
op_names_step (Op-F.Project items) = false
op_names_step (Op-F.Take n) = false
op_names_step Op-F.Count = false
op_names_step Op-F.Serialize = false
op_names_step (Op-F.Sort keys) = false
op_names_step (Op-F.Top n keys) = false
op_names_step (Op-F.Summarize g) = false
op_names_step (Op-F.MakeSeries s) = false
op_names_step (Op-F.MvExpand x) = false
op_names_step (Op-F.Parse p) = false
op_names_step (Op-F.Join j right) = right
op_names_step (Op-F.Union inner others) = list_any (λ b. b) others
op_names_step (Op-F.Scan s) = false
op_names_step (Op-F.Partition column ops) = list_any (λ b. b) ops

-- The same of a plan: its source is that let, or one of its operators names it.
abbrev pub plan_names_step : ℕ → Plan-F Bool Bool → Bool
plan_names_step i p = list_any (λ b. b) p.ops || source_names i p.source

unfoldable pub op_names : ℕ → Op → Bool
op_names i = fold-Op Bool Bool op_names_step (plan_names_step i)

unfoldable pub plan_names : ℕ → Plan → Bool
plan_names i = fold-Plan Bool Bool op_names_step (plan_names_step i)

-- Whether one of several does.
abbrev pub ops_name : ℕ → List Op → Bool
ops_name i ops = list_any (op_names i) ops

abbrev pub plans_name : ℕ → List Plan → Bool
plans_name i plans = list_any (plan_names i) plans

-- Whether a source is a let, and one of which a test does not hold.
unfoldable pub is_let_not : (ℕ → Bool) → Source → Bool
is_let_not test (source.Table name) = false
is_let_not test (source.Let i) = not (test i)
is_let_not test (source.Range column from to step) = false
is_let_not test (source.Print items) = false

-- Whether the source of a plan is one of the first n lets, and neither its own operators nor the plans behind it name that let.
unfoldable pub reads_last : ℕ → Plan → List Plan → Bool
reads_last n p behind = is_let_not (λ i. nat_le n i || (ops_name i p.ops || plans_name i behind)) p.source

-- The same of each of plans that follow one another.
unfoldable pub last_readings : ℕ → List Plan → List Bool
last_readings n [] = []
last_readings n (p ∷ ps) = reads_last n p ps ∷ last_readings n ps
