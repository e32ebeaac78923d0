-- What each use of a rule does: it keeps what the operators mean, the load falls, and the size does not rise.
use Rattle.std.specs.Prelude.{◌≤◌, ◌<◌, Bool, List, [], ◌∷◌, IsSome, length, map}
use Rattle.kql_cells.specs.declared.schema.Column.{Column}
use Rattle.kql_bound.specs.declared.plan.Op.{Op}
use Rattle.kql_bound.specs.declared.plan.Plan.{Plan}
use Rattle.kql_bound.specs.declared.plan.Program.{Program}
use Rattle.kql_meaning.specs.Fits.{Known, program_columns}
use Rattle.plan_rules.specs.Becomes.{Becomes, EachBecomes, PlanBecomes, ProgramBecomes}
use Rattle.plan_rules.specs.Size.{ops_size, plan_size, plans_size}
use Rattle.plan_rules.specs.Weight.{IsLighter, in_order, ops_weight, plan_weight, program_weight}

pub record Improves (k : Known) (inside : Bool) (cs : List Column) (xs ys : List Op) : Type 0 where
  pub becomes : Becomes k inside cs xs ys
  pub lighter : IsLighter (ops_weight ys) (ops_weight xs)
  pub no_longer : length ys ≤ length xs
  pub no_larger : ops_size ys ≤ ops_size xs

-- No more operators, and no more operators and nodes of expressions together.
pub record PlanIsNoLonger (p q : Plan) : Type 0 where
  pub operators : length p.ops ≤ length q.ops
  pub size : plan_size p ≤ plan_size q

pub record PlanImproves (k : Known) (p q : Plan) : Type 0 where
  pub becomes : PlanBecomes k p q
  pub lighter : IsLighter (plan_weight q) (plan_weight p)
  pub no_longer : PlanIsNoLonger q p

-- Each plan of these than its own of those, which are as many.
abbrev pub AreNoLonger : List Plan → List Plan → Type 0
AreNoLonger [] [] = Unit {0}
AreNoLonger (p ∷ ps) (q ∷ qs) = PlanIsNoLonger p q × AreNoLonger ps qs
AreNoLonger _ _ = ⊥

-- As many lets, and the main plan and each let no longer.
pub record IsNoLonger (p q : Program) : Type 0 where
  pub lets : AreNoLonger p.lets q.lets
  pub main : PlanIsNoLonger p.main q.main

pub record ProgramImproves (p q : Program) : Type 0 where
  pub becomes : ProgramBecomes p q
  pub lighter : (program_weight q).load < (program_weight p).load
  pub no_longer : IsNoLonger q p
  pub fits : IsSome (program_columns p) → IsSome (program_columns q)

-- One of several plans becomes another.
pub record PlansImprove (k : Known) (ps qs : List Plan) : Type 0 where
  pub becomes : EachBecomes k ps qs
  pub lighter : IsLighter (in_order (map plan_weight qs)) (in_order (map plan_weight ps))
  pub no_larger : plans_size qs ≤ plans_size ps
