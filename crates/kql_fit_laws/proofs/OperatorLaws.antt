-- What every operator and plan that fits gives, by induction over operators and plans.
use Rattle.std.proofs.Common.{List, map, subst, sym}
use Rattle.std.specs.Prelude.{Contains}
use Rattle.kql_bound.specs.declared.plan.Op.{Op, ind-Op, roll-Op}
use Rattle.kql_bound.specs.declared.plan.Op.TheFolds.{map-Op, map-Plan}
use Rattle.kql_bound.specs.declared.plan.Op.TheOpen.{Op-F, Plan-F}
use Rattle.kql_bound.specs.declared.plan.Op.TheVariants as V
use Rattle.kql_bound.specs.declared.plan.Plan.{Plan, ind-Plan, roll-Plan}
use Rattle.kql_bound.specs.declared.plan.Source.TheVariants as source
use Rattle.kql_meaning.specs.Fits.{Known}
use Rattle.kql_meaning.specs.Plans.{World}
use Rattle.kql_meaning.proofs.MemberLaws.{member-contains, member-of-map}
use Rattle.kql_fit_laws.proofs.ExpandRows.{each_expand_keeps}
use Rattle.kql_fit_laws.proofs.ItemLaws.{each_extend_keeps, each_print_keeps, each_project_keeps, each_summarize_keeps}
use Rattle.kql_fit_laws.proofs.ParseRows.{each_parse_keeps}
use Rattle.kql_fit_laws.proofs.PlanRows.{join_keeps, partition_keeps, union_keeps}
use Rattle.kql_fit_laws.proofs.ProgramRows.{let_keeps, parts_keep_plan, table_keeps}
use Rattle.kql_fit_laws.proofs.RangeRows.{range_keeps}
use Rattle.kql_fit_laws.proofs.RowLaws.{count_keeps, serialize_keeps, sort_keeps, take_keeps, top_keeps, where_keeps}
use Rattle.kql_fit_laws.proofs.ScanRows.{each_scan_keeps}
use Rattle.kql_fit_laws.proofs.SeriesRows.{each_series_keeps}
use Rattle.kql_fit_laws.specs.LawsOfOperators.{EachOpKeeps, EachPlanKeeps, EachSourceKeeps}
use Rattle.kql_fit_laws.specs.LawsOfPrograms.{Stands}
use Rattle.kql_fit_laws.specs.LawsOfRows.{OpKeeps, PlanKeeps}

pub each_source_keeps : EachSourceKeeps
each_source_keeps k w stands (source.Table name) = table_keeps k w name stands
each_source_keeps k w stands (source.Let i) = let_keeps k w i stands
each_source_keeps k w stands (source.Range column from to step) = range_keeps k w column from to step
each_source_keeps k w stands (source.Print items) = each_print_keeps k w items

module _ (k : Known) (w : World) (stands : Stands k w) where
  -- An operator, and a plan, with the fact that it keeps tables.
  abbrev GivenOp : Type 0
  GivenOp = (o : Op) × OpKeeps k w o

  abbrev GivenPlan : Type 0
  GivenPlan = (p : Plan) × PlanKeeps k w p

  abbrev bare_op : GivenOp → Op
  bare_op g = g.0

  abbrev bare_plan : GivenPlan → Plan
  bare_plan g = g.0

  each-op : (gs : List GivenOp) (o : Op) → Contains (map bare_op gs) o → OpKeeps k w o
  each-op gs o c = let q = member-of-map bare_op gs o (member-contains (map bare_op gs) o c) in subst (OpKeeps k w) q.2 q.0.1

  each-plan : (gs : List GivenPlan) (p : Plan) → Contains (map bare_plan gs) p → PlanKeeps k w p
  each-plan gs p c = let q = member-of-map bare_plan gs p (member-contains (map bare_plan gs) p c) in subst (PlanKeeps k w) q.2 q.0.1

  of-op : (y : Op-F GivenOp GivenPlan) → OpKeeps k w (roll-Op (map-Op GivenOp GivenPlan Op Plan bare_op bare_plan y))
  of-op (Op-F.Where e) = subst (OpKeeps k w) (sym (V.rolls-Where e)) (where_keeps k w e)
  of-op (Op-F.Extend items) = subst (OpKeeps k w) (sym (V.rolls-Extend items)) (each_extend_keeps k w items)
  of-op (Op-F.Project items) = subst (OpKeeps k w) (sym (V.rolls-Project items)) (each_project_keeps k w items)
  of-op (Op-F.Take n) = subst (OpKeeps k w) (sym (V.rolls-Take n)) (take_keeps k w n)
  of-op Op-F.Count = subst (OpKeeps k w) (sym V.rolls-Count) (count_keeps k w)
  of-op Op-F.Serialize = subst (OpKeeps k w) (sym V.rolls-Serialize) (serialize_keeps k w)
  of-op (Op-F.Sort keys) = subst (OpKeeps k w) (sym (V.rolls-Sort keys)) (sort_keeps k w keys)
  of-op (Op-F.Top n keys) = subst (OpKeeps k w) (sym (V.rolls-Top n keys)) (top_keeps k w n keys)
  of-op (Op-F.Summarize g) = subst (OpKeeps k w) (sym (V.rolls-Summarize g)) (each_summarize_keeps k w g)
  of-op (Op-F.MakeSeries p) = subst (OpKeeps k w) (sym (V.rolls-MakeSeries p)) (each_series_keeps k w p)
  of-op (Op-F.MvExpand x) = subst (OpKeeps k w) (sym (V.rolls-MvExpand x)) (each_expand_keeps k w x)
  of-op (Op-F.Parse p) = subst (OpKeeps k w) (sym (V.rolls-Parse p)) (each_parse_keeps k w p)
  of-op (Op-F.Join j right) = subst (OpKeeps k w) (sym (V.rolls-Join j right.0)) (join_keeps k w j right.0 right.1)
  of-op (Op-F.Union inner others) = subst (OpKeeps k w) (sym (V.rolls-Union inner (map bare_plan others))) (union_keeps k w inner (map bare_plan others) (each-plan others))
  of-op (Op-F.Scan p) = subst (OpKeeps k w) (sym (V.rolls-Scan p)) (each_scan_keeps k w p)
  of-op (Op-F.Partition c ops) = subst (OpKeeps k w) (sym (V.rolls-Partition c (map bare_op ops))) (partition_keeps k w c (map bare_op ops) (each-op ops))

  of-plan : (y : Plan-F GivenOp GivenPlan) → PlanKeeps k w (roll-Plan (map-Plan GivenOp GivenPlan Op Plan bare_op bare_plan y))
  of-plan y = parts_keep_plan k w (record { source = y.source; ops = map bare_op y.ops }) (each_source_keeps k w stands y.source) (each-op y.ops)

  every-op : (o : Op) → OpKeeps k w o
  every-op =
      ind-Op (OpKeeps k w) (PlanKeeps k w) (λ x y is. subst (λ (z : Op-F Op Plan). OpKeeps k w (roll-Op z)) is (of-op y))
      (λ x y is. subst (λ (z : Plan-F Op Plan). PlanKeeps k w (roll-Plan z)) is (of-plan y))

  every-plan : (p : Plan) → PlanKeeps k w p
  every-plan =
      ind-Plan (OpKeeps k w) (PlanKeeps k w) (λ x y is. subst (λ (z : Op-F Op Plan). OpKeeps k w (roll-Op z)) is (of-op y))
      (λ x y is. subst (λ (z : Plan-F Op Plan). PlanKeeps k w (roll-Plan z)) is (of-plan y))

pub each_op_keeps : EachOpKeeps
each_op_keeps k w stands o = every-op k w stands o

pub each_plan_keeps : EachPlanKeeps
each_plan_keeps k w stands p = every-plan k w stands p

pub ruleset operator_laws = (each_expand_keeps, each_parse_keeps, each_series_keeps, each_scan_keeps, each_source_keeps, each_op_keeps, each_plan_keeps)
