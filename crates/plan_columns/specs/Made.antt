-- The columns that sources, operators and plans make where they fit, without asking whether they do.
use Rattle.std.specs.Prelude.{ℕ, List, [], fold, map, slice_get, unwrap_or}
use Rattle.kql_cells.specs.declared.schema.Column.{Column}
use Rattle.kql_bound.specs.declared.plan.Op.{Op, fold-Op}
use Rattle.kql_bound.specs.declared.plan.Op.TheOpen.{Op-F, Plan-F}
use Rattle.kql_bound.specs.declared.plan.Plan.{Plan, fold-Plan}
use Rattle.kql_bound.specs.declared.plan.Source.{Source}
use Rattle.kql_bound.specs.declared.plan.Source.TheVariants as source
use Rattle.kql_meaning.specs.Extend.{extend_columns}
use Rattle.kql_meaning.specs.Fits.{Known, table_columns}
use Rattle.kql_meaning.specs.Items.{items_columns}
use Rattle.kql_meaning.specs.Join.{join_columns}
use Rattle.kql_meaning.specs.MakeSeries.{series_columns}
use Rattle.kql_meaning.specs.MvExpand.{expand_columns}
use Rattle.kql_meaning.specs.Parse.{parse_columns}
use Rattle.kql_meaning.specs.Scan.{scan_columns}
use Rattle.kql_meaning.specs.Sources.{range_columns}
use Rattle.kql_meaning.specs.Summarize.{group_columns}
use Rattle.kql_meaning.specs.TakeAndCount.{count_columns}
use Rattle.kql_meaning.specs.Union.{union_columns}

abbrev pub PlanMakes : Type 0
PlanMakes = Known → List Column

abbrev pub OpMakes : Type 0
OpMakes = Known → List Column → List Column

-- A table or a let that is not known has none.
unfoldable pub source_makes : Source → Known → List Column
source_makes (source.Table name) known = unwrap_or (table_columns known.tables name) []
source_makes (source.Let i) known = unwrap_or (slice_get known.lets i) []
source_makes (source.Range column from to step) known = range_columns column from
source_makes (source.Print items) known = items_columns items []

-- Operators, one after another.
abbrev pub all_make : List OpMakes → Known → List Column → List Column
all_make ops known columns = fold (λ before (op : OpMakes). op known before) columns ops

abbrev pub op_makes_step : Op-F OpMakes PlanMakes → Known → List Column → List Column
op_makes_step (Op-F.Extend items) known columns = extend_columns items columns
op_makes_step (Op-F.Project items) known columns = items_columns items columns
op_makes_step Op-F.Count known columns = count_columns
op_makes_step (Op-F.Summarize g) known columns = group_columns g columns
op_makes_step (Op-F.MakeSeries p) known columns = series_columns p columns
op_makes_step (Op-F.MvExpand x) known columns = expand_columns x columns
op_makes_step (Op-F.Parse p) known columns = parse_columns p columns
op_makes_step (Op-F.Join j right) known columns = join_columns j.kind j columns (right known)
op_makes_step (Op-F.Union inner others) known columns = union_columns inner columns (map (λ (p : PlanMakes). p known) others)
op_makes_step (Op-F.Scan p) known columns = scan_columns p columns
op_makes_step (Op-F.Partition c ops) known columns = all_make ops known columns
op_makes_step _ known columns = columns

abbrev pub plan_makes_step : Plan-F OpMakes PlanMakes → Known → List Column
plan_makes_step p known = all_make p.ops known (source_makes p.source known)

unfoldable pub op_makes : Op → Known → List Column → List Column
op_makes = fold-Op OpMakes PlanMakes op_makes_step plan_makes_step

unfoldable pub plan_makes : Plan → Known → List Column
plan_makes = fold-Plan OpMakes PlanMakes op_makes_step plan_makes_step

unfoldable pub ops_make : List Op → Known → List Column → List Column
ops_make ops known columns = all_make (map op_makes ops) known columns

unfoldable pub plans_make : List Plan → Known → List (List Column)
plans_make plans known = map (λ (p : Plan). plan_makes p known) plans
