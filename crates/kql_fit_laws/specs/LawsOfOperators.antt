-- What every operator that fits gives, whatever plans and operators are in it, and so what every plan gives.
use Rattle.kql_bound.specs.declared.parts.Expand.{Expand}
use Rattle.kql_bound.specs.declared.parts.ParsePlan.{ParsePlan}
use Rattle.kql_bound.specs.declared.parts.ScanPlan.{ScanPlan}
use Rattle.kql_bound.specs.declared.parts.SeriesPlan.{SeriesPlan}
use Rattle.kql_bound.specs.declared.plan.Op.{Op}
use Rattle.kql_bound.specs.declared.plan.Op.TheVariants as op
use Rattle.kql_bound.specs.declared.plan.Plan.{Plan}
use Rattle.kql_bound.specs.declared.plan.Source.{Source}
use Rattle.kql_meaning.specs.Fits.{Known}
use Rattle.kql_meaning.specs.Plans.{World}
use Rattle.kql_fit_laws.specs.LawsOfPrograms.{SourceKeeps, Stands}
use Rattle.kql_fit_laws.specs.LawsOfRows.{OpKeeps, PlanKeeps}

-- Operators whose rows are made of parts, pieces, bins or the records of steps.

abbrev pub EachExpandKeeps : Type 0
EachExpandKeeps = (k : Known) (w : World) (x : Expand) → OpKeeps k w (op.MvExpand x)

abbrev pub EachParseKeeps : Type 0
EachParseKeeps = (k : Known) (w : World) (p : ParsePlan) → OpKeeps k w (op.Parse p)

abbrev pub EachSeriesKeeps : Type 0
EachSeriesKeeps = (k : Known) (w : World) (p : SeriesPlan) → OpKeeps k w (op.MakeSeries p)

abbrev pub EachScanKeeps : Type 0
EachScanKeeps = (k : Known) (w : World) (p : ScanPlan) → OpKeeps k w (op.Scan p)

-- Every source, operator and plan, where what is known of the tables is so.

abbrev pub EachSourceKeeps : Type 0
EachSourceKeeps = (k : Known) (w : World) → Stands k w → (s : Source) → SourceKeeps k w s

abbrev pub EachOpKeeps : Type 0
EachOpKeeps = (k : Known) (w : World) → Stands k w → (o : Op) → OpKeeps k w o

abbrev pub EachPlanKeeps : Type 0
EachPlanKeeps = (k : Known) (w : World) → Stands k w → (p : Plan) → PlanKeeps k w p
