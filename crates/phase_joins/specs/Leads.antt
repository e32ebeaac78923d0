-- The rows of which the pieces of a join are.
use Rattle.std.specs.Prelude.{ℕ, if◌then◌else◌, List}
use Rattle.kql_cells.specs.Table.{Grid}
use Rattle.kql_bound.specs.declared.parts.JoinKind.TheVariants as join
use Rattle.kql_bound.specs.declared.parts.JoinPlan.{JoinPlan}
use Rattle.join_op.specs.Led.{all_leads}
use Rattle.join_op.specs.Pairs.{has_lead}

-- Those of the side that leads, or of the left side, where none leads alone.
unfoldable pub leads_of : JoinPlan → Grid → Grid → List ℕ
leads_of j a b = if has_lead j.kind then all_leads j.kind j a b else all_leads join.LeftOuter j a b
