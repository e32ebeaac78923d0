-- When a view keeps the groups of which a query answers over a table.
use Rattle.std.specs.Prelude.{◌≡◌, IsTrue, Some}
use Rattle.kql_cells.specs.Table.{Grid}
use Rattle.live_query.specs.LiveMeaning.{FitsColumns}
use Rattle.live_query.specs.ViewForm.{view_of}
use Rattle.live_query.specs.declared.query.LiveQuery.{LiveQuery}
use Rattle.view_ops.specs.Views.{StandsFor, Viewed}

-- it has the plan of the query's one `summarize`, and stands for the rows of the table, whose numbers are stored
pub record Keeps (q : LiveQuery) (t : Grid) (v : Viewed) : Type 0 where
  pub fits : FitsColumns q t.columns
  pub plan : view_of q.program ≡ Some v.plan
  pub columns : v.columns ≡ t.columns
  pub rows : IsTrue v.stored → StandsFor v t.lines
