-- A view that took a batch keeps the groups of the table with the batch's rows.
use Rattle.std.proofs.Common.{subst, sym}
use Rattle.std.specs.Prelude.{List}
use Rattle.kql_cells.specs.Table.{Grid}
use Rattle.kql_cells.specs.declared.schema.Column.{Column}
use Rattle.kql_fit_laws.specs.LawsOfRows.{IsTableOf}
use Rattle.live_query.specs.Keeping.{Keeps}
use Rattle.live_query.specs.declared.query.LiveQuery.{LiveQuery}
use Rattle.live_tables.specs.Growing.{with_rows}
use Rattle.view_ops.specs.Views.{Viewed, grown}
use Rattle.view_ops.proofs.GrowingLaws.{stands-next, stored-before}

pub keeps-grown : (q : LiveQuery) (t b : Grid) (v : Viewed) → Keeps q t v → IsTableOf t.columns b → Keeps q (with_rows t b) (grown v b)
unfolding grown
keeps-grown q t b v h own = record {
  fits = h.fits;
  plan = h.plan;
  columns = h.columns;
  rows = λ stored. stands-next v t.lines b (h.rows (stored-before v b stored)) (subst (λ (cs : List Column). IsTableOf cs b) (sym h.columns) own) stored;
}
