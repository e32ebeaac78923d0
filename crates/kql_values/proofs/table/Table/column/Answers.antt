use Rattle.std.proofs.Common.{subst, sym}
use Rattle.std.specs.Prelude.{All}
use Rattle.kql_cells.specs.Table.{CellFits}
use Rattle.kql_values.proofs.TableLaws.{fits-column, table-column}
use Rattle.kql_values.proofs.table.Table.column.Goals as goal

pub returns-clause-cells : goal.returns-clause-cells
returns-clause-cells c =
    rw (← c.self.view_is) (table-column c.self.inside.schema c.self.inside.count c.self.inside.columns.items c.args.j c.index.result.now c.self.invariant.0 (rw (← c.self.view_is) at c.requires) c.index.ensures)

pub returns-clause-fits : goal.returns-clause-fits
returns-clause-fits c = λ d e.
    subst (λ y. All (CellFits d) y) (sym c.index.ensures)
    (fits-column c.self.inside.schema c.self.inside.count c.self.inside.columns.items c.args.j c.index.result.now d c.self.invariant.0 (rw (← c.self.view_is) at c.requires) (rw (← c.self.view_is) at e))
