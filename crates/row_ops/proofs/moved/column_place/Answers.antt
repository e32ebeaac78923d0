use Rattle.row_ops.proofs.MovedFacts.{column-found}
use Rattle.row_ops.proofs.moved.column_place.Goals as goal

-- src/moved.rt:38:1
pub returns-in-Column : goal.returns-in-Column
returns-in-Column c = record { place = column-found c.args.schema.now c.args.item.now _ c.as_str.result.now c.find.result c.in-Column.is c.as_str.ensures.same c.find.ensures.place }
