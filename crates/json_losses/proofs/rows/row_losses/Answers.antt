use Rattle.std.proofs.Common.{◌<◌, ◌≤◌, arith, length}
use Rattle.csv.specs.Records.{fields_of}
use Rattle.json_losses.proofs.LossFacts.{held-fits, row-end, row-turn}
use Rattle.json_losses.proofs.rows.row_losses.Goals as goal

pub fields-preserved : goal.fields-preserved
fields-preserved c =
    let lt : c.fields.j < length (fields_of c.args.row.now) = omega (arith, c.fields-test.true, c.len-j-end.ensures) in
    record {
      fits = held-fits c.fields.count c.in_ok-cell_losses.field-0 c.saturating_add-count.result c.saturating_add-count.ensures;
      left = row-turn c.args.columns.now (fields_of c.args.row.now) c.fields.j c.fields.count c.in_ok-cell_losses.field-0 _ c.saturating_add-count.result lt c.in_ok-cell_losses.ensures.count c.saturating_add-count.ensures c.fields.invariant.left;
    }

pub returns : goal.returns
returns c =
    let end : length (fields_of c.args.row.now) ≤ c.fields.j = omega (arith, c.fields-test.false, c.len-j-end.ensures) in
    record { count = row-end c.args.columns.now (fields_of c.args.row.now) c.fields.j c.fields.count _ end c.fields.invariant.fits c.fields.invariant.left }
