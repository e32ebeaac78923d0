use Rattle.std.proofs.Common.{◌≡◌, ◌++◌, ◌∙◌, ap}
use Rattle.kql_values.specs.Grids.{rows_of}
use Rattle.kql_values.specs.Moves.{kinds_of}
use Rattle.kql_values.proofs.TableLaws.{kinds-width, table-appended}
use Rattle.csv_io.proofs.stack.push_table.Goals as goal

pub push_to_each-requires : goal.push_to_each-requires
push_to_each-requires c =
    let moved = c.into_columns-rows in
    let kinds : kinds_of moved.result.0 ≡ kinds_of c.args.schema.now = ap kinds_of (moved.ensures.columns ∙ c.requires.columns) in
    record { width = kinds-width c.args.schema.now moved.result.0 c.args.count moved.result.1 c.args.parts.now.items moved.result.2.items kinds c.requires.fits moved.ensures.fits }

pub returns : goal.returns
returns c =
    let moved = c.into_columns-rows in
    let kinds : kinds_of moved.result.0 ≡ kinds_of c.args.schema.now = ap kinds_of (moved.ensures.columns ∙ c.requires.columns) in
    let t = table-appended c.args.schema.now moved.result.0 c.args.count moved.result.1 c.in_ok-sum.sum c.args.parts.now.items moved.result.2.items c.push_to_each.new.parts.items kinds c.requires.fits moved.ensures.fits
    c.in_ok-sum.ensures.sum c.in_ok-push_to_each.ensures.added in
    record {
      fits = t.0;
      lines = t.1 ∙ ap (λ rows. rows_of c.args.count c.args.parts.now.items ++ rows) moved.ensures.lines;
      small = c.in_ok-sum.ensures.small;
    }
