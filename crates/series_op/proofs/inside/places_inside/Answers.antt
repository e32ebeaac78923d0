use Rattle.std.proofs.Common.{◌∙◌, ap}
use Rattle.kql_cells.specs.Named.{column_name, place_of}
use Rattle.series_op.proofs.InsideSteps.{axis-none, axis-places}
use Rattle.series_op.proofs.inside.places_inside.Goals as goal

pub returns-in_ok-places-in-Some : goal.returns-in_ok-places-in-Some
returns-in_ok-places-in-Some c =
    let named = c.find.ensures.place ∙ ap (λ n. place_of column_name n c.schema.result.now) c.as_str.ensures.same in
    record {
      places = axis-places c.args.series.now c.args.t.now c.in-Some.axis c.column.result.now c.schema.result.now c.find.result c.in_ok-places-in-Some.places c.schema.ensures.fits c.schema.ensures.columns named c.in-Some.is c.column.ensures.cells c.column.ensures.count c.in_ok-places-in-Some.ensures.places;
    }

pub returns-in-None : goal.returns-in-None
returns-in-None c =
    let named = c.find.ensures.place ∙ ap (λ n. place_of column_name n c.schema.result.now) c.as_str.ensures.same in
    record { places = axis-none c.args.series.now c.args.t.now c.schema.result.now c.find.result c.new.result c.schema.ensures.columns named c.in-None.is c.new.ensures.empty }
