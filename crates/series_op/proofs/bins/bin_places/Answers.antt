use Rattle.std.proofs.Common.{◌+◌, ◌∙◌, ap, length, refl}
use Rattle.std.proofs.lemmas.List.{length_push}
use Rattle.kql_cells.specs.Seen.{seen}
use Rattle.kql_meaning.specs.Values.{number_of}
use Rattle.series_op.proofs.BinSteps.{places-more}
use Rattle.series_op.proofs.bins.bin_places.Goals as goal

pub rows-preserved : goal.rows-preserved
rows-preserved c =
    let old = c.rows.places.items in
    let added = c.in_ok-push.ensures.items in
    record {
      long = ap length added ∙ (length_push old c.bin_place-place.result ∙ ap (λ n. n + 1) c.rows.invariant.long);
      each = places-more c.args.series.now c.args.count c.rows.i c.args.starts.now (seen c.cell.result) (number_of (seen c.cell.result)) c.bin_place-place.result old c.push.new.self.items c.cell.ensures.same refl c.bin_place-place.ensures.place c.rows.invariant.long c.rows.invariant.each added;
    }
