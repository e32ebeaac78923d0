use Rattle.std.proofs.Common.{FitsSigned, w64, refl}
use Rattle.std.proofs.lemmas.Int.{to_z-of_z}
use Rattle.csv_io.proofs.CellBack.{always, span-back}
use Rattle.csv_io.proofs.PlainFacts.{field-plain, time-plain, time-utf8}
use Rattle.kql_ticks.specs.Texts.{span_text}
use Rattle.csv_io.proofs.print.push_timespan.Goals as goal

pub returns-clause-added : goal.returns-clause-added
returns-clause-added c =
    let fits : FitsSigned w64 c.args.x = c.ranges.x in
    let text = span_text c.args.x in
    let bytes = simp to_z-of_z at c.push_span.ensures.bytes in
    rw (field-plain text (time-plain text bytes)) (simp to_z-of_z at c.push_span.ensures.added)

pub returns-clause-back : goal.returns-clause-back
returns-clause-back c =
    let fits : FitsSigned w64 c.args.x = c.ranges.x in
    let text = span_text c.args.x in
    let bytes = simp to_z-of_z at c.push_span.ensures.bytes in
    let back = simp to_z-of_z at c.push_span.ensures.read_back in
    always c.push_span.result _ (span-back c.args.x text (time-utf8 text bytes) bytes refl back)
