use Rattle.std.proofs.Common.{◌≡◌, ◌∙◌, FitsSigned, w64}
use Rattle.std.specs.Fmt.{signed_decimal}
use Rattle.std.proofs.lemmas.Int.{to_z-of_z}
use Rattle.csv_io.proofs.CellBack.{always, long-back}
use Rattle.csv_io.proofs.PlainFacts.{extended, field-plain, long-plain}
use Rattle.csv_io.proofs.print.push_long.Goals as goal

pub returns-clause-added : goal.returns-clause-added
returns-clause-added c =
    let fits : FitsSigned w64 c.args.n = c.ranges.n in
    let text : c.as_bytes.result.now ≡ signed_decimal c.args.n = c.as_bytes.ensures.value ∙ simp to_z-of_z at c.format.ensures.text in
    rw (field-plain (signed_decimal c.args.n) (long-plain c.args.n fits), ← text) (extended c.args.out.now.items c.extend_from_slice.new.self.items c.as_bytes.result.now c.extend_from_slice.result c.extend_from_slice.ensures.items)

pub returns-clause-back : goal.returns-clause-back
returns-clause-back c =
    let fits : FitsSigned w64 c.args.n = c.ranges.n in
    let text = simp to_z-of_z at c.format.ensures.text in
    always c.extend_from_slice.result _ (long-back c.args.n c.format.result.now fits c.format.utf8 text)
