use Rattle.std.proofs.Common.{◌≡◌, ◌<◌, ◌==◌, false, length, get_or, arith}
use Rattle.std.proofs.lemmas.Bool.{ne_eqb}
use Rattle.csv_io.proofs.CutFacts.{plain-cut}
use Rattle.csv_io.proofs.cut.cut_field.Goals.{else-at-text-via-then-at-text+else-text-at-eq34, else-at-text-via-else-at-text}
use Rattle.csv_io.proofs.cut.cut_field.Goals as goal

pub returns-clause-cut : goal.returns-clause-cut
returns-clause-cut c =
    let text = c.args.text.now in
    let at = c.args.at in
    let plain : at < length text → (get_or text at 0 == 34) ≡ false = elim c.else-at-text.branch [
      | else-at-text-via-then-at-text+else-text-at-eq34 w ↦ (λ lt. ne_eqb _ _ w.if-text-at-eq34.false)
      | else-at-text-via-else-at-text w ↦ (λ lt. let e = w.if-at-text.false in absurd (omega arith))
    ] in
    plain-cut text at c.field_end-end.result.0 c.field_end-end.ensures.run plain
