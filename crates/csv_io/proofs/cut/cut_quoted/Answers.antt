use Rattle.std.proofs.Common.{◌≡◌, ◌<◌, ◌+◌, ◌∙◌, false, length, get_or, arith, sym}
use Rattle.csv_io.specs.Runs.{is_plain}
use Rattle.csv_io.proofs.CutFacts.{quoted-cut}
use Rattle.csv_io.proofs.cut.cut_quoted.Goals.{else-end-text-via-then-end-text+else-is_plain, else-end-text-via-else-end-text}
use Rattle.csv_io.proofs.cut.cut_quoted.Goals as goal

pub returns-clause-cut : goal.returns-clause-cut
returns-clause-cut c =
    let text = c.args.text.now in
    let to = c.quote_end-to.result in
    let other = c.if-to-text.false in
    let closed : to < length text = omega (arith, c.quote_end-to.ensures.within) in
    let stops : to + 1 < length text → is_plain (get_or text (to + 1) 0) ≡ false = elim c.else-end-text.branch [
      | else-end-text-via-then-end-text+else-is_plain w ↦ (λ lt. sym w.is_plain.ensures ∙ w.if-is_plain.false)
      | else-end-text-via-else-end-text w ↦ (λ lt. let e = w.if-end-text.false in absurd (omega arith))
    ] in
    quoted-cut text c.args.at to c.requires.within c.requires.quote c.quote_end-to.ensures closed stops
