use Rattle.std.proofs.Common.{FitsSigned, w64, refl}
use Rattle.std.specs.Prelude.{unsigned_abs}
use Rattle.std.proofs.lemmas.Int.{to_z-of_z}
use Rattle.csv_io.proofs.CellBack.{along, moment-back}
use Rattle.csv_io.proofs.PlainFacts.{field-plain, time-plain, time-utf8}
use Rattle.csv_io.proofs.PrintedDayFacts.{moment-again}
use Rattle.kql_ticks.proofs.ByteLemmas.{moment-bytes}
use Rattle.kql_ticks.specs.Texts.{moment_text}
use Rattle.csv_io.proofs.print.push_datetime.Goals as goal

pub returns-clause-added : goal.returns-clause-added
returns-clause-added c =
    let fits : FitsSigned w64 c.args.x = c.ranges.x in
    let text = moment_text (unsigned_abs c.args.x) in
    rw (field-plain text (time-plain text (moment-bytes _))) (simp to_z-of_z at c.push.ensures.added)

pub returns-clause-back : goal.returns-clause-back
returns-clause-back c =
    let fits : FitsSigned w64 c.args.x = c.ranges.x in
    let x = c.args.x in
    let text = moment_text (unsigned_abs x) in
    let bytes = moment-bytes (unsigned_abs x) in
    along c.push.result _ _ (λ date. moment-back x text (time-utf8 text bytes) bytes refl (moment-again x c.requires date)) (simp to_z-of_z at c.push.ensures.date)
