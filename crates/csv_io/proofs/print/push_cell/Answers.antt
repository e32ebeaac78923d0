use Rattle.std.proofs.Common.{◌≡◌, false, refl, rules, true}
use Rattle.csv_io.proofs.CellBack.{always, false-back, null-back, text-back, true-back}
use Rattle.csv_io.proofs.print.push_cell.Goals as goal

pub returns-in-Null-clause-back : goal.returns-in-Null-clause-back
returns-in-Null-clause-back c = rw c.in-Null.is (always c.push_field.result _ null-back)

pub returns-in-Bool-true-clause-back : goal.returns-in-Bool-true-clause-back
returns-in-Bool-true-clause-back c =
    let same : c.in-Bool-true.field-0 ≡ true = search rules in
    rw (c.in-Bool-true.is, same) (always c.push_field-in-Bool-true.result _ (true-back _ c.push_field-in-Bool-true.ensures.utf8 refl))

pub returns-in-Bool-false-clause-back : goal.returns-in-Bool-false-clause-back
returns-in-Bool-false-clause-back c =
    let same : c.in-Bool-false.field-0 ≡ false = search rules in
    rw (c.in-Bool-false.is, same) (always c.push_field-in-Bool-false.result _ (false-back _ c.push_field-in-Bool-false.ensures.utf8 refl))

pub returns-in-Text-clause-back : goal.returns-in-Text-clause-back
returns-in-Text-clause-back c = rw c.in-Text.is (always c.push_field-in-Text.result _ (text-back _ c.push_field-in-Text.ensures.utf8))
