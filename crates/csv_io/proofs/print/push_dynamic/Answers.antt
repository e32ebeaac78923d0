use Rattle.csv_io.proofs.CellBack.{always, dynamic-back}
use Rattle.csv_io.proofs.print.push_dynamic.Goals as goal

pub returns-clause-back : goal.returns-clause-back
returns-clause-back c =
    let text = c.in_ok-text.ensures in
    always c.push_field.result _ (dynamic-back c.args.d.now c.in_ok-text.text (rw c.as_str.ensures.same at c.as_str.utf8) text.text text.reads_back text.not_empty c.requires.0)
