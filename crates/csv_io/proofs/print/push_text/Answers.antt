use Rattle.csv_io.proofs.CellBack.{always, text-back}
use Rattle.csv_io.proofs.print.push_text.Goals as goal

pub returns-clause-back : goal.returns-clause-back
returns-clause-back c = always c.push_field.result _ (text-back _ c.push_field.ensures.utf8)
