use Rattle.json_losses.proofs.LossFacts.{other-losses, text-losses}
use Rattle.json_losses.proofs.rows.field_losses.Goals as goal

pub returns-in-Ok : goal.returns-in-Ok
returns-in-Ok c =
    let q = c.in-Ok.ensures.cases in
    rw (text-losses c.args.field.now q.1) record { count = rw q.0 at c.read_losses.ensures.count }

pub returns-in-Err : goal.returns-in-Err
returns-in-Err c = record { count = other-losses c.args.field.now c.in-Err.ensures.cases.0 }
