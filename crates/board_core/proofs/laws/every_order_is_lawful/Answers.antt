use Rattle.board_core.proofs.Lawful.{lawful, kept_run, kept_first}
use Rattle.board_core.proofs.laws.every_order_is_lawful.Goals as goal

pub returns : goal.returns
returns c =
    record {
      lawful = λ pieces workers events. lawful pieces workers _ (kept_run pieces workers events _ (kept_first pieces workers));
    }
