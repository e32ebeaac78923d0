use Rattle.live_query.proofs.KeptFacts.{kept-answers}
use Rattle.live_query.proofs.view.kept_answer.Goals as goal

pub returns : goal.returns
returns c = record { answer = λ t h. kept-answers c.args.query.now t c.args.view.now c.table.result h c.fed.ensures.stored c.table.ensures.table }
