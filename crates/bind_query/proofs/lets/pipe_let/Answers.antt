use Rattle.bind_query.proofs.LetSteps.{pipe-table}
use Rattle.bind_query.proofs.lets.pipe_let.Goals as goal

pub returns-in-None : goal.returns-in-None
returns-in-None c = record {
  exact = pipe-table c.args.statement c.args.n.now c.args.done c.args.p.now c.bind_pipe-bound.result c.table_let.result
      c.in-None.ensures.name c.bind_pipe-bound.ensures.exact c.table_let.ensures.exact;
}
