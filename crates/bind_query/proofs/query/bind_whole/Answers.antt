use Rattle.std.proofs.Common.{subst}
use Rattle.bind_expr.specs.Outcome.{Answers}
use Rattle.bind_query.specs.Bound.{lets_bound, program_of}
use Rattle.bind_query.proofs.BindSteps.{bound-whole}
use Rattle.bind_query.proofs.query.bind_whole.Goals as goal

pub returns-in-Ok-bind_pipe : goal.returns-in-Ok-bind_pipe
returns-in-Ok-bind_pipe c = record {
  exact = bound-whole c.args.q.now c.args.schemas c.args.moment c.known_at_first-known.result c.bind_lets.result c.in-Ok.done c.bind_pipe.result c.in-Ok-bind_pipe.main c.or_lost.result
      c.known_at_first-known.ensures.known c.in-Ok.is
      (subst (λ ls. Answers c.bind_lets.result (lets_bound ls c.known_at_first-known.result)) c.as_slice.ensures.items c.bind_lets.ensures.exact)
      c.in-Ok-bind_pipe.is c.bind_pipe.ensures.exact
      (c.or_lost.ensures.made (program_of c.in-Ok.done.known.tables c.in-Ok.done c.in-Ok-bind_pipe.main) c.program_of.ensures.program);
}
