use Rattle.std.specs.Bool.{one_answer}
use Rattle.kql_cells.specs.Same.{same, same-decides}
use Rattle.kql_dynamic.proofs.hashed.same.Goals as goal

pub returns : goal.returns
returns c =
    one_answer c.same_dyn.result (same c.args.a.now c.args.b.now) (c.same_dyn.ensures.same.0, c.same_dyn.ensures.same.1) (same-decides c.args.a.now c.args.b.now)
