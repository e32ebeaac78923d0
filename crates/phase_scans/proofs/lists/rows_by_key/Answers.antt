use Rattle.phase_scans.proofs.KeySteps.{few-named}
use Rattle.phase_scans.proofs.lists.rows_by_key.Goals as goal

pub returns-clause-few : goal.returns-clause-few
returns-clause-few c =
    few-named c.args.key.now c.args.t.now c.schema.result.now c.in-Some.place c.in_ok-lists-in-Some.lists c.len-count.result c.in-Some.ensures.place c.schema.ensures.columns c.in_ok-lists-in-Some.ensures.named c.len-count.ensures.count c.len-count.ensures.small
