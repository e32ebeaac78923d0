use Rattle.live_run.proofs.RunLaws.{answered, may_ask, sight_of, starts_so}
use Rattle.live_run.proofs.watch.look.Goals as goal

pub query_value-requires : goal.query_value-requires
query_value-requires g c = record {
  asked =
      may_ask g.V.Grows.grown (g.Q.Question.stands c.args.query.now) (g.Q.Question.follows c.args.query.now) (g.met.Q.Question.grows c.args.query.now) (g.met.Q.Question.follows_on c.args.query.now)
      g.B.Script.opening c.args.reader.now.opening g.B.Script.batches c.requires.opened c.requires.follows;
}

pub returns-clause-table : goal.returns-clause-table
returns-clause-table g c =
    answered g.V.Grows.grown (g.Q.Question.stands c.args.query.now) (g.Q.Question.follows c.args.query.now) (g.met.Q.Question.grows c.args.query.now) (g.met.Q.Question.follows_on c.args.query.now)
    (g.Q.Question.answer c.args.query.now) g.B.Script.opening c.args.reader.now.opening c.query_value.new.reader.opening g.B.Script.batches c.query_value.new.reader.batches _
    c.requires.opened c.in_ok-batches.ensures.same.0 c.requires.follows c.in_ok-batches.ensures.promise c.in_ok-batches.ensures.answer

pub returns-clause-sight : goal.returns-clause-sight
returns-clause-sight g c =
    let starts = starts_so (g.Q.Question.stands c.args.query.now g.B.Script.opening) c.args.reader.now.opening c.query_value.new.reader.opening g.B.Script.batches c.query_value.new.reader.batches c.requires.opened c.in_ok-batches.ensures.same.0 c.in_ok-batches.ensures.promise in
    sight_of (g.Q.Question.answer c.args.query.now) g.B.Script.opening g.B.Script.batches c.query_value.new.reader.batches _ _ _ starts c.in_ok-batches.ensures.batches (returns-clause-table g c) c.len-rows.ensures.count
