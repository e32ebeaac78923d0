use Rattle.live_run.proofs.RunLaws.{each_answered, table_asked}
use Rattle.live_run.proofs.query.query_live.Goals as goal

pub query_value-requires : goal.query_value-requires
query_value-requires g c = record { asked = table_asked (g.Q.Query.takes c.args.query.now) g.K.Promise.promised c.args.reader.now.opening c.requires.takes }

pub returns-clause-answer : goal.returns-clause-answer
returns-clause-answer g c =
    each_answered (g.Q.Query.takes c.args.query.now) (g.Q.Query.answer c.args.query.now) c.args.reader.now.opening c.query_value.new.reader.opening c.query_value.new.reader.batches c.query_value.result
    c.requires.takes c.query_value.ensures.same.0 c.query_value.ensures.answer
