use Rattle.live_run.proofs.RunLaws.{knows_opening, last_list, reads_on}
use Rattle.live_run.proofs.watch.look_last.Goals as goal

pub look-requires-clause-opened : goal.look-requires-clause-opened
look-requires-clause-opened g c =
    knows_opening (g.Q.Question.stands c.args.query.now g.B.Script.opening) c.args.watcher.reader c.learn.new.self c.in_ok-last_note.field-0 c.args.appender.now c.last_note.new.self
    (reads_on _ _ _ _ _ c.args.watcher c.in-Some.seen c.requires.watched c.in-Some.is).open_yet c.in_ok-last_note.ensures.closed c.in_ok-last_note.ensures.note c.learn.ensures.learnt c.requires.opened

pub returns-clause-list : goal.returns-clause-list
returns-clause-list g c =
    last_list (g.Q.Question.stands c.args.query.now g.B.Script.opening) (g.Q.Question.answer c.args.query.now) g.B.Script.opening g.B.Script.batches c.args.times c.args.watcher c.in-Some.seen c.push.new.self c.in_ok-sight.sight
    c.in_ok-last_note.field-0 c.args.appender.now c.last_note.new.self c.learn.new.self c.look.new.reader
    c.requires.watched c.in-Some.is c.requires.times c.requires.published c.in_ok-last_note.ensures.closed c.in_ok-last_note.ensures.note c.learn.ensures.learnt c.in_ok-sight.ensures.last
    c.in_ok-sight.ensures.batches c.in_ok-sight.ensures.least.0 c.in_ok-sight.ensures.sight c.in_ok-push.ensures.added
