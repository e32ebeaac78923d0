use Rattle.std.proofs.Common.{Some, ap, arith, length, ◌∙◌}
use Rattle.std.proofs.lemmas.List.Elements.{All-pop}
use Rattle.live_run.specs.Runs.{HasWatched}
use Rattle.live_run.proofs.RunLaws.{first_list, one_list, one_more, opened_still}
use Rattle.live_run.proofs.run.gather.Goals as goal

pub watchers-init : goal.watchers-init
watchers-init g c =
    let each = All-pop (HasWatched (g.Q.Question.stands c.args.query.now g.B.Script.opening) (g.Q.Question.answer c.args.query.now) g.B.Script.opening g.B.Script.batches c.args.times) c.args.watchers.items c.pop.new.self.items (Some c.in-Some.first) c.in-Some.ensures.items c.requires.watched in
    let size = one_more c.new-seen.result c.push.new.self c.in_ok-list.list c.in_ok-push.ensures.added in
    let none = ap length c.new-seen.ensures.empty in
    record {
      watched = each.0;
      opened = opened_still (g.Q.Question.stands c.args.query.now g.B.Script.opening) _ _ c.in_ok-list.ensures.opened c.requires.opened;
      published = c.in_ok-list.ensures.published ∙ c.requires.published;
      seen = first_list (g.Q.Question.answer c.args.query.now) g.B.Script.opening g.B.Script.batches c.new-seen.result c.push.new.self c.in_ok-list.list c.new-seen.ensures.empty c.in_ok-push.ensures.added c.in_ok-list.ensures.list;
      count = omega (arith, size, none, c.in-Some.ensures.len);
    }

pub look_last-requires-in-Some-pop-clause-watched : goal.look_last-requires-in-Some-pop-clause-watched
look_last-requires-in-Some-pop-clause-watched g c =
    (All-pop (HasWatched (g.Q.Question.stands c.args.query.now g.B.Script.opening) (g.Q.Question.answer c.args.query.now) g.B.Script.opening g.B.Script.batches c.args.times) c.watchers.watchers.items c.pop-in-watchers.new.self.items (Some c.in-Some-pop.watcher) c.in-Some-pop.ensures.items c.watchers.invariant.watched).1

pub watchers-preserved : goal.watchers-preserved
watchers-preserved g c =
    let each = All-pop (HasWatched (g.Q.Question.stands c.args.query.now g.B.Script.opening) (g.Q.Question.answer c.args.query.now) g.B.Script.opening g.B.Script.batches c.args.times) c.watchers.watchers.items c.pop-in-watchers.new.self.items (Some c.in-Some-pop.watcher) c.in-Some-pop.ensures.items c.watchers.invariant.watched in
    let size = one_more c.watchers.seen c.push-in-Some-pop.new.self c.in_ok-list-2.list c.in_ok-push-2.ensures.added in
    record {
      watched = each.0;
      opened = opened_still (g.Q.Question.stands c.args.query.now g.B.Script.opening) _ _ c.in_ok-list-2.ensures.opened c.watchers.invariant.opened;
      published = c.in_ok-list-2.ensures.published ∙ c.watchers.invariant.published;
      seen = one_list (g.Q.Question.answer c.args.query.now) g.B.Script.opening g.B.Script.batches c.watchers.seen c.push-in-Some-pop.new.self c.in_ok-list-2.list c.in_ok-push-2.ensures.added c.watchers.invariant.seen c.in_ok-list-2.ensures.list;
      count = omega (arith, size, c.in-Some-pop.ensures.len, c.watchers.invariant.count);
    }
