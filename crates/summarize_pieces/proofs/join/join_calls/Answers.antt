use Rattle.std.proofs.Common.{rules}
use Rattle.summarize_pieces.proofs.JoinSteps.{calls-end, calls-few, calls-more, calls-start, calls-turn}
use Rattle.summarize_pieces.proofs.join.join_calls.Goals as goal

pub calls-init : goal.calls-init
calls-init c = calls-start c.args.first c.args.folds.items c.args.numbers.now c.args.more.items c.args.count c.args.further c.in_ok-made.made.items c.reverse.new.self c.reverse-2.new.self c.requires.folds c.requires.more c.in_ok-made.ensures.items (search rules) (search rules)

pub join_call-requires-clause-long : goal.join_call-requires-clause-long
join_call-requires-clause-long c = (calls-few c.args.first c.args.folds.items c.args.numbers.now c.args.more.items c.args.count c.args.further c.calls.made.items c.calls.left c.calls.right c.pop.new.self c.in-Some.a c.calls.invariant c.in-Some.ensures.last).0

pub join_call-requires-clause-folds : goal.join_call-requires-clause-folds
join_call-requires-clause-folds c = (calls-few c.args.first c.args.folds.items c.args.numbers.now c.args.more.items c.args.count c.args.further c.calls.made.items c.calls.left c.calls.right c.pop.new.self c.in-Some.a c.calls.invariant c.in-Some.ensures.last).1

pub join_call-requires-clause-more : goal.join_call-requires-clause-more
join_call-requires-clause-more c = calls-more c.args.first c.args.folds.items c.args.numbers.now c.args.more.items c.args.count c.args.further c.calls.made.items c.calls.left c.calls.right c.pop-b.new.self c.pop-b.result c.calls.invariant c.pop-b.ensures.last

pub calls-preserved : goal.calls-preserved
calls-preserved c = calls-turn c.args.first c.args.folds.items c.args.numbers.now c.args.more.items c.args.count c.args.further c.calls.made.items c.calls.left c.calls.right c.join_call.new.made.items c.pop.new.self c.pop-b.new.self c.in-Some.a c.pop-b.result c.calls.invariant c.in-Some.ensures.last c.pop-b.ensures.last c.in_ok-join_call.ensures.none c.in_ok-join_call.ensures.some

pub returns : goal.returns
returns c =
    record {
      joined = calls-end c.args.first c.args.folds.items c.args.numbers.now c.args.more.items c.args.count c.args.further c.calls.made.items c.calls.left c.calls.right c.calls.invariant c.in_default.ensures.last.0;
    }
