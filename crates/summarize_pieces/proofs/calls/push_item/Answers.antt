use Rattle.summarize_pieces.proofs.FirstSteps.{item-firsts}
use Rattle.summarize_pieces.proofs.calls.push_item.Goals as goal

pub returns-in_ok-push_firsts-in-Some : goal.returns-in_ok-push_firsts-in-Some
returns-in_ok-push_firsts-in-Some c = record {
  calls = item-firsts c.args.e.now c.in-Some.columns.now c.args.calls.now.items c.push_firsts.new.calls.items c.in-Some.ensures.some c.in_ok-push_firsts-in-Some.ensures.calls;
}
