use Rattle.std.proofs.Common.{ap, ◌∙◌, ◌++◌, Some, length, arith}
use Rattle.std.specs.Option.{option_to_list}
use Rattle.std.proofs.lemmas.List.Elements.{All-pop}
use Rattle.worker_board.specs.Results.{LeavesAlone}
use Rattle.worker_board.proofs.joined.gather.Goals as goal

pub loop-next-init : goal.loop-next-init
loop-next-init g c =
    let each = All-pop (LeavesAlone (g.W.Work.answer c.args.work.now) c.args.board.now) _ _ (Some c.unwrap-all.result) (c.pop.ensures.items ∙ ap (λ r. c.pop.new.self.items ++ option_to_list r) c.unwrap-all.ensures) c.requires.each in
    let one = ap (λ r. length (option_to_list r)) c.unwrap-all.ensures in
    record { left = each.1.0; numbers = omega (arith, each.1.1, c.pop.ensures.len, one); others = each.0 }

pub take_in-requires-clause-next : goal.take_in-requires-clause-next
take_in-requires-clause-next g c =
    (All-pop (LeavesAlone (g.W.Work.answer c.args.work.now) c.args.board.now) _ _ (Some c.in-Some.next) c.in-Some.ensures.items c.loop-next.invariant.others).1.0

pub loop-next-preserved : goal.loop-next-preserved
loop-next-preserved g c =
    let each = All-pop (LeavesAlone (g.W.Work.answer c.args.work.now) c.args.board.now) _ _ (Some c.in-Some.next) c.in-Some.ensures.items c.loop-next.invariant.others in
    record {
      left = c.in_ok-take_in.ensures.left;
      numbers = omega (arith, each.1.1, c.in-Some.ensures.len, c.in_ok-take_in.ensures.numbers, c.loop-next.invariant.numbers);
      others = each.0;
    }
