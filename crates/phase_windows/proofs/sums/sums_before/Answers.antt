use Rattle.std.proofs.Common.{◌∙◌, length, refl}
use Rattle.phase_windows.proofs.SumSteps.{walk-before, walk-begins, walk-next, walk-pushed, walk-sums}
use Rattle.phase_windows.proofs.sums.sums_before.Goals as goal

pub with_piece-requires-clause-begins : goal.with_piece-requires-clause-begins
with_piece-requires-clause-begins c =
    walk-begins c.args.items.now c.args.table.now c.args.cut.rows c.args.cut.pieces c.pieces.piece (length c.args.sums.now) c.args.sums.now c.requires.sums refl c.pieces-test.true c.requires.each

pub with_piece-requires-clause-before : goal.with_piece-requires-clause-before
with_piece-requires-clause-before c =
    let begins = walk-begins c.args.items.now c.args.table.now c.args.cut.rows c.args.cut.pieces c.pieces.piece (length c.args.sums.now) c.args.sums.now c.requires.sums refl c.pieces-test.true c.requires.each in
    c.as_slice.ensures.items ∙ walk-before c.args.items.now c.args.table.now c.args.cut.rows c.pieces.piece c.pieces.so_far begins c.pieces.invariant.so_far

pub with_piece-requires-clause-sums : goal.with_piece-requires-clause-sums
with_piece-requires-clause-sums c =
    c.as_slice-sum.ensures.items ∙ walk-sums c.args.items.now c.args.table.now c.args.cut.rows c.args.cut.pieces c.pieces.piece (length c.args.sums.now) c.args.sums.now c.index-sums-piece.result c.requires.sums refl c.pieces-test.true c.index-sums-piece.is

pub pieces-preserved : goal.pieces-preserved
pieces-preserved c =
    let begins = walk-begins c.args.items.now c.args.table.now c.args.cut.rows c.args.cut.pieces c.pieces.piece (length c.args.sums.now) c.args.sums.now c.requires.sums refl c.pieces-test.true c.requires.each in
    record {
      before = walk-pushed c.args.items.now c.args.table.now c.args.cut.rows c.pieces.piece c.pieces.before c.push.new.self c.pieces.so_far c.pieces.invariant.before (walk-before c.args.items.now c.args.table.now c.args.cut.rows c.pieces.piece c.pieces.so_far begins c.pieces.invariant.so_far) c.in_ok-push.ensures.added;
      so_far = walk-next c.args.items.now c.args.table.now c.args.cut.rows c.pieces.piece c.in_ok-next.next c.in_ok-next.ensures.joined;
    }
