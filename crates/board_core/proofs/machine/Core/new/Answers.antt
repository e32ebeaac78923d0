use Rattle.std.proofs.Common.{rules}
use Rattle.board_core.proofs.Stored.{stored_first}
use Rattle.board_core.proofs.machine.Core.new.Goals as goal

pub invariant_of-result : goal.invariant_of-result
invariant_of-result c =
    stored_first _ c.args.pieces c.args.workers (search rules) c.in_ok-empty_lists.ensures.room (search rules)
