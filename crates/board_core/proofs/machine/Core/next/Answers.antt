use Rattle.std.proofs.Common.{subst}
use Rattle.board_core.specs.Laws.{IsLawful}
use Rattle.board_core.proofs.Lawful.{lawful_reached}
use Rattle.board_core.proofs.machine.Core.next.Goals as goal

pub returns-clause-lawful : goal.returns-clause-lawful
returns-clause-lawful c = subst IsLawful c.self.view_is (lawful_reached _ c.self.invariant.reached)
