use Rattle.std.proofs.Common.{refl}
use Rattle.phase_windows.proofs.ProjectSteps.{front-start}
use Rattle.phase_windows.proofs.items.columns_in_front.Goals as goal

pub items-init : goal.items-init
items-init c = record { count = refl; calls = front-start c.args.items.now }
