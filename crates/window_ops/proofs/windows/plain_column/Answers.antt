use Rattle.window_ops.proofs.FitSteps.{fitting_scalar}
use Rattle.window_ops.proofs.windows.plain_column.Goals as goal

pub new-requires : goal.new-requires
new-requires c = fitting_scalar c.args.t.now.columns c.args.e.now c.requires.fits
