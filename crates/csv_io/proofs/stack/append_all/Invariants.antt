use Rattle.std.proofs.Common.{◌≡◌, length, reverse}
use Rattle.csv_io.specs.Stacks.{cells_in}
use Rattle.csv_io.proofs.stack.append_all.Given as goal

abbrev pub invariant-parts : goal.invariant-parts
invariant-parts l = cells_in l.first (reverse l.more) ≡ cells_in l.fn.first l.fn.more

abbrev pub decreases-parts : goal.decreases-parts
decreases-parts l = length l.more
