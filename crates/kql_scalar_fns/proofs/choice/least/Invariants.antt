use Rattle.std.proofs.Common.{◌≡◌, length, map}
use Rattle.std.specs.Prelude.{fold}
use Rattle.kql_cells.specs.Seen.{seen}
use Rattle.kql_cells.specs.declared.value.Value.TheVariants as value
use Rattle.kql_scalar_fns.specs.Choice.{lesser}
use Rattle.kql_scalar_fns.proofs.choice.least.Given as goal

abbrev pub invariant-values : goal.invariant-values
invariant-values l = fold lesser (seen l.best) (map seen l.left) ≡ fold lesser value.Null (map seen l.fn.args)

abbrev pub decreases-values : goal.decreases-values
decreases-values l = length l.left
