use Rattle.std.proofs.Common.{◌≡◌, length, map}
use Rattle.std.specs.Prelude.{fold}
use Rattle.kql_cells.specs.Seen.{seen}
use Rattle.kql_cells.specs.declared.value.Value.TheVariants as value
use Rattle.kql_scalar_fns.specs.Choice.{greater}
use Rattle.kql_scalar_fns.proofs.choice.greatest.Given as goal

abbrev pub invariant-values : goal.invariant-values
invariant-values l = fold greater (seen l.best) (map seen l.left) ≡ fold greater value.Null (map seen l.fn.args)

abbrev pub decreases-values : goal.decreases-values
decreases-values l = length l.left
