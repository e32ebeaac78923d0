use Rattle.kql_fits.proofs.LiteralFacts.{kind-told}
use Rattle.kql_fits.proofs.literals.is_of_kind.Goals as goal

pub returns : goal.returns
returns c = record { is = kind-told c.is_of_kind.result c.args.kind c.args.value.now c.is_of_kind.ensures.fits }
