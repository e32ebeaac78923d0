use Rattle.kql_fits.proofs.LiteralFacts.{form-told}
use Rattle.kql_fits.proofs.literals.is_well_formed.Goals as goal

pub returns : goal.returns
returns c = record { form = form-told c.is_well_formed.result c.args.value.now c.is_well_formed.ensures.form }
