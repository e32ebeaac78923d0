use Rattle.catalogue_file.proofs.CatalogueFacts.{raised}
use Rattle.catalogue_file.proofs.catalogue.read_catalogue.Goals as goal

pub returns-in_err-tables-clause-fault : goal.returns-in_err-tables-clause-fault
returns-in_err-tables-clause-fault c = raised _ _ _ c.from_residual.ensures.1 c.in_err-tables.ensures
