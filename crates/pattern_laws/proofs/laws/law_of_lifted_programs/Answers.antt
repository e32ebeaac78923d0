use Rattle.pattern_laws.proofs.FittedPrograms.{lifted_fits, lifted_fits_tables}
use Rattle.pattern_laws.proofs.laws.law_of_lifted_programs.Goals as goal

pub returns : goal.returns
returns c = record { fits = lifted_fits; tables = lifted_fits_tables }
