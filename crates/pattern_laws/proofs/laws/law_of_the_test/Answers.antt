use Rattle.pattern_laws.proofs.TestedLaws.{tested_fits, tested_is_liftable}
use Rattle.pattern_laws.proofs.laws.law_of_the_test.Goals as goal

pub returns : goal.returns
returns c = record { liftable = tested_is_liftable; fits = tested_fits }
