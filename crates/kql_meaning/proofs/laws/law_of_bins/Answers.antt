use Rattle.kql_meaning.proofs.NumberLaws.{falls_between, inside_in_one_bin}
use Rattle.kql_meaning.proofs.laws.law_of_bins.Goals as goal

pub returns : goal.returns
returns c = record { between = falls_between; one = inside_in_one_bin }
