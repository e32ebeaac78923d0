use Rattle.kql_meaning.proofs.SmallLaws.{partition_of_no_rows, partition_of_one_key, partition_rows_of_one_key}
use Rattle.kql_meaning.proofs.laws.law_of_partition.Goals as goal

pub returns : goal.returns
returns c = record { rows = partition_rows_of_one_key; one = partition_of_one_key; none = partition_of_no_rows }
