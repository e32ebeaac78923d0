use Rattle.kql_meaning.proofs.TableLaws.{union_has_all_rows, union_has_each_column, union_has_no_other, union_names_differ}
use Rattle.kql_meaning.proofs.laws.law_of_union.Goals as goal

pub returns : goal.returns
returns c = record { differ = union_names_differ; each = union_has_each_column; only = union_has_no_other; rows = union_has_all_rows }
