use Rattle.kql_parser.proofs.TreeLaws.{one_query, one_parsed}
use Rattle.kql_parser.proofs.laws.queries_are_one.Goals as goal

pub returns : goal.returns
returns c = record { query = one_query; parsed = one_parsed }
