use Rattle.kql_parser_laws.proofs.CountedLaws.{names_are_operators, parsed_count, refused_place}
use Rattle.kql_parser_laws.proofs.laws.counted_operators_are_those_of_the_tree.Goals as goal

pub returns : goal.returns
returns c = record { named = names_are_operators; parsed = parsed_count; refused = refused_place }
