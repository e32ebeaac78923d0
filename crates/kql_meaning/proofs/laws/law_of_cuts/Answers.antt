use Rattle.kql_meaning.proofs.CutLaws.{least_cut_is_least, no_cut_where_none, pieces_are_the_text}
use Rattle.kql_meaning.proofs.laws.law_of_cuts.Goals as goal

pub returns : goal.returns
returns c = record { least = least_cut_is_least; none = no_cut_where_none; pieces = pieces_are_the_text }
