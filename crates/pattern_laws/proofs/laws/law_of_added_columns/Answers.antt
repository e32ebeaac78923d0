use Rattle.pattern_laws.proofs.AddedColumnLaws.{none_is_added, one_is_added}
use Rattle.pattern_laws.proofs.laws.law_of_added_columns.Goals as goal

pub returns : goal.returns
returns c = record { none = none_is_added; more = one_is_added }
