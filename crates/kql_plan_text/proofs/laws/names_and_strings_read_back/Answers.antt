use Rattle.kql_plan_text.proofs.ReadBack.{names_read_back, strings_read_back}
use Rattle.kql_plan_text.proofs.laws.names_and_strings_read_back.Goals as goal

pub returns : goal.returns
returns c = record { strings = strings_read_back; names = names_read_back }
