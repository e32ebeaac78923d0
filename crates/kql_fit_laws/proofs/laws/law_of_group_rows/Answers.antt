use Rattle.kql_fit_laws.proofs.GroupRows.{summarize_keeps}
use Rattle.kql_fit_laws.proofs.laws.law_of_group_rows.Goals as goal

pub returns : goal.returns
returns c = record { summarize = summarize_keeps }
