use Rattle.live_run_tests.proofs.AskLaws.{none_fit}
use Rattle.live_run_tests.proofs.tally.BareQuestionTally.ask_value.Goals as goal

pub from_columns-requires-clause-fits : goal.from_columns-requires-clause-fits
from_columns-requires-clause-fits c = none_fit c.args.value.rows c.new-schema.result c.new.result.items c.new-schema.ensures.empty c.new.ensures.items
