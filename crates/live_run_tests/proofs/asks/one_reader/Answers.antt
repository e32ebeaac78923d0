use Rattle.live_run_tests.proofs.AskLaws.{has_opening}
use Rattle.live_run_tests.proofs.asks.one_reader.Goals as goal

pub returns-clause-opened : goal.returns-clause-opened
returns-clause-opened g c = has_opening _ _ 1 c.args.first c.in-Some.reader c.in_ok-appender.ensures.readers c.in-Some.ensures.items
