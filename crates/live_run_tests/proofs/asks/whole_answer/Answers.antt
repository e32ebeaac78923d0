use Rattle.live_run_tests.proofs.AskLaws.{ask_table, still_open}
use Rattle.live_run_tests.proofs.asks.whole_answer.Goals as goal

pub query_live-requires : goal.query_live-requires
query_live-requires c = record { takes = ask_table c.args.reader.now.opening c.requires.opened }

pub returns : goal.returns
returns c = record { opened = still_open c.args.reader.now.opening c.query_live.new.reader.opening c.query_live.ensures.same.0 c.requires.opened }
