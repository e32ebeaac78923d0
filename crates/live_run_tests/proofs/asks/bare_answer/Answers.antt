use Rattle.std.specs.Prelude.{◌+◌, length}
use Rattle.live_run_tests.proofs.AskLaws.{ask_tally, still_open}
use Rattle.live_run_tests.proofs.asks.bare_answer.Goals as goal

pub query_value-requires : goal.query_value-requires
query_value-requires c = record { asked = ask_tally (λ tally batch. record { rows = tally.rows + length batch.lines }) c.args.reader.now.opening c.requires.opened }

pub returns : goal.returns
returns c = record { opened = still_open c.args.reader.now.opening c.query_value.new.reader.opening c.query_value.ensures.same.0 c.requires.opened }
