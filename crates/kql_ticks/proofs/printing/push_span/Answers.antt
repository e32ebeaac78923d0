use Rattle.kql_ticks.proofs.ByteLemmas.{span-bytes}
use Rattle.kql_ticks.proofs.SpanLemmas.{span_back}
use Rattle.kql_ticks.proofs.printing.push_span.Goals as goal

pub returns-in_err-reserve-clause-read_back : goal.returns-in_err-reserve-clause-read_back
returns-in_err-reserve-clause-read_back c = span_back c.args.x c.ranges.x

pub returns-in_err-reserve-clause-bytes : goal.returns-in_err-reserve-clause-bytes
returns-in_err-reserve-clause-bytes c = span-bytes c.args.x

pub returns-clause-read_back : goal.returns-clause-read_back
returns-clause-read_back c = span_back c.args.x c.ranges.x

pub returns-clause-bytes : goal.returns-clause-bytes
returns-clause-bytes c = span-bytes c.args.x
