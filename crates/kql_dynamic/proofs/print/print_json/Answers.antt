use Rattle.kql_dynamic.proofs.ReadBack.{printed-back, printed-some}
use Rattle.kql_dynamic.proofs.print.print_json.Goals as goal

pub returns-clause-reads_back : goal.returns-clause-reads_back
returns-clause-reads_back c = rw c.from_string.ensures.same (printed-back c.in_ok-json.json c.args.d.now _ c.requires c.in_ok-json.ensures.back c.in_ok-to_string.ensures.reads_back)

pub returns-clause-not_empty : goal.returns-clause-not_empty
returns-clause-not_empty c = rw c.from_string.ensures.same (printed-some c.in_ok-json.json c.args.d.now _ c.requires c.in_ok-json.ensures.back c.in_ok-to_string.ensures.reads_back)
