use Rattle.std.proofs.Common.{◌≡◌, rules, arith}
use Rattle.std.specs.Prelude.{codes}
use Rattle.std.proofs.lemmas.Slice.Eq.{text_from_reads}
use Rattle.kql_ticks.specs.Forms.{unit_in}
use Rattle.kql_ticks.proofs.spans.read_unit.Goals as goal

pub returns-in-microsecond-clause-value : goal.returns-in-microsecond-clause-value
unfolding unit_in
returns-in-microsecond-clause-value c =
    let e : c.args.t.now ≡ codes "microsecond" = text_from_reads c.args.t.now (codes "microsecond") (omega arith) (search rules) in
    rw e
