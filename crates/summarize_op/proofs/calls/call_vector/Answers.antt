use Rattle.std.proofs.Common.{subst}
use Rattle.kql_cells.specs.Named.{HasDistinctNames, column_name}
use Rattle.summarize_op.proofs.CallSteps.{call-formed}
use Rattle.summarize_op.proofs.calls.call_vector.Goals as goal

pub returns-then-is_first-clause-form : goal.returns-then-is_first-clause-form
returns-then-is_first-clause-form c =
    let names = subst (HasDistinctNames column_name) c.schema.ensures.columns c.columns-columns.ensures.distinct in
    call-formed c.args.f c.args.args.now c.args.t.now c.args.numbers.now c.args.count c.in_ok-first.first (names, c.schema.ensures.fits) c.requires.call c.requires.numbers c.in_ok-first.ensures.values

pub returns-clause-form : goal.returns-clause-form
returns-clause-form c =
    let names = subst (HasDistinctNames column_name) c.schema.ensures.columns c.columns-columns.ensures.distinct in
    call-formed c.args.f c.args.args.now c.args.t.now c.args.numbers.now c.args.count c.in_ok-folded.folded (names, c.schema.ensures.fits) c.requires.call c.requires.numbers c.in_ok-folded.ensures.values
