use Rattle.std.proofs.Common.{◌≤◌, ◌<◌, arith, refl, rules}
use Rattle.std.proofs.lemmas.Grind.{common_steps}
use Rattle.std.specs.Prelude.{string_bytes}
use Rattle.kql_program.proofs.TrialFacts.{leads-end, leads-first, leads-next, lines-raised}
use Rattle.kql_program.proofs.WordFacts.{raised-words, stopped-words}
use Rattle.kql_program.proofs.WorkerFacts.{all-reports, next-report, no-reports}
use Rattle.kql_program.proofs.trial.stored_lines.Goals as goal

pub loop-k-init : goal.loop-k-init
loop-k-init g c = record { lines = leads-first c.args.catalogue.now 0 c.new-text.result.items refl (search rules); reports = no-reports c.args.crew.workers _ c.requires.none }

pub returns-in_err-line-clause-lines : goal.returns-in_err-line-clause-lines
returns-in_err-line-clause-lines g c =
    let few : c.loop-k.k < 5 = grind (arith, common_steps) in
    lines-raised c.args.catalogue.now c.loop-k.k c.loop-k.text.items _ _ few c.loop-k.invariant.lines c.in_err-line.ensures.line c.from_residual.ensures.1

pub loop-k-preserved : goal.loop-k-preserved
loop-k-preserved g c =
    let few : c.loop-k.k < 5 = grind (arith, common_steps) in
    record { lines = leads-next c.args.catalogue.now c.loop-k.k c.loop-k.text.items (string_bytes c.in_ok-line.line) _ few c.loop-k.invariant.lines c.in_ok-line.ensures.line (search rules); reports = next-report c.args.crew.workers c.loop-k.k _ _ c.loop-k.invariant.reports c.in_ok-line.ensures.reports }

pub returns-clause-lines : goal.returns-clause-lines
returns-clause-lines g c =
    let over : 5 ≤ c.loop-k.k = grind (arith, common_steps) in
    leads-end c.args.catalogue.now c.loop-k.k c.loop-k.text.items c.from_vec.result over c.loop-k.invariant.lines c.from_vec.ensures.items

pub returns-in_err-line-clause-words : goal.returns-in_err-line-clause-words
returns-in_err-line-clause-words g c = raised-words _ _ c.from_residual.ensures.1 (stopped-words _ c.in_err-line.ensures.words)

pub returns-clause-reports : goal.returns-clause-reports
returns-clause-reports g c =
    let over : 5 ≤ c.loop-k.k = grind (arith, common_steps) in
    let within : c.loop-k.k ≤ 5 = grind (arith, common_steps) in
    all-reports c.args.crew.workers c.loop-k.k _ over within c.loop-k.invariant.reports
