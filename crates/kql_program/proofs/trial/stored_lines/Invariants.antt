use Rattle.kql_program.specs.Workers.{AreReports}
use Rattle.kql_program.proofs.TrialFacts.{LeadsTo}
use Rattle.kql_program.proofs.trial.stored_lines.Given as goal

abbrev pub invariant-loop-k : goal.invariant-loop-k
invariant-loop-k g l = record {
  lines : LeadsTo l.catalogue l.k l.text.items;
  reports : AreReports l.crew.workers l.k l.reports;
}
