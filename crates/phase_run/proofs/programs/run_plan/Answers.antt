use Rattle.std.proofs.Common.{◌∙◌, ℕ, [], ap, subst, sym}
use Rattle.std.specs.Prelude.{All}
use Rattle.kql_cells.specs.Catalogues.{Named}
use Rattle.kql_fit_laws.specs.LawsOfRows.{IsTable}
use Rattle.kql_plain.specs.AtHand.{FitBehind, means_behind}
use Rattle.kql_plain.proofs.ProgramLaws.{program-fits, program-means}
use Rattle.phase_run.specs.Reports.{AreToldBy, shape_of}
use Rattle.phase_run.proofs.ToldSteps.{all-phases}
use Rattle.phase_run.proofs.programs.run_plan.Goals as goal

pub table_behind-requires : goal.table_behind-requires
table_behind-requires g c =
    let tables = subst (λ ns. All (λ (n : Named). IsTable n.table) ns) c.tables.ensures.tables c.know_tables.ensures.tables in
    (c.type_bounds.sync-R, (c.type_bounds.sync-G, subst (λ ps. FitBehind ps c.args.p.now.main c.args.catalogue.now []) (sym c.as_slice.ensures.items) (program-fits c.args.p.now c.args.catalogue.now tables c.requires.fits)))

pub returns : goal.returns
returns g c =
    let workers = c.in_ok-table.ensures.told.workers ∙ c.new-phases.ensures.workers in record {
      table = c.in_ok-table.ensures.table ∙ (ap (λ ps. means_behind ps c.args.p.now.main c.args.catalogue.now []) c.as_slice.ensures.items ∙ program-means c.args.p.now c.args.catalogue.now);
      report = subst (λ (n : ℕ). AreToldBy n c.into_report-report.result) workers c.into_report-report.ensures.told;
      phases = ap shape_of c.into_report-report.ensures.report ∙ all-phases c.args.p.now _ _ c.as_slice.result.now c.args.workers c.as_slice.ensures.items c.new-phases.ensures.none c.new-phases.ensures.workers c.in_ok-table.ensures.told;
    }
