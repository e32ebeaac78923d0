use Rattle.std.proofs.Common.{◌∙◌, [], ap, subst, sym}
use Rattle.std.specs.Prelude.{All}
use Rattle.kql_cells.specs.Catalogues.{Named}
use Rattle.kql_fit_laws.specs.LawsOfRows.{IsTable}
use Rattle.kql_plain.specs.AtHand.{FitBehind, means_behind}
use Rattle.kql_plain.proofs.ProgramLaws.{program-fits, program-means}
use Rattle.kql_plain.proofs.programs.plain.Goals as goal

pub table_behind-requires : goal.table_behind-requires
table_behind-requires c =
    let tables = subst (λ ns. All (λ (n : Named). IsTable n.table) ns) c.tables.ensures.tables c.know_tables.ensures.tables in
    record { fits = subst (λ ps. FitBehind ps c.args.p.now.main c.args.catalogue.now []) (sym c.as_slice.ensures.items) (program-fits c.args.p.now c.args.catalogue.now tables c.requires.fits) }

pub returns : goal.returns
returns c = record {
  table = c.in_ok-table.ensures.table ∙ (ap (λ ps. means_behind ps c.args.p.now.main c.args.catalogue.now []) c.as_slice.ensures.items ∙ program-means c.args.p.now c.args.catalogue.now);
}
