use Rattle.std.proofs.Common.{◌∙◌, arith, sym}
use Rattle.live_tables.proofs.ColumnLaws.{differ_nowhere}
use Rattle.kql_live.proofs.LiveFileFacts.{difference-within}
use Rattle.kql_live.proofs.files.alike.Goals as goal

pub column_at-requires : goal.column_at-requires
column_at-requires c =
    let place = difference-within 0 c.columns-columns.result.now c.columns.result.now c.in-Some.place (sym c.first_difference.ensures.place ∙ c.in-Some.is) in
    record { within = omega (arith, place) }

pub returns-in-None-clause-columns : goal.returns-in-None-clause-columns
returns-in-None-clause-columns c =
    let here = c.columns-columns.ensures.columns ∙ c.schema.ensures.columns in
    let there = c.columns.ensures.columns ∙ c.schema-2.ensures.columns in
    sym here ∙ ((differ_nowhere _ _).0 (sym c.first_difference.ensures.place ∙ c.in-None.is) ∙ there)
