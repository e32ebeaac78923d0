use Rattle.std.proofs.Common.{subst}
use Rattle.std.proofs.lemmas.Option.{MatchOption-at_none}
use Rattle.kql_cells.specs.Named.{HasDistinctNames, column_name}
use Rattle.kql_plain.proofs.ProgramLaws.{all-tables, no-tables}
use Rattle.kql_plain.proofs.programs.know_tables.Goals as goal

pub tables-preserved : goal.tables-preserved
tables-preserved c others =
    let distinct = subst (HasDistinctNames column_name) c.schema.ensures.columns c.columns.ensures.distinct in
    c.tables.invariant (all-tables c.tables.left.now c.in-Some.more.now c.in-Some.named.now c.in-Some.ensures.cases.0 (distinct, c.schema.ensures.fits) others)

pub returns : goal.returns
returns c = record { tables = c.tables.invariant (no-tables c.tables.left.now (MatchOption-at_none _ _ c.in_default.is c.split_first.ensures.cases)) }
