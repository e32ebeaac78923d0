use Rattle.std.proofs.Common.{refl}
use Rattle.csv_io.proofs.StackFacts.{alike-next, alike-start, tables-last, tables-next, tables-start}
use Rattle.kql_values.specs.Grids.{rows_of}
use Rattle.csv_io.proofs.stack.push_tables.Goals as goal

pub tables-init : goal.tables-init
tables-init c = record {
  fits = c.requires.fits;
  small = c.requires.small;
  alike = alike-start c.args.schema.now c.args.schema.now c.args.more _ c.reverse.ensures.turned refl c.requires.columns;
  whole = tables-start (rows_of c.args.count c.args.parts.now.items) _ c.args.more _ c.reverse.ensures.turned refl;
}

pub push_table-requires-clause-columns : goal.push_table-requires-clause-columns
push_table-requires-clause-columns c = (alike-next c.args.schema.now c.tables.more c.pop.new.self c.in-Some.next c.in-Some.ensures.last c.tables.invariant.alike).1

pub tables-preserved : goal.tables-preserved
tables-preserved c = record {
  fits = c.in_ok-rows.ensures.fits;
  small = c.in_ok-rows.ensures.small;
  alike = (alike-next c.args.schema.now c.tables.more c.pop.new.self c.in-Some.next c.in-Some.ensures.last c.tables.invariant.alike).0;
  whole = tables-next (rows_of c.tables.rows c.tables.parts.items) _ _ c.in-Some.next c.tables.more c.pop.new.self c.in-Some.ensures.last c.in_ok-rows.ensures.lines c.tables.invariant.whole;
}

pub returns : goal.returns
returns c = record {
  fits = c.tables.invariant.fits;
  lines = tables-last (rows_of c.tables.rows c.tables.parts.items) _ c.tables.more c.in_default.ensures.last.0 c.tables.invariant.whole;
  small = c.tables.invariant.small;
}
