use Rattle.kql_plain.specs.AtHand.{world_of}
use Rattle.kql_plain.proofs.SourceSteps.{means-let, named-there}
use Rattle.kql_plain.proofs.sources.source_table.Goals as goal

pub table_named-table-requires : goal.table_named-table-requires
table_named-table-requires c = record {
  there = named-there c.args.source.now c.in-Table.name c.as_str.result.now (world_of c.args.catalogue.now c.args.lets.now) _ c.in-Table.is c.requires.fits c.as_str.ensures.same c.tables.ensures.tables;
}

pub returns-in-Let : goal.returns-in-Let
returns-in-Let c = record {
  table = means-let c.args.source.now c.in-Let.at (world_of c.args.catalogue.now c.args.lets.now) c.index-lets-at.result c.in-Let.is c.requires.fits c.index-lets-at.is;
}
