use Rattle.std.proofs.Common.{rules}
use Rattle.table_ops.proofs.UnionFacts.{made-more, other-typed}
use Rattle.table_ops.proofs.union.tables_in.Goals as goal

pub in_columns-requires-in-tables-clause-typed : goal.in_columns-requires-in-tables-clause-typed
in_columns-requires-in-tables-clause-typed c = other-typed c.args.columns.now c.args.others.now c.tables.other-index c.other-item.result c.requires.others (search rules) c.other-item.is

pub tables-preserved : goal.tables-preserved
tables-preserved c = made-more c.args.columns.now c.args.first.now c.tables.made c.in_ok-more.more c.append.new.self c.other-item.result c.args.others.now c.tables.other-index (search rules) c.other-item.is c.tables.invariant c.in_ok-more.ensures.table c.in_ok-append.ensures.added
