use Rattle.std.proofs.Common.{rules}
use Rattle.table_ops.specs.InColumns.{tables_lent}
use Rattle.table_ops.proofs.UnionFacts.{others-typed}
use Rattle.table_ops.proofs.union.union_tables.Goals as goal

pub tables_in-requires-clause-others : goal.tables_in-requires-clause-others
tables_in-requires-clause-others c = others-typed c.args.inner c.args.first.now (tables_lent c.args.others.now) c.as_slice-2.result.now (search rules) c.requires.fits
