use Rattle.std.proofs.Common.{rules}
use Rattle.bind_operators.proofs.project_rename.old_columns.Goals as goal
use Rattle.bind_operators.proofs.RenameLaws.{olds, olds-turn}

pub each-preserved : goal.each-preserved
each-preserved c = olds-turn c.args.operator c.args.known.now c.args.rows.now c.args.renames.now c.each.r-index c.r-item.result c.columns.result.now c.each.columns c.column_wanted-c.result c.with_next-columns.result (c.columns.ensures.columns) c.r-item.is (search rules) c.each.invariant (c.column_wanted-c.ensures.exact) (c.with_next-columns.ensures.exact)

pub returns : goal.returns
returns c = record { exact = olds c.args.operator c.args.known.now c.args.rows.now c.args.renames.now c.each.r-index c.each.columns (search rules) c.each.invariant }
