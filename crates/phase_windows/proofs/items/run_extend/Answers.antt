use Rattle.std.proofs.Common.{rules}
use Rattle.row_ops.proofs.ExtendFacts.{extended-table, items-differ}
use Rattle.phase_windows.proofs.items.run_extend.Goals as goal

pub run_items-requires-clause-names : goal.run_items-requires-clause-names
run_items-requires-clause-names g c κs within = items-differ c.args.items.now c.args.table.columns c.requires.names

pub returns-clause-table : goal.returns-clause-table
returns-clause-table g c =
    extended-table c.args.items.now c.args.table c.in_ok-kept.kept c.in_ok-added.field-0.table c.in_ok-extended.extended c.as_slice-2.result.now
    c.in_ok-kept.ensures.columns c.in_ok-added.ensures.table (search rules) (search rules) (search rules) c.in_ok-extended.ensures.columns
