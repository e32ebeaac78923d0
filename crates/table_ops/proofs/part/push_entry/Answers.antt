use Rattle.std.proofs.Common.{rules, ◌∙◌}
use Rattle.kql_cells.specs.Seen.{seen}
use Rattle.table_ops.proofs.PartFacts.{entry-form}
use Rattle.table_ops.proofs.part.push_entry.Goals as goal

pub push_as-requires : goal.push_as-requires
push_as-requires c = record {
  form = entry-form c.args.array c.args.entries.now c.args.k c.index-entries-k.result (seen c.as_cell.result) c.requires.form (search rules) c.index-entries-k.is (c.as_cell.ensures.same ∙ c.in_ok-part.ensures.part);
}
