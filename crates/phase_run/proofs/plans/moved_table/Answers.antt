use Rattle.std.proofs.Common.{◌∙◌}
use Rattle.kql_plain.proofs.MovedLaws.{moved-fits, moved-left, moved-means}
use Rattle.phase_run.proofs.plans.moved_table.Goals as goal

pub ops_input-requires : goal.ops_input-requires
ops_input-requires g c = (
  c.type_bounds.sync-R,
  (
    c.type_bounds.sync-G,
    moved-fits c.args.ops.now c.args.catalogue.now c.args.lets.now c.args.at c.index-lets-at.result c.index-lets-at-2.result c.replace-table.new.dest c.in_ok-empty.empty c.replace-table.result
        c.requires.there c.in_ok-empty.ensures.rows c.replace-table.ensures.after c.replace-table.ensures.value c.requires.fits,
  ),
)

pub returns : goal.returns
returns g c = record {
  table = moved-means c.args.ops.now c.args.catalogue.now c.args.lets.now c.args.at c.index-lets-at-2.result c.replace-table.new.dest c.replace-table.result c.in_ok-table.table
      c.requires.there c.replace-table.ensures.value c.requires.free (c.in_ok-table.ensures.table ∙ c.in_ok-made.ensures.table);
  lets = moved-left c.args.lets.now c.args.at c.index-lets-at.result c.replace-table.new.dest c.in_ok-empty.empty c.requires.there c.in_ok-empty.ensures.rows c.replace-table.ensures.after;
  told = c.in_ok-made.ensures.told;
}
