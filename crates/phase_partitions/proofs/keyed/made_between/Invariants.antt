use Rattle.std.proofs.Common.{◌≡◌}
use Rattle.std.specs.Prelude.{slice_range}
use Rattle.kql_plain.specs.AtHand.{world_of}
use Rattle.phase_partitions.specs.Works.{rows_made}
use Rattle.phase_partitions.proofs.keyed.made_between.Given as goal

-- what is made of the lists so far
abbrev pub invariant-keys : goal.invariant-keys
invariant-keys l = record {
  columns : l.made.columns ≡ l.none.columns;
  lines : l.made.lines ≡ rows_made l.ops (world_of l.catalogue l.lets) l.table (slice_range l.lists l.from l.number);
}
