use Rattle.std.proofs.Common.{◌≡◌, ◌≤◌, ◌+◌, length}
use Rattle.catalogue_tables.specs.Entries.{AreClean, entries_checked}
use Rattle.catalogue_tables.proofs.entries.check_entries.Given as goal

abbrev pub invariant-entries : goal.invariant-entries
invariant-entries l = record {
  few : length l.names ≤ 64;
  count : l.count ≤ 256;
  at : l.at ≤ length l.names + 1;
  checked : entries_checked l.number l.at l.names l.count l.left ≡ entries_checked l.number 1 l.fn.names (length l.fn.names) l.entries;
  clean : AreClean l.names l.count l.left → AreClean l.fn.names (length l.fn.names) l.entries;
}

abbrev pub decreases-entries : goal.decreases-entries
decreases-entries l = length l.left
