use Rattle.std.proofs.Common.{◌≡◌, ◌≤◌, ◌+◌, [], drop, map, take}
use Rattle.kql_words.specs.Command.{name_in, tables_faults, texts}
use Rattle.kql_words.specs.Refusals.{unless}
use Rattle.kql_words.proofs.command.check_tables.Given as goal

abbrev pub invariant-loop-i : goal.invariant-loop-i
invariant-loop-i l = record {
  few : l.i ≤ 64;
  left : unless (tables_faults (l.i + l.first) (map name_in (texts (take l.i l.words))) (drop l.i (texts l.words))) (tt {0}) ≡ unless (tables_faults l.first [] (texts l.words)) (tt {0});
}
