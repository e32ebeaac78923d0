use Rattle.std.proofs.Common.{◌≡◌, drop, length, map, take}
use Rattle.kql_values.specs.Kept.{all_named}
use Rattle.pattern_laws.specs.Tables.{derived_named}
use Rattle.pattern_run.specs.Patterned.{Found, finds_of, told_by}
use Rattle.pattern_run.proofs.SameCalls.{called}
use Rattle.pattern_run.proofs.answers.derived_tables.Given as goal

abbrev pub invariant-loop-prefix : goal.invariant-loop-prefix
invariant-loop-prefix g l = record {
  count : length l.left ≡ length (called (drop l.prefix-index l.prefixes));
  finds : (found : Found) → map g.M.Pattern.finds l.made ≡ map (finds_of found) (called l.prefixes) → map g.M.Pattern.finds l.left ≡ map (finds_of found) (called (drop l.prefix-index l.prefixes));
  tables : (found : Found) → map g.M.Pattern.finds l.made ≡ map (finds_of found) (called l.prefixes) → all_named l.tables ≡ map (derived_named (told_by found) l.marks (all_named l.known)) (take l.prefix-index l.prefixes);
}
