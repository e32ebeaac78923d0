use Rattle.std.proofs.Common.{◌≡◌, ◌++◌, length, map, take}
use Rattle.pattern_lift.specs.Derived.{added_columns}
use Rattle.pattern_laws.specs.Tables.{derived_table}
use Rattle.pattern_run.specs.Patterned.{Found, finds_of, told_by}
use Rattle.pattern_run.proofs.answers.derived_table.Given as goal

abbrev pub invariant-loop-i : goal.invariant-loop-i
invariant-loop-i g l = record {
  columns : l.table.columns ≡ l.base.columns ++ added_columns l.marks (take l.i l.calls);
  count : length l.table.lines ≡ length l.base.lines;
  told : (found : Found) → map g.M.Pattern.finds l.made ≡ map (finds_of found) l.calls → l.table ≡ derived_table (told_by found) l.marks (take l.i l.calls) l.base;
}
