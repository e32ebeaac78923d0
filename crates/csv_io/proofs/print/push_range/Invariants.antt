use Rattle.std.proofs.Common.{◌≡◌, ◌≤◌, ◌++◌}
use Rattle.std.specs.Prelude.{All, slice_range}
use Rattle.csv_io.specs.Reload.{ReadsBack}
use Rattle.csv_io.specs.Text.{lines_text}
use Rattle.csv_io.proofs.print.push_range.Given as goal

abbrev pub invariant-loop-i : goal.invariant-loop-i
invariant-loop-i l = record {
  order : l.from ≤ l.i;
  within : l.i ≤ l.to;
  text : l.out.items ≡ l.initial.out.items ++ lines_text l.t l.from l.i;
  back : All (All ReadsBack) (slice_range l.t.lines l.from l.i);
}
