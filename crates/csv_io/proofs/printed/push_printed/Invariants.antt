use Rattle.std.proofs.Common.{◌≡◌, ◌≤◌, ◌++◌, length}
use Rattle.std.specs.Prelude.{All, slice_range}
use Rattle.csv_io.specs.Reload.{ReadsBack}
use Rattle.csv_io.specs.Text.{lines_text}
use Rattle.kql_cells.specs.Table.{Grid}
use Rattle.csv_io.proofs.printed.push_printed.Given as goal

abbrev pub invariant-parts : goal.invariant-parts
invariant-parts l = record {
  within : l.at ≤ length l.t.lines;
  text : l.out.items ≡ l.initial.out.items ++ lines_text l.t 0 l.at;
  back : All (All ReadsBack) (slice_range l.t.lines 0 l.at);
  left : All (λ (p : Grid). p ≡ l.t) l.printed;
}

abbrev pub decreases-parts : goal.decreases-parts
decreases-parts l = length l.printed
