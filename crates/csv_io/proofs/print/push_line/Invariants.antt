use Rattle.std.proofs.Common.{◌≡◌, ◌++◌, map, take}
use Rattle.std.specs.Prelude.{All}
use Rattle.csv.specs.Writing.{default_writer, row_body}
use Rattle.csv_io.specs.Reload.{ReadsBack}
use Rattle.csv_io.specs.Text.{cell_text}
use Rattle.kql_values.specs.Grids.{row_of}
use Rattle.csv_io.proofs.print.push_line.Given as goal

abbrev pub invariant-loop-j : goal.invariant-loop-j
invariant-loop-j l = record {
  text : l.out.items ≡ l.initial.out.items ++ row_body default_writer (take l.j (map cell_text (row_of l.columns l.i)));
  back : All ReadsBack (take l.j (row_of l.columns l.i));
}
