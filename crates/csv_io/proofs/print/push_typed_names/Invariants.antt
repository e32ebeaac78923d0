use Rattle.std.proofs.Common.{◌≡◌, ◌++◌, take}
use Rattle.std.specs.Prelude.{map}
use Rattle.csv.specs.Records.{AllText}
use Rattle.csv.specs.Writing.{default_writer, row_body}
use Rattle.csv_io.specs.Reload.{typed_name}
use Rattle.csv_io.specs.Text.{names_of}
use Rattle.csv_io.proofs.print.push_typed_names.Given as goal

abbrev pub invariant-loop-j : goal.invariant-loop-j
invariant-loop-j l = record {
  text : l.out.items ≡ l.initial.out.items ++ row_body default_writer (take l.j (map typed_name l.columns));
  utf8 : AllText (take l.j (names_of l.columns));
}
