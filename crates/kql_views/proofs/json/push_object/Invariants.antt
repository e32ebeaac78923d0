use Rattle.std.proofs.Common.{◌≡◌, ◌++◌, take}
use Rattle.kql_cells.specs.Seen.{row_at}
use Rattle.std.specs.Prelude.{All}
use Rattle.kql_views.specs.Json.{ReadsBack, listed, members}
use Rattle.kql_views.proofs.json.push_object.Given as goal

abbrev pub invariant-loop-j : goal.invariant-loop-j
invariant-loop-j l = record {
  text : l.out.items ≡ l.initial.out.items ++ listed (take l.j (members l.table.columns (row_at l.table.lines l.i)));
  back : All ReadsBack (take l.j (row_at l.table.lines l.i));
}
