use Rattle.std.proofs.Common.{◌≡◌, ◌++◌, ◌∷◌, [], flat_map, take}
use Rattle.std.specs.Prelude.{All}
use Rattle.kql_views.specs.Json.{ReadsBack, object_text}
use Rattle.kql_views.proofs.json.json_lines.Given as goal

abbrev pub invariant-loop-i : goal.invariant-loop-i
invariant-loop-i l = record {
  text : l.out.items ≡ flat_map (λ row. object_text l.table.columns row ++ 10 ∷ []) (take l.i l.table.lines);
  back : All (All ReadsBack) (take l.i l.table.lines);
}
