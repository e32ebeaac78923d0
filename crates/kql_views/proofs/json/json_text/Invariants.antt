use Rattle.std.proofs.Common.{◌≡◌, ◌∷◌, map, take}
use Rattle.std.specs.Prelude.{All}
use Rattle.kql_views.specs.Json.{ReadsBack, listed, object_text}
use Rattle.kql_views.proofs.json.json_text.Given as goal

abbrev pub invariant-loop-i : goal.invariant-loop-i
invariant-loop-i l = record {
  text : l.out.items ≡ 91 ∷ listed (take l.i (map (λ row. 10 ∷ object_text l.table.columns row) l.table.lines));
  back : All (All ReadsBack) (take l.i l.table.lines);
}
