use Rattle.std.proofs.Common.{◌≡◌, [], take, map, get_or}
use Rattle.kql_values.specs.Grids.{AgreeOff}
use Rattle.kql_values.proofs.vectors.pick_columns.Given as goal

abbrev pub invariant-loop-k : goal.invariant-loop-k
invariant-loop-k l = record {
  picked : l.picked.items ≡ map (λ j. get_or l.fn.columns.items j []) (take l.k l.places);
  rest : AgreeOff (take l.k l.places) l.rest.items l.fn.columns.items;
}
