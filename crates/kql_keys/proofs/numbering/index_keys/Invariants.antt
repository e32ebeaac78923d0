use Rattle.std.proofs.Common.{◌≡◌, map}
use Rattle.kql_values.specs.Grids.{rows_of}
use Rattle.kql_keys.specs.Numbers.{distinct, first_places, numbers_of}
use Rattle.kql_cells.specs.Keys.{same_keys}
use Rattle.kql_keys.proofs.numbering.index_keys.Given as goal

abbrev pub invariant-loop-i : goal.invariant-loop-i
invariant-loop-i l = record {
  keys : l.seen.keys ≡ distinct same_keys (rows_of l.i (map (λ c. c.now) l.columns));
  numbers : l.numbers ≡ numbers_of same_keys (rows_of l.i (map (λ c. c.now) l.columns));
  firsts : l.firsts ≡ first_places same_keys (rows_of l.i (map (λ c. c.now) l.columns));
}
