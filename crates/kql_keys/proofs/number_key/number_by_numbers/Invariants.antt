use Rattle.std.proofs.Common.{◌≡◌}
use Rattle.kql_keys.specs.NumberKeys.{first_numbers, same_numbers}
use Rattle.kql_keys.specs.Numbers.{distinct, first_places, numbers_of}
use Rattle.kql_keys.proofs.number_key.number_by_numbers.Given as goal

abbrev pub invariant-loop-i : goal.invariant-loop-i
invariant-loop-i l = record {
  keys : l.seen.keys ≡ distinct same_numbers (first_numbers l.numbers l.i);
  places : l.places ≡ numbers_of same_numbers (first_numbers l.numbers l.i);
  firsts : l.firsts ≡ first_places same_numbers (first_numbers l.numbers l.i);
}
