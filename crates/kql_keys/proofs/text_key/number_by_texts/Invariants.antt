use Rattle.std.proofs.Common.{◌≡◌, take}
use Rattle.std.specs.Prelude.{bytes_eq}
use Rattle.kql_keys.specs.Numbers.{distinct, first_places, numbers_of}
use Rattle.kql_keys.proofs.text_key.number_by_texts.Given as goal

abbrev pub invariant-loop-i : goal.invariant-loop-i
invariant-loop-i l = record {
  keys : l.seen.keys ≡ distinct bytes_eq (take l.i l.texts);
  places : l.places ≡ numbers_of bytes_eq (take l.i l.texts);
  firsts : l.firsts ≡ first_places bytes_eq (take l.i l.texts);
}
