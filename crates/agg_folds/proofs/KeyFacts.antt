-- Whether two cells show the same value.
use Rattle.std.proofs.Common.{◌≡◌, Bool}
use Rattle.std.specs.Prelude.{IsTrue, ◌↔◌}
use Rattle.std.specs.Bool.{one_answer}
use Rattle.kql_cells.specs.Keys.{same_key, same_key-decides}
use Rattle.kql_cells.specs.declared.value.Value.{Value}

pub same-answer : (a b : Value) (r : Bool) → (IsTrue r ↔ (a ≡ b)) → r ≡ same_key a b
same-answer a b r h = one_answer r (same_key a b) (h.0, h.1) (same_key-decides a b)

pub ruleset key_facts = (same-answer)
