-- Cells of keys.
use Rattle.std.proofs.Common.{◌≡◌, ◌<◌, ◌∙◌, ℕ, Bool, List, [], map, length, get_or, ap, Bor}
use Rattle.std.specs.Prelude.{IsTrue, ◌↔◌}
use Rattle.std.proofs.lemmas.List.{get_or-map, length-map}
use Rattle.std.specs.Bool.{one_answer}
use Rattle.kql_values.specs.Grids.{row_of}
use Rattle.kql_values.proofs.GridLaws.{row_of-at, row_of-length}
use Rattle.kql_cells.specs.Keys.{same_keys, same_keys-decides}
use Rattle.kql_cells.specs.declared.value.Value.{Value}
use Rattle.kql_cells.specs.declared.value.Value.TheVariants as val

pub key-length : (columns : List (Bor (List Value))) (i : ℕ) → length (row_of (map (λ c. c.now) columns) i) ≡ length columns
key-length columns i = row_of-length (map (λ c. c.now) columns) i ∙ length-map columns (λ c. c.now)

pub key-cell : (columns : List (Bor (List Value))) (i j : ℕ) (d : Bor (List Value)) → j < length columns
    → get_or (row_of (map (λ c. c.now) columns) i) j val.Null ≡ get_or (get_or columns j d).now i val.Null
key-cell columns i j d lt =
    let within : j < length (map (λ (c : Bor (List Value)). c.now) columns) = rw (length-map columns (λ (c : Bor (List Value)). c.now)) lt in
    row_of-at (map (λ c. c.now) columns) i j [] val.Null within ∙ ap (λ (l : List Value). get_or l i val.Null) (get_or-map (λ (c : Bor (List Value)). c.now) columns j d [] lt)

pub ruleset key_facts = (key-length, key-cell)

pub same-answer : (a b : List Value) (r : Bool) → (IsTrue r ↔ (a ≡ b)) → r ≡ same_keys a b
same-answer a b r h = one_answer r (same_keys a b) (h.0, h.1) (same_keys-decides a b)
