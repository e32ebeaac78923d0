-- Columns in parts that threads put together.
use Rattle.std.proofs.Common.{◌≡◌, ◌<◌, ◌++◌, ◌∷◌, ◌∙◌, ℕ, suc, List, [], length, get_or, refl, sym, ap, arith}
use Rattle.std.specs.Prelude.{All}
use Rattle.std.proofs.lemmas.List.{map-append}
use Rattle.std.proofs.lemmas.List.Elements.{All-head, All-tail}
use Rattle.csv_workers.specs.Slots.{IsWhole, KeepsParts, parts_of}
use Rattle.csv_workers.specs.declared.joining.Slot.{Slot}
use Rattle.kql_cells.specs.declared.value.Value.{Value}

-- where none was lost, the columns are those that were
pub kept-parts : (old new : List Slot) → length new ≡ length old → ((k : ℕ) (d : Slot) → k < length old → KeepsParts (get_or old k d) (get_or new k d)) → All IsWhole new → parts_of new ≡ parts_of old
kept-parts [] [] e kept all = refl
kept-parts [] (n ∷ new) e kept all = absurd (omega arith)
kept-parts (o ∷ old) [] e kept all = absurd (omega arith)
kept-parts (o ∷ old) (n ∷ new) e kept all =
    let first : n.parts ≡ o.parts = kept 0 o (omega arith) (All-head IsWhole n new all) in
    let rest : parts_of new ≡ parts_of old = kept-parts old new (omega arith) (λ k d lt. kept (suc k) d (omega arith)) (All-tail IsWhole n new all) in
    rw (first, rest) refl

pub parts-push : (slots : List Slot) (s : Slot) (out new : List (List Value)) → out ≡ parts_of slots → new ≡ out ++ s.parts ∷ [] → new ≡ parts_of (slots ++ s ∷ [])
parts-push slots s out new e en = en ∙ (ap (λ o. o ++ s.parts ∷ []) e ∙ sym (map-append (λ (t : Slot). t.parts) slots (s ∷ [])))
