use Rattle.std.proofs.Common.{◌≡◌, ℕ, List, Some}
use Rattle.std.proofs.lemmas.List.Elements.{All-pop}
use Rattle.csv_workers.proofs.CheckFacts.{text-more}
use Rattle.csv_workers.proofs.checked.are_all_text.Goals as goal

pub parts-preserved : goal.parts-preserved
parts-preserved c =
    let bytes = c.args.bytes.now in
    let q = All-pop (λ (x : List ℕ). x ≡ bytes) _ _ (Some c.in-Some.next) c.in-Some.ensures.last c.parts.invariant.left in
    let part = rw q.1 at c.into_parts-from.ensures in
    let same : c.into_parts-from.result.0 ≡ c.parts.at = c.if-from-at.false in
    record {
      within = part.1;
      text = text-more bytes c.parts.at c.into_parts-from.result.1 (rw same at part.0) c.parts.invariant.text (rw same at (part.2 c.if-not-is_text.false));
      left = q.0;
    }
