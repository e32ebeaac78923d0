-- What a publish tells, put together
use Rattle.std.proofs.Common.{◌≡◌, List, [], fold, Result, Ok, Err, MatchResult, true, ap, ◌∙◌}
use Rattle.kql_cells.specs.Table.{Grid}
use Rattle.live_catalogue.specs.declared.value.Live.{Live}
use Rattle.live_catalogue.specs.declared.value.Change.{Change}
use Rattle.live_catalogue.specs.declared.known.Known.{Known}
use Rattle.live_catalogue.specs.Changes.{changed, batches_of}
use Rattle.live_catalogue.specs.Moves.{with_batches}
use Rattle.live_catalogue.specs.Rule.{Publishes}
use Rattle.live_catalogue.specs.Inside.{IsShown, IsUnchanged}
use Rattle.live_catalogue.proofs.Steps.{fold-changes}

pub shown : {V U E : Type 0} (grown : V → Grid → V) (more : List Grid) (r : Result U E) (known known' : Known V) (x x' : Live V) (changes changes' : List Change)
    → x.begun ≡ true → more ≡ batches_of changes
    → MatchResult r (λ _. (x' ≡ fold (changed grown) x changes) × (changes' ≡ [])) (λ _. (x' ≡ x) × (changes' ≡ changes))
    → MatchResult r (λ _. Publishes more known x x' known') (λ _. known' ≡ known)
    → MatchResult r (λ _. IsShown grown known x (batches_of changes) known' x' (batches_of changes')) (λ _. IsUnchanged known x (batches_of changes) known' x' (batches_of changes'))
shown grown more (Ok u) known known' x x' changes changes' begun these values rule = record {
  known_is = rule ∙ ap (with_batches known) these;
  shown_is = values.0 ∙ fold-changes grown x changes begun;
  none_left = ap batches_of values.1;
}
shown grown more (Err e) known known' x x' changes changes' begun these values rule = record {
  known_is = rule;
  shown_is = values.0;
  pending_are = ap batches_of values.1;
}
