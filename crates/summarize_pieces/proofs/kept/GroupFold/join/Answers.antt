use Rattle.std.proofs.Common.{◌∙◌, ap, ap₂}
use Rattle.agg_folds.specs.States.{Kept, place_in, with_fold}
use Rattle.summarize_pieces.specs.Pieces.{GroupKept}
use Rattle.summarize_pieces.proofs.KeptSteps.{from-first, from-second}
use Rattle.summarize_pieces.proofs.kept.GroupFold.join.Goals as goal
use Rattle.summarize_pieces.proofs.kept.GroupFold.join.Goals.{else-chosen-count, then-chosen-count}

pub returns : goal.returns
returns c =
    let a = c.args.self.now in
    let b = c.args.other in
    let own = ap (λ (k : GroupKept). k.kept) c.self.view_is in
    let both = c.in_ok-join.ensures.joined ∙ ap₂ with_fold own (ap (λ (k : GroupKept). k.kept) c.other.view_is) in
    let place = c.chosen.ensures.place ∙ ap (λ (k : Kept). place_in k.state) both in
    let count = c.count-count.ensures.count ∙ ap (λ (k : Kept). k.count) own in
    record {
      joined = elim c.if-chosen-count.branch [
        | then-chosen-count w ↦ w.self-is ∙ from-second a b _ c.chosen.result c.count-count.result both (ap (λ (k : GroupKept). k.further) c.other.view_is) place count w.if-chosen-count.true
        | else-chosen-count w ↦ w.self-is ∙ from-first a b _ c.chosen.result c.count-count.result both (ap (λ (k : GroupKept). k.further) c.self.view_is) place count w.if-chosen-count.false
      ];
    }
