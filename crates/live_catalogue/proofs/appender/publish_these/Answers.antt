use Rattle.std.proofs.Common.{◌+◌, ◌++◌, IfSome, drop, fold, length, subst, sym, ◌∙◌}
use Rattle.left_right.specs.Sides.{view}
use Rattle.live_catalogue.specs.Changes.{batches_of}
use Rattle.live_catalogue.proofs.Steps.{publishes, fold-changes}
use Rattle.live_catalogue.proofs.Shown.{shown}
use Rattle.live_catalogue.proofs.appender.publish_these.Goals as goal

pub publish_as-requires : goal.publish_as-requires
publish_as-requires g c next is =
    let grown = g.V.Grows.grown in
    let x = c.args.writer.desk.shown.value in
    let changes = drop c.args.writer.behind c.args.writer.log.items in
    let these = c.requires.these in
    publishes grown g.K.Promise.promised _ _ x next g.B.Batches.batches c.requires.appends.appends c.requires.appends.open_yet
    (λ o is_some. subst (λ l. g.K.Promise.promised o ((view c.args.writer.desk.place).batches ++ l)) (sym these)
    (subst (λ z. IfSome z (λ v. g.K.Promise.promised v ((view c.args.writer.desk.place).batches ++ batches_of changes))) is_some c.requires.promise))
    (is ∙ (fold-changes grown x changes c.requires.appends.begun
    ∙ (λ i. record { value = fold grown x.value (sym these i); batches = x.batches + length (sym these i); begun = x.begun })))

pub returns : goal.returns
returns g c =
    let w = c.args.writer in
    let after = c.publish_as.result.0 in
    record {
      published = shown g.V.Grows.grown g.B.Batches.batches c.publish_as.result.1 _ _ w.desk.shown.value after.desk.shown.value (drop w.behind w.log.items) (drop after.behind after.log.items)
          c.requires.appends.begun c.requires.these c.publish_as.ensures.values c.publish_as.ensures.rule;
    }
