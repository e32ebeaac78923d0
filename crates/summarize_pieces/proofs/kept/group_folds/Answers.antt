use Rattle.std.proofs.Common.{◌∙◌, ap, rules}
use Rattle.summarize_pieces.specs.Pieces.{Called}
use Rattle.summarize_pieces.proofs.KeptSteps.{grouping-end, grouping-next, grouping-none, grouping-start, read-below, rows-inside}
use Rattle.summarize_pieces.proofs.kept.group_folds.Goals as goal
use Rattle.summarize_pieces.proofs.kept.group_folds.Goals.{in-Some+in_ok-push_group, in_default}

pub places_by_number-requires : goal.places_by_number-requires
places_by_number-requires c = read-below c.as_slice-columns.result.now c.args.numbers.now c.numbers_read-read.result.now c.args.count c.requires.within c.numbers_read-read.ensures

pub groups-init : goal.groups-init
groups-init c = grouping-start c.args.call.now c.args.numbers.now c.args.count c.in_ok-kept.kept c.args.folds.items c.reverse.new.self c.requires.folds (search rules) c.in_ok-kept.ensures.empty

pub push_group-requires : goal.push_group-requires
push_group-requires c =
    let own = c.as_slice-columns.ensures.value ∙ ap (λ (q : Called). q.further) c.call.view_is in
    record { within = rows-inside c.args.call.now c.as_slice-columns.result.now c.args.numbers.now c.numbers_read-read.result.now c.get.result.now c.in_ok-places.places c.groups.g c.args.count c.requires.long own c.groups-test.true c.numbers_read-read.ensures c.in_ok-places.ensures.lists c.get.ensures.same }

pub groups-preserved : goal.groups-preserved
groups-preserved c =
    let own = c.as_slice-columns.ensures.value ∙ ap (λ (q : Called). q.further) c.call.view_is in
    elim c.match-pop.branch [
      | in-Some+in_ok-push_group w ↦
          grouping-next c.args.call.now c.as_slice-columns.result.now c.args.numbers.now c.numbers_read-read.result.now w.get.result.now c.in_ok-places.places c.args.count c.groups.g c.groups.kept c.match-pop.kept c.groups.left c.pop.new.self w.in-Some.fold c.groups.invariant c.groups-test.true own c.numbers_read-read.ensures c.in_ok-places.ensures.lists w.get.ensures.same w.in-Some.ensures.last (search rules)
      | in_default w ↦ absurd (grouping-none c.args.call.now c.args.numbers.now c.args.count c.groups.g c.groups.kept c.groups.left c.groups.invariant c.groups-test.true (search rules))
    ]

pub returns : goal.returns
returns c = record { states = grouping-end c.args.call.now c.args.numbers.now c.args.count c.groups.g c.groups.kept c.groups.left c.groups.invariant (search rules) (search rules) }
