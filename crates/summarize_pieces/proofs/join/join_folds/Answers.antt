use Rattle.std.proofs.Common.{◌∙◌, get_or, rules}
use Rattle.summarize_pieces.proofs.JoinSteps.{joining-end, joining-next, joining-none, joining-room, joining-start}
use Rattle.summarize_pieces.proofs.join.join_folds.Goals as goal
use Rattle.summarize_pieces.proofs.join.join_folds.Goals.{in-Some+in_ok-join_fold, in_default}

pub groups-init : goal.groups-init
groups-init c = joining-start c.args.first c.args.folds c.args.numbers.now c.args.more c.args.count c.args.further c.into_vec-made.result.items c.reverse.new.self c.requires.long c.requires.folds c.requires.more c.into_vec-made.ensures.items c.reverse.ensures.turned

pub join_fold-requires-clause-few : goal.join_fold-requires-clause-few
join_fold-requires-clause-few c =
    let ns = c.args.numbers.now in
    let j = c.groups.g-index in
    let g = get_or ns j 0 in
    joining-room c.args.first c.args.folds ns c.args.more c.args.count c.args.further j g c.groups.made.items c.groups.left c.pop.new.self c.in-Some.fold c.groups.invariant c.requires.differ (search rules) (search rules) c.in-Some.ensures.last c.requires.few

pub groups-preserved : goal.groups-preserved
groups-preserved c =
    let ns = c.args.numbers.now in
    let j = c.groups.g-index in
    let g = get_or ns j 0 in
    elim c.match-pop.branch [
      | in-Some+in_ok-join_fold w ↦
          joining-next c.args.first c.args.folds ns c.args.more c.args.count c.args.further j g c.groups.made.items c.groups.left c.match-pop.made.items c.pop.new.self w.in-Some.fold c.groups.invariant (search rules) (search rules) w.in-Some.ensures.last (search rules)
      | in_default w ↦
          joining-none c.args.first c.args.folds ns c.args.more c.args.count c.args.further j c.match-pop.made.items c.groups.left c.pop.new.self (search rules) (search rules) (search rules)
    ]

pub returns : goal.returns
returns c =
    record {
      joined = c.from_vec.ensures.items ∙ joining-end c.args.first c.args.folds c.args.numbers.now c.args.more c.args.count c.args.further c.groups.g-index c.groups.made.items c.groups.left c.groups.invariant (search rules);
    }
