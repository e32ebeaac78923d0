use Rattle.std.proofs.Common.{◌∙◌, ap, map, sym}
use Rattle.join_op.specs.Sides.{lead_of, lead_side, opposite}
use Rattle.join_op.specs.declared.sides.Side.TheVariants as side
use Rattle.join_op.proofs.LedSteps.{as-many, led-made, left-firsts, left-matches, right-firsts, right-matches}
use Rattle.join_op.proofs.MatchSteps.{found-are, leads-reach}
use Rattle.join_op.proofs.led.table_of_leads.Goals as goal

pub pairs_found-requires : goal.pairs_found-requires
pairs_found-requires c =
    let k = c.args.kind in
    record { within = leads-reach (lead_side k) c.args.j.now.on (lead_of (lead_side k) c.args.left.now c.args.right.now) c.args.keys.now c.args.leads.now c.requires.keys c.requires.within }

pub left_table-requires : goal.left_table-requires
left_table-requires c =
    let k = c.args.kind in
    let j = c.args.j.now in
    let a = c.args.left.now in
    let b = c.args.right.now in
    let leads = c.args.leads.now in
    let at = sym c.lead_side.ensures.side ∙ c.in-Left.is in
    let found =
    found-are k j.on (lead_of (lead_side k) a b) (lead_of (opposite (lead_side k)) a b) c.args.keys.now leads c.args.probe.now c.row_rule.result c.requires.keys c.requires.probe c.requires.within c.row_rule.ensures.rule in
    let ef = c.as_slice-first.ensures.items ∙ (c.in_ok-firsts.ensures.leads ∙ ap (map (λ q. q.0)) found) in
    let eo = c.as_slice-other.ensures.items ∙ (c.in_ok-firsts.ensures.others ∙ ap (map (λ q. q.1)) found) in
    record {
      names = c.requires.names;
      leads = left-firsts k j.on a b leads c.as_slice-first.result.now at c.requires.within ef;
      others = left-matches k j.on a b leads c.as_slice-other.result.now at c.requires.within eo;
      count = as-many k j.on (lead_of (lead_side k) a b) (lead_of (opposite (lead_side k)) a b) leads c.as_slice-first.result.now c.as_slice-other.result.now ef eo;
    }

pub returns-in-Left : goal.returns-in-Left
returns-in-Left c =
    let k = c.args.kind in
    let j = c.args.j.now in
    let a = c.args.left.now in
    let b = c.args.right.now in
    let leads = c.args.leads.now in
    let at = sym c.lead_side.ensures.side ∙ c.in-Left.is in
    let found =
    found-are k j.on (lead_of (lead_side k) a b) (lead_of (opposite (lead_side k)) a b) c.args.keys.now leads c.args.probe.now c.row_rule.result c.requires.keys c.requires.probe c.requires.within c.row_rule.ensures.rule in
    record {
      table = led-made c.args.both k j a b c.in_ok-made-in-Left.made side.Left leads c.as_slice-first.result.now c.as_slice-other.result.now at
          (c.as_slice-first.ensures.items ∙ (c.in_ok-firsts.ensures.leads ∙ ap (map (λ q. q.0)) found)) (c.as_slice-other.ensures.items ∙ (c.in_ok-firsts.ensures.others ∙ ap (map (λ q. q.1)) found)) c.in_ok-made-in-Left.ensures.table;
    }

pub right_table-requires : goal.right_table-requires
right_table-requires c =
    let k = c.args.kind in
    let j = c.args.j.now in
    let a = c.args.left.now in
    let b = c.args.right.now in
    let leads = c.args.leads.now in
    let at = sym c.lead_side.ensures.side ∙ c.in-Right.is in
    let found =
    found-are k j.on (lead_of (lead_side k) a b) (lead_of (opposite (lead_side k)) a b) c.args.keys.now leads c.args.probe.now c.row_rule.result c.requires.keys c.requires.probe c.requires.within c.row_rule.ensures.rule in
    let ef = c.as_slice-first.ensures.items ∙ (c.in_ok-firsts.ensures.leads ∙ ap (map (λ q. q.0)) found) in
    let eo = c.as_slice-other.ensures.items ∙ (c.in_ok-firsts.ensures.others ∙ ap (map (λ q. q.1)) found) in
    record {
      names = c.requires.names;
      leads = right-firsts k j.on a b leads c.as_slice-first.result.now at c.requires.within ef;
      others = right-matches k j.on a b leads c.as_slice-other.result.now at c.requires.within eo;
      count = as-many k j.on (lead_of (lead_side k) a b) (lead_of (opposite (lead_side k)) a b) leads c.as_slice-first.result.now c.as_slice-other.result.now ef eo;
    }

pub returns : goal.returns
returns c =
    let k = c.args.kind in
    let j = c.args.j.now in
    let a = c.args.left.now in
    let b = c.args.right.now in
    let leads = c.args.leads.now in
    let at = sym c.lead_side.ensures.side ∙ c.in-Right.is in
    let found =
    found-are k j.on (lead_of (lead_side k) a b) (lead_of (opposite (lead_side k)) a b) c.args.keys.now leads c.args.probe.now c.row_rule.result c.requires.keys c.requires.probe c.requires.within c.row_rule.ensures.rule in
    record {
      table = led-made c.args.both k j a b c.in_ok-made-in-Right.made side.Right leads c.as_slice-first.result.now c.as_slice-other.result.now at
          (c.as_slice-first.ensures.items ∙ (c.in_ok-firsts.ensures.leads ∙ ap (map (λ q. q.0)) found)) (c.as_slice-other.ensures.items ∙ (c.in_ok-firsts.ensures.others ∙ ap (map (λ q. q.1)) found)) c.in_ok-made-in-Right.ensures.table;
    }
