use Rattle.std.proofs.Common.{◌++◌, ◌∙◌, ap, arith, sym}
use Rattle.std.proofs.lemmas.Result.{on_ok_weaker}
use Rattle.join_op.proofs.PairSteps.{given-each, given-some}
use Rattle.join_op.proofs.pairs.push_given.Goals as goal

pub returns-in-EachMatch-default-clause-leads : goal.returns-in-EachMatch-default-clause-leads
returns-in-EachMatch-default-clause-leads c =
    on_ok_weaker c.push_matches.result (λ e. e ∙ ap (λ l. c.args.leads.now ++ l) (sym (given-each c.args.rule c.args.lead c.args.found.now c.in-EachMatch-default.is-0))) c.push_matches.ensures.leads

pub returns-in-EachMatchOrAlone-default-clause-leads : goal.returns-in-EachMatchOrAlone-default-clause-leads
returns-in-EachMatchOrAlone-default-clause-leads c =
    on_ok_weaker c.push_matches-in-EachMatchOrAlone-default.result
    (λ e. e ∙ ap (λ l. c.args.leads.now ++ l) (sym (given-some c.args.rule c.args.lead c.args.found.now c.in-EachMatchOrAlone-default.is-0 (omega (arith, c.in-EachMatchOrAlone-default.len_at_least)))))
    c.push_matches-in-EachMatchOrAlone-default.ensures.leads
