use Rattle.std.proofs.Common.{◌∙◌, sym}
use Rattle.phase_joins.proofs.JoinSteps.{made-one, names-one}
use Rattle.phase_joins.proofs.join.run_join.Goals as goal

pub run_led-requires-clause-names : goal.run_led-requires-clause-names
run_led-requires-clause-names g c κs within =
    names-one c.law_of_leads.ensures.one c.args.j.now c.args.left.now c.args.right.now c.shows_both-both.result (sym c.has_lead.ensures.lead ∙ c.if-has_lead.true) c.shows_both-both.ensures.both c.requires.names
