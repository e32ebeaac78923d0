use Rattle.plan_rules.proofs.RuleLaws.{true_filter_law, bare_serialize_law, idle_projection_law, two_filters_law, two_takes_law, sort_then_take_law, top_then_take_law, two_sorts_law, two_projections_law, unseen_then_count_law}
use Rattle.plan_rules.proofs.TermSteps.{terms-single}
use Rattle.plan_rules.proofs.laws.law_of_shortening.Goals as goal

pub returns-clause-true_filter : goal.returns-clause-true_filter
returns-clause-true_filter c = true_filter_law

pub returns-clause-bare_serialize : goal.returns-clause-bare_serialize
returns-clause-bare_serialize c = bare_serialize_law

pub returns-clause-idle_projection : goal.returns-clause-idle_projection
returns-clause-idle_projection c = idle_projection_law

pub returns-clause-two_filters : goal.returns-clause-two_filters
returns-clause-two_filters c = two_filters_law

pub returns-clause-single : goal.returns-clause-single
returns-clause-single c = terms-single

pub returns-clause-two_takes : goal.returns-clause-two_takes
returns-clause-two_takes c = two_takes_law

pub returns-clause-sort_then_take : goal.returns-clause-sort_then_take
returns-clause-sort_then_take c = sort_then_take_law

pub returns-clause-top_then_take : goal.returns-clause-top_then_take
returns-clause-top_then_take c = top_then_take_law

pub returns-clause-two_sorts : goal.returns-clause-two_sorts
returns-clause-two_sorts c = two_sorts_law

pub returns-clause-two_projections : goal.returns-clause-two_projections
returns-clause-two_projections c = two_projections_law

pub returns-clause-unseen_then_count : goal.returns-clause-unseen_then_count
returns-clause-unseen_then_count c = unseen_then_count_law
