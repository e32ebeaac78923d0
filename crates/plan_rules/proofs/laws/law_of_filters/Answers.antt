use Rattle.plan_rules.proofs.RuleLaws.{extend_then_filter_law, project_then_filter_law, sort_then_filter_law, expand_then_filter_law, parse_then_filter_law, join_then_filter_law, unique_then_filter_law, join_then_right_filter_law, group_then_filter_law}
use Rattle.plan_rules.proofs.laws.law_of_filters.Goals as goal

pub returns-clause-extend_then_filter : goal.returns-clause-extend_then_filter
returns-clause-extend_then_filter c = extend_then_filter_law

pub returns-clause-project_then_filter : goal.returns-clause-project_then_filter
returns-clause-project_then_filter c = project_then_filter_law

pub returns-clause-sort_then_filter : goal.returns-clause-sort_then_filter
returns-clause-sort_then_filter c = sort_then_filter_law

pub returns-clause-expand_then_filter : goal.returns-clause-expand_then_filter
returns-clause-expand_then_filter c = expand_then_filter_law

pub returns-clause-parse_then_filter : goal.returns-clause-parse_then_filter
returns-clause-parse_then_filter c = parse_then_filter_law

pub returns-clause-join_then_filter : goal.returns-clause-join_then_filter
returns-clause-join_then_filter c = join_then_filter_law

pub returns-clause-unique_then_filter : goal.returns-clause-unique_then_filter
returns-clause-unique_then_filter c = unique_then_filter_law

pub returns-clause-join_then_right_filter : goal.returns-clause-join_then_right_filter
returns-clause-join_then_right_filter c = join_then_right_filter_law

pub returns-clause-group_then_filter : goal.returns-clause-group_then_filter
returns-clause-group_then_filter c = group_then_filter_law
