-- The laws of the rules, as the contracts have them.
use Rattle.kql_fit_laws.proofs.OperatorLaws.{each_plan_keeps}
use Rattle.plan_rules.specs.LawsOfRules.{OneImproves, OneImprovesOver, PairImproves, PairImprovesIn, PairImprovesOver}
use Rattle.plan_rules.specs.Rules.{bare_serialize, expand_then_filter, extend_then_filter, extend_then_take, group_then_filter, idle_projection, join_then_filter, join_then_right_filter, parse_then_filter, parse_then_take, project_then_filter, project_then_take, sort_then_filter, sort_then_take, top_then_take, true_filter, two_filters, two_projections, two_sorts, two_takes, unique_then_filter, unseen_then_count}
use Rattle.plan_rules.proofs.IdleProjection.{idle_projection-improves}
use Rattle.plan_rules.proofs.MergeFilters.{two_filters-improves}
use Rattle.plan_rules.proofs.PushExpand.{expand_then_filter-improves}
use Rattle.plan_rules.proofs.PushExtend.{extend_then_filter-improves, extend_then_take-improves}
use Rattle.plan_rules.proofs.PushFirsts.{unique_then_filter-improves}
use Rattle.plan_rules.proofs.PushGroups.{group_then_filter-improves}
use Rattle.plan_rules.proofs.PushJoin.{join_then_filter-improves}
use Rattle.plan_rules.proofs.PushParse.{parse_then_filter-improves, parse_then_take-improves, project_then_take-improves}
use Rattle.plan_rules.proofs.PushProject.{project_then_filter-improves}
use Rattle.plan_rules.proofs.PushRightKinds.{join_then_right_filter-improves}
use Rattle.plan_rules.proofs.PushSort.{sort_then_filter-improves}
use Rattle.plan_rules.proofs.ShortRules.{bare_serialize-improves, sort_then_take-improves, true_filter-improves, two_takes-improves}
use Rattle.plan_rules.proofs.TopAndCount.{top_then_take-improves, unseen_then_count-improves}
use Rattle.plan_rules.proofs.TwoProjections.{two_projections-improves}
use Rattle.plan_rules.proofs.TwoSorts.{two_sorts-improves}

pub true_filter_law : OneImproves true_filter
true_filter_law = true_filter-improves

pub bare_serialize_law : OneImproves bare_serialize
bare_serialize_law = bare_serialize-improves

pub idle_projection_law : OneImprovesOver idle_projection
idle_projection_law = idle_projection-improves

pub two_filters_law : PairImproves two_filters
two_filters_law = two_filters-improves

pub two_takes_law : PairImproves two_takes
two_takes_law = two_takes-improves

pub sort_then_take_law : PairImproves sort_then_take
sort_then_take_law = sort_then_take-improves

pub top_then_take_law : PairImproves top_then_take
top_then_take_law = top_then_take-improves

pub two_sorts_law : PairImproves two_sorts
two_sorts_law = two_sorts-improves

pub two_projections_law : PairImproves two_projections
two_projections_law = two_projections-improves

pub unseen_then_count_law : PairImproves unseen_then_count
unseen_then_count_law = unseen_then_count-improves

pub extend_then_filter_law : PairImproves extend_then_filter
extend_then_filter_law = extend_then_filter-improves

pub project_then_filter_law : PairImproves project_then_filter
project_then_filter_law = project_then_filter-improves

pub sort_then_filter_law : PairImproves sort_then_filter
sort_then_filter_law = sort_then_filter-improves

pub expand_then_filter_law : PairImproves expand_then_filter
expand_then_filter_law = expand_then_filter-improves

pub parse_then_filter_law : PairImproves parse_then_filter
parse_then_filter_law = parse_then_filter-improves

pub join_then_filter_law : PairImprovesOver join_then_filter
join_then_filter_law = join_then_filter-improves

pub unique_then_filter_law : PairImprovesOver unique_then_filter
unique_then_filter_law = unique_then_filter-improves

pub join_then_right_filter_law : PairImprovesIn join_then_right_filter
join_then_right_filter_law = join_then_right_filter-improves each_plan_keeps

pub group_then_filter_law : PairImproves group_then_filter
group_then_filter_law = group_then_filter-improves

pub extend_then_take_law : PairImproves extend_then_take
extend_then_take_law = extend_then_take-improves

pub project_then_take_law : PairImproves project_then_take
project_then_take_law = project_then_take-improves

pub parse_then_take_law : PairImproves parse_then_take
parse_then_take_law = parse_then_take-improves
