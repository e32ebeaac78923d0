-- The same in operators, plans and programs: each expression in them.
use Rattle.std.specs.Prelude.{Bool, true, ◌&&◌, List, map}
use Rattle.std.specs.List.{list_all}
use Rattle.kql_bound.specs.declared.parts.BItem.{BItem}
use Rattle.kql_bound.specs.declared.parts.BKey.{BKey}
use Rattle.kql_bound.specs.declared.parts.Expand.{Expand}
use Rattle.kql_bound.specs.declared.parts.ExpandItem.{ExpandItem}
use Rattle.kql_bound.specs.declared.parts.GroupPlan.{GroupPlan}
use Rattle.kql_bound.specs.declared.parts.ParsePlan.{ParsePlan}
use Rattle.kql_bound.specs.declared.parts.ScanPlan.{ScanPlan}
use Rattle.kql_bound.specs.declared.parts.ScanStep.{ScanStep}
use Rattle.kql_bound.specs.declared.parts.SeriesItem.{SeriesItem}
use Rattle.kql_bound.specs.declared.parts.SeriesPlan.{SeriesPlan}
use Rattle.kql_bound.specs.declared.plan.Op.{Op, fold-Op}
use Rattle.kql_bound.specs.declared.plan.Op.TheOpen.{Op-F, Plan-F}
use Rattle.kql_bound.specs.declared.plan.Op.TheVariants as op
use Rattle.kql_bound.specs.declared.plan.Plan.{Plan, fold-Plan}
use Rattle.kql_bound.specs.declared.plan.Program.{Program}
use Rattle.kql_bound.specs.declared.plan.Source.{Source}
use Rattle.kql_bound.specs.declared.plan.Source.TheVariants as source
use Rattle.plan_rules.specs.Folding.{folded, is_folded}

-- Where the rule has nothing to do.

unfoldable pub are_folded : List BItem → Bool
are_folded items = list_all (λ (b : BItem). is_folded b.expr) items

unfoldable pub are_keys_folded : List BKey → Bool
are_keys_folded keys = list_all (λ (k : BKey). is_folded k.expr) keys

unfoldable pub is_step_folded : ScanStep → Bool
is_step_folded s = is_folded s.condition && are_folded s.sets

abbrev pub folded_op_test : Op-F Bool Bool → Bool
folded_op_test (Op-F.Where e) = is_folded e
folded_op_test (Op-F.Extend items) = are_folded items
folded_op_test (Op-F.Project items) = are_folded items
folded_op_test (Op-F.Take n) = true
folded_op_test Op-F.Count = true
folded_op_test Op-F.Serialize = true
folded_op_test (Op-F.Sort keys) = are_keys_folded keys
folded_op_test (Op-F.Top n keys) = are_keys_folded keys
folded_op_test (Op-F.Summarize g) = are_folded g.items && are_folded g.keys
folded_op_test (Op-F.MakeSeries p) = list_all (λ (i : SeriesItem). is_folded i.expr) p.items && are_folded p.keys
folded_op_test (Op-F.MvExpand x) = list_all (λ (i : ExpandItem). is_folded i.expr) x.items
folded_op_test (Op-F.Parse p) = is_folded p.text
folded_op_test (Op-F.Join j right) = right
folded_op_test (Op-F.Union inner others) = list_all (λ b. b) others
folded_op_test (Op-F.Scan p) = list_all is_step_folded p.steps
folded_op_test (Op-F.Partition c ops) = list_all (λ b. b) ops

unfoldable pub is_source_folded : Source → Bool
is_source_folded (source.Print items) = are_folded items
is_source_folded _ = true

abbrev pub folded_plan_test : Plan-F Bool Bool → Bool
folded_plan_test p = is_source_folded p.source && list_all (λ b. b) p.ops

unfoldable pub is_op_folded : Op → Bool
is_op_folded = fold-Op Bool Bool folded_op_test folded_plan_test

unfoldable pub is_plan_folded : Plan → Bool
is_plan_folded = fold-Plan Bool Bool folded_op_test folded_plan_test

-- Whether no node of an expression anywhere in a program, its lets or its subplans is a constant, but for literals.
unfoldable pub is_program_folded : Program → Bool
is_program_folded p = list_all is_plan_folded p.lets && is_plan_folded p.main

-- What they become.

abbrev pub folded_item : BItem → BItem
folded_item b = record { names = b.names; expr = folded b.expr }

unfoldable pub folded_items : List BItem → List BItem
folded_items items = map folded_item items

abbrev pub folded_key : BKey → BKey
folded_key k = record { expr = folded k.expr; asc = k.asc; nulls_first = k.nulls_first }

unfoldable pub folded_keys : List BKey → List BKey
folded_keys keys = map folded_key keys

unfoldable pub folded_group : GroupPlan → GroupPlan
folded_group g = record { items = folded_items g.items; keys = folded_items g.keys }

abbrev pub folded_series_item : SeriesItem → SeriesItem
folded_series_item i = record { name = i.name; expr = folded i.expr; default = i.default }

unfoldable pub folded_series : SeriesPlan → SeriesPlan
folded_series p = record { items = map folded_series_item p.items; axis = p.axis; from = p.from; to = p.to; step = p.step; keys = folded_items p.keys }

abbrev pub folded_part : ExpandItem → ExpandItem
folded_part i = record { name = i.name; expr = folded i.expr; to = i.to }

unfoldable pub folded_expand : Expand → Expand
folded_expand x = record { array = x.array; items = map folded_part x.items }

unfoldable pub folded_parse : ParsePlan → ParsePlan
folded_parse p = record { relaxed = p.relaxed; text = folded p.text; pattern = p.pattern }

abbrev pub folded_step : ScanStep → ScanStep
folded_step s = record { name = s.name; output = s.output; condition = folded s.condition; sets = folded_items s.sets }

unfoldable pub folded_scan : ScanPlan → ScanPlan
folded_scan p = record { match_id = p.match_id; declared = p.declared; steps = map folded_step p.steps }

unfoldable pub folded_source : Source → Source
folded_source (source.Print items) = source.Print (folded_items items)
folded_source (source.Table name) = source.Table name
folded_source (source.Let i) = source.Let i
folded_source (source.Range column from to step) = source.Range column from to step

abbrev pub folded_op_step : Op-F Op Plan → Op
folded_op_step (Op-F.Where e) = op.Where (folded e)
folded_op_step (Op-F.Extend items) = op.Extend (folded_items items)
folded_op_step (Op-F.Project items) = op.Project (folded_items items)
folded_op_step (Op-F.Take n) = op.Take n
folded_op_step Op-F.Count = op.Count
folded_op_step Op-F.Serialize = op.Serialize
folded_op_step (Op-F.Sort keys) = op.Sort (folded_keys keys)
folded_op_step (Op-F.Top n keys) = op.Top n (folded_keys keys)
folded_op_step (Op-F.Summarize g) = op.Summarize (folded_group g)
folded_op_step (Op-F.MakeSeries p) = op.MakeSeries (folded_series p)
folded_op_step (Op-F.MvExpand x) = op.MvExpand (folded_expand x)
folded_op_step (Op-F.Parse p) = op.Parse (folded_parse p)
folded_op_step (Op-F.Join j right) = op.Join j right
folded_op_step (Op-F.Union inner others) = op.Union inner others
folded_op_step (Op-F.Scan p) = op.Scan (folded_scan p)
folded_op_step (Op-F.Partition c ops) = op.Partition c ops

abbrev pub folded_plan_step : Plan-F Op Plan → Plan
folded_plan_step p = record { source = folded_source p.source; ops = p.ops }

unfoldable pub folded_op : Op → Op
folded_op = fold-Op Op Plan folded_op_step folded_plan_step

unfoldable pub folded_plan : Plan → Plan
folded_plan = fold-Plan Op Plan folded_op_step folded_plan_step

unfoldable pub folded_program : Program → Program
folded_program p = record { tables = p.tables; lets = map folded_plan p.lets; main = folded_plan p.main }
