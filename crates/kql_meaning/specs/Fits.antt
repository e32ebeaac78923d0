-- When a program fits the schemas of the tables that it reads: its tables stand there with exactly its columns, and each operator fits
-- the columns of the table before it.
use Rattle.std.specs.Prelude.{ℕ, Bool, true, false, ◌&&◌, List, [], ◌∷◌, ◌++◌, Option, None, Some, bytes_eq, find, fold, is_some, map, option_and_then, option_map, slice_get, if◌then◌else◌}
use Rattle.std.specs.List.{list_all}
use Rattle.kql_cells.specs.Catalogues.{schema_name}
use Rattle.kql_cells.specs.declared.schemas.NamedSchema.{NamedSchema}
use Rattle.kql_cells.specs.declared.schema.Column.{Column}
use Rattle.kql_functions.specs.Kinds.{same_kind}
use Rattle.kql_bound.specs.declared.parts.JoinPlan.{JoinPlan}
use Rattle.kql_bound.specs.declared.plan.Op.{Op, fold-Op}
use Rattle.kql_bound.specs.declared.plan.Op.TheOpen.{Op-F, Plan-F}
use Rattle.kql_bound.specs.declared.plan.Plan.{Plan, fold-Plan}
use Rattle.kql_bound.specs.declared.plan.Program.{Program}
use Rattle.kql_bound.specs.declared.plan.Source.{Source}
use Rattle.kql_bound.specs.declared.plan.Source.TheVariants as source
use Rattle.kql_meaning.specs.declared.position.Position.TheVariants as position
use Rattle.kql_meaning.specs.Expressions.{column_kind}
use Rattle.kql_meaning.specs.Extend.{extend_columns}
use Rattle.kql_meaning.specs.FittingExpressions.{has_kind, is_key}
use Rattle.kql_meaning.specs.FittingOperators.{answer_if, columns_if, expand_fits, items_fit, join_fits, parse_fits, range_fits, scan_fits, series_fits, sort_fits, summarize_fits, union_fits, where_fits}
use Rattle.kql_meaning.specs.Items.{items_columns}
use Rattle.kql_meaning.specs.Join.{join_columns}
use Rattle.kql_meaning.specs.MakeSeries.{series_columns}
use Rattle.kql_meaning.specs.MvExpand.{expand_columns}
use Rattle.kql_meaning.specs.Parse.{parse_columns}
use Rattle.kql_meaning.specs.Scan.{scan_columns}
use Rattle.kql_meaning.specs.Sources.{range_columns}
use Rattle.kql_meaning.specs.Summarize.{group_columns}
use Rattle.kql_meaning.specs.TakeAndCount.{count_columns}
use Rattle.kql_meaning.specs.Union.{union_columns}

-- What a plan may name: the tables of the program, and the lets before it.
pub record Known : Type 0 where
  pub tables : List NamedSchema
  pub lets : List (List Column)

abbrev pub known_of : List NamedSchema → List (List Column) → Known
known_of tables lets = record { tables = tables; lets = lets }

-- The columns of a plan, and those that an operator makes of the columns before it, where they fit. The Bool tells whether the operator
-- stands in a subquery of `partition`.
abbrev pub PlanColumns : Type 0
PlanColumns = Known → Option (List Column)

abbrev pub OpColumns : Type 0
OpColumns = Known → Bool → List Column → Option (List Column)

-- The columns of a table of the program.
unfoldable pub table_columns : List NamedSchema → List ℕ → Option (List Column)
table_columns tables name = option_map (λ (s : NamedSchema). s.schema) (find (λ s. bytes_eq (schema_name s) name) tables)

-- The columns of a source.
unfoldable pub source_columns : Source → Known → Option (List Column)
source_columns (source.Table name) known = table_columns known.tables name
source_columns (source.Let i) known = slice_get known.lets i
source_columns (source.Range column from to step) known = answer_if (range_fits from to step) (range_columns column from)
source_columns (source.Print items) known = answer_if (items_fit items [] position.Plain) (items_columns items [])

-- What is made of columns that are there.
unfoldable pub of_columns : Option (List Column) → (List Column → Option (List Column)) → Option (List Column)
of_columns columns make = option_and_then make columns

-- The columns after operators, one after another.
unfoldable pub after_all : List OpColumns → Known → Bool → List Column → Option (List Column)
after_all ops known inside columns = fold (λ before (op : OpColumns). of_columns before (op known inside)) (Some columns) ops

-- The columns of several plans, where all of them fit.
unfoldable pub all_columns : List PlanColumns → Known → Option (List (List Column))
all_columns [] known = Some []
all_columns (p ∷ ps) known = option_and_then (λ one. option_map (λ more. one ∷ more) (all_columns ps known)) (p known)

-- A join with a right plan that has columns.
unfoldable pub joined_columns : JoinPlan → List Column → Option (List Column) → Option (List Column)
joined_columns j left None = None
joined_columns j left (Some right) = answer_if (join_fits j left right) (join_columns j.kind j left right)

-- A union with other plans that have columns.
unfoldable pub united_columns : Bool → List Column → Option (List (List Column)) → Option (List Column)
united_columns inner first None = None
united_columns inner first (Some others) =
    let columns = union_columns inner first others in
    answer_if (union_fits columns (first ∷ others)) columns

-- Something that may not stand in a subquery.
unfoldable pub outside_subqueries : Bool → Option (List Column) → Option (List Column)
outside_subqueries inside columns = if inside then None else columns

-- Columns by a key, where it fits.
unfoldable pub by_key : Bool → Option (List Column) → Option (List Column)
by_key fits columns = if fits then columns else None

-- An operator, from the operators and plans in it. `partition`, `join`, `lookup` and `union` do not stand in a subquery, and the key of a
-- partition is a column whose type is not dynamic.
abbrev pub op_columns_step : Op-F OpColumns PlanColumns → Known → Bool → List Column → Option (List Column)
op_columns_step (Op-F.Where e) known inside columns = columns_if (where_fits e columns) columns
op_columns_step (Op-F.Extend items) known inside columns = answer_if (items_fit items columns position.Window) (extend_columns items columns)
op_columns_step (Op-F.Project items) known inside columns = answer_if (items_fit items columns position.Window) (items_columns items columns)
op_columns_step (Op-F.Take n) known inside columns = Some columns
op_columns_step Op-F.Count known inside columns = Some count_columns
op_columns_step Op-F.Serialize known inside columns = Some columns
op_columns_step (Op-F.Sort keys) known inside columns = columns_if (sort_fits keys columns) columns
op_columns_step (Op-F.Top n keys) known inside columns = columns_if (sort_fits keys columns) columns
op_columns_step (Op-F.Summarize g) known inside columns = answer_if (summarize_fits g columns) (group_columns g columns)
op_columns_step (Op-F.MakeSeries p) known inside columns = answer_if (series_fits p columns) (series_columns p columns)
op_columns_step (Op-F.MvExpand x) known inside columns = answer_if (expand_fits x columns) (expand_columns x columns)
op_columns_step (Op-F.Parse p) known inside columns = answer_if (parse_fits p columns) (parse_columns p columns)
op_columns_step (Op-F.Join j right) known inside columns = outside_subqueries inside (joined_columns j columns (right known))
op_columns_step (Op-F.Union inner others) known inside columns =
    outside_subqueries inside (united_columns inner columns (all_columns others known))
op_columns_step (Op-F.Scan p) known inside columns = answer_if (scan_fits p columns) (scan_columns p columns)
op_columns_step (Op-F.Partition c ops) known inside columns =
    outside_subqueries inside (by_key (has_kind is_key (column_kind c columns)) (after_all ops known true columns))

abbrev pub plan_columns_step : Plan-F OpColumns PlanColumns → Known → Option (List Column)
plan_columns_step p known = of_columns (source_columns p.source known) (after_all p.ops known false)

unfoldable pub op_columns : Op → Known → Bool → List Column → Option (List Column)
op_columns = fold-Op OpColumns PlanColumns op_columns_step plan_columns_step

-- The columns of a plan that fits; none of one that does not.
unfoldable pub plan_columns : Plan → Known → Option (List Column)
plan_columns = fold-Plan OpColumns PlanColumns op_columns_step plan_columns_step

-- The columns after operators, and those of several plans.
unfoldable pub ops_columns : List Op → Known → Bool → List Column → Option (List Column)
ops_columns ops known inside columns = after_all (map op_columns ops) known inside columns

unfoldable pub plans_columns : List Plan → Known → Option (List (List Column))
plans_columns plans known = all_columns (map plan_columns plans) known

-- The columns of the lets, each of which may name those before it.
unfoldable pub let_after : List NamedSchema → Option (List (List Column)) → Plan → Option (List (List Column))
let_after tables before p = option_and_then (λ lets. option_map (λ columns. lets ++ columns ∷ []) (plan_columns p (known_of tables lets))) before

unfoldable pub lets_columns : List Plan → List NamedSchema → Option (List (List Column))
lets_columns lets tables = fold (let_after tables) (Some []) lets

-- Whether columns are the same, name by name and type by type.
unfoldable pub same_columns : List Column → List Column → Bool
same_columns [] [] = true
same_columns (c ∷ cs) (d ∷ ds) = bytes_eq c.name d.name && (same_kind c.kind d.kind && same_columns cs ds)
same_columns _ _ = false

-- Whether a table of the program has these columns.
unfoldable pub has_columns : NamedSchema → Option (List Column) → Bool
has_columns s None = false
has_columns s (Some columns) = same_columns s.schema columns

-- Whether each table of the program stands in the schemas with exactly its columns.
unfoldable pub tables_stand : List NamedSchema → List NamedSchema → Bool
tables_stand tables schemas = list_all (λ (s : NamedSchema). has_columns s (table_columns schemas s.name)) tables

-- The columns of a program's answer, where its plans fit its own tables.
unfoldable pub program_columns : Program → Option (List Column)
program_columns p = option_and_then (λ lets. plan_columns p.main (known_of p.tables lets)) (lets_columns p.lets p.tables)

-- Whether a program fits these schemas. It does not look at whether rows are serialised, which is a matter of the query as written.
unfoldable pub fits : Program → List NamedSchema → Bool
fits p schemas = tables_stand p.tables schemas && is_some (program_columns p)
