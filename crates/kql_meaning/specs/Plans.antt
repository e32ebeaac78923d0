-- What a plan and a program mean: the source, and then each operator over the table before it.
use Rattle.std.specs.Prelude.{List, [], ◌∷◌, ◌++◌, fold, map}
use Rattle.kql_cells.specs.Table.{Grid}
use Rattle.kql_cells.specs.Catalogues.{Named}
use Rattle.kql_bound.specs.declared.plan.Op.{Op, fold-Op}
use Rattle.kql_bound.specs.declared.plan.Op.TheOpen.{Op-F, Plan-F}
use Rattle.kql_bound.specs.declared.plan.Plan.{Plan, fold-Plan}
use Rattle.kql_bound.specs.declared.plan.Program.{Program}
use Rattle.kql_bound.specs.declared.plan.Source.{Source}
use Rattle.kql_bound.specs.declared.plan.Source.TheVariants as source
use Rattle.kql_meaning.specs.Extend.{extend_table}
use Rattle.kql_meaning.specs.Join.{join_table}
use Rattle.kql_meaning.specs.MakeSeries.{series_table}
use Rattle.kql_meaning.specs.MvExpand.{expand_table}
use Rattle.kql_meaning.specs.Parse.{parse_table}
use Rattle.kql_meaning.specs.Partition.{partition_table}
use Rattle.kql_meaning.specs.Project.{project_table}
use Rattle.kql_meaning.specs.Scan.{scan_table}
use Rattle.kql_meaning.specs.Sort.{sort_table, top_table}
use Rattle.kql_meaning.specs.Sources.{let_table, named_table, print_table, range_table}
use Rattle.kql_meaning.specs.Summarize.{summarize_table}
use Rattle.kql_meaning.specs.TakeAndCount.{count_table, take_table}
use Rattle.kql_meaning.specs.Union.{union_table}
use Rattle.kql_meaning.specs.Where.{where_table}

-- The tables that a plan is read with: those that were handed in, and those of the lets before it.
pub record World : Type 0 where
  pub tables : List Named
  pub lets : List Grid

-- What a plan gives, and what an operator makes of the table before it.
abbrev pub Gives : Type 0
Gives = World → Grid

abbrev pub Makes : Type 0
Makes = World → Grid → Grid

-- A source.
unfoldable pub source_table : Source → World → Grid
source_table (source.Table name) w = named_table w.tables name
source_table (source.Let i) w = let_table w.lets i
source_table (source.Range column from to step) w = range_table column from to step
source_table (source.Print items) w = print_table items

-- Operators, each over what the one before it made.
unfoldable pub one_after_another : List Makes → World → Grid → Grid
one_after_another ops w t = fold (λ before (op : Makes). op w before) t ops

-- An operator, from what the operators and plans in it mean.
abbrev pub op_step : Op-F Makes Gives → World → Grid → Grid
op_step (Op-F.Where e) w t = where_table e t
op_step (Op-F.Extend items) w t = extend_table items t
op_step (Op-F.Project items) w t = project_table items t
op_step (Op-F.Take n) w t = take_table n t
op_step Op-F.Count w t = count_table t
op_step Op-F.Serialize w t = t
op_step (Op-F.Sort keys) w t = sort_table keys t
op_step (Op-F.Top n keys) w t = top_table n keys t
op_step (Op-F.Summarize g) w t = summarize_table g t
op_step (Op-F.MakeSeries s) w t = series_table s t
op_step (Op-F.MvExpand x) w t = expand_table x t
op_step (Op-F.Parse p) w t = parse_table p t
op_step (Op-F.Join j right) w t = join_table j t (right w)
op_step (Op-F.Union inner others) w t = union_table inner t (map (λ (plan : Gives). plan w) others)
op_step (Op-F.Scan s) w t = scan_table s t
op_step (Op-F.Partition column ops) w t = partition_table column (one_after_another ops w) t

abbrev pub plan_step : Plan-F Makes Gives → World → Grid
plan_step p w = one_after_another p.ops w (source_table p.source w)

-- What an operator makes of the table before it.
unfoldable pub op_means : Op → World → Grid → Grid
op_means = fold-Op Makes Gives op_step plan_step

-- The table of a plan.
unfoldable pub plan_means : Plan → World → Grid
plan_means = fold-Plan Makes Gives op_step plan_step

-- The tables of the lets, evaluated in order: each stands as a table for what follows.
unfoldable pub lets_mean : List Plan → List Named → List Grid
lets_mean lets tables = fold (λ done p. done ++ plan_means p (record { tables = tables; lets = done }) ∷ []) [] lets

-- The table of a program over a catalogue.
unfoldable pub means : Program → List Named → Grid
means p catalogue = plan_means p.main (record { tables = catalogue; lets = lets_mean p.lets catalogue })
