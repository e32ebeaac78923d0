-- The places that stand in the tree of a query: of statements, operators, names, words of types, and of the expressions in them. The words of
-- kinds and orders and the hints, at which nothing is refused, are left out.
use Rattle.std.specs.Prelude.{◌≡◌, ℕ, ℤ, List, [], ◌∷◌, ◌++◌, Contains, Err, Option, None, Some}
use Rattle.std.specs.List.{flat_map}
use Rattle.kql_cells.specs.declared.schemas.NamedSchema.{NamedSchema}
use Rattle.kql_syntax.specs.declared.query.ColumnOp.{ColumnOp}
use Rattle.kql_syntax.specs.declared.query.ColumnOp.TheVariants as column_op
use Rattle.kql_syntax.specs.declared.query.Decl.{Decl}
use Rattle.kql_syntax.specs.declared.query.Distinct.{Distinct}
use Rattle.kql_syntax.specs.declared.query.Distinct.TheVariants as distinct
use Rattle.kql_syntax.specs.declared.query.Expand.{Expand}
use Rattle.kql_syntax.specs.declared.query.GroupOp.{GroupOp}
use Rattle.kql_syntax.specs.declared.query.GroupOp.TheVariants as group_op
use Rattle.kql_syntax.specs.declared.query.Groups.{Groups}
use Rattle.kql_syntax.specs.declared.query.Groups.TheVariants as groups
use Rattle.kql_syntax.specs.declared.query.Item.{Item}
use Rattle.kql_syntax.specs.declared.query.Join.{Join}
use Rattle.kql_syntax.specs.declared.query.Key.{Key}
use Rattle.kql_syntax.specs.declared.query.Let.{Let}
use Rattle.kql_syntax.specs.declared.query.LetBody.{LetBody}
use Rattle.kql_syntax.specs.declared.query.LetBody.TheVariants as body
use Rattle.kql_syntax.specs.declared.query.MakeSeries.{MakeSeries}
use Rattle.kql_syntax.specs.declared.query.On.{On}
use Rattle.kql_syntax.specs.declared.query.On.TheVariants as on
use Rattle.kql_syntax.specs.declared.query.Op.TheOpen.{Join-F, Op-F, Partition-F, Pipe-F, Source-F, TableArg-F, TableOp-F, Union-F}
use Rattle.kql_syntax.specs.declared.query.Partition.{Partition}
use Rattle.kql_syntax.specs.declared.query.Pat.{Pat}
use Rattle.kql_syntax.specs.declared.query.Pat.TheVariants as pat
use Rattle.kql_syntax.specs.declared.query.Pipe.{Pipe, fold-Pipe}
use Rattle.kql_syntax.specs.declared.query.Query.{Query}
use Rattle.kql_syntax.specs.declared.query.Range.{Range}
use Rattle.kql_syntax.specs.declared.query.RowOp.{RowOp}
use Rattle.kql_syntax.specs.declared.query.RowOp.TheVariants as row_op
use Rattle.kql_syntax.specs.declared.query.Scan.{Scan}
use Rattle.kql_syntax.specs.declared.query.Series.{Series}
use Rattle.kql_syntax.specs.declared.query.Source.{Source}
use Rattle.kql_syntax.specs.declared.query.Step.{Step}
use Rattle.kql_syntax.specs.declared.query.Summarize.{Summarize}
use Rattle.kql_syntax.specs.declared.query.TableArg.{TableArg}
use Rattle.kql_syntax.specs.declared.query.TableOp.{TableOp}
use Rattle.kql_syntax.specs.declared.query.Union.{Union}
use Rattle.kql_syntax.specs.declared.tree.Expr.{Expr}
use Rattle.kql_syntax.specs.declared.tree.Name.{Name}
use Rattle.kql_syntax.specs.declared.tree.Word.{Word}
use Rattle.kql_lexer.specs.declared.place.Place.{Place}
use Rattle.bind_expr.specs.declared.fault.BindFault.TheVariants as fault
use Rattle.bind_expr_laws.specs.Places.{Places, expr_places}
use Rattle.bind_operators.specs.Places.{name_place}
use Rattle.bind_query.specs.Bound.{bound}

-- Parts.

abbrev pub one_place : Name → Places
one_place n = name_place n ∷ []

abbrev pub names_places : List Name → Places
names_places names = flat_map one_place names

abbrev pub named_places : Option Name → Places
named_places None = []
named_places (Some n) = one_place n

abbrev pub given_places : Option Expr → Places
given_places None = []
given_places (Some e) = expr_places e

abbrev pub word_places : Option Word → Places
word_places None = []
word_places (Some w) = w.place ∷ []

abbrev pub item_places : Item → Places
item_places item = named_places item.name ++ expr_places item.value

abbrev pub items_places : List Item → Places
items_places items = flat_map item_places items

abbrev pub key_places : Key → Places
key_places k = expr_places k.value

abbrev pub rename_places : Name × Name → Places
rename_places r = name_place r.0 ∷ name_place r.1 ∷ []

-- Operators without tables in them.

abbrev pub column_op_places : ColumnOp → Places
column_op_places (column_op.Where operator e) = operator ∷ expr_places e
column_op_places (column_op.Extend operator items) = operator ∷ items_places items
column_op_places (column_op.Project operator items) = operator ∷ items_places items
column_op_places (column_op.Serialize operator items) = operator ∷ items_places items
column_op_places (column_op.ProjectAway operator names) = operator ∷ names_places names
column_op_places (column_op.ProjectKeep operator names) = operator ∷ names_places names
column_op_places (column_op.ProjectRename operator renames) = operator ∷ flat_map rename_places renames

abbrev pub distinct_places : Distinct → Places
distinct_places (distinct.Star star) = star ∷ []
distinct_places (distinct.Columns names) = names_places names

abbrev pub row_op_places : RowOp → Places
row_op_places (row_op.Take operator e) = operator ∷ expr_places e
row_op_places (row_op.Limit operator e) = operator ∷ expr_places e
row_op_places (row_op.Count operator) = operator ∷ []
row_op_places (row_op.Sort operator keys) = operator ∷ flat_map key_places keys
row_op_places (row_op.Order operator keys) = operator ∷ flat_map key_places keys
row_op_places (row_op.Top operator t) = operator ∷ (expr_places t.0 ++ key_places t.1)
row_op_places (row_op.Distinct operator d) = operator ∷ distinct_places d

abbrev pub groups_places : Groups → Places
groups_places (groups.Aggregates items keys) = items_places items ++ items_places keys
groups_places (groups.Keys keys) = items_places keys

abbrev pub series_places : Series → Places
series_places s = item_places s.item ++ given_places s.default

abbrev pub make_series_places : MakeSeries → Places
make_series_places s = flat_map series_places s.items ++ name_place s.axis ∷ (expr_places s.from ++ (expr_places s.to ++ (expr_places s.step ++ items_places s.keys)))

abbrev pub expand_places : Expand → Places
expand_places x = item_places x.item ++ word_places x.to

abbrev pub pat_places : Pat → Places
pat_places (pat.Star place) = place ∷ []
pat_places (pat.Text place text) = place ∷ []
pat_places (pat.Column n word) = name_place n ∷ word_places word

abbrev pub group_op_places : GroupOp → Places
group_op_places (group_op.Summarize operator s) = operator ∷ groups_places s.groups
group_op_places (group_op.MakeSeries operator s) = operator ∷ make_series_places s
group_op_places (group_op.MvExpand operator form items) = operator ∷ flat_map expand_places items
group_op_places (group_op.Parse operator form e pattern) = operator ∷ (expr_places e ++ flat_map pat_places pattern)

-- Scans, keys of joins, and ranges.

abbrev pub decl_places : Decl → Places
decl_places d = name_place d.name ∷ d.kind.place ∷ given_places d.default

abbrev pub set_places : Name × Expr → Places
set_places a = name_place a.0 ∷ expr_places a.1

abbrev pub step_places : Step → Places
step_places s = s.place ∷ name_place s.name ∷ (expr_places s.condition ++ flat_map set_places s.sets)

abbrev pub scan_places : Scan → Places
scan_places s = named_places s.match_id ++ (flat_map decl_places s.declared ++ flat_map step_places s.steps)

abbrev pub on_places : On → Places
on_places (on.Column n) = one_place n
on_places (on.Pair p) = p.left_place ∷ name_place p.left ∷ p.sign ∷ p.right_place ∷ one_place p.right

abbrev pub range_places : Range → Places
range_places r = name_place r.column ∷ (expr_places r.from ++ (expr_places r.to ++ expr_places r.step))

-- Those of several parts.
abbrev pub all_places : List Places → Places
all_places parts = flat_map (λ (ps : Places). ps) parts

-- Pipes, from the places of the operators and pipes in them.

abbrev pub op_places_step : Op-F Places Places Places Places Places Places Places Places → Places
op_places_step (Op-F.Columns o) = column_op_places o
op_places_step (Op-F.Rows o) = row_op_places o
op_places_step (Op-F.Groups o) = group_op_places o
op_places_step (Op-F.Tables o) = o

abbrev pub table_op_places_step : TableOp-F Places Places Places Places Places Places Places Places → Places
table_op_places_step (TableOp-F.Join operator j) = operator ∷ j
table_op_places_step (TableOp-F.Lookup operator j) = operator ∷ j
table_op_places_step (TableOp-F.«TableOp::Union» operator u) = operator ∷ u
table_op_places_step (TableOp-F.Scan operator s) = operator ∷ scan_places s
table_op_places_step (TableOp-F.Partition operator p) = operator ∷ p

abbrev pub join_places_step : Join-F Places Places Places Places Places Places Places Places → Places
join_places_step j = j.table ++ flat_map on_places j.on

abbrev pub partition_places_step : Partition-F Places Places Places Places Places Places Places Places → Places
partition_places_step p = name_place p.column ∷ all_places p.ops

abbrev pub union_places_step : Union-F Places Places Places Places Places Places Places Places → Places
union_places_step u = all_places u.tables

abbrev pub arg_places_step : TableArg-F Places Places Places Places Places Places Places Places → Places
arg_places_step (TableArg-F.«TableArg::Table» n) = one_place n
arg_places_step (TableArg-F.Pipe place p) = place ∷ p

abbrev pub source_places_step : Source-F Places Places Places Places Places Places Places Places → Places
source_places_step (Source-F.«Source::Table» n) = one_place n
source_places_step (Source-F.Range operator r) = operator ∷ range_places r
source_places_step (Source-F.Print operator items) = operator ∷ items_places items
source_places_step (Source-F.«Source::Union» operator u) = operator ∷ u

abbrev pub pipe_places_step : Pipe-F Places Places Places Places Places Places Places Places → Places
pipe_places_step p = p.source ++ all_places p.ops

unfoldable pub pipe_places : Pipe → Places
pipe_places = fold-Pipe Places Places Places Places Places Places Places Places op_places_step source_places_step arg_places_step table_op_places_step join_places_step partition_places_step pipe_places_step union_places_step

-- Statements.

abbrev pub body_places : LetBody → Places
body_places (body.Pipe p) = pipe_places p
body_places (body.Expr e) = expr_places e

abbrev pub let_places : Let → Places
let_places l = l.place ∷ name_place l.name ∷ body_places l.body

-- All places of a query: of its statements, operators, names, words and expressions.
unfoldable pub query_places : Query → Places
query_places q = flat_map let_places q.lets ++ pipe_places q.main

-- A query that is refused is refused at a place that stands in it.
abbrev pub RefusedIsPlaced : Type 0
RefusedIsPlaced = (q : Query) (schemas : List NamedSchema) (moment : Option ℤ) (code : ℕ) (place : Place) → bound q schemas moment ≡ Err (fault.Refused code place) → Contains (query_places q) place
