-- When an operator fits the columns of the table before it, and the columns of its answer where it does.
use Rattle.std.specs.Prelude.{ℕ, ◌==◌, nat_le, Bool, true, false, not, ◌&&◌, ◌||◌, List, [], ◌∷◌, ◌++◌, Option, None, Some, is_some, length, map, if◌then◌else◌, ℤ, pos, ◌-ℤ◌}
use Rattle.std.specs.Int.{is_positive}
use Rattle.std.specs.List.{list_all}
use Rattle.kql_cells.specs.declared.schema.Column.{Column}
use Rattle.kql_cells.specs.declared.value.Kind.{Kind}
use Rattle.kql_cells.specs.declared.value.Kind.TheVariants as kind
use Rattle.kql_functions.specs.Kinds.{same_kind}
use Rattle.kql_bound.specs.declared.expr.BExpr.{BExpr}
use Rattle.kql_bound.specs.declared.literal.Lit.{Lit}
use Rattle.kql_bound.specs.declared.parts.BItem.{BItem}
use Rattle.kql_bound.specs.declared.parts.BKey.{BKey}
use Rattle.kql_bound.specs.declared.parts.Decl.{Decl}
use Rattle.kql_bound.specs.declared.parts.Expand.{Expand}
use Rattle.kql_bound.specs.declared.parts.ExpandItem.{ExpandItem}
use Rattle.kql_bound.specs.declared.parts.GroupPlan.{GroupPlan}
use Rattle.kql_bound.specs.declared.parts.JoinKind.{JoinKind}
use Rattle.kql_bound.specs.declared.parts.JoinKind.TheVariants as join
use Rattle.kql_bound.specs.declared.parts.JoinPlan.{JoinPlan}
use Rattle.kql_bound.specs.declared.parts.OnPair.{OnPair}
use Rattle.kql_bound.specs.declared.parts.ParsePlan.{ParsePlan}
use Rattle.kql_bound.specs.declared.parts.ScanPlan.{ScanPlan}
use Rattle.kql_bound.specs.declared.parts.ScanStep.{ScanStep}
use Rattle.kql_bound.specs.declared.parts.SeriesItem.{SeriesItem}
use Rattle.kql_bound.specs.declared.parts.SeriesPlan.{SeriesPlan}
use Rattle.kql_meaning.specs.declared.position.Position.{Position}
use Rattle.kql_meaning.specs.declared.position.Position.TheVariants as position
use Rattle.kql_meaning.specs.Expressions.{column_kind, kind_of}
use Rattle.kql_meaning.specs.FittingExpressions.{Scope, call_or_expr_fits, expr_fits, fits_as, has_kind, is_aggregate_call, is_key, is_kind, same_known, scope_of}
use Rattle.kql_meaning.specs.Items.{items_names}
use Rattle.kql_meaning.specs.Results.{result_kinds}
use Rattle.kql_meaning.specs.Literals.{literal_fits}
use Rattle.kql_meaning.specs.Numbers.{count_of_terms}
use Rattle.kql_meaning.specs.Scan.{declared_columns, declared_defaults}
use Rattle.kql_meaning.specs.Sources.{number_in}
use Rattle.kql_meaning.specs.Tables.{absent_row, has_column, is_name_among, names_of}
use Rattle.kql_meaning.specs.Values.{number_of}

-- Columns of an answer.

-- Whether no two names are the same.
unfoldable pub are_distinct : List (List ℕ) → Bool
are_distinct [] = true
are_distinct (n ∷ ns) = not (is_name_among ns n) && are_distinct ns

unfoldable pub is_empty : {X : Type 0} → List X → Bool
is_empty [] = true
is_empty (x ∷ xs) = false

-- The columns of an answer, where an operator fits.
unfoldable pub columns_if : Bool → List Column → Option (List Column)
columns_if fits columns = if fits then Some columns else None

-- The columns that an operator makes, where it fits: there is one, and no two have one name.
unfoldable pub answer_if : Bool → List Column → Option (List Column)
answer_if fits columns = columns_if (fits && (not (is_empty columns) && are_distinct (names_of columns))) columns

-- Items.

-- An item has as many names as its expression has result columns.
unfoldable pub has_its_names : BItem → List Column → Bool
has_its_names b columns = length b.names == length (result_kinds b.expr columns)

-- Items of one result column each, in a position.
unfoldable pub item_fits : Scope → Position → BItem → Bool
item_fits scope at b = expr_fits b.expr scope at && has_its_names b scope.columns

unfoldable pub items_fit : List BItem → List Column → Position → Bool
items_fit items columns at = list_all (item_fits (scope_of columns) at) items

-- An item of `summarize`: an expression of aggregate calls and constants, or one call of several result columns.
unfoldable pub group_item_fits : List Column → BItem → Bool
group_item_fits columns b = call_or_expr_fits b.expr (scope_of columns) position.Group && has_its_names b columns

-- Keys of groups have any type but dynamic.
unfoldable pub key_item_fits : List Column → BItem → Bool
key_item_fits columns b = fits_as is_key b.expr (scope_of columns) position.Plain && has_its_names b columns

-- Where, sort and top.

unfoldable pub where_fits : BExpr → List Column → Bool
where_fits e columns = fits_as (same_kind kind.Bool) e (scope_of columns) position.Window

unfoldable pub sort_key_fits : List Column → BKey → Bool
sort_key_fits columns k = fits_as is_key k.expr (scope_of columns) position.Plain

unfoldable pub sort_fits : List BKey → List Column → Bool
sort_fits keys columns = list_all (sort_key_fits columns) keys

-- Summarize.

unfoldable pub summarize_fits : GroupPlan → List Column → Bool
summarize_fits g columns = list_all (group_item_fits columns) g.items && list_all (key_item_fits columns) g.keys

-- Ranges and series.

-- Whether steps of one type lead through values of another.
unfoldable pub is_step_of : Kind → Kind → Bool
is_step_of kind.Long step = same_kind step kind.Long
is_step_of kind.Moment step = same_kind step kind.Span
is_step_of kind.Span step = same_kind step kind.Span
is_step_of _ step = false

-- Whether a literal is not null.
unfoldable pub is_given : Lit → Bool
is_given l = literal_fits l && is_some (number_of l.value)

-- Whether two ends and a step have types that make a range, and none is null: the ends have one type.
unfoldable pub ends_fit : Lit → Lit → Lit → Bool
ends_fit from to step = is_given from && (is_given to && (is_given step && (same_kind from.kind to.kind && is_step_of from.kind step.kind)))

-- Whether a step is positive, and leads from one end to the other in at most so many terms.
unfoldable pub has_at_most : ℤ → ℤ → ℤ → ℕ → Bool
has_at_most from to step top = is_positive step && nat_le (count_of_terms from to step) top

-- At most 1,000,000 rows.
unfoldable pub range_fits : Lit → Lit → Lit → Bool
range_fits from to step = ends_fit from to step && has_at_most (number_in from) (number_in to) (number_in step) 1000000

-- An item is one call of an aggregate that `make-series` takes, and its default is a constant of the call's type.
unfoldable pub series_item_fits : List Column → SeriesItem → Bool
series_item_fits columns i =
    is_aggregate_call i.expr && (expr_fits i.expr (scope_of columns) position.Series && (literal_fits i.default && is_kind i.default.kind (kind_of i.expr columns)))

-- At most 100,000 bins, of the type of the axis.
unfoldable pub bins_fit : SeriesPlan → List Column → Bool
bins_fit p columns =
    ends_fit p.from p.to p.step && (has_at_most (number_in p.from) (number_in p.to -ℤ pos 1) (number_in p.step) 100000
    && is_kind p.from.kind (column_kind p.axis columns))

unfoldable pub series_fits : SeriesPlan → List Column → Bool
series_fits p columns =
    bins_fit p columns && (list_all (series_item_fits columns) p.items && list_all (key_item_fits columns) p.keys)

-- Mv-expand and parse.

unfoldable pub expand_item_fits : List Column → ExpandItem → Bool
expand_item_fits columns i = fits_as (same_kind kind.Dynamic) i.expr (scope_of columns) position.Plain

unfoldable pub expand_names : List ExpandItem → List (List ℕ)
expand_names items = map (λ (i : ExpandItem). i.name) items

unfoldable pub expand_fits : Expand → List Column → Bool
expand_fits x columns = list_all (expand_item_fits columns) x.items && are_distinct (expand_names x.items)

-- A pattern has at least one item.
unfoldable pub parse_fits : ParsePlan → List Column → Bool
parse_fits p columns = fits_as (same_kind kind.Text) p.text (scope_of columns) position.Plain && not (is_empty p.pattern)

-- Join and union.

-- Keys that are compared have one type, which is not dynamic.
unfoldable pub pair_fits : List Column → List Column → OnPair → Bool
pair_fits left right pair = same_known (column_kind pair.left left) (column_kind pair.right right) && has_kind is_key (column_kind pair.left left)

-- A lookup is of kind leftouter or inner.
unfoldable pub is_lookup_kind : JoinKind → Bool
is_lookup_kind join.LeftOuter = true
is_lookup_kind join.Inner = true
is_lookup_kind _ = false

unfoldable pub join_fits : JoinPlan → List Column → List Column → Bool
join_fits j left right = list_all (pair_fits left right) j.on && (not j.lookup || is_lookup_kind j.kind)

-- Whether these columns have no column of its name, or one of its type.
unfoldable pub is_of_type_in : Column → List Column → Bool
is_of_type_in c columns = not (has_column c.name columns) || is_kind c.kind (column_kind c.name columns)

-- Each column of a union has one type in all tables that have it.
unfoldable pub union_fits : List Column → List (List Column) → Bool
union_fits answer tables = list_all (λ (c : Column). list_all (is_of_type_in c) tables) answer

-- Scan.

-- The names of steps.
unfoldable pub step_names : List ScanStep → List (List ℕ)
step_names steps = map (λ (s : ScanStep). s.name) steps

-- The columns of the input and those that are declared, the steps, and what an absent record gives: of an input column what is absent,
-- and of a declared one its default.
unfoldable pub scan_scope : ScanPlan → List Column → Scope
scan_scope p columns = record {
  columns = columns ++ declared_columns p;
  steps = step_names p.steps;
  defaults = absent_row columns ++ declared_defaults p;
}

-- An assignment is to one of the declared columns, and has its type.
unfoldable pub assigns_one : List Column → Scope → BExpr → List ℕ → Bool
assigns_one declared scope e n = expr_fits e scope position.Plain && same_known (column_kind n declared) (kind_of e scope.columns)

unfoldable pub assigns : List Column → Scope → BExpr → List (List ℕ) → Bool
assigns declared scope e [] = false
assigns declared scope e (n ∷ ns) = is_empty ns && assigns_one declared scope e n

unfoldable pub set_fits : List Column → Scope → BItem → Bool
set_fits declared scope b = assigns declared scope b.expr b.names

-- A condition is a bool, and no two assignments of a step are to one column.
unfoldable pub scan_step_fits : List Column → Scope → ScanStep → Bool
scan_step_fits declared scope s =
    fits_as (same_kind kind.Bool) s.condition scope position.Plain && (list_all (set_fits declared scope) s.sets
    && are_distinct (items_names s.sets))

unfoldable pub defaults_fit : List Decl → Bool
defaults_fit declared = list_all (λ (d : Decl). literal_fits d.default) declared

unfoldable pub scan_fits : ScanPlan → List Column → Bool
scan_fits p columns =
    defaults_fit p.declared && (are_distinct (step_names p.steps)
    && list_all (scan_step_fits (declared_columns p) (scan_scope p columns)) p.steps)
