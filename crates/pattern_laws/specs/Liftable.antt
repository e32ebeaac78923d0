-- When a program can be lifted: pattern calls stand in the prefixes of plans over a table and read string columns of it that were not
-- set before, and no name begins with the marks. This is what binding gives of a program, and what is asked of the marks.
use Rattle.std.specs.Prelude.{ℕ, Bool, true, false, not, ◌&&◌, List, [], ◌∷◌, Option, None, Some, filter, map}
use Rattle.std.specs.List.{list_all}
use Rattle.kql_cells.specs.declared.schema.Column.{Column}
use Rattle.kql_cells.specs.declared.schemas.NamedSchema.{NamedSchema}
use Rattle.kql_cells.specs.declared.value.Kind.TheVariants as kind
use Rattle.kql_functions.specs.Kinds.{same_kind}
use Rattle.kql_bound.specs.declared.expr.BExpr.{BExpr, fold-BExpr}
use Rattle.kql_bound.specs.declared.expr.BExpr.TheOpen.{BExpr-F}
use Rattle.kql_bound.specs.declared.expr.ChainSign.{ChainSign}
use Rattle.kql_bound.specs.declared.parts.BItem.{BItem}
use Rattle.kql_bound.specs.declared.plan.Op.{Op, out-Op, para-Op}
use Rattle.kql_bound.specs.declared.plan.Op.TheOpen.{Op-F, Plan-F}
use Rattle.kql_bound.specs.declared.plan.Plan.{Plan, para-Plan}
use Rattle.kql_bound.specs.declared.plan.Program.{Program}
use Rattle.kql_bound.specs.declared.plan.Source.TheVariants as source
use Rattle.kql_meaning.specs.FittingOperators.{are_distinct}
use Rattle.pattern_lift.specs.Calls.{calls_are_lent}
use Rattle.pattern_lift.specs.Marks.{begins_with}
use Rattle.pattern_lift.specs.Derived.{columns_of_table}
use Rattle.pattern_lift.specs.Prefixes.{behind, left_of, names_set, prefix, sets, table_read}

abbrev pub readable_step : List ℕ → BExpr-F Bool → Bool
readable_step marks (BExpr-F.Literal l) = true
readable_step marks (BExpr-F.Column n) = not (begins_with marks n)
readable_step marks (BExpr-F.Step c) = true
readable_step marks (BExpr-F.Call f args) = list_all (λ b. b) args
readable_step marks (BExpr-F.Chain first links) = first && list_all (λ (l : ChainSign × Bool). l.1) links
readable_step marks (BExpr-F.Path whole steps) = whole && list_all (λ b. b) steps
readable_step marks (BExpr-F.Window f args) = list_all (λ b. b) args
readable_step marks (BExpr-F.Aggregate f args) = false

-- Whether no column that it reads begins with the marks, and no aggregate stands in it.
unfoldable pub is_readable : List ℕ → BExpr → Bool
is_readable marks = fold-BExpr Bool (readable_step marks)

-- Prefixes.

unfoldable pub is_own_name : List ℕ → List (List ℕ) → Bool
is_own_name marks (n ∷ []) = not (begins_with marks n)
is_own_name marks _ = false

-- An item has one name, which does not begin with the marks.
unfoldable pub item_is_liftable : List ℕ → List (List ℕ) → BItem → Bool
item_is_liftable marks lent b = is_own_name marks b.names && (calls_are_lent lent b.expr && is_readable marks b.expr)

abbrev pub op_liftable_step : List ℕ → List (List ℕ) → Op-F Op Plan → Bool
op_liftable_step marks lent (Op-F.Where e) = calls_are_lent lent e && is_readable marks e
op_liftable_step marks lent (Op-F.Extend items) = list_all (item_is_liftable marks lent) items && are_distinct (names_set items)
op_liftable_step marks lent _ = false

-- An operator of a prefix, where these columns are lent to its calls.
unfoldable pub op_is_liftable : List ℕ → List (List ℕ) → Op → Bool
op_is_liftable marks lent o = op_liftable_step marks lent (out-Op o)

-- A prefix: what an operator sets is not lent to those behind it.
unfoldable pub prefix_is_liftable : List ℕ → List (List ℕ) → List Op → Bool
prefix_is_liftable marks lent [] = true
prefix_is_liftable marks lent (o ∷ os) = op_is_liftable marks lent o && prefix_is_liftable marks (left_of lent (sets o)) os

-- Plans.

-- Outside of a prefix `where` and `extend` hold no calls.
abbrev pub no_calls_step : Op-F Op Plan → Bool
no_calls_step (Op-F.Where e) = calls_are_lent [] e
no_calls_step (Op-F.Extend items) = list_all (λ (b : BItem). calls_are_lent [] b.expr) items
no_calls_step _ = true

unfoldable pub has_no_calls : Op → Bool
has_no_calls o = no_calls_step (out-Op o)

-- The string columns of a table.
unfoldable pub text_columns : List Column → List (List ℕ)
text_columns columns = map (λ (c : Column). c.name) (filter (λ (c : Column). same_kind c.kind kind.Text) columns)

-- The operators of a plan over a table of these columns, or over none.
unfoldable pub ops_are_liftable : List ℕ → Option (List Column) → List Op → Bool
ops_are_liftable marks None ops = list_all has_no_calls ops
ops_are_liftable marks (Some columns) ops = prefix_is_liftable marks (text_columns columns) (prefix ops) && list_all has_no_calls (behind ops)

abbrev pub columns_read : List NamedSchema → Option (List ℕ) → Option (List Column)
columns_read tables None = None
columns_read tables (Some name) = Some (columns_of_table tables name)

abbrev pub source_is_own : List ℕ → Option (List ℕ) → Bool
source_is_own marks None = true
source_is_own marks (Some name) = not (begins_with marks name)

abbrev pub OpTest : Type 0
OpTest = Op × Bool

abbrev pub PlanTest : Type 0
PlanTest = Plan × Bool

-- The plans and operators in an operator.
abbrev pub within_step : Op-F OpTest PlanTest → Bool
within_step (Op-F.Join j right) = right.1
within_step (Op-F.Union inner others) = list_all (λ (p : PlanTest). p.1) others
within_step (Op-F.Partition c ops) = list_all (λ (o : OpTest). has_no_calls o.0 && o.1) ops
within_step _ = true

abbrev pub plan_liftable_step : List ℕ → List NamedSchema → Plan-F OpTest PlanTest → Bool
plan_liftable_step marks tables p =
    source_is_own marks (table_read p.source) && (ops_are_liftable marks (columns_read tables (table_read p.source)) (map (λ (o : OpTest). o.0) p.ops)
    && list_all (λ (o : OpTest). o.1) p.ops)

unfoldable pub within_is_liftable : List ℕ → List NamedSchema → Op → Bool
within_is_liftable marks tables = para-Op Bool Bool within_step (plan_liftable_step marks tables)

unfoldable pub plan_is_liftable : List ℕ → List NamedSchema → Plan → Bool
plan_is_liftable marks tables = para-Plan Bool Bool within_step (plan_liftable_step marks tables)

unfoldable pub program_is_liftable : List ℕ → Program → Bool
program_is_liftable marks p = list_all (plan_is_liftable marks p.tables) p.lets && plan_is_liftable marks p.tables p.main
