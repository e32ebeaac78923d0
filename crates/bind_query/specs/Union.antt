-- `union` as an operator, over the rows before it, and as a source, over those of its first table.
use Rattle.std.specs.Prelude.{Bool, true, false, not, List, [], ◌∷◌, ◌++◌, Option, None, Some, Ok, Err, map}
use Rattle.std.specs.List.{list_all}
use Rattle.kql_cells.specs.declared.schema.Column.{Column}
use Rattle.kql_lexer.specs.declared.place.Place.{Place}
use Rattle.kql_bound.specs.declared.plan.Op.TheVariants as op
use Rattle.kql_bound.specs.declared.plan.Plan.{Plan}
use Rattle.kql_meaning.specs.FittingOperators.{is_of_type_in}
use Rattle.kql_meaning.specs.Union.{union_columns}
use Rattle.kql_syntax.specs.declared.query.UnionKind.{UnionKind}
use Rattle.kql_syntax.specs.declared.query.UnionKind.TheVariants as union
use Rattle.bind_expr.specs.Outcome.{Outcome, ◌>>=◌}
use Rattle.bind_expr.specs.declared.fault.BindFault.{BindFault}
use Rattle.bind_expr.specs.declared.fault.BindFault.TheVariants as fault
use Rattle.bind_operators.specs.declared.bound.BoundOp.{BoundOp}
use Rattle.bind_operators.specs.declared.bound.BoundPlan.{BoundPlan}
use Rattle.bind_operators.specs.declared.known.Known.{Known}
use Rattle.bind_operators.specs.declared.shape.Shape.{Shape}
use Rattle.bind_operators.specs.Answers.{answer}
use Rattle.bind_operators.specs.Faults.{each_bound, fault_if}
use Rattle.bind_query.specs.Pipes.{BindsArg, UnionParts, with_ops}

-- Outer unless `inner` is given.
unfoldable pub is_inner : Option UnionKind → Bool
is_inner None = false
is_inner (Some (union.Outer place)) = false
is_inner (Some (union.Inner place)) = true

abbrev pub columns_behind : BoundPlan → List Column
columns_behind p = p.after.columns

abbrev pub plan_of : BoundPlan → Plan
plan_of p = p.plan

-- Whether columns of the answer have their types behind a plan, where it has them.
abbrev pub stand_behind : List Column → BoundPlan → Bool
stand_behind columns p = list_all (λ (c : Column). is_of_type_in c p.after.columns) columns

-- 415 at each table that has a column of the answer in another type.
unfoldable pub table_clashes : List Column → List Place → List BoundPlan → List BindFault
table_clashes columns (place ∷ places) (p ∷ ps) =
    fault_if (not (stand_behind columns p)) 415 place ++ table_clashes columns places ps
table_clashes columns _ _ = []

abbrev pub union_answer : Place → Bool → Bool → List Place → List BoundPlan → List Column → Outcome BoundOp
union_answer operator inside inner places others columns =
    answer operator (fault_if inside 416 operator ++ table_clashes columns places others) (op.Union inner (map plan_of others)) columns false

-- Rows united with those of other tables, which stand at these places.
unfoldable pub united : Place → Bool → Bool → Shape → List Place → List BoundPlan → Outcome BoundOp
united operator inside inner rows places others =
    union_answer operator inside inner places others (union_columns inner rows.columns (map columns_behind others))

-- The same of tables that may be refused.
unfoldable pub unites : Place → Bool → Bool → Shape → List Place → Outcome (List BoundPlan) → Outcome BoundOp
unites operator inside inner rows places others = others >>= united operator inside inner rows places

-- The tables of a union, in their order.
unfoldable pub tables_bound : List BindsArg → Known → Bool → Outcome (List BoundPlan)
tables_bound tables known inside = each_bound (λ (t : BindsArg). t.1 known inside) tables

abbrev pub places_of : List BindsArg → List Place
places_of tables = map (λ (t : BindsArg). t.0) tables

unfoldable pub union_bound : Place → UnionParts → Known → Bool → Shape → Outcome BoundOp
union_bound operator u known inside rows = do
  others ← tables_bound u.1 known inside
  united operator inside u.0 rows (places_of u.1) others

unfoldable pub united_plan : BoundPlan → BoundOp → BoundPlan
united_plan first b = with_ops first (record { ops = b.op ∷ []; after = b.after })

-- The first table, with the rows of the others behind its own.
unfoldable pub united_behind : Place → Bool → Bool → List Place → BoundPlan → List BoundPlan → Outcome BoundPlan
united_behind operator inside inner places first others = do
  b ← united operator inside inner first.after places others
  Ok (united_plan first b)

-- The same of tables that may be refused.
unfoldable pub unites_behind : Place → Bool → Bool → List Place → Outcome BoundPlan → Outcome (List BoundPlan) → Outcome BoundPlan
unites_behind operator inside inner places table tables = do
  first ← table
  others ← tables
  united_behind operator inside inner places first others

abbrev pub union_of : Place → Bool → List BindsArg → Known → Bool → Outcome BoundPlan
union_of operator inner [] known inside = Err (fault.Refused 419 operator)
union_of operator inner (t ∷ ts) known inside = do
  first ← t.1 known inside
  others ← tables_bound ts known inside
  b ← united operator inside inner first.after (places_of ts) others
  Ok (united_plan first b)

-- As a source it is its first table, and then `union` of the others. It has one at least; without any it has no columns.
unfoldable pub union_source_bound : Place → UnionParts → Known → Bool → Outcome BoundPlan
union_source_bound operator u known inside = union_of operator u.0 u.1 known inside
