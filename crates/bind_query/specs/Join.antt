-- `join` in nine kinds, and `lookup`. Hints are read and ignored.
use Rattle.std.specs.Prelude.{Bool, false, not, ◌||◌, List, [], ◌∷◌, ◌++◌, Option, None, Some, if◌then◌else◌}
use Rattle.kql_cells.specs.declared.schema.Column.{Column}
use Rattle.kql_lexer.specs.declared.place.Place.{Place}
use Rattle.kql_functions.specs.Kinds.{is_dynamic}
use Rattle.kql_bound.specs.declared.parts.JoinKind.{JoinKind}
use Rattle.kql_bound.specs.declared.parts.JoinKind.TheVariants as join
use Rattle.kql_bound.specs.declared.parts.JoinPlan.{JoinPlan}
use Rattle.kql_bound.specs.declared.parts.OnPair.{OnPair}
use Rattle.kql_bound.specs.declared.plan.Op.TheVariants as op
use Rattle.kql_meaning.specs.FittingOperators.{pair_fits}
use Rattle.kql_meaning.specs.Join.{join_columns}
use Rattle.kql_syntax.specs.declared.query.Hint.{Hint}
use Rattle.kql_syntax.specs.declared.query.JoinKind.{JoinKind as WrittenKind}
use Rattle.kql_syntax.specs.declared.query.JoinKind.TheVariants as written
use Rattle.kql_syntax.specs.declared.query.JoinSign.{JoinSign}
use Rattle.kql_syntax.specs.declared.query.On.{On}
use Rattle.kql_syntax.specs.declared.query.On.TheVariants as key
use Rattle.bind_expr.specs.Outcome.{Outcome, ◌>>=◌}
use Rattle.bind_expr.specs.declared.fault.BindFault.{BindFault}
use Rattle.bind_operators.specs.declared.bound.BoundOp.{BoundOp}
use Rattle.bind_operators.specs.declared.bound.BoundPlan.{BoundPlan}
use Rattle.bind_operators.specs.declared.known.Known.{Known}
use Rattle.bind_operators.specs.declared.shape.Shape.{Shape}
use Rattle.bind_operators.specs.Answers.{answer}
use Rattle.bind_operators.specs.Faults.{each_bound, fault_if, unless}
use Rattle.bind_operators.specs.Known.{column_wanted}
use Rattle.bind_operators.specs.Places.{name_place}

-- Kinds.

unfoldable pub join_kind : WrittenKind → JoinKind
join_kind written.InnerUnique = join.InnerUnique
join_kind written.Inner = join.Inner
join_kind written.LeftOuter = join.LeftOuter
join_kind written.RightOuter = join.RightOuter
join_kind written.FullOuter = join.FullOuter
join_kind written.LeftSemi = join.LeftSemi
join_kind written.RightSemi = join.RightSemi
join_kind written.LeftAnti = join.LeftAnti
join_kind written.RightAnti = join.RightAnti

-- A lookup is of kind leftouter but where it is written inner. No text has another kind there.
unfoldable pub lookup_kind : WrittenKind → JoinKind
lookup_kind written.Inner = join.Inner
lookup_kind _ = join.LeftOuter

-- A join without a kind is of kind innerunique, and a lookup of kind leftouter.
unfoldable pub kind_of_join : Bool → Option (JoinSign × List Hint) → JoinKind
kind_of_join lookup None = if lookup then join.LeftOuter else join.InnerUnique
kind_of_join lookup (Some k) = if lookup then lookup_kind k.0.kind else join_kind k.0.kind

-- Keys.

-- Two key columns, of which none is dynamic: 404 at the key.
unfoldable pub pair_wanted : Place → Column → Column → Outcome OnPair
pair_wanted place left right =
    unless (fault_if (is_dynamic left.kind || is_dynamic right.kind) 404 place) (record { left = left.name; right = right.name })

-- The same of columns that may be refused.
unfoldable pub pair_of : Place → Outcome Column → Outcome Column → Outcome OnPair
pair_of place left right = do
  l ← left
  r ← right
  pair_wanted place l r

-- A column of both sides, or `$left.a == $right.b`.
unfoldable pub key_bound : Place → Known → List Column → List Column → On → Outcome OnPair
key_bound operator known left right (key.Column n) = do
  l ← column_wanted operator known left n
  r ← column_wanted operator known right n
  pair_wanted (name_place n) l r
key_bound operator known left right (key.Pair p) = do
  l ← column_wanted operator known left p.left
  r ← column_wanted operator known right p.right
  pair_wanted p.left_place l r

-- The place of a key: its name, or its `$left`.
unfoldable pub key_place : On → Place
key_place (key.Column n) = name_place n
key_place (key.Pair p) = p.left_place

-- 415 at each key whose columns differ in type.
unfoldable pub key_clashes : List Column → List Column → List On → List OnPair → List BindFault
key_clashes left right (k ∷ ks) (p ∷ ps) = fault_if (not (pair_fits left right p)) 415 (key_place k) ++ key_clashes left right ks ps
key_clashes left right _ _ = []

-- The operator.

unfoldable pub join_plan : Bool → Option (JoinSign × List Hint) → List OnPair → JoinPlan
join_plan lookup kind pairs = record { kind = kind_of_join lookup kind; lookup = lookup; «on» = pairs }

unfoldable pub joined : Place → Bool → Shape → BoundPlan → List On → JoinPlan → Outcome BoundOp
joined operator inside rows right keys plan =
    answer operator (fault_if inside 416 operator ++ key_clashes rows.columns right.after.columns keys plan.on)
    (op.Join plan right.plan) (join_columns plan.kind plan rows.columns right.after.columns) false

-- A join with a right table: that first, and then the keys. `inside` tells whether it stands in a subquery.
unfoldable pub join_bound : Place → Bool → Option (JoinSign × List Hint) → List On → Known → Bool → Shape → Outcome BoundPlan → Outcome BoundOp
join_bound operator lookup kind keys known inside rows right = do
  r ← right
  pairs ← each_bound (key_bound operator known rows.columns r.after.columns) keys
  joined operator inside rows r keys (join_plan lookup kind pairs)
