-- Operators one after another, each over the rows behind the one before it.
use Rattle.std.specs.Prelude.{Bool, List, [], ◌∷◌, ◌++◌, Ok, fold}
use Rattle.kql_lexer.specs.declared.place.Place.{Place}
use Rattle.kql_bound.specs.declared.plan.Op.{Op}
use Rattle.kql_bound.specs.declared.plan.Plan.{Plan, out-Plan, roll-Plan}
use Rattle.bind_expr.specs.Outcome.{Outcome, ◌>>=◌}
use Rattle.bind_operators.specs.declared.bound.BoundOp.{BoundOp}
use Rattle.bind_query.specs.declared.bound.BoundOps.{BoundOps}
use Rattle.bind_operators.specs.declared.bound.BoundPlan.{BoundPlan}
use Rattle.bind_operators.specs.declared.known.Known.{Known}
use Rattle.bind_operators.specs.declared.shape.Shape.{Shape}

-- What an operator is bound to: under what is known, in a subquery or not, and over the rows before it.
abbrev pub BindsOp : Type 0
BindsOp = Known → Bool → Shape → Outcome BoundOp

-- And a pipe.
abbrev pub BindsPlan : Type 0
BindsPlan = Known → Bool → Outcome BoundPlan

-- A table argument: its place, and its plan. A union: whether it is inner, and its tables.
abbrev pub BindsArg : Type 0
BindsArg = Place × BindsPlan

abbrev pub UnionParts : Type 0
UnionParts = Bool × List BindsArg

abbrev pub with_op : BoundOps → BoundOp → BoundOps
with_op done b = record { ops = done.ops ++ b.op ∷ []; after = b.after }

-- One operator more.
unfoldable pub next_op : BindsOp → Known → Bool → Outcome BoundOps → Outcome BoundOps
next_op op known inside before = do
  done ← before
  b ← op known inside done.after
  Ok (with_op done b)

-- What it adds to the operators before it.
unfoldable pub op_added : List Op → Outcome BoundOp → Outcome BoundOps
op_added ops next = do
  b ← next
  Ok (record { ops = ops ++ b.op ∷ []; after = b.after })

unfoldable pub no_ops : Shape → BoundOps
no_ops rows = record { ops = []; after = rows }

unfoldable pub ops_over : List BindsOp → Known → Bool → Shape → Outcome BoundOps
ops_over ops known inside rows = fold (λ before (op : BindsOp). next_op op known inside before) (Ok (no_ops rows)) ops

-- A plan with more operators at its end.
abbrev pub longer : Plan → List Op → Plan
longer p ops = roll-Plan (record { source = (out-Plan p).source; ops = (out-Plan p).ops ++ ops })

unfoldable pub with_ops : BoundPlan → BoundOps → BoundPlan
with_ops p done = record { plan = longer p.plan done.ops; after = done.after }

-- A plan, and the operators behind it.
unfoldable pub ops_added : Plan → Outcome BoundOps → Outcome BoundPlan
ops_added p behind = do
  done ← behind
  Ok (record { plan = longer p done.ops; after = done.after })

-- A source, and the operators over it.
unfoldable pub piped : Outcome BoundPlan → List BindsOp → Known → Bool → Outcome BoundPlan
piped source ops known inside = do
  p ← source
  done ← ops_over ops known inside p.after
  Ok (with_ops p done)
