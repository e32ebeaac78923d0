use Rattle.std.proofs.Common.{◌≡◌, take}
use Rattle.kql_meaning.specs.Fits.{known_of}
use Rattle.plan_columns.specs.Made.{ops_make, plans_make}
use Rattle.plan_columns.proofs.columns.+plan_makes.Given as goal

abbrev pub invariant-ops_make-loop-op : goal.invariant-ops_make-loop-op
invariant-ops_make-loop-op l = l.made ≡ ops_make (take l.op-index l.ops) (known_of l.tables l.lets) l.columns

abbrev pub invariant-plans_make-loop-plan : goal.invariant-plans_make-loop-plan
invariant-plans_make-loop-plan l = l.all ≡ plans_make (take l.plan-index l.plans) (known_of l.tables l.lets)
