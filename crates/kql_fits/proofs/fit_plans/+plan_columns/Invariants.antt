use Rattle.std.proofs.Common.{◌≡◌, take}
use Rattle.std.specs.Prelude.{Some}
use Rattle.kql_meaning.specs.Fits.{known_of, ops_columns, plans_columns}
use Rattle.kql_fits.proofs.fit_plans.+plan_columns.Given as goal

abbrev pub invariant-ops_columns-loop-op : goal.invariant-ops_columns-loop-op
invariant-ops_columns-loop-op l = ops_columns (take l.op-index l.ops) (known_of l.tables l.lets) l.inside l.columns ≡ Some l.made

abbrev pub invariant-plans_columns-loop-plan : goal.invariant-plans_columns-loop-plan
invariant-plans_columns-loop-plan l = plans_columns (take l.plan-index l.plans) (known_of l.tables l.lets) ≡ Some l.all
