use Rattle.std.proofs.Common.{◌≡◌, [], take, drop}
use Rattle.std.specs.Prelude.{Some}
use Rattle.kql_meaning.specs.Fits.{lets_columns}
use Rattle.plan_push.specs.Settled.{lets_settled}
use Rattle.plan_push.proofs.driver.rewritten_program.Given as goal

abbrev pub invariant-loop-i : goal.invariant-loop-i
invariant-loop-i l = record {
  columns : lets_columns (take l.i l.p.lets) l.p.tables ≡ Some l.lets;
  settled : lets_settled l.p.tables [] l.p.lets ≡ lets_settled l.p.tables l.lets (drop l.i l.p.lets);
}
