use Rattle.std.proofs.Common.{map, sym}
use Rattle.kql_cells.specs.Seen.{seen}
use Rattle.agg_folds.proofs.RowLaws.{ok-along, row-passed, row-taken, with-none, with-some}
use Rattle.agg_folds.proofs.fold.Fold.step.Goals as goal

pub returns-in-Some : goal.returns-in-Some
returns-in-Some c = record {
  stepped = ok-along c.take.result _ _ (λ n. with-some c.args.self.now c.take.new.self (map seen c.args.args.now) _ (sym c.in-Some.ensures.value) n) c.take.ensures.taken;
  row = λ call rows e. ok-along c.take.result _ _ (λ n. row-taken call rows (map seen c.args.args.now) _ c.args.self.now c.take.new.self e (sym c.in-Some.ensures.value) n) c.take.ensures.taken;
  kept = c.take.ensures.kept;
}

pub returns-in-None : goal.returns-in-None
returns-in-None c = record {
  stepped = with-none c.args.self.now (map seen c.args.args.now) (sym c.in-None.ensures.value);
  row = λ call rows e. row-passed call rows (map seen c.args.args.now) c.args.self.now e (sym c.in-None.ensures.value);
  kept = tt;
}
