use Rattle.std.proofs.Common.{◌≡◌, subst}
use Rattle.std.specs.Prelude.{IfOk}
use Rattle.kql_cells.specs.declared.value.Value.{Value}
use Rattle.agg_folds.proofs.RowLaws.{value-of-fold}
use Rattle.agg_folds.proofs.fold.Fold.finish.Goals as goal

pub returns : goal.returns
returns c = record {
  kept = c.value.ensures;
  value = λ call rows e. subst (λ (w : Value). IfOk c.value.result (λ v. v ≡ w)) (value-of-fold call rows c.args.self.now e) c.value.ensures;
}
