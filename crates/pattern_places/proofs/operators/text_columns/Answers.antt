use Rattle.std.proofs.Common.{◌++◌, ◌∷◌, [], ap, ◌∙◌, arith}
use Rattle.kql_cells.specs.declared.schema.Column.{Column}
use Rattle.pattern_laws.specs.Liftable.{text_columns}
use Rattle.pattern_places.proofs.TextSteps.{text-turn}
use Rattle.pattern_places.proofs.operators.text_columns.Goals as goal

pub columns-preserved : goal.columns-preserved
columns-preserved c =
    text-turn c.args.columns.now c.columns.column-index c.column-item.result c.columns.all c.in_ok-all.all
    (omega (arith, c.columns-test.true)) c.columns.invariant
    (c.in_ok-all.ensures.names ∙ ap (λ (x : Column). c.columns.all ++ text_columns (x ∷ [])) c.column-item.is)
