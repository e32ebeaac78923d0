use Rattle.std.proofs.Common.{rules, ◌∙◌}
use Rattle.parse_op.proofs.KeptSteps.{place-added, place-left}
use Rattle.parse_op.proofs.columns.places_without.Goals as goal
use Rattle.parse_op.proofs.columns.places_without.Goals.{then-not-has_column+in_ok-push, else-not-has_column}

-- src/columns.rt:20:5
pub columns-preserved : goal.columns-preserved
columns-preserved c = elim c.if-not-has_column.branch [
  | then-not-has_column+in_ok-push w ↦ place-added c.args.made.now c.args.columns.now c.columns.j c.index-columns-j.result c.columns.places c.if-not-has_column.places (search rules) (search rules) (search rules) c.columns.invariant (w.places-is ∙ w.in_ok-push.ensures.added)
  | else-not-has_column w ↦ place-left c.args.made.now c.args.columns.now c.columns.j c.index-columns-j.result c.columns.places c.if-not-has_column.places (search rules) (search rules) (search rules) c.columns.invariant w.places-is
]
