use Rattle.std.proofs.Common.{◌∙◌, ap, map, sym}
use Rattle.kql_values.specs.Moves.{column_of}
use Rattle.join_op.specs.Shown.{shown_cell}
use Rattle.join_op.proofs.ShownSteps.{vector-added, vector-left}
use Rattle.join_op.proofs.shown.shown_vectors.Goals as goal
use Rattle.join_op.proofs.shown.shown_vectors.Goals.{then-is_shown+in_ok-vector+in_ok-push, else-is_shown}

pub loop-p-preserved : goal.loop-p-preserved
loop-p-preserved c = elim c.if-is_shown.branch [
  | then-is_shown+in_ok-vector+in_ok-push w ↦ vector-added c.args.j.now c.args.right.now c.args.places.now c.columns-columns.result.now c.loop-p.p c.index-columns-p.result w.in_ok-vector.vector c.loop-p.shown.items c.if-is_shown.shown.items
      c.loop-p-test.true c.index-columns-p.is (sym c.is_shown.ensures.shown ∙ w.if-is_shown.true)
      (w.in_ok-vector.ensures.cells ∙ ap (λ cs. map (shown_cell c.args.right.now (column_of cs c.loop-p.p)) c.args.places.now) (sym (c.columns-columns.ensures.columns ∙ c.schema.ensures.columns)))
      c.loop-p.invariant (ap (λ v. v.items) w.shown-is ∙ w.in_ok-push.ensures.items)
  | else-is_shown w ↦ vector-left c.args.j.now c.args.right.now c.args.places.now c.columns-columns.result.now c.loop-p.p c.index-columns-p.result c.loop-p.shown.items c.if-is_shown.shown.items
      c.loop-p-test.true c.index-columns-p.is (sym c.is_shown.ensures.shown ∙ w.if-is_shown.false) c.loop-p.invariant (ap (λ v. v.items) w.shown-is)
]

pub shown_vector-requires-clause-there : goal.shown_vector-requires-clause-there
shown_vector-requires-clause-there c = c.in_ok-found.ensures.places
