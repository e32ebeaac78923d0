use Rattle.std.proofs.Common.{◌≡◌, ◌∙◌, ap, arith, length}
use Rattle.std.proofs.lemmas.List.{take_all}
use Rattle.kql_scalar.specs.Means.{means}
use Rattle.kql_scalar.specs.Joins.{failing_all, fails}
use Rattle.kql_scalar.specs.Rows.{passes}
use Rattle.kql_scalar.proofs.JoinSteps.{failing-more, or-call}
use Rattle.kql_scalar.proofs.RowSteps.{below-along, narrowed-more}
use Rattle.kql_scalar.proofs.rows.+kept.Goals as goal

pub kept_by_all-parts-preserved : goal.kept_by_all-parts-preserved
kept_by_all-parts-preserved t c = record {
  made = narrowed-more c.args.args.now c.parts.arg-index c.arg-item.result c.args.t.now c.args.places.items c.parts.left.items c.in_ok-narrowed.narrowed.items
      (omega (arith, c.parts-test.true)) c.arg-item.is c.parts.invariant.made c.in_ok-narrowed.ensures.places;
  within = below-along (length c.args.t.now.lines) (passes (means c.arg-item.result) c.args.t.now) c.parts.left.items c.in_ok-narrowed.narrowed.items
      c.parts.invariant.within c.in_ok-narrowed.ensures.places;
}

pub kept_by_any-parts-preserved : goal.kept_by_any-parts-preserved
kept_by_any-parts-preserved t c = record {
  made = failing-more c.args.args.now c.parts.arg-index c.arg-item.result c.args.t.now c.args.places.now c.parts.left.items c.in_ok-untaken.untaken.items
      (omega (arith, c.parts-test.true)) c.arg-item.is c.parts.invariant.made c.in_ok-untaken.ensures.places;
  within = below-along (length c.args.t.now.lines) (fails (means c.arg-item.result) c.args.t.now) c.parts.left.items c.in_ok-untaken.untaken.items
      c.parts.invariant.within c.in_ok-untaken.ensures.places;
}

pub kept_by_any-returns : goal.kept_by_any-returns
kept_by_any-returns t c =
    let value = c.as_slice.ensures.value in
    let read : c.as_slice.result.now ≡ c.parts.left.items = cc in
    let made = c.parts.invariant.made ∙ ap (λ ns. failing_all ns c.args.t.now c.args.places.now) (take_all c.parts.arg-index c.args.args.now (omega (arith, c.parts-test.false))) in
    record { places = or-call c.args.args.now c.args.t.now c.args.places.now c.parts.left.items c.as_slice.result.now c.in_ok-found.found.items made read c.in_ok-found.ensures.places }
