use Rattle.std.proofs.Common.{◌∙◌}
use Rattle.live_run.proofs.RunLaws.{script_rest, starts_next, takes_rest}
use Rattle.live_run.proofs.append.append_each.Goals as goal

pub append_one-requires-clause-script : goal.append_one-requires-clause-script
append_one-requires-clause-script g c =
    starts_next c.batches.appender.published c.batches.left.now c.in-Some.more.now g.B.Script.batches c.in-Some.batch.now c.batches.invariant.script c.in-Some.ensures.cases.0

pub batches-preserved : goal.batches-preserved
batches-preserved g c = record {
  open_yet = c.in_ok-append_one.ensures.open;
  opening = c.in_ok-append_one.ensures.opening ∙ c.batches.invariant.opening;
  script =
      script_rest c.batches.appender.published c.append_one.new.appender.published c.batches.left.now c.in-Some.more.now g.B.Script.batches c.in-Some.batch.now c.batches.invariant.script c.in-Some.ensures.cases.0 c.in_ok-append_one.ensures.published;
  takes =
      takes_rest g.V.Grows.can_take g.V.Grows.grown g.met.V.Grows.takes_alike c.batches.appender.value c.append_one.new.appender.value c.in-Some.batch.now c.batches.left.now c.in-Some.more.now c.in-Some.ensures.cases.0 c.in_ok-append_one.ensures.value
      c.batches.invariant.takes;
}
