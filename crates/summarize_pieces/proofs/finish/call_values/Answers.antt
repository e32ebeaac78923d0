use Rattle.std.proofs.Common.{[], get_or, rules}
use Rattle.std.specs.Prelude.{None, slice_index_or}
use Rattle.kql_functions.specs.declared.aggregate.Aggregate.TheVariants as aggregate
use Rattle.agg_folds.specs.declared.call.FoldCall.{FoldCall}
use Rattle.summarize_pieces.proofs.FinishSteps.{values-end, values-next, values-start}
use Rattle.summarize_pieces.proofs.finish.call_values.Goals as goal

pub calls-init : goal.calls-init
calls-init c = λ cs keys t from to ks calls folds. values-start cs keys t from to (slice_index_or ks c.args.k []) c.in_ok-values.values c.in_ok-values.ensures.empty

pub calls-preserved : goal.calls-preserved
calls-preserved c = λ cs keys t from to ks calls folds.
    let d : FoldCall = record { aggregate = aggregate.Count; kind = None; limit = None } in
    values-next cs keys t from to c.args.k ks c.args._calls.now c.args.folds.now c.calls.j d c.index-folds-j.result c.in_ok-value.value c.calls.values c.push.new.self c.requires.aligned c.calls-test.true c.index-folds-j.is calls folds (c.calls.invariant cs keys t from to ks calls folds) (c.in_ok-value.ensures.value (get_or c.args._calls.now c.calls.j d)) c.in_ok-push.ensures.added

pub returns : goal.returns
returns c = record {
  values = λ cs keys t from to ks calls folds. values-end cs keys t from to (slice_index_or ks c.args.k []) ks c.args.folds.now c.calls.j c.calls.values (search rules) folds (c.calls.invariant cs keys t from to ks calls folds);
}
