use Rattle.std.proofs.Common.{◌∙◌, ℕ, List, ap, get_or, map, refl, sym}
use Rattle.kql_keys.specs.Matches.{matches_in}
use Rattle.kql_values.specs.Grids.{row_of}
use Rattle.join_op.proofs.PairSteps.{leads-more, others-more, pairs-none}
use Rattle.join_op.proofs.pairs.pairs_found.Goals as goal

pub loop-k-init : goal.loop-k-init
loop-k-init c =
    let found : ℕ → List ℕ = λ i. matches_in c.args.probe.now (row_of (map (λ c. c.now) c.args.columns.now) i) in
    record {
      leads = c.new-made.ensures.empty ∙ sym (ap (map (λ q. q.0)) (pairs-none c.args.rule found));
      others = c.new-others.ensures.empty ∙ sym (ap (map (λ q. q.1)) (pairs-none c.args.rule found));
    }

pub loop-k-preserved : goal.loop-k-preserved
loop-k-preserved c =
    let found : ℕ → List ℕ = λ i. matches_in c.args.probe.now (row_of (map (λ c. c.now) c.args.columns.now) i) in
    let leads = c.args.leads.now in
    let k = c.loop-k.k in
    let i = get_or leads k 0 in
    record {
      leads = leads-more c.args.rule found leads k i c.matches_of-found.result.now c.loop-k.made c.push_given.new.leads c.loop-k-test.true refl c.matches_of-found.ensures.places c.loop-k.invariant.leads c.in_ok-push_given.ensures.leads;
      others = others-more c.args.rule found leads k i c.matches_of-found.result.now c.loop-k.others c.push_given.new.others c.loop-k-test.true refl c.matches_of-found.ensures.places c.loop-k.invariant.others c.in_ok-push_given.ensures.others;
    }
