use Rattle.std.proofs.Common.{◌≡◌, ◌∙◌, ap, refl, subst}
use Rattle.std.specs.Prelude.{IfOk}
use Rattle.kql_meaning.specs.Expressions.{kind_of}
use Rattle.window_ops.specs.Running.{running_sums}
use Rattle.window_ops.proofs.WindowSteps.{sum-column, sum-few, sum-long}
use Rattle.window_ops.proofs.windows.sum_column.Goals as goal

pub running_sums-requires-clause-restarts : goal.running_sums-requires-clause-restarts
running_sums-requires-clause-restarts c = sum-long c.args.args.now c.args.t.now c.args.from c.args.count c.term-item.result c.in_ok-restarts-in-len1-up.restarts c.in_ok-terms-in-len1-up.terms c.in_ok-restarts-in-len1-up.ensures.values c.in_ok-terms-in-len1-up.ensures.values

pub running_sums-requires-clause-few : goal.running_sums-requires-clause-few
running_sums-requires-clause-few c = sum-few c.args.args.now c.args.t.now c.args.from c.args.count c.len-rows.result c.term-item.result c.in_ok-terms-in-len1-up.terms c.args.before.now c.in_ok-terms-in-len1-up.ensures.values c.requires.before c.requires.range c.len-rows.ensures.count c.len-rows.ensures.small

pub returns : goal.returns
returns c =
    let kind = c.in_ok-kind-in-len1-up.kind in
    let restarts = c.in_ok-restarts-in-len1-up.restarts in
    let terms = c.in_ok-terms-in-len1-up.terms in
    let before = c.args.before.now in
    let is = c.in_ok-kind-in-len1-up.ensures.kind ∙ ap (kind_of c.term-item.result) (c.columns.ensures.columns ∙ c.schema.ensures.columns) in
    let e = sum-column c.args.args.now c.args.t.now c.args.from c.args.count c.term-item.result kind restarts terms (running_sums kind restarts terms before) before c.in-len1-up.len_at_least c.term-item.is is c.in_ok-restarts-in-len1-up.ensures.values c.in_ok-terms-in-len1-up.ensures.values c.requires.before refl in
    record { values = subst (λ vs. IfOk c.running_sums.result (λ v. v ≡ vs)) e c.running_sums.ensures.sums }
