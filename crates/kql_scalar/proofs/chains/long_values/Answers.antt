use Rattle.std.proofs.Common.{◌≡◌, ◌∙◌, subst, sym}
use Rattle.std.specs.Prelude.{IfSome}
use Rattle.kql_scalar.specs.Chains.{IsAlong}
use Rattle.kql_scalar.proofs.ChainSteps.{chain-values}
use Rattle.kql_scalar.proofs.chains.long_values.Goals as goal

pub returns : goal.returns
returns c =
    let value = c.as_slice.ensures.value in
    let same : c.as_slice.result.now ≡ c.in-Some-2.chain.terms.items = cc in
    let along = subst (λ o. IfSome o (λ v. IsAlong c.args.t.now c.args.first.now c.args.links.now v.first v.terms.items)) c.in-Some-2.is c.in_ok-chain.ensures.chain in
    let terms = subst (IsAlong c.args.t.now c.args.first.now c.args.links.now c.in-Some-2.chain.first) (sym same) along in
    record {
      values = c.in_ok-values.ensures.values
          ∙ chain-values c.args.t.now c.args.first.now c.args.links.now c.in-Some-2.chain.first c.as_slice.result.now c.args.from c.args.to terms c.requires.order c.requires.range;
    }
