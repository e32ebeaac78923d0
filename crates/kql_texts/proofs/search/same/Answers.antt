use Rattle.std.proofs.Common.{ap}
use Rattle.std.specs.Str.{encode_utf8_all}
use Rattle.std.proofs.lemmas.Str.{encodes_same}
use Rattle.kql_texts.specs.Texts.{same}
use Rattle.kql_texts.proofs.FunctionFacts.{same-value}
use Rattle.kql_texts.proofs.search.same.Goals as goal

pub returns-in-Exact-clause-value : goal.returns-in-Exact-clause-value
unfolding same
returns-in-Exact-clause-value c = rw c.in-Exact.is c.eq.ensures

pub returns-in-Caseless-clause-value : goal.returns-in-Caseless-clause-value
returns-in-Caseless-clause-value c =
    let matched = c.default_caseless_match_str.ensures in
    rw c.in-Caseless.is (same-value _ _ _ (λ yes. ap encode_utf8_all (matched.0 yes), λ e. matched.1 (encodes_same _ _ e)))

pub returns-in-Caseless-clause-equal : goal.returns-in-Caseless-clause-equal
returns-in-Caseless-clause-equal c =
    let matched = c.default_caseless_match_str.ensures in
    rw c.in-Caseless.is (λ yes. ap encode_utf8_all (matched.0 yes), λ e. matched.1 (encodes_same _ _ e))
