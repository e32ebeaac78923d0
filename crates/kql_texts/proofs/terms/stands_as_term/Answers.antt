use Rattle.std.proofs.Common.{◌+◌, length, take, drop, subst, refl}
use Rattle.std.proofs.lemmas.Bool.{false≢true}
use Rattle.kql_texts.specs.Terms.{IsBorder}
use Rattle.kql_texts.proofs.TermFacts.{HasTerm-at, lacks-HasTerm}
use Rattle.kql_texts.proofs.terms.stands_as_term.Goals as goal

pub returns-then-is_border-2 : goal.returns-then-is_border-2
returns-then-is_border-2 c =
    let found = c.in-Some.ensures.cases in
    let match = found.1.1 in
    let from = c.in-Some.at in
    let to = from + length c.args.part.now in
    let start = subst (λ s. IsBorder (take from s) (drop from s)) c.as_bytes.ensures.value (c.is_border.ensures.0 c.if-is_border.true) in
    let end = subst (λ s. IsBorder (take to s) (drop to s)) c.as_bytes-then-is_border.ensures.value (c.is_border-then-is_border.ensures.0 c.if-is_border-2.true) in
    let term = HasTerm-at c.args.text.now c.args.part.now from found.0 to match.split found.3.0 match.ends match.ends start end in
    (λ _. term, λ _. refl)

pub returns-in-None : goal.returns-in-None
returns-in-None c = (λ no. absurd (false≢true no), λ term. absurd (lacks-HasTerm _ _ c.in-None.ensures.cases term))
