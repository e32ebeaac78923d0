use Rattle.std.proofs.Common.{◌∙◌, ◌↔◌, IsTrue}
use Rattle.std.proofs.lemmas.Result.{IfOk-weaker}
use Rattle.kql_texts.specs.Terms.{HasTerm}
use Rattle.kql_texts.proofs.FunctionFacts.{has_term-value}
use Rattle.kql_texts.proofs.TermChars.{HasTerm-chars}
use Rattle.kql_texts.proofs.terms.has_term.Goals as goal

pub returns-clause-value : goal.returns-clause-value
returns-clause-value c =
    IfOk-weaker c.stands_as_term.result (λ r. IsTrue r ↔ HasTerm c.as_str.result.now c.as_str-2.result.now) _
    (λ r. has_term-value _ _ _ _ r (c.as_str.ensures.value ∙ c.in_ok-text.ensures.bytes) (c.as_str-2.ensures.value ∙ c.in_ok-part.ensures.bytes))
    c.stands_as_term.ensures

pub returns-clause-characters : goal.returns-clause-characters
returns-clause-characters c =
    IfOk-weaker c.stands_as_term.result (λ r. IsTrue r ↔ HasTerm c.as_str.result.now c.as_str-2.result.now) _
    (λ r. HasTerm-chars _ _ _ _ r c.as_str.utf8 c.as_str-2.utf8 (c.as_str.ensures.value ∙ c.in_ok-text.ensures.bytes) (c.as_str-2.ensures.value ∙ c.in_ok-part.ensures.bytes))
    c.stands_as_term.ensures
