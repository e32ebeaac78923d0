use Rattle.std.proofs.Common.{◌∙◌}
use Rattle.kql_texts.proofs.FunctionFacts.{holds-value}
use Rattle.kql_texts.proofs.StandFacts.{Holds-contains}
use Rattle.kql_texts.proofs.search.holds.Goals as goal

pub returns-clause-value : goal.returns-clause-value
returns-clause-value c =
    holds-value _ _ _
    (Holds-contains _ _ _ _ _ c.contains.ensures.cases
    (c.as_str.ensures.value ∙ c.in_ok-text.ensures.bytes)
    (c.as_str-2.ensures.value ∙ c.in_ok-part.ensures.bytes))

pub returns-clause-held : goal.returns-clause-held
returns-clause-held c =
    Holds-contains _ _ _ _ _ c.contains.ensures.cases
    (c.as_str.ensures.value ∙ c.in_ok-text.ensures.bytes)
    (c.as_str-2.ensures.value ∙ c.in_ok-part.ensures.bytes)
