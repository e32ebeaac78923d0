use Rattle.std.proofs.Common.{◌∙◌}
use Rattle.kql_texts.proofs.FunctionFacts.{begins-value}
use Rattle.kql_texts.proofs.search.begins.Goals as goal

pub returns-clause-value : goal.returns-clause-value
returns-clause-value c =
    begins-value _ _ _ _ _ c.starts_with.ensures.cases
    (c.as_str.ensures.value ∙ c.in_ok-text.ensures.bytes)
    (c.as_str-2.ensures.value ∙ c.in_ok-part.ensures.bytes)
