use Rattle.std.proofs.Common.{ap, ◌∙◌}
use Rattle.kql_texts.specs.Marks.{marked}
use Rattle.kql_texts.proofs.MarkFacts.{HasTerm-marks}
use Rattle.kql_texts.proofs.terms.stands_between_marks.Goals as goal

pub returns : goal.returns
returns c =
    HasTerm-marks _ _ _ _ _ _ c.utf8.text
    (c.deref.ensures.value ∙ c.in_ok-text.ensures ∙ ap marked c.as_bytes.ensures.value)
    (c.deref-2.ensures.value ∙ c.in_ok-part.ensures ∙ ap marked c.as_bytes-2.ensures.value)
    c.find.ensures c.is_some.ensures
