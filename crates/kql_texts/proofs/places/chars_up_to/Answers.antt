use Rattle.std.proofs.Common.{◌∙◌}
use Rattle.std.proofs.lemmas.Slice.{between_from_start}
use Rattle.kql_texts.proofs.CharFacts.{front_boundary, front_bytes, rest_fits}
use Rattle.kql_texts.proofs.places.chars_up_to.Goals as goal

pub overflow_sub-text : goal.overflow_sub-text
overflow_sub-text c = rest_fits _ _ c.args.count c.utf8.text c.chars_from-rest.ensures

pub range-requires-clause-end_boundary : goal.range-requires-clause-end_boundary
range-requires-clause-end_boundary c = front_boundary _ _ c.args.count c.utf8.text c.chars_from-rest.ensures c.chars_from-rest.utf8

pub returns : goal.returns
returns c = c.range.ensures.value ∙ between_from_start _ _ ∙ front_bytes _ _ c.args.count c.utf8.text c.chars_from-rest.ensures
