use Rattle.kql_scalar_fns.proofs.PieceLaws.{pieces_form}
use Rattle.kql_scalar_fns.proofs.text.pieces.Goals as goal

pub returns-in_ok-split_by-in-Text-Text-clause-form : goal.returns-in_ok-split_by-in-Text-Text-clause-form
returns-in_ok-split_by-in-Text-Text-clause-form c = pieces_form _ _ c.in_ok-split_by-in-Text-Text.ensures.value
