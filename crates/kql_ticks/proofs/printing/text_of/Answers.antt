use Rattle.kql_ticks.proofs.ByteLemmas.{pass-utf8}
use Rattle.kql_ticks.proofs.printing.text_of.Goals as goal

pub unwrap-requires : goal.unwrap-requires
unwrap-requires c = c.from_utf8.ensures.succeeds (pass-utf8 _ c.requires)
