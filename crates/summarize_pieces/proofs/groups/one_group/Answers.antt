use Rattle.std.proofs.Common.{◌∙◌, ap, subst, sym}
use Rattle.kql_values.specs.Grids.{HaveLength, rows_of}
use Rattle.summarize_pieces.proofs.KeySteps.{long-nothing, one-nothing}
use Rattle.summarize_pieces.proofs.groups.one_group.Goals as goal

pub from_columns-requires-clause-long : goal.from_columns-requires-clause-long
from_columns-requires-clause-long c = subst (HaveLength 1) (sym c.new.ensures.items) long-nothing

pub returns-clause-keys : goal.returns-clause-keys
returns-clause-keys c = c.from_columns.ensures.rows ∙ (ap (rows_of 1) c.new.ensures.items ∙ one-nothing)
