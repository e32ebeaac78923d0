use Rattle.std.proofs.Common.{take}
use Rattle.std.specs.Prelude.{All}
use Rattle.kql_cells.specs.declared.schemas.NamedSchema.{NamedSchema}
use Rattle.bind_query_laws.specs.Sound.{AreColumns}
use Rattle.kql_program.proofs.evaluate.columns_differ.Given as goal

abbrev pub invariant-loop-named : goal.invariant-loop-named
invariant-loop-named l = All (λ (s : NamedSchema). AreColumns s.schema) (take l.named-index l.schemas)
