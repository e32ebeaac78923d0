-- What is promised of a query that is bound.
use Rattle.std.specs.Prelude.{◌≡◌, All, ℤ, true, List, Option, Ok, IfSome}
use Rattle.kql_cells.specs.Values.{IsMoment}
use Rattle.kql_cells.specs.declared.schemas.NamedSchema.{NamedSchema}
use Rattle.kql_bound.specs.declared.plan.Program.{Program}
use Rattle.kql_meaning.specs.Fits.{fits}
use Rattle.kql_syntax.specs.declared.query.Query.{Query}
use Rattle.bind_query.specs.Bound.{bound}
use Rattle.kql_parser_laws.specs.Patterns.{has_patterns}
use Rattle.bind_query_laws.specs.Sound.{AreColumns}

-- It fits the schemas that it was bound to, where each has columns of different names, the moment is in range, and each `parse` of the query
-- has a pattern.
abbrev pub BoundFits : Type 0
BoundFits = (q : Query) (schemas : List NamedSchema) (moment : Option ℤ) (p : Program) → has_patterns q ≡ true → All (λ (s : NamedSchema). AreColumns s.schema) schemas → IfSome moment IsMoment → bound q schemas moment ≡ Ok p → fits p schemas ≡ true
