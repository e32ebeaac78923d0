-- What every refusal is.
use Rattle.std.specs.Prelude.{◌≡◌, ℕ, ℤ, ◌&&◌, Bool, true, nat_le, List, Option, Ok, Err, ⊤}
use Rattle.kql_cells.specs.declared.schemas.NamedSchema.{NamedSchema}
use Rattle.kql_syntax.specs.declared.query.Query.{Query}
use Rattle.bind_expr.specs.Outcome.{Outcome}
use Rattle.bind_expr.specs.declared.fault.BindFault.TheVariants as fault
use Rattle.bind_query.specs.Bound.{bound}

-- The codes that binding a query tells.
unfoldable pub is_query_code : ℕ → Bool
is_query_code code = nat_le 401 code && nat_le code 420

-- A value, or a refusal with one of these codes.
abbrev pub is_told : {X : Type 0} → Outcome X → Type 0
is_told (Ok x) = ⊤
is_told (Err (fault.Refused code place)) = is_query_code code ≡ true
is_told (Err fault.OutOfMemory) = ⊥

pub record IsTold {X : Type 0} (r : Outcome X) : Type 0 where
  pub holds : is_told r

-- Each query is bound, or refused with one of these codes.
abbrev pub EachIsTold : Type 0
EachIsTold = (q : Query) (schemas : List NamedSchema) (moment : Option ℤ) → IsTold (bound q schemas moment)
