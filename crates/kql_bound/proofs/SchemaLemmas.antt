-- Schemas that are copied one after another.
use Rattle.std.proofs.Common.{◌≡◌, ◌≢◌, ◌<◌, ◌≤◌, ℕ, List, take, length, get_or, All, ap, sym, ◌∙◌, subst, arith}
use Rattle.std.proofs.lemmas.List.{get_or-take, length-take}
use Rattle.std.proofs.lemmas.List.Elements.{All-from_get_or}
use Rattle.kql_cells.specs.Catalogues.{schema_name}
use Rattle.kql_cells.specs.Named.{HasDistinctNames, IsAbsent}
use Rattle.kql_cells.specs.declared.schemas.NamedSchema.{NamedSchema}

-- the name of a schema is none of those before it
pub absent_before : (xs : List NamedSchema) (i : ℕ) (x : NamedSchema) → HasDistinctNames schema_name xs → i < length xs → x ≡ get_or xs i x → IsAbsent schema_name x.name (take i xs)
absent_before xs i x distinct lt e =
    All-from_get_or (λ (y : NamedSchema). y.name ≢ x.name) (take i xs) x (λ j below.
    let early : j < i = omega (arith, length-take i xs) in
    λ same. distinct j i x early lt (ap (λ (y : NamedSchema). y.name) (sym (get_or-take i xs j x early)) ∙ same ∙ ap (λ (y : NamedSchema). y.name) e))

pub absent_in_copies : (named copies : List NamedSchema) (i : ℕ) (x copy : NamedSchema) → HasDistinctNames schema_name named → i < length named → x ≡ get_or named i x → copy ≡ x → copies ≡ take i named → IsAbsent schema_name copy.name copies
absent_in_copies named copies i x copy distinct lt e same before =
    subst (λ (ys : List NamedSchema). IsAbsent schema_name copy.name ys) (sym before)
    (subst (λ (y : NamedSchema). IsAbsent schema_name y.name (take i named)) (sym same) (absent_before named i x distinct lt e))
