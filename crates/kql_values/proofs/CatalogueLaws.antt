-- The names of a catalogue's tables, and of their schemas.
use Rattle.std.proofs.Common.{◌≡◌, ◌≢◌, ◌<◌, ◌↔◌, ℕ, not, List, [], ◌∷◌, ◌++◌, length, refl, arith}
use Rattle.std.specs.Prelude.{All}
use Rattle.std.specs.List.{position, prefix_len}
use Rattle.std.specs.Str.{bytes_eq}
use Rattle.std.proofs.lemmas.List.{get_or-map, length-map, map-append}
use Rattle.std.proofs.lemmas.List.Elements.{All-map}
use Rattle.std.proofs.lemmas.List.Quantifiers.{all_pairs_push}
use Rattle.kql_cells.specs.Named.{HasDistinctNames, IsAbsent, place_of}
use Rattle.kql_cells.specs.Catalogues.{schema_name, schema_of, schemas_of, table_name}
use Rattle.kql_cells.specs.Catalogues as seen
use Rattle.kql_values.specs.Kept.{all_named, named_of}
use Rattle.kql_values.specs.declared.catalogue.Named.{Named}

pub distinct-schemas : (tables : List seen.Named) → HasDistinctNames table_name tables → HasDistinctNames schema_name (schemas_of tables)
distinct-schemas [] h i j d lt within = absurd (omega arith)
distinct-schemas (t ∷ ts) h i j d lt within =
    let all : List seen.Named = t ∷ ts in
    let size = length-map all schema_of in
    let inner : j < length all = omega arith in
    let outer : i < length all = omega arith in
    rw (get_or-map schema_of all i t d outer, get_or-map schema_of all j t d inner) (h i j t lt inner)

-- tables and one more, as contracts see them
pub all_named-push : (tables : List Named) (t : Named) → all_named (tables ++ t ∷ []) ≡ all_named tables ++ named_of t ∷ []
all_named-push tables t = map-append named_of tables (t ∷ [])

-- what is found by a name
first-named : (name : List ℕ) (tables : List Named) → prefix_len (λ t. not (bytes_eq (table_name t) name)) (all_named tables) ≡ prefix_len (λ t. not (bytes_eq t.name name)) tables
first-named name [] = refl
first-named name (t ∷ tables) = rw (first-named name tables) refl

pub place-named : (name : List ℕ) (tables : List Named) → place_of table_name name (all_named tables) ≡ position (λ t. bytes_eq t.name name) tables
place-named name tables = rw (first-named name tables, length-map tables named_of) refl

-- what has no name, as contracts see it
pub absent-named : (name : List ℕ) (tables : List Named) → All (λ t. t.name ≢ name) tables ↔ IsAbsent table_name name (all_named tables)
absent-named name tables =
    let size = length-map tables named_of in (
      All-map (λ t. table_name t ≢ name) named_of tables,
      λ h k d lt.
          let inside : k < length (all_named tables) = omega arith in
          rw (get_or-map named_of tables k d (named_of d) lt) at (h k (named_of d) inside),
    )

-- a table of another name is added
pub distinct-push : (tables new : List Named) (t : Named) → HasDistinctNames table_name (all_named tables) → IsAbsent table_name t.name (all_named tables) → new ≡ tables ++ t ∷ []
    → HasDistinctNames table_name (all_named new)
distinct-push tables new t h g e =
    rw (e, all_named-push tables t) (all_pairs_push (λ x y. table_name x ≢ table_name y) (all_named tables) (named_of t) h (λ k d lt. g k d lt))

pub ruleset catalogue_facts = (all_named-push, distinct-schemas)
