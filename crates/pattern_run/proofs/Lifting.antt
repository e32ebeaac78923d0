-- The schemas and the tables that a lifted program reads have names of their own, and it fits them.
use Rattle.std.proofs.Common.{◌≡◌, ℕ, true, false, not, List, ◌++◌, map, refl, sym, ap, ap₂, ◌∙◌, subst, inl, inr}
use Rattle.std.specs.Prelude.{Option, None, Some, bytes_eq, find, is_some, option_map}
use Rattle.std.specs.List.{list_all}
use Rattle.std.proofs.lemmas.Bool.{and_parts}
use Rattle.std.proofs.lemmas.List.{map-append}
use Rattle.std.proofs.lemmas.Slice.Eq.{bytes_eq-Decides}
use Rattle.kql_cells.specs.Catalogues.{Named, schema_name, schema_of, schemas_of, table_name}
use Rattle.kql_cells.specs.Named.{HasDistinctNames}
use Rattle.kql_cells.specs.declared.schemas.NamedSchema.{NamedSchema}
use Rattle.kql_bound.specs.declared.plan.Program.{Program}
use Rattle.kql_meaning.specs.Fits.{fits, has_columns, program_columns, table_columns, tables_stand}
use Rattle.kql_meaning.specs.FittingOperators.{are_distinct}
use Rattle.kql_meaning.proofs.MemberLaws.{Member, member-either, member-map, member-of-map}
use Rattle.pattern_lift.specs.declared.calls.Derived.{Derived}
use Rattle.pattern_lift.specs.Derived.{derived, derived_in, derived_in_plans, derived_schema}
use Rattle.pattern_lift.specs.Lifted.{lifted_program}
use Rattle.pattern_lift.specs.Marks.{begins_with}
use Rattle.pattern_laws.specs.LawsOfFitting.{FitsUnlifted}
use Rattle.pattern_laws.proofs.DerivedLaws.{every-derived, every-derived-of}
use Rattle.pattern_laws.proofs.FittedPrograms.{lifted_fits}
use Rattle.pattern_laws.proofs.StartLaws.{call-marked}
use Rattle.pattern_run.proofs.Distinct.{distinct-behind, turned}
use Rattle.pattern_run.proofs.Standing.{every-one, found-is, map-twice}

-- The tables of a program that fits have names without the marks.

abbrev unmarked : List ℕ → NamedSchema → Type 0
unmarked marks s = begins_with marks (schema_name s) ≡ false

named-unmarked : (marks : List ℕ) (schemas : List NamedSchema) → list_all (λ s. not (begins_with marks (schema_name s))) schemas ≡ true → (s : NamedSchema) (o : Option NamedSchema) → find (λ x. bytes_eq (schema_name x) s.name) schemas ≡ o → has_columns s (option_map (λ (x : NamedSchema). x.schema) o) ≡ true → unmarked marks s
unfolding has_columns
named-unmarked marks schemas own s None e h = absurd cc
named-unmarked marks schemas own s (Some x) e h =
    let q = found-is (λ (y : NamedSchema). bytes_eq (schema_name y) s.name) schemas x e in
    ap (begins_with marks) (sym ((bytes_eq-Decides x.name s.name).0 q.1))
    ∙ turned (begins_with marks (schema_name x)) (every-one (λ y. not (begins_with marks (schema_name y))) schemas own x q.0)

tables-unmarked : (marks : List ℕ) (p : Program) (schemas : List NamedSchema) → FitsUnlifted marks p schemas → (s : NamedSchema) → Member s p.tables → unmarked marks s
unfolding fits tables_stand table_columns
tables-unmarked marks p schemas ready s m =
    let stand = (and_parts (tables_stand p.tables schemas) (is_some (program_columns p)) ready.fits).0 in
    let has = every-one (λ (x : NamedSchema). has_columns x (table_columns schemas x.name)) p.tables stand s m in
    named-unmarked marks schemas ready.own s (find (λ x. bytes_eq (schema_name x) s.name) schemas) refl has

-- Derived tables have names that begin with the marks.

derived-marked : (marks : List ℕ) (p : Program) (d : Derived) → Member d (derived marks p) → begins_with marks d.name ≡ true
unfolding derived
derived-marked marks p d m = elim (member-either (derived_in_plans marks p.lets) (derived_in marks p.main) d m) [
  | inl l ↦ every-derived-of marks (λ (x : Derived). begins_with marks x.name ≡ true) (λ table c cs. call-marked marks c) p.lets d l
  | inr r ↦ every-derived marks (λ (x : Derived). begins_with marks x.name ≡ true) (λ table c cs. call-marked marks c) p.main d r
]

module _ (marks : List ℕ) (p : Program) (schemas : List NamedSchema) (ready : FitsUnlifted marks p schemas) where
  abbrev more : List NamedSchema
  more = map (derived_schema marks p.tables) (derived marks p)

  more-names : map schema_name (map (derived_schema marks p.tables) (derived marks p)) ≡ map (λ (d : Derived). d.name) (derived marks p)
  unfolding derived_schema
  more-names = map-twice (derived_schema marks p.tables) schema_name (derived marks p)

  more-distinct : are_distinct (map schema_name (map (derived_schema marks p.tables) (derived marks p))) ≡ true
  more-distinct = ap are_distinct more-names ∙ ready.names

  more-marked : (s : NamedSchema) → Member s (map (derived_schema marks p.tables) (derived marks p)) → begins_with marks (schema_name s) ≡ true
  unfolding derived_schema
  more-marked s m =
      let q = member-of-map (derived_schema marks p.tables) (derived marks p) s m in
      ap (λ (x : NamedSchema). begins_with marks (schema_name x)) (sym q.2) ∙ derived-marked marks p q.0 q.1

  -- The schemas of the lifted program.
  pub distinct-schemas : (back : List NamedSchema) → back ≡ map (derived_schema marks p.tables) (derived marks p) → HasDistinctNames schema_name p.tables → HasDistinctNames schema_name (p.tables ++ back)
  distinct-schemas back e h =
      subst (λ (xs : List NamedSchema). HasDistinctNames schema_name (p.tables ++ xs)) (sym e)
      (distinct-behind schema_name marks p.tables more h more-distinct (tables-unmarked marks p schemas ready) more-marked)

  -- The tables that it reads.
  pub distinct-tables : (front back : List Named) → schemas_of front ≡ schemas → schemas_of back ≡ map (derived_schema marks p.tables) (derived marks p) → HasDistinctNames table_name front → HasDistinctNames table_name (front ++ back)
  distinct-tables front back f e h =
      distinct-behind table_name marks front back h
      (ap are_distinct (sym (map-twice schema_of schema_name back) ∙ ap (map schema_name) e) ∙ more-distinct)
      (λ t m. turned (begins_with marks (table_name t)) (every-one (λ s. not (begins_with marks (schema_name s))) schemas ready.own (schema_of t) (subst (Member (schema_of t)) f (member-map schema_of front t m))))
      (λ t m. more-marked (schema_of t) (subst (Member (schema_of t)) e (member-map schema_of back t m)))

  -- It fits them.
  fits-lifted : (front back : List Named) → schemas_of front ≡ schemas → schemas_of back ≡ map (derived_schema marks p.tables) (derived marks p) → fits (lifted_program marks p) (schemas_of (front ++ back)) ≡ true
  fits-lifted front back f e =
      ap (fits (lifted_program marks p)) (map-append schema_of front back ∙ (ap (λ (xs : List NamedSchema). xs ++ schemas_of back) f ∙ ap (λ (xs : List NamedSchema). schemas ++ xs) e))
      ∙ (lifted_fits marks p schemas ready).0

  pub fits-at : (front back all : List Named) (q : Program) → schemas_of front ≡ schemas → schemas_of back ≡ map (derived_schema marks p.tables) (derived marks p) → q ≡ lifted_program marks p → all ≡ front ++ back → fits q (schemas_of all) ≡ true
  fits-at front back all q f e h a =
      ap₂ (λ (x : Program) (ts : List Named). fits x (schemas_of ts)) h a ∙ fits-lifted front back f e
