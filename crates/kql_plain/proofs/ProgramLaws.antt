-- A program that fits the schemas of a catalogue: its lets fit the tables there, and its plan these and the tables of the lets.
use Rattle.std.proofs.Common.{◌≡◌, ℕ, true, List, [], ◌∷◌, length, refl, sym, ap, ◌∙◌, subst}
use Rattle.std.specs.Prelude.{All, None, Option, Some, bytes_eq, find, is_some, option_map}
use Rattle.std.proofs.lemmas.Bool.{and_parts}
use Rattle.std.proofs.lemmas.Slice.Eq.{bytes_eq-Decides}
use Rattle.std.proofs.lemmas.List.{nil_from_length}
use Rattle.std.proofs.lemmas.List.Elements.{All-cons, All-nil}
use Rattle.kql_cells.specs.Catalogues.{Named, schema_name, schemas_of}
use Rattle.kql_cells.specs.declared.schema.Column.{Column}
use Rattle.kql_cells.specs.declared.schemas.NamedSchema.{NamedSchema}
use Rattle.kql_values.specs.Kept.{all_named, named_of}
use Rattle.kql_values.specs.declared.catalogue.Named as kept
use Rattle.kql_bound.specs.declared.plan.Program.{Program}
use Rattle.kql_meaning.specs.Fits.{fits, has_columns, known_of, lets_columns, program_columns, table_columns, tables_stand}
use Rattle.kql_meaning.specs.Plans.{lets_mean, means}
use Rattle.kql_meaning.proofs.MemberLaws.{member-contains}
use Rattle.kql_fit_laws.proofs.FittingLaws.{all-stand}
use Rattle.kql_fit_laws.proofs.JoinRows.{all-of}
use Rattle.kql_fit_laws.proofs.KnownValues.{found-holds}
use Rattle.kql_fit_laws.proofs.RowFacts.{of-all}
use Rattle.kql_fit_laws.specs.LawsOfFitting.{AreTables}
use Rattle.kql_fit_laws.specs.LawsOfRows.{IsTable}
use Rattle.kql_plain.specs.AtHand.{AreAtHand, FitBehind, IsSo, means_behind, with_lets, world_of}
use Rattle.kql_plain.proofs.SourceSteps.{is-there, schema-columns, table_found}

-- The tables of a catalogue are tables.
pub are-tables : (catalogue : List Named) → All (λ (n : Named). IsTable n.table) catalogue → AreTables catalogue
are-tables catalogue all n c = of-all (λ (m : Named). IsTable m.table) catalogue n all (member-contains catalogue n c)

-- A table of the program stands in the catalogue.

has-some : (s : NamedSchema) (o : Option (List Column)) → has_columns s o ≡ true → is_some o ≡ true
unfolding has_columns
has-some s None e = absurd cc
has-some s (Some cs) e = refl

stands : (own : List NamedSchema) (catalogue : List Named) (name : List ℕ) → tables_stand own (schemas_of catalogue) ≡ true → (o : Option NamedSchema) → find (λ s. bytes_eq (schema_name s) name) own ≡ o → is_some (option_map (λ (s : NamedSchema). s.schema) o) ≡ true → is_some (table_found catalogue name) ≡ true
unfolding tables_stand
stands own catalogue name stand None e f = absurd cc
stands own catalogue name stand (Some s) e f =
    let q = found-holds (λ (x : NamedSchema). bytes_eq (schema_name x) name) own s e in
    let here : s.name ≡ name = (bytes_eq-Decides s.name name).0 q.0 in
    let has = has-some s (table_columns (schemas_of catalogue) s.name) (all-of (λ (x : NamedSchema). has_columns x (table_columns (schemas_of catalogue) x.name)) own s stand q.1) in
    let there : is_some (table_columns (schemas_of catalogue) name) ≡ true = subst (λ (n : List ℕ). is_some (table_columns (schemas_of catalogue) n) ≡ true) here has in
    is-there (table_found catalogue name) (sym (ap is_some (schema-columns catalogue name)) ∙ there)

at-hand : (own : List NamedSchema) (catalogue : List Named) → tables_stand own (schemas_of catalogue) ≡ true → AreAtHand own catalogue
unfolding table_columns
at-hand own catalogue stand name f = stands own catalogue name stand (find (λ s. bytes_eq (schema_name s) name) own) refl f

is-so : (own : List NamedSchema) (catalogue : List Named) → All (λ (n : Named). IsTable n.table) catalogue → tables_stand own (schemas_of catalogue) ≡ true → IsSo (known_of own []) (world_of catalogue [])
is-so own catalogue tables stand = ((all-stand own catalogue (are-tables catalogue tables) stand, tt), at-hand own catalogue stand)

-- A program: its lets, and its plan behind them.

pub program-fits : (p : Program) (catalogue : List Named) → All (λ (n : Named). IsTable n.table) catalogue → fits p (schemas_of catalogue) ≡ true → FitBehind p.lets p.main catalogue []
unfolding FitBehind fits program_columns lets_columns
program-fits p catalogue tables f =
    let parts = and_parts (tables_stand p.tables (schemas_of catalogue)) (is_some (program_columns p)) f in
    (p.tables, [], is-so p.tables catalogue tables parts.0, parts.1)

pub program-means : (p : Program) (catalogue : List Named) → means_behind p.lets p.main catalogue [] ≡ means p catalogue
unfolding means means_behind with_lets lets_mean
program-means p catalogue = refl

-- Where the first is a table and the others are, all are.
pub all-tables : (left more : List kept.Named) (n : kept.Named) → left ≡ n ∷ more → IsTable n.table → All (λ (m : Named). IsTable m.table) (all_named more) → All (λ (m : Named). IsTable m.table) (all_named left)
all-tables left more n is first others =
    subst (λ (ns : List kept.Named). All (λ (m : Named). IsTable m.table) (all_named ns)) (sym is) (All-cons (λ (m : Named). IsTable m.table) (named_of n) (all_named more) first others)

pub no-tables : (left : List kept.Named) → length left ≡ 0 → All (λ (m : Named). IsTable m.table) (all_named left)
no-tables left none = subst (λ (ns : List kept.Named). All (λ (m : Named). IsTable m.table) (all_named ns)) (sym (nil_from_length left none)) (All-nil (λ (m : Named). IsTable m.table))
