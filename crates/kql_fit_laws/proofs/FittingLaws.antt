-- What a program that fits the schemas of a catalogue gives.
use Rattle.std.proofs.Common.{◌≡◌, ℕ, true, List, [], ◌∷◌, refl, sym, ap, ap₂, subst, inl, inr}
use Rattle.std.specs.Prelude.{◌&&◌, bytes_eq, find, is_some, IsSomeAnd, None, Option, Some, option_map}
use Rattle.std.proofs.lemmas.Bool.{and_parts, cases_Bool}
use Rattle.std.proofs.lemmas.Slice.Eq.{bytes_eq-Decides}
use Rattle.kql_cells.specs.Catalogues.{schema_name, schema_of, schemas_of, table_name}
use Rattle.kql_cells.specs.Table.{Grid}
use Rattle.kql_cells.specs.Catalogues.{Named}
use Rattle.kql_cells.specs.declared.schemas.NamedSchema.{NamedSchema}
use Rattle.kql_cells.specs.declared.schema.Column.{Column}
use Rattle.kql_cells.specs.declared.value.Kind.{Kind}
use Rattle.kql_functions.specs.Kinds.{same_kind}
use Rattle.kql_meaning.specs.Fits.{fits, has_columns, program_columns, same_columns, table_columns, tables_stand}
use Rattle.kql_meaning.specs.Plans.{means}
use Rattle.kql_meaning.specs.Sources.{named_table, table_of}
use Rattle.kql_meaning.proofs.MemberLaws.{contains-member}
use Rattle.kql_fit_laws.proofs.JoinRows.{all-of, same-kind}
use Rattle.kql_fit_laws.proofs.KnownValues.{found-holds}
use Rattle.kql_fit_laws.proofs.OperatorLaws.{each_plan_keeps}
use Rattle.kql_fit_laws.proofs.ProgramRows.{plans_keep_program}
use Rattle.kql_fit_laws.specs.LawsOfFitting.{AreTables, FittingProgramsKeep}
use Rattle.kql_fit_laws.specs.LawsOfPrograms.{TablesStand}
use Rattle.kql_fit_laws.specs.LawsOfRows.{IsTableOf}

-- Columns that are the same are equal.

one-column : (c d : Column) → c.name ≡ d.name → c.kind ≡ d.kind → c ≡ d
one-column c d e f = ap₂ (λ (n : List ℕ) (k : Kind). record { name = n; kind = k }) e f

equal-columns : (cs ds : List Column) → same_columns cs ds ≡ true → cs ≡ ds
unfolding same_columns
equal-columns [] [] e = refl
equal-columns [] (d ∷ ds) e = absurd cc
equal-columns (c ∷ cs) [] e = absurd cc
equal-columns (c ∷ cs) (d ∷ ds) e =
    let parts = and_parts (bytes_eq c.name d.name) (same_kind c.kind d.kind && same_columns cs ds) e in
    let rest = and_parts (same_kind c.kind d.kind) (same_columns cs ds) parts.1 in
    ap₂ (λ (x : Column) (xs : List Column). x ∷ xs) (one-column c d ((bytes_eq-Decides c.name d.name).0 parts.0) (same-kind c.kind d.kind rest.0)) (equal-columns cs ds rest.1)

-- The schema of a name is that of the table of the name.
abbrev table_found : List Named → List ℕ → Option Named
table_found catalogue name = find (λ n. bytes_eq (table_name n) name) catalogue

schema-found : (catalogue : List Named) (name : List ℕ) → find (λ s. bytes_eq (schema_name s) name) (schemas_of catalogue) ≡ option_map schema_of (table_found catalogue name)
schema-found [] name = refl
schema-found (n ∷ ns) name = elim (cases_Bool (bytes_eq n.name name)) [
  | inl y ↦ rw y refl
  | inr f ↦ rw f (schema-found ns name)
]

schema-columns : (catalogue : List Named) (name : List ℕ) → table_columns (schemas_of catalogue) name ≡ option_map (λ (s : NamedSchema). s.schema) (option_map schema_of (table_found catalogue name))
unfolding table_columns
schema-columns catalogue name = ap (λ (o : Option NamedSchema). option_map (λ (s : NamedSchema). s.schema) o) (schema-found catalogue name)

-- A table of the program that stands in the catalogue with its columns.
stands-there : (catalogue : List Named) (s : NamedSchema) → AreTables catalogue → (o : Option Named) → table_found catalogue s.name ≡ o → has_columns s (option_map (λ (x : NamedSchema). x.schema) (option_map schema_of o)) ≡ true → IsTableOf s.schema (table_of o)
unfolding has_columns table_of
stands-there catalogue s tables None e same = absurd cc
stands-there catalogue s tables (Some n) e same =
    let q = found-holds (λ (x : Named). bytes_eq (table_name x) s.name) catalogue n e in
    (sym (equal-columns s.schema n.table.columns same), tables n (contains-member catalogue n q.1))

program-table : (schemas : List NamedSchema) (catalogue : List Named) (name : List ℕ) (columns : List Column) → AreTables catalogue → tables_stand schemas (schemas_of catalogue) ≡ true → (o : Option NamedSchema) → find (λ s. bytes_eq (schema_name s) name) schemas ≡ o → option_map (λ (s : NamedSchema). s.schema) o ≡ Some columns → IsTableOf columns (named_table catalogue name)
unfolding tables_stand named_table
program-table schemas catalogue name columns tables stand None e f = absurd cc
program-table schemas catalogue name columns tables stand (Some s) e f =
    let q = found-holds (λ (x : NamedSchema). bytes_eq (schema_name x) name) schemas s e in
    let here : s.name ≡ name = (bytes_eq-Decides s.name name).0 q.0 in
    let same : s.schema ≡ columns = cc in
    let has = all-of (λ (x : NamedSchema). has_columns x (table_columns (schemas_of catalogue) x.name)) schemas s stand q.1 in
    let told = subst (λ (cs : Option (List Column)). has_columns s cs ≡ true) (schema-columns catalogue s.name) has in
    let table = stands-there catalogue s tables (table_found catalogue s.name) refl told in
    subst (λ (n : List ℕ). IsTableOf columns (table_of (table_found catalogue n))) here (subst (λ (cs : List Column). IsTableOf cs (table_of (table_found catalogue s.name))) same table)

pub all-stand : (schemas : List NamedSchema) (catalogue : List Named) → AreTables catalogue → tables_stand schemas (schemas_of catalogue) ≡ true → TablesStand schemas catalogue
unfolding table_columns
all-stand schemas catalogue tables stand name columns e = program-table schemas catalogue name columns tables stand (find (λ s. bytes_eq (schema_name s) name) schemas) refl e

promised : (o : Option (List Column)) (t : Grid) → is_some o ≡ true → ((columns : List Column) → o ≡ Some columns → IsTableOf columns t) → IsSomeAnd o (λ columns. IsTableOf columns t)
promised None t e h = absurd cc
promised (Some columns) t e h = h columns refl

pub fitting_programs_keep : FittingProgramsKeep
unfolding fits
fitting_programs_keep p catalogue tables e =
    let parts = and_parts (tables_stand p.tables (schemas_of catalogue)) (is_some (program_columns p)) e in
    promised (program_columns p) (means p catalogue) parts.1 (plans_keep_program p catalogue (all-stand p.tables catalogue tables parts.0) (λ plan c k w stands. each_plan_keeps k w stands plan))

pub ruleset fitting_laws = (fitting_programs_keep)
