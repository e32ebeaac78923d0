-- Sources: what they name is at hand where they fit, and what they mean.
use Rattle.std.proofs.Common.{◌≡◌, ◌<◌, ℕ, zero, suc, true, List, [], ◌∷◌, length, get_or, refl, sym, ap, ◌∙◌, subst, inl, inr, arith}
use Rattle.std.specs.Prelude.{None, Option, Some, bytes_eq, find, is_some, option_map, slice_get}
use Rattle.std.proofs.lemmas.Bool.{cases_Bool}
use Rattle.kql_cells.specs.Catalogues.{Named, schema_name, schema_of, schemas_of, table_name}
use Rattle.kql_cells.specs.Named.{HasDistinctNames, column_name}
use Rattle.kql_cells.specs.Table.{Grid}
use Rattle.kql_cells.specs.declared.schema.Column.{Column}
use Rattle.kql_cells.specs.declared.schemas.NamedSchema.{NamedSchema}
use Rattle.kql_bound.specs.declared.literal.Lit.{Lit}
use Rattle.kql_bound.specs.declared.parts.BItem.{BItem}
use Rattle.kql_bound.specs.declared.plan.Source.{Source}
use Rattle.kql_bound.specs.declared.plan.Source.TheVariants as source
use Rattle.kql_meaning.specs.declared.position.Position.TheVariants as position
use Rattle.kql_meaning.specs.FittingOperators.{items_fit, range_fits}
use Rattle.kql_meaning.specs.Items.{items_columns}
use Rattle.kql_meaning.specs.Fits.{source_columns, table_columns}
use Rattle.kql_meaning.specs.Plans.{World, source_table}
use Rattle.kql_meaning.specs.Sources.{let_table, named_table, print_table, range_columns, range_table}
use Rattle.kql_meaning.specs.Tables.{nothing}
use Rattle.kql_fit_laws.specs.LawsOfPrograms.{LetsStand}
use Rattle.kql_plain.specs.AtHand.{SourceFits}
use Rattle.kql_plain.proofs.FitLaws.{answer-there}

-- The table of a name, and its schema.

abbrev pub table_found : List Named → List ℕ → Option Named
table_found tables name = find (λ n. bytes_eq (table_name n) name) tables

schema-found : (tables : List Named) (name : List ℕ) → find (λ s. bytes_eq (schema_name s) name) (schemas_of tables) ≡ option_map schema_of (table_found tables name)
schema-found [] name = refl
schema-found (n ∷ ns) name = elim (cases_Bool (bytes_eq n.name name)) [
  | inl y ↦ rw y refl
  | inr f ↦ rw f (schema-found ns name)
]

pub schema-columns : (tables : List Named) (name : List ℕ) → table_columns (schemas_of tables) name ≡ option_map (λ (s : NamedSchema). s.schema) (option_map schema_of (table_found tables name))
unfolding table_columns
schema-columns tables name = ap (λ (o : Option NamedSchema). option_map (λ (s : NamedSchema). s.schema) o) (schema-found tables name)

pub is-there : (o : Option Named) → is_some (option_map (λ (s : NamedSchema). s.schema) (option_map schema_of o)) ≡ true → is_some o ≡ true
is-there None e = e
is-there (Some n) e = refl

pub table-there : (name : List ℕ) (w : World) → SourceFits (source.Table name) w → is_some (table_found w.tables name) ≡ true
unfolding SourceFits source_columns
table-there name w f = f.1.1 name f.2

-- The same of a table that is looked for by a name and among tables that are these.
pub named-there : (s : Source) (name told : List ℕ) (w : World) (seen : List Named) → s ≡ source.Table name → SourceFits s w → told ≡ name → seen ≡ w.tables → is_some (table_found seen told) ≡ true
named-there s name told w seen is fits same all =
    ap (λ (n : List ℕ). is_some (table_found seen n)) same
    ∙ (ap (λ (ns : List Named). is_some (table_found ns name)) all ∙ table-there name w (subst (λ (x : Source). SourceFits x w) is fits))

-- The table of a let.

let-at : (columns : List (List Column)) (lets : List Grid) (i : ℕ) → LetsStand columns lets → is_some (slice_get columns i) ≡ true → i < length lets
let-at [] lets i h f = absurd cc
let-at (cs ∷ more) [] i h f = absurd h
let-at (cs ∷ more) (t ∷ ts) zero h f = omega arith
let-at (cs ∷ more) (t ∷ ts) (suc i) h f = let q = let-at more ts i h.1 f in omega (arith, q)

pub let-there : (i : ℕ) (w : World) → SourceFits (source.Let i) w → i < length w.lets
unfolding SourceFits source_columns
let-there i w f = let-at f.0.lets w.lets i f.1.0.1 f.2

-- What each means.

pub means-Table : (name : List ℕ) (w : World) → source_table (source.Table name) w ≡ named_table w.tables name
unfolding source_table
means-Table name w = refl

other-default : (ts : List Grid) (i : ℕ) (a b : Grid) → i < length ts → get_or ts i a ≡ get_or ts i b
other-default [] i a b lt = absurd (omega arith)
other-default (t ∷ ts) zero a b lt = refl
other-default (t ∷ ts) (suc i) a b lt = other-default ts i a b (omega arith)

pub means-Let : (i : ℕ) (w : World) (t : Grid) → i < length w.lets → t ≡ get_or w.lets i t → t ≡ source_table (source.Let i) w
unfolding source_table let_table
means-Let i w t lt e = e ∙ other-default w.lets i t nothing lt

pub means-let : (s : Source) (i : ℕ) (w : World) (t : Grid) → s ≡ source.Let i → SourceFits s w → t ≡ get_or w.lets i t → t ≡ source_table s w
means-let s i w t is fits e =
    let lt = let-there i w (subst (λ (x : Source). SourceFits x w) is fits) in
    means-Let i w t lt e ∙ ap (λ (x : Source). source_table x w) (sym is)

pub means-Range : (column : List ℕ) (from to step : Lit) (w : World) → source_table (source.Range column from to step) w ≡ range_table column from to step
unfolding source_table
means-Range column from to step w = refl

pub means-Print : (items : List BItem) (w : World) → source_table (source.Print items) w ≡ print_table items
unfolding source_table
means-Print items w = refl

-- What `range` and `print` ask.

pub fits-Range : (column : List ℕ) (from to step : Lit) (w : World) → SourceFits (source.Range column from to step) w → range_fits from to step ≡ true
unfolding SourceFits source_columns
fits-Range column from to step w f = (answer-there (range_fits from to step) (range_columns column from) f.2).0

pub fits-Print : (items : List BItem) (w : World) → SourceFits (source.Print items) w → items_fit items [] position.Plain ≡ true
unfolding SourceFits source_columns
fits-Print items w f = (answer-there (items_fit items [] position.Plain) (items_columns items []) f.2).0

pub names-Print : (items : List BItem) (w : World) → SourceFits (source.Print items) w → HasDistinctNames column_name (items_columns items [])
unfolding SourceFits source_columns
names-Print items w f = (answer-there (items_fit items [] position.Plain) (items_columns items []) f.2).1

pub ruleset source_steps = (table-there, let-there, means-Table, means-Let, means-Range, means-Print, fits-Range, fits-Print, names-Print)
