-- What the program that a call gives means: by the law of lifting where the program has calls, and as it stands where it has none.
use Rattle.std.proofs.Common.{◌≡◌, ℕ, true, List, [], ◌∷◌, length, refl, sym, ap, ◌∙◌, subst, inl, inr}
use Rattle.std.specs.Prelude.{Option, None, Some, Result, Ok, bytes_eq, find, is_some}
use Rattle.std.proofs.lemmas.Bool.{and_parts}
use Rattle.std.proofs.lemmas.List.Elements.{All-contains}
use Rattle.kql_cells.specs.Catalogues.{Named, schemas_of, table_name}
use Rattle.kql_cells.specs.Seen.{row_at}
use Rattle.kql_cells.specs.Table.{Grid, IsGrid}
use Rattle.kql_cells.specs.declared.schema.Column.{Column}
use Rattle.kql_cells.specs.declared.schemas.NamedSchema.{NamedSchema}
use Rattle.kql_cells.proofs.RowLaws.{length-RowFits}
use Rattle.kql_values.specs.Kept.{all_named}
use Rattle.kql_values.specs.declared.catalogue.Named as stored
use Rattle.kql_lexer.specs.declared.place.Place.{Place}
use Rattle.kql_lexer.specs.declared.token.Token.{Token}
use Rattle.kql_bound.specs.declared.plan.Program.{Program}
use Rattle.kql_meaning.specs.Fits.{fits, program_columns, table_columns, tables_stand}
use Rattle.kql_meaning.specs.Sources.{named_table, table_of}
use Rattle.kql_meaning.proofs.MemberLaws.{contains-member}
use Rattle.pattern_lift.specs.declared.calls.PatternCall.{PatternCall}
use Rattle.pattern_laws.specs.Tested.{HasRows, can_lift, tables_are_unmarked}
use Rattle.pattern_laws.proofs.ProgramLaws.{lifted_means}
use Rattle.pattern_laws.proofs.TestedLaws.{tested_is_liftable}
use Rattle.pattern_run.specs.declared.fault.PatternFault.{PatternFault}
use Rattle.pattern_run.specs.declared.lifted.Lifted.{Lifted}
use Rattle.pattern_run.specs.LawOfPatterns.{AreGrids, MeansToldBy, PatternedMeans}
use Rattle.pattern_run.specs.Patterned.{Found, IsPatterned, calls_of_program, lifted_over, marks_for, patterned, refused_call, told_by, unless_bad, unless_refused, with_calls}
use Rattle.pattern_run.specs.Placed.{HasNoOthers}
use Rattle.pattern_run.proofs.PlacedMeaning.{placed-means}
use Rattle.pattern_run.proofs.RunSteps.{can-lift}
use Rattle.pattern_run.proofs.Standing.{found-is, table-found}

-- Tables of the program have full rows.

grid-found : (tables : List Named) (n : List ℕ) → AreGrids tables → (o : Option Named) → find (λ t. bytes_eq (table_name t) n) tables ≡ o → is_some o ≡ true → IsGrid (table_of o)
unfolding table_of
grid-found tables n grids None e s = absurd cc
grid-found tables n grids (Some t) e s =
    let q = found-is (λ (x : Named). bytes_eq (table_name x) n) tables t e in
    All-contains (λ (x : Named). IsGrid x.table) tables t grids (contains-member tables t q.0)

grid-named : (tables : List Named) (n : List ℕ) → AreGrids tables → is_some (find (λ t. bytes_eq (table_name t) n) tables) ≡ true → IsGrid (named_table tables n)
unfolding named_table
grid-named tables n grids s = grid-found tables n grids (find (λ t. bytes_eq (table_name t) n) tables) refl s

full-rows : (t : Grid) (cs : List Column) → t.columns ≡ cs → IsGrid t → HasRows cs t
full-rows t cs e grid = record { columns = e; full = λ i lt. length-RowFits t.columns (row_at t.lines i) (grid i [] lt) ∙ ap (λ (ds : List Column). length ds) e }

has-rows : (p : Program) (tables : List Named) → AreGrids tables → fits p (schemas_of tables) ≡ true → (n : List ℕ) (cs : List Column) → table_columns p.tables n ≡ Some cs → HasRows cs (named_table tables n)
unfolding fits
has-rows p tables grids fit n cs e =
    let stand = table-found p.tables tables n cs (and_parts (tables_stand p.tables (schemas_of tables)) (is_some (program_columns p)) fit).0 e in
    full-rows (named_table tables n) cs stand.columns (grid-named tables n grids stand.there)

-- The answer.

abbrev given : Lifted → Result Lifted PatternFault
given x = Ok x

same-given : (x y : Lifted) → given x ≡ given y → x ≡ y
same-given x y e = cc

abbrev as_it_is : Program → List Named → Lifted
as_it_is p tables = record { program = p; catalogue = tables }

module _ (found : Found) (tokens : List Token) (p : Program) (tables : List Named) (l : Lifted) (grids : AreGrids tables) (fit : fits p (schemas_of tables) ≡ true) (others : HasNoOthers p) where
  abbrev schemas : List NamedSchema
  schemas = schemas_of tables

  abbrev marks : List ℕ
  marks = marks_for tokens schemas

  abbrev Means : Lifted → Type 0
  Means x = MeansToldBy found p tables x

  lifted-over-means : can_lift marks p ≡ true → tables_are_unmarked marks schemas ≡ true → Means (lifted_over found marks p tables)
  unfolding lifted_over
  lifted-over-means test own = lifted_means (told_by found) marks p tables (tested_is_liftable marks p tables test own (has-rows p tables grids fit))

  of-refused : (c : PatternCall) (cs : List PatternCall) → calls_of_program p ≡ c ∷ cs → (o : Option Place) → refused_call marks p schemas ≡ o → unless_refused o (unless_bad None p (lifted_over found marks p tables)) ≡ Ok l → Means l
  of-refused c cs is (Some place) r e = absurd cc
  of-refused c cs is None r e =
      let can = can-lift marks p schemas (c ∷ cs) (sym is) (λ none. absurd cc) r in
      subst Means (same-given (lifted_over found marks p tables) l e) (lifted-over-means can.0 can.1)

  of-calls : (cs : List PatternCall) → calls_of_program p ≡ cs → with_calls cs p tables (unless_refused (refused_call marks p schemas) (unless_bad None p (lifted_over found marks p tables))) ≡ Ok l → Means l
  of-calls [] is e = subst Means (same-given (as_it_is p tables) l e) (placed-means (told_by found) p tables (others is) is)
  of-calls (c ∷ cs) is e = of-refused c cs is (refused_call marks p schemas) refl e

  of-patterned : patterned found None tokens p tables ≡ Ok l → Means l
  unfolding patterned
  of-patterned e = of-calls (calls_of_program p) refl e

pub patterned_means : PatternedMeans
patterned_means found tokens p tables l grids fit others e = of-patterned found tokens p tables l grids fit others e

pub given-means : (found : Found) (tokens : List Token) (p : Program) (tables : List Named) (l : Lifted) → AreGrids tables → fits p (schemas_of tables) ≡ true → IsPatterned found tokens p tables (Ok l) → HasNoOthers p → MeansToldBy found p tables l
given-means found tokens p tables l grids fit (inl e) others = of-patterned found tokens p tables l grids fit others (sym e)
given-means found tokens p tables l grids fit (inr e) others = absurd cc

pub grids-at : (tables : List Named) (kept : List stored.Named) → all_named kept ≡ tables → AreGrids (all_named kept) → AreGrids tables
grids-at tables kept e h = subst AreGrids e h
