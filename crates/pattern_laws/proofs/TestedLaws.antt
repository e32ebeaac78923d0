-- A program that passes the test can be lifted.
use Rattle.std.proofs.Common.{◌≡◌, ℕ, Bool, true, not, List, [], ◌∷◌, length, map, refl, sym, ap, ◌∙◌, subst, inl, inr}
use Rattle.std.specs.Prelude.{◌&&◌, Option, None, Some}
use Rattle.std.specs.List.{list_all}
use Rattle.std.proofs.lemmas.Bool.{and_parts}
use Rattle.kql_cells.specs.Catalogues.{Named}
use Rattle.kql_cells.specs.declared.schema.Column.{Column}
use Rattle.kql_bound.specs.declared.plan.Program.{Program}
use Rattle.kql_meaning.specs.Fits.{table_columns}
use Rattle.kql_meaning.specs.FittingOperators.{are_distinct}
use Rattle.kql_meaning.specs.Sources.{named_table}
use Rattle.kql_meaning.specs.Tables.{names_of}
use Rattle.kql_meaning.proofs.MemberLaws.{Member, member-contains}
use Rattle.pattern_lift.specs.declared.calls.Derived.{Derived}
use Rattle.pattern_lift.specs.Derived.{columns_of_table, derived, name_of_call}
use Rattle.pattern_lift.specs.Marks.{begins_with}
use Rattle.pattern_laws.specs.LawsOfFitting.{AreOwn}
use Rattle.pattern_laws.specs.LawsOfPrograms.{IsRead}
use Rattle.pattern_laws.specs.Liftable.{program_is_liftable}
use Rattle.pattern_laws.specs.Tested.{HasRows, TestedFits, TestedIsLiftable, are_own, can_lift, derived_is_sound, own_if, tables_are_unmarked}
use Rattle.pattern_laws.proofs.FittedPlans.{columns-found}
use Rattle.pattern_laws.proofs.FittedPrograms.{all-schemas}

every-one : {X : Type 0} (q : X → Bool) (xs : List X) → list_all q xs ≡ true → (x : X) → Member x xs → q x ≡ true
every-one q [] l x m = absurd m
every-one q (y ∷ ys) l x (inl e) = ap q (sym e) ∙ (and_parts (q y) (list_all q ys) l).0
every-one q (y ∷ ys) l x (inr m) = every-one q ys (and_parts (q y) (list_all q ys) l).1 x m

is-read : (marks : List ℕ) (p : Program) (catalogue : List Named) (d : Derived) (cs : List Column) → table_columns p.tables d.table ≡ Some cs → are_own marks cs ≡ true → HasRows cs (named_table catalogue d.table) → IsRead marks p catalogue d
unfolding are_own
is-read marks p catalogue d cs e own has =
    let t = named_table catalogue d.table in
    let a = and_parts (are_distinct (names_of cs)) (list_all (λ n. not (begins_with marks n)) (names_of cs)) own in
    record {
      columns = columns-found p.tables d.table cs e ∙ sym has.columns;
      differ = ap (λ (ds : List Column). are_distinct (names_of ds)) has.columns ∙ a.0;
      own = ap (λ (ds : List Column). list_all (λ n. not (begins_with marks n)) (names_of ds)) has.columns ∙ a.1;
      full = λ i lt. has.full i lt ∙ ap (λ (ds : List Column). length ds) (sym has.columns);
    }

read-by : (marks : List ℕ) (p : Program) (catalogue : List Named) (d : Derived) → ((n : List ℕ) (columns : List Column) → table_columns p.tables n ≡ Some columns → HasRows columns (named_table catalogue n)) → (o : Option (List Column)) → table_columns p.tables d.table ≡ o → own_if marks o ≡ true → IsRead marks p catalogue d
read-by marks p catalogue d rows None e own = absurd cc
read-by marks p catalogue d rows (Some cs) e own = is-read marks p catalogue d cs e own (rows d.table cs e)

-- What the test says of the derived tables.
record Passed (marks : List ℕ) (p : Program) : Type 0 where
  liftable : program_is_liftable marks p ≡ true
  names : are_distinct (map (λ (d : Derived). d.name) (derived marks p)) ≡ true
  tables : (d : Derived) → Member d (derived marks p) → own_if marks (table_columns p.tables d.table) ≡ true
  calls : (d : Derived) → Member d (derived marks p) → are_distinct (map (name_of_call marks) d.calls) ≡ true

passed : (marks : List ℕ) (p : Program) → can_lift marks p ≡ true → Passed marks p
unfolding can_lift derived_is_sound
passed marks p test =
    let names = are_distinct (map (λ (d : Derived). d.name) (derived marks p)) in
    let each = list_all (derived_is_sound marks p.tables) (derived marks p) in
    let a = and_parts (program_is_liftable marks p) (names && each) test in
    let b = and_parts names each a.1 in
    record {
      liftable = a.0;
      names = b.0;
      tables = λ d m. (and_parts (own_if marks (table_columns p.tables d.table)) (are_distinct (map (name_of_call marks) d.calls)) (every-one (derived_is_sound marks p.tables) (derived marks p) b.1 d m)).0;
      calls = λ d m. (and_parts (own_if marks (table_columns p.tables d.table)) (are_distinct (map (name_of_call marks) d.calls)) (every-one (derived_is_sound marks p.tables) (derived marks p) b.1 d m)).1;
    }

pub tested_is_liftable : TestedIsLiftable
unfolding tables_are_unmarked
tested_is_liftable marks p catalogue test own rows =
    let q = passed marks p test in
    record {
      liftable = q.liftable;
      own = sym (all-schemas marks catalogue) ∙ own;
      names = q.names;
      calls = λ d c. q.calls d (member-contains (derived marks p) d c);
      tables = λ d c. read-by marks p catalogue d rows (table_columns p.tables d.table) refl (q.tables d (member-contains (derived marks p) d c));
    }

own-by : (marks : List ℕ) (p : Program) (d : Derived) (o : Option (List Column)) → table_columns p.tables d.table ≡ o → own_if marks o ≡ true → AreOwn marks (columns_of_table p.tables d.table)
unfolding are_own
own-by marks p d None e own = absurd cc
own-by marks p d (Some cs) e own =
    let a = and_parts (are_distinct (names_of cs)) (list_all (λ n. not (begins_with marks n)) (names_of cs)) own in
    subst (AreOwn marks) (sym (columns-found p.tables d.table cs e)) (record { differ = a.0; own = a.1 })

pub tested_fits : TestedFits
unfolding tables_are_unmarked
tested_fits marks p schemas test own f =
    let q = passed marks p test in
    record {
      fits = f;
      liftable = q.liftable;
      own = own;
      tables = λ d c. own-by marks p d (table_columns p.tables d.table) refl (q.tables d (member-contains (derived marks p) d c));
      names = q.names;
      calls = λ d c. q.calls d (member-contains (derived marks p) d c);
    }
