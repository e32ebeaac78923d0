-- A program that fits a catalogue and can be lifted: its derived tables can be made of the tables of the catalogue.
use Rattle.std.proofs.Common.{◌≡◌, ℕ, Bool, true, false, not, List, [], ◌∷◌, ◌++◌, map, refl, sym, ap, ap₂, ◌∙◌, subst, inl, inr}
use Rattle.std.specs.Prelude.{◌&&◌, Contains, Option, None, Some, bytes_eq, find, is_some, option_map}
use Rattle.std.specs.List.{list_all}
use Rattle.std.proofs.lemmas.Bool.{and_parts, cases_Bool}
use Rattle.std.proofs.lemmas.Slice.Eq.{bytes_eq-Decides}
use Rattle.kql_cells.specs.Catalogues.{Named, schema_name, schema_of, schemas_of, table_name}
use Rattle.kql_cells.specs.Named.{HasDistinctNames, column_name}
use Rattle.kql_cells.specs.declared.schema.Column.{Column}
use Rattle.kql_cells.specs.declared.schemas.NamedSchema.{NamedSchema}
use Rattle.kql_cells.specs.declared.value.Kind.{Kind}
use Rattle.kql_cells.specs.declared.value.Kind.TheVariants as kind
use Rattle.kql_functions.specs.Kinds.{same_kind}
use Rattle.kql_bound.specs.declared.plan.Program.{Program}
use Rattle.kql_meaning.specs.Fits.{fits, has_columns, program_columns, same_columns, table_columns, tables_stand}
use Rattle.kql_meaning.specs.FittingOperators.{are_distinct}
use Rattle.kql_meaning.specs.Sources.{named_table, table_of}
use Rattle.kql_meaning.specs.Tables.{names_of}
use Rattle.kql_meaning.proofs.MemberLaws.{Member, contains-member, member-contains, member-map, member-of-map}
use Rattle.pattern_lift.specs.declared.calls.Derived.{Derived}
use Rattle.pattern_lift.specs.declared.calls.PatternCall.{PatternCall}
use Rattle.pattern_lift.specs.Calls.{is_among}
use Rattle.pattern_lift.specs.Derived.{added_columns, columns_of_table, derived, derived_schema, name_of_call}
use Rattle.pattern_lift.specs.Marks.{begins_with}
use Rattle.pattern_laws.specs.AddedColumns.{column_of_call}
use Rattle.pattern_laws.specs.LawsOfFitting.{FitsUnlifted}
use Rattle.pattern_laws.specs.Liftable.{program_is_liftable, text_columns}
use Rattle.pattern_laws.specs.Meaning.{Told}
use Rattle.pattern_laws.specs.Tables.{derived_named, derived_table}
use Rattle.pattern_laws.specs.Tested.{can_lift, derived_is_sound, own_if, tables_are_unmarked}
use Rattle.pattern_laws.proofs.BesideLaws.{map-members}
use Rattle.pattern_laws.proofs.FittedPlans.{columns-found}
use Rattle.pattern_laws.proofs.StartLaws.{call-marked}
use Rattle.pattern_laws.proofs.TestedLaws.{tested_fits}
use Rattle.pattern_run.specs.Ready.{IsReady, IsReadyIn}
use Rattle.pattern_run.proofs.Distinct.{distinct-behind, distinct-of, turned}
use Rattle.pattern_run.proofs.LentCalls.{program-lent}

pub every-one : {X : Type 0} (q : X → Bool) (xs : List X) → list_all q xs ≡ true → (x : X) → Member x xs → q x ≡ true
every-one q [] l x m = absurd m
every-one q (y ∷ ys) l x (inl e) = ap q (sym e) ∙ (and_parts (q y) (list_all q ys) l).0
every-one q (y ∷ ys) l x (inr m) = every-one q ys (and_parts (q y) (list_all q ys) l).1 x m

-- Columns that are the same.

same-kind : (k l : Kind) → same_kind k l ≡ true → k ≡ l
same-kind kind.Bool kind.Bool e = refl
same-kind kind.Long kind.Long e = refl
same-kind kind.Text kind.Text e = refl
same-kind kind.Moment kind.Moment e = refl
same-kind kind.Span kind.Span e = refl
same-kind kind.Dynamic kind.Dynamic e = refl
same-kind _ _ e = cc

equal-columns : (cs ds : List Column) → same_columns cs ds ≡ true → cs ≡ ds
unfolding same_columns
equal-columns [] [] e = refl
equal-columns [] (d ∷ ds) e = absurd cc
equal-columns (c ∷ cs) [] e = absurd cc
equal-columns (c ∷ cs) (d ∷ ds) e =
    let parts = and_parts (bytes_eq c.name d.name) (same_kind c.kind d.kind && same_columns cs ds) e in
    let rest = and_parts (same_kind c.kind d.kind) (same_columns cs ds) parts.1 in
    let one : c ≡ d = ap₂ (λ (n : List ℕ) (k : Kind). record { name = n; kind = k }) ((bytes_eq-Decides c.name d.name).0 parts.0) (same-kind c.kind d.kind rest.0) in
    ap₂ (λ (x : Column) (xs : List Column). x ∷ xs) one (equal-columns cs ds rest.1)

-- The table of a name.

abbrev found_in : List Named → List ℕ → Option Named
found_in catalogue n = find (λ t. bytes_eq (table_name t) n) catalogue

columns-in : (catalogue : List Named) (n : List ℕ) → table_columns (schemas_of catalogue) n ≡ option_map (λ (t : Named). t.table.columns) (found_in catalogue n)
unfolding table_columns
columns-in [] n = refl
columns-in (t ∷ ts) n = elim (cases_Bool (bytes_eq t.name n)) [
  | inl y ↦ rw y refl
  | inr f ↦ rw f (columns-in ts n)
]

-- A table of the program is in the catalogue, with its columns.
pub record Stands (catalogue : List Named) (n : List ℕ) (cs : List Column) : Type 0 where
  pub there : is_some (found_in catalogue n) ≡ true
  pub columns : (named_table catalogue n).columns ≡ cs

stands-by : (catalogue : List Named) (n : List ℕ) (s : NamedSchema) (o : Option Named) → found_in catalogue n ≡ o → has_columns s (option_map (λ (t : Named). t.table.columns) o) ≡ true → Stands catalogue n s.schema
unfolding has_columns named_table table_of
stands-by catalogue n s None e h = absurd cc
stands-by catalogue n s (Some t) e h = record { there = ap is_some e; columns = rw e (sym (equal-columns s.schema t.table.columns h)) }

pub found-is : {X : Type 0} (p : X → Bool) (xs : List X) (x : X) → find p xs ≡ Some x → Member x xs × (p x ≡ true)
found-is p [] x h = absurd cc
found-is p (z ∷ xs) x h = elim (cases_Bool (p z)) [
  | inl t ↦ let e : Some z ≡ Some x = rw t at h in let same : z ≡ x = cc in (inl same, ap p (sym same) ∙ t)
  | inr f ↦ let e : find p xs ≡ Some x = rw f at h in let q = found-is p xs x e in (inr q.0, q.1)
]

table-stands : (tables : List NamedSchema) (catalogue : List Named) (n : List ℕ) (cs : List Column) → tables_stand tables (schemas_of catalogue) ≡ true → (o : Option NamedSchema) → find (λ s. bytes_eq (schema_name s) n) tables ≡ o → option_map (λ (s : NamedSchema). s.schema) o ≡ Some cs → Stands catalogue n cs
unfolding tables_stand
table-stands tables catalogue n cs stand None e f = absurd cc
table-stands tables catalogue n cs stand (Some s) e f =
    let q = found-is (λ (x : NamedSchema). bytes_eq (schema_name x) n) tables s e in
    let here : s.name ≡ n = (bytes_eq-Decides s.name n).0 q.1 in
    let same : s.schema ≡ cs = cc in
    let has = every-one (λ (x : NamedSchema). has_columns x (table_columns (schemas_of catalogue) x.name)) tables stand s q.0 in
    let there : has_columns s (option_map (λ (t : Named). t.table.columns) (found_in catalogue n)) ≡ true = ap (has_columns s) (sym (columns-in catalogue n) ∙ ap (table_columns (schemas_of catalogue)) (sym here)) ∙ has in
    subst (Stands catalogue n) same (stands-by catalogue n s (found_in catalogue n) refl there)

-- Its columns that are lent.

lent-column : (cs : List Column) (n : List ℕ) → is_among (text_columns cs) n ≡ true → Member n (map column_name cs)
unfolding text_columns is_among
lent-column [] n h = absurd cc
lent-column (c ∷ cs) n h = elim (cases_Bool (same_kind c.kind kind.Text)) [
  | inl t ↦ elim (cases_Bool (bytes_eq c.name n)) [
    | inl s ↦ inl ((bytes_eq-Decides c.name n).0 s)
    | inr f ↦ let rest : is_among (text_columns cs) n ≡ true = rw (t, f) at h in inr (lent-column cs n rest)
  ]
  | inr f ↦ let rest : is_among (text_columns cs) n ≡ true = rw f at h in inr (lent-column cs n rest)
]

-- What the test says of a derived table.

sound-table : (marks : List ℕ) (p : Program) → can_lift marks p ≡ true → (d : Derived) → Member d (derived marks p) → own_if marks (table_columns p.tables d.table) ≡ true
unfolding can_lift derived_is_sound
sound-table marks p test d m =
    let names = are_distinct (map (λ (x : Derived). x.name) (derived marks p)) in
    let each = list_all (derived_is_sound marks p.tables) (derived marks p) in
    let a = and_parts (program_is_liftable marks p) (names && each) test in
    let b = and_parts names each a.1 in
    (and_parts (own_if marks (table_columns p.tables d.table)) (are_distinct (map (name_of_call marks) d.calls)) (every-one (derived_is_sound marks p.tables) (derived marks p) b.1 d m)).0

pub table-found : (tables : List NamedSchema) (catalogue : List Named) (n : List ℕ) (cs : List Column) → tables_stand tables (schemas_of catalogue) ≡ true → table_columns tables n ≡ Some cs → Stands catalogue n cs
unfolding table_columns
table-found tables catalogue n cs stand e = table-stands tables catalogue n cs stand (find (λ s. bytes_eq (schema_name s) n) tables) refl e

stands-of : (marks : List ℕ) (p : Program) (catalogue : List Named) (n : List ℕ) → tables_stand p.tables (schemas_of catalogue) ≡ true → (o : Option (List Column)) → table_columns p.tables n ≡ o → own_if marks o ≡ true → Stands catalogue n (columns_of_table p.tables n)
stands-of marks p catalogue n stand None e own = absurd cc
stands-of marks p catalogue n stand (Some cs) e own = subst (Stands catalogue n) (sym (columns-found p.tables n cs e)) (table-found p.tables catalogue n cs stand e)

-- The added columns.

pub map-twice : {X Y Z : Type 0} (f : X → Y) (g : Y → Z) (xs : List X) → map g (map f xs) ≡ map (λ x. g (f x)) xs
map-twice f g [] = refl
map-twice f g (x ∷ xs) = ap (λ zs. g (f x) ∷ zs) (map-twice f g xs)

added-names : (marks : List ℕ) (cs : List PatternCall) → map column_name (added_columns marks cs) ≡ map (name_of_call marks) cs
unfolding added_columns
added-names marks cs = map-twice (column_of_call marks) column_name cs

added-marked : (marks : List ℕ) (cs : List PatternCall) (c : Column) → Member c (added_columns marks cs) → begins_with marks (column_name c) ≡ true
unfolding added_columns
added-marked marks cs c m =
    let q = member-of-map (column_of_call marks) cs c m in
    ap (λ (x : Column). begins_with marks (column_name x)) (sym q.2) ∙ call-marked marks q.0

names-distinct : (cs : List Column) → are_distinct (names_of cs) ≡ true → are_distinct (map column_name cs) ≡ true
unfolding names_of
names-distinct cs h = h

column-unmarked : (marks : List ℕ) (cs : List Column) → list_all (λ n. not (begins_with marks n)) (names_of cs) ≡ true → (c : Column) → Member c cs → begins_with marks (column_name c) ≡ false
unfolding names_of
column-unmarked marks cs h c m = turned (begins_with marks c.name) (every-one (λ n. not (begins_with marks n)) (map column_name cs) h c.name (member-map column_name cs c m))

module _ (marks : List ℕ) (p : Program) (catalogue : List Named) (test : can_lift marks p ≡ true) (own : tables_are_unmarked marks (schemas_of catalogue) ≡ true) (fit : fits p (schemas_of catalogue) ≡ true) where
  pub ready-to-lift : FitsUnlifted marks p (schemas_of catalogue)
  ready-to-lift = tested_fits marks p (schemas_of catalogue) test own fit

  all-stand : tables_stand p.tables (schemas_of catalogue) ≡ true
  unfolding fits
  all-stand = (and_parts (tables_stand p.tables (schemas_of catalogue)) (is_some (program_columns p)) fit).0

  derived-stands : (d : Derived) → Member d (derived marks p) → Stands catalogue d.table (columns_of_table p.tables d.table)
  derived-stands d m = stands-of marks p catalogue d.table all-stand (table_columns p.tables d.table) refl (sound-table marks p test d m)

  is-ready : (d : Derived) → Member d (derived marks p) → IsReady marks (named_table catalogue d.table) d.calls
  is-ready d m =
      let all = contains-member (derived marks p) d m in
      let cs = columns_of_table p.tables d.table in
      let same : cs ≡ (named_table catalogue d.table).columns = sym (derived-stands d m).columns in
      let o = ready-to-lift.tables d all in
      record {
        there = λ c k. contains-member (map column_name (named_table catalogue d.table).columns) c.column
            (subst (λ (xs : List Column). Member c.column (map column_name xs)) same (lent-column cs c.column (program-lent marks p ready-to-lift.liftable d m c (member-contains d.calls c k))));
        names = subst (λ (xs : List Column). HasDistinctNames column_name (xs ++ added_columns marks d.calls)) same
            (distinct-behind column_name marks cs (added_columns marks d.calls) (distinct-of column_name cs (names-distinct cs o.differ))
            (ap are_distinct (added-names marks d.calls) ∙ ready-to-lift.calls d all) (column-unmarked marks cs o.own) (added-marked marks d.calls));
      }

  -- Each derived table can be made.
  pub all-ready : (d : Derived) → Contains (derived marks p) d → IsReadyIn marks catalogue d
  all-ready d c = let m = member-contains (derived marks p) d c in record { there = (derived-stands d m).there; table = is-ready d m }

  schema-made : (told : Told) (d : Derived) → Member d (derived marks p) → schema_of (derived_named told marks catalogue d) ≡ derived_schema marks p.tables d
  unfolding derived_schema derived_table
  schema-made told d m = ap (λ (cs : List Column). record { name = d.name; schema = cs ++ added_columns marks d.calls }) (derived-stands d m).columns

  -- The schemas of the derived tables.
  pub schemas-made : (told : Told) (ts : List Named) → ts ≡ map (derived_named told marks catalogue) (derived marks p) → schemas_of ts ≡ map (derived_schema marks p.tables) (derived marks p)
  schemas-made told ts e =
      ap schemas_of e
      ∙ (map-twice (derived_named told marks catalogue) schema_of (derived marks p)
      ∙ map-members (λ (d : Derived). schema_of (derived_named told marks catalogue d)) (derived_schema marks p.tables) (derived marks p) (schema-made told))
