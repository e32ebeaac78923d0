-- The lifted program fits the schemas of its tables and of the derived ones.
use Rattle.std.proofs.Common.{◌≡◌, ℕ, Bool, true, false, not, List, [], ◌∷◌, ◌++◌, map, refl, sym, ap, ap₂, ◌∙◌, subst, inl, inr}
use Rattle.std.specs.Prelude.{◌&&◌, bytes_eq, find, fold, is_some, Option, None, Some, option_and_then, option_map}
use Rattle.std.specs.List.{flat_map, list_all}
use Rattle.std.proofs.lemmas.Bool.{and_from, and_parts, cases_Bool}
use Rattle.std.proofs.lemmas.Slice.Eq.{bytes_eq-Decides}
use Rattle.kql_cells.specs.Catalogues.{Named, schema_name, schema_of, schemas_of, table_name}
use Rattle.kql_cells.specs.declared.schema.Column.{Column}
use Rattle.kql_cells.specs.declared.schemas.NamedSchema.{NamedSchema}
use Rattle.kql_cells.specs.declared.value.Kind.{Kind}
use Rattle.kql_cells.specs.declared.value.Kind.TheVariants as kind
use Rattle.kql_functions.specs.Kinds.{same_kind}
use Rattle.kql_bound.specs.declared.plan.Plan.{Plan}
use Rattle.kql_bound.specs.declared.plan.Program.{Program}
use Rattle.kql_meaning.specs.Fits.{Known, fits, has_columns, known_of, let_after, lets_columns, plan_columns, program_columns, same_columns, table_columns, tables_stand}
use Rattle.kql_meaning.specs.FittingOperators.{are_distinct}
use Rattle.kql_meaning.specs.Tables.{has_column, is_name_among, names_of}
use Rattle.kql_meaning.proofs.MemberLaws.{Member, contains-member, member-contains, member-either, member-left, member-map, member-of-map, member-right}
use Rattle.kql_meaning.proofs.OperatorFitLaws.{stays-none}
use Rattle.pattern_lift.specs.declared.calls.Derived.{Derived}
use Rattle.pattern_lift.specs.Derived.{added_columns, columns_of_table, derived, derived_in, derived_in_plans, derived_schema}
use Rattle.pattern_lift.specs.Lifted.{lifted_plan, lifted_program}
use Rattle.pattern_lift.specs.Marks.{begins_with}
use Rattle.pattern_laws.specs.LawsOfFitting.{AreOwn, FitsUnlifted, LiftedFits, LiftedFitsTables}
use Rattle.pattern_laws.specs.LawsOfPrograms.{CanBeLifted}
use Rattle.pattern_laws.specs.Liftable.{plan_is_liftable, program_is_liftable}
use Rattle.pattern_laws.specs.Meaning.{Told}
use Rattle.pattern_laws.specs.Tables.{derived_named, derived_table, derived_tables}
use Rattle.pattern_laws.proofs.BesideLaws.{distinct-apart, eq-itself}
use Rattle.pattern_laws.proofs.DerivedLaws.{every-derived, every-derived-of}
use Rattle.pattern_laws.proofs.FittedPlans.{Knowns, Stands, every-plan-fits}
use Rattle.pattern_laws.proofs.ProgramLaws.{found-behind, member-name, names-differ, own-name}
use Rattle.pattern_laws.proofs.StartLaws.{call-marked}

turned : (b : Bool) → not b ≡ true → b ≡ false
turned true h = sym h
turned false h = refl

-- What is found in lists.

found-first : {X : Type 0} (p : X → Bool) (xs ys : List X) (x : X) → find p xs ≡ Some x → find p (xs ++ ys) ≡ Some x
found-first p [] ys x h = absurd cc
found-first p (z ∷ xs) ys x h = elim (cases_Bool (p z)) [
  | inl t ↦ let e : Some z ≡ Some x = rw t at h in rw t e
  | inr f ↦ let e : find p xs ≡ Some x = rw f at h in rw f (found-first p xs ys x e)
]

found-is : {X : Type 0} (p : X → Bool) (xs : List X) (x : X) → find p xs ≡ Some x → Member x xs × (p x ≡ true)
found-is p [] x h = absurd cc
found-is p (z ∷ xs) x h = elim (cases_Bool (p z)) [
  | inl t ↦ let e : Some z ≡ Some x = rw t at h in let same : z ≡ x = cc in (inl same, ap p (sym same) ∙ t)
  | inr f ↦ let e : find p xs ≡ Some x = rw f at h in let q = found-is p xs x e in (inr q.0, q.1)
]

-- The columns of tables.

abbrev is_named : List ℕ → NamedSchema → Bool
is_named n s = bytes_eq (schema_name s) n

columns-first : (tables more : List NamedSchema) (n : List ℕ) (cs : List Column) → table_columns tables n ≡ Some cs → table_columns (tables ++ more) n ≡ Some cs
unfolding table_columns
columns-first tables more n cs h = by (find (is_named n) tables) refl h
  where
    by : (o : Option NamedSchema) → find (is_named n) tables ≡ o → option_map (λ (s : NamedSchema). s.schema) o ≡ Some cs → option_map (λ (s : NamedSchema). s.schema) (find (is_named n) (tables ++ more)) ≡ Some cs
    by None e g = absurd cc
    by (Some s) e g = ap (λ (o : Option NamedSchema). option_map (λ (s : NamedSchema). s.schema) o) (found-first (is_named n) tables more s e) ∙ g

-- A table that has columns has a name that does not begin with the marks, where no table's does.
own-found : (marks : List ℕ) (schemas : List NamedSchema) → ((s : NamedSchema) → Member s schemas → begins_with marks (schema_name s) ≡ false) → (n : List ℕ) (cs : List Column) → table_columns schemas n ≡ Some cs → begins_with marks n ≡ false
unfolding table_columns
own-found marks schemas own n cs h = by (find (is_named n) schemas) refl h
  where
    by : (o : Option NamedSchema) → find (is_named n) schemas ≡ o → option_map (λ (s : NamedSchema). s.schema) o ≡ Some cs → begins_with marks n ≡ false
    by None e g = absurd cc
    by (Some s) e g = let q = found-is (is_named n) schemas s e in ap (begins_with marks) (sym ((bytes_eq-Decides (schema_name s) n).0 q.1)) ∙ own s q.0

own-member : (marks : List ℕ) (schemas : List NamedSchema) → list_all (λ s. not (begins_with marks (schema_name s))) schemas ≡ true → (s : NamedSchema) → Member s schemas → begins_with marks (schema_name s) ≡ false
own-member marks [] l s m = absurd m
own-member marks (k ∷ ks) l s (inl e) = ap (λ (x : NamedSchema). begins_with marks (schema_name x)) (sym e) ∙ turned (begins_with marks (schema_name k)) (and_parts (not (begins_with marks (schema_name k))) (list_all (λ n. not (begins_with marks (schema_name n))) ks) l).0
own-member marks (k ∷ ks) l s (inr m) = own-member marks ks (and_parts (not (begins_with marks (schema_name k))) (list_all (λ n. not (begins_with marks (schema_name n))) ks) l).1 s m

some-columns : (s : NamedSchema) (o : Option (List Column)) → has_columns s o ≡ true → (cs : List Column) × (o ≡ Some cs)
unfolding has_columns
some-columns s None h = absurd cc
some-columns s (Some cs) h = (cs, refl)

kind-itself : (k : Kind) → same_kind k k ≡ true
kind-itself kind.Bool = refl
kind-itself kind.Long = refl
kind-itself kind.Text = refl
kind-itself kind.Moment = refl
kind-itself kind.Span = refl
kind-itself kind.Dynamic = refl

columns-itself : (cs : List Column) → same_columns cs cs ≡ true
unfolding same_columns
columns-itself [] = refl
columns-itself (c ∷ cs) = rw (eq-itself c.name, kind-itself c.kind, columns-itself cs) refl

stands-of : (schemas : List NamedSchema) (tables : List NamedSchema) → tables_stand tables schemas ≡ true → (s : NamedSchema) → Member s tables → has_columns s (table_columns schemas s.name) ≡ true
unfolding tables_stand
stands-of schemas [] h s m = absurd m
stands-of schemas (t ∷ ts) h s (inl e) = ap (λ (x : NamedSchema). has_columns x (table_columns schemas x.name)) (sym e) ∙ (and_parts (has_columns t (table_columns schemas t.name)) (list_all (λ (x : NamedSchema). has_columns x (table_columns schemas x.name)) ts) h).0
stands-of schemas (t ∷ ts) h s (inr m) = stands-of schemas ts (and_parts (has_columns t (table_columns schemas t.name)) (list_all (λ (x : NamedSchema). has_columns x (table_columns schemas x.name)) ts) h).1 s m

stand-all : (schemas : List NamedSchema) (tables : List NamedSchema) → ((s : NamedSchema) → Member s tables → has_columns s (table_columns schemas s.name) ≡ true) → tables_stand tables schemas ≡ true
unfolding tables_stand
stand-all schemas [] h = refl
stand-all schemas (t ∷ ts) h = rw (h t (inl refl), stand-all schemas ts (λ s m. h s (inr m))) refl

-- The schemas of derived tables.

module _ (marks : List ℕ) (tables : List NamedSchema) where
  abbrev made : Derived → NamedSchema
  made d = derived_schema marks tables d

  name-made : (d : Derived) → schema_name (made d) ≡ d.name
  unfolding derived_schema
  name-made d = refl

  columns-made : (d : Derived) → (made d).schema ≡ columns_of_table tables d.table ++ added_columns marks d.calls
  unfolding derived_schema
  columns-made d = refl

  made-found : (ds : List Derived) → are_distinct (map (λ (d : Derived). d.name) ds) ≡ true → (d : Derived) → Member d ds → find (is_named d.name) (map made ds) ≡ Some (made d)
  unfolding are_distinct derived_schema
  made-found [] a d m = absurd m
  made-found (e ∷ ds) a d (inl s) = rw ((bytes_eq-Decides e.name d.name).1 (ap (λ (x : Derived). x.name) s)) (ap (λ (x : Derived). Some (made x)) s)
  made-found (e ∷ ds) a d (inr m) =
      let p = and_parts (not (is_name_among (map (λ (x : Derived). x.name) ds) e.name)) (are_distinct (map (λ (x : Derived). x.name) ds)) a in
      let other : bytes_eq e.name d.name ≡ false = elim (cases_Bool (bytes_eq e.name d.name)) [
        | inl t ↦
            let there = member-name (map (λ (x : Derived). x.name) ds) d.name (member-map (λ (x : Derived). x.name) ds d m) in
            let no : true ≡ false = sym there ∙ (ap (is_name_among (map (λ (x : Derived). x.name) ds)) (sym ((bytes_eq-Decides e.name d.name).0 t)) ∙ turned (is_name_among (map (λ (x : Derived). x.name) ds) e.name) p.0) in absurd cc
        | inr f ↦ f
      ] in
      rw other (made-found ds p.1 d m)

  -- Behind tables of other names.
  made-columns : (ds : List Derived) → are_distinct (map (λ (d : Derived). d.name) ds) ≡ true → (others : List NamedSchema) → ((s : NamedSchema) → Member s others → begins_with marks (schema_name s) ≡ false) → (d : Derived) → Member d ds → begins_with marks d.name ≡ true → table_columns (others ++ map made ds) d.name ≡ Some (columns_of_table tables d.table ++ added_columns marks d.calls)
  unfolding table_columns
  made-columns ds a others own d m marked =
      ap (λ (o : Option NamedSchema). option_map (λ (s : NamedSchema). s.schema) o)
      (found-behind (is_named d.name) others (map made ds) (λ s n. (names-differ (schema_name s) d.name marks (own s n) marked).0) ∙ made-found ds a d m)
      ∙ ap (λ (cs : List Column). Some cs) (columns-made d)

module _ (marks : List ℕ) (p : Program) (schemas : List NamedSchema) (ready : FitsUnlifted marks p schemas) where
  abbrev more : List NamedSchema
  more = map (derived_schema marks p.tables) (derived marks p)

  derived-marked : (d : Derived) → Member d (derived marks p) → begins_with marks d.name ≡ true
  unfolding derived
  derived-marked d m = elim (member-either (derived_in_plans marks p.lets) (derived_in marks p.main) d m) [
    | inl l ↦ every-derived-of marks (λ (x : Derived). begins_with marks x.name ≡ true) (λ table c cs. call-marked marks c) p.lets d l
    | inr r ↦ every-derived marks (λ (x : Derived). begins_with marks x.name ≡ true) (λ table c cs. call-marked marks c) p.main d r
  ]

  fit-parts : (tables_stand p.tables schemas ≡ true) × (is_some (program_columns p) ≡ true)
  unfolding fits
  fit-parts = and_parts (tables_stand p.tables schemas) (is_some (program_columns p)) ready.fits

  schema-own : (s : NamedSchema) → Member s schemas → begins_with marks (schema_name s) ≡ false
  schema-own = own-member marks schemas ready.own

  table-there : (s : NamedSchema) → Member s p.tables → (cs : List Column) × (table_columns schemas s.name ≡ Some cs)
  table-there s m = some-columns s (table_columns schemas s.name) (stands-of schemas p.tables fit-parts.0 s m)

  table-own : (s : NamedSchema) → Member s p.tables → begins_with marks (schema_name s) ≡ false
  table-own s m = let q = table-there s m in own-found marks schemas schema-own s.name q.0 q.1

  -- Every table stands.

  derived-stands : (d : Derived) → Member d (derived marks p) → has_columns (derived_schema marks p.tables d) (table_columns (schemas ++ map (derived_schema marks p.tables) (derived marks p)) (derived_schema marks p.tables d).name) ≡ true
  unfolding has_columns derived_schema
  derived-stands d m =
      ap (has_columns (derived_schema marks p.tables d)) (made-columns marks p.tables (derived marks p) ready.names schemas schema-own d m (derived-marked d m))
      ∙ columns-itself (columns_of_table p.tables d.table ++ added_columns marks d.calls)

  table-stands : (s : NamedSchema) → Member s p.tables → has_columns s (table_columns (schemas ++ more) s.name) ≡ true
  table-stands s m =
      let q = table-there s m in
      ap (has_columns s) (columns-first schemas more s.name q.0 q.1 ∙ sym q.1) ∙ stands-of schemas p.tables fit-parts.0 s m

  each-stands : (s : NamedSchema) → Member s (p.tables ++ more) → has_columns s (table_columns (schemas ++ more) s.name) ≡ true
  each-stands s m = elim (member-either p.tables more s m) [
    | inl l ↦ table-stands s l
    | inr r ↦
        let q = member-of-map (derived_schema marks p.tables) (derived marks p) s r in
        subst (λ (x : NamedSchema). has_columns x (table_columns (schemas ++ more) x.name) ≡ true) q.2 (derived-stands q.0 q.1)
  ]

  -- Plans.

  abbrev before : List (List Column) → Known
  before lets = known_of p.tables lets

  abbrev behind : List (List Column) → Known
  behind lets = known_of (p.tables ++ more) lets

  knowns : (lets : List (List Column)) → Knowns p.tables (before lets) (behind lets)
  knowns lets = record { own = refl; lets = refl; keeps = λ n cs h. columns-first p.tables more n cs h }

  own-column : (columns : List Column) (n : List ℕ) → AreOwn marks columns → has_column n columns ≡ true → begins_with marks n ≡ false
  unfolding has_column
  own-column columns n own h = own-name marks (names_of columns) n own.own h

  standing : (lets : List (List Column)) (d : Derived) → Member d (derived marks p) → Stands marks p.tables (behind lets) d
  standing lets d m =
      let c = contains-member (derived marks p) d m in
      let own = ready.tables d c in
      record {
        apart = distinct-apart (columns_of_table p.tables d.table) own.differ;
        unmarked = λ n h. own-column (columns_of_table p.tables d.table) n own h;
        calls = ready.calls d c;
        table = made-columns marks p.tables (derived marks p) ready.names p.tables table-own d m (derived-marked d m);
      }

  one-plan : (lets : List (List Column)) (q : Plan) → plan_is_liftable marks p.tables q ≡ true → ((d : Derived) → Member d (derived_in marks q) → Member d (derived marks p)) → (ds : List Column) → plan_columns q (before lets) ≡ Some ds → plan_columns (lifted_plan marks p.tables q) (behind lets) ≡ Some ds
  one-plan lets q l h ds e = every-plan-fits marks p.tables (before lets) (behind lets) (knowns lets) q l (λ d m. standing lets d (h d m)) ds e

  -- Lets.

  none-after : (tables : List NamedSchema) (q : Plan) → let_after tables None q ≡ None
  unfolding let_after
  none-after tables q = refl

  let-by : (q : Plan) (lets ms : List (List Column)) → ((ds : List Column) → plan_columns q (before lets) ≡ Some ds → plan_columns (lifted_plan marks p.tables q) (behind lets) ≡ Some ds) → (m : Option (List Column)) → plan_columns q (before lets) ≡ m → option_map (λ columns. lets ++ columns ∷ []) m ≡ Some ms → option_map (λ columns. lets ++ columns ∷ []) (plan_columns (lifted_plan marks p.tables q) (behind lets)) ≡ Some ms
  let-by q lets ms keep None e h = absurd cc
  let-by q lets ms keep (Some ds) e h = ap (λ (o : Option (List Column)). option_map (λ columns. lets ++ columns ∷ []) o) (keep ds e) ∙ h

  let-next : (q : Plan) (o : Option (List (List Column))) (ms : List (List Column)) → ((lets : List (List Column)) (ds : List Column) → plan_columns q (before lets) ≡ Some ds → plan_columns (lifted_plan marks p.tables q) (behind lets) ≡ Some ds) → let_after p.tables o q ≡ Some ms → let_after (p.tables ++ more) o (lifted_plan marks p.tables q) ≡ Some ms
  unfolding let_after
  let-next q None ms keep h = absurd cc
  let-next q (Some lets) ms keep h = let-by q lets ms (keep lets) (plan_columns q (before lets)) refl h

  lets-by : (q : Plan) (qs : List Plan) (o : Option (List (List Column))) (ls : List (List Column)) → ((ms : List (List Column)) → let_after p.tables o q ≡ Some ms → let_after (p.tables ++ more) o (lifted_plan marks p.tables q) ≡ Some ms) → ((ms : List (List Column)) → fold (let_after p.tables) (Some ms) qs ≡ Some ls → fold (let_after (p.tables ++ more)) (Some ms) (map (lifted_plan marks p.tables) qs) ≡ Some ls) → (m : Option (List (List Column))) → let_after p.tables o q ≡ m → fold (let_after p.tables) m qs ≡ Some ls → fold (let_after (p.tables ++ more)) (let_after (p.tables ++ more) o (lifted_plan marks p.tables q)) (map (lifted_plan marks p.tables) qs) ≡ Some ls
  lets-by q qs o ls one rest None e h = let none : None ≡ Some ls = sym (stays-none (let_after p.tables) (none-after p.tables) qs) ∙ h in absurd cc
  lets-by q qs o ls one rest (Some ms) e h = ap (λ (z : Option (List (List Column))). fold (let_after (p.tables ++ more)) z (map (lifted_plan marks p.tables) qs)) (one ms e) ∙ rest ms h

  lets-kept : (qs : List Plan) (o : Option (List (List Column))) (ls : List (List Column)) → list_all (plan_is_liftable marks p.tables) qs ≡ true → ((d : Derived) → Member d (derived_in_plans marks qs) → Member d (derived marks p)) → fold (let_after p.tables) o qs ≡ Some ls → fold (let_after (p.tables ++ more)) o (map (lifted_plan marks p.tables) qs) ≡ Some ls
  unfolding derived_in_plans
  lets-kept [] o ls l h f = f
  lets-kept (q ∷ qs) o ls l h f =
      let a = and_parts (plan_is_liftable marks p.tables q) (list_all (plan_is_liftable marks p.tables) qs) l in
      lets-by q qs o ls
      (λ ms e. let-next q o ms (λ lets ds g. one-plan lets q a.0 (λ d m. h d (member-left (derived_in marks q) (flat_map (derived_in marks) qs) d m)) ds g) e)
      (λ ms g. lets-kept qs (Some ms) ls a.1 (λ d m. h d (member-right (derived_in marks q) (flat_map (derived_in marks) qs) d m)) g)
      (let_after p.tables o q) refl f

  -- The program.

  program-next : (cs : List Column) (o : Option (List (List Column))) → lets_columns p.lets p.tables ≡ o → option_and_then (λ lets. plan_columns p.main (before lets)) o ≡ Some cs → option_and_then (λ lets. plan_columns (lifted_plan marks p.tables p.main) (behind lets)) (lets_columns (map (lifted_plan marks p.tables) p.lets) (p.tables ++ more)) ≡ Some cs
  unfolding lets_columns program_is_liftable derived
  program-next cs None e h = absurd cc
  program-next cs (Some lets) e h =
      let a = and_parts (list_all (plan_is_liftable marks p.tables) p.lets) (plan_is_liftable marks p.tables p.main) ready.liftable in
      let all = lets-kept p.lets (Some []) lets a.0 (λ d m. member-left (derived_in_plans marks p.lets) (derived_in marks p.main) d m) e in
      ap (λ (z : Option (List (List Column))). option_and_then (λ ls. plan_columns (lifted_plan marks p.tables p.main) (behind ls)) z) all
      ∙ one-plan lets p.main a.1 (λ d m. member-right (derived_in_plans marks p.lets) (derived_in marks p.main) d m) cs h

  program-kept : (cs : List Column) → program_columns p ≡ Some cs → program_columns (lifted_program marks p) ≡ Some cs
  unfolding program_columns lifted_program
  program-kept cs h = program-next cs (lets_columns p.lets p.tables) refl h

  same-by : (o : Option (List Column)) → program_columns p ≡ o → is_some o ≡ true → program_columns (lifted_program marks p) ≡ program_columns p
  same-by None e h = absurd cc
  same-by (Some cs) e h = program-kept cs e ∙ sym e

  tables-of : (lifted_program marks p).tables ≡ p.tables ++ more
  unfolding lifted_program
  tables-of = refl

  program-fits : (fits (lifted_program marks p) (schemas ++ more) ≡ true) × (program_columns (lifted_program marks p) ≡ program_columns p)
  unfolding fits
  program-fits =
      let same = same-by (program_columns p) refl fit-parts.1 in (
        and_from (tables_stand (lifted_program marks p).tables (schemas ++ more)) (is_some (program_columns (lifted_program marks p)))
            (ap (λ (ts : List NamedSchema). tables_stand ts (schemas ++ more)) tables-of ∙ stand-all (schemas ++ more) (p.tables ++ more) each-stands)
            (ap is_some same ∙ fit-parts.1),
        same,
      )

pub lifted_fits : LiftedFits
lifted_fits marks p schemas ready = program-fits marks p schemas ready

-- Over a catalogue.

map-append-of : {X Y : Type 0} (f : X → Y) (xs ys : List X) → map f (xs ++ ys) ≡ map f xs ++ map f ys
map-append-of f [] ys = refl
map-append-of f (x ∷ xs) ys = ap (λ zs. f x ∷ zs) (map-append-of f xs ys)

map-same : {X Y : Type 0} (f g : X → Y) (xs : List X) → ((x : X) → Member x xs → f x ≡ g x) → map f xs ≡ map g xs
map-same f g [] h = refl
map-same f g (x ∷ xs) h = ap₂ (λ y ys. y ∷ ys) (h x (inl refl)) (map-same f g xs (λ y m. h y (inr m)))

map-twice : {X Y Z : Type 0} (f : X → Y) (g : Y → Z) (xs : List X) → map g (map f xs) ≡ map (λ x. g (f x)) xs
map-twice f g [] = refl
map-twice f g (x ∷ xs) = ap (λ zs. g (f x) ∷ zs) (map-twice f g xs)

pub all-schemas : (marks : List ℕ) (tables : List Named) → list_all (λ s. not (begins_with marks (schema_name s))) (schemas_of tables) ≡ list_all (λ t. not (begins_with marks (table_name t))) tables
all-schemas marks [] = refl
all-schemas marks (t ∷ ts) = ap (λ b. not (begins_with marks (table_name t)) && b) (all-schemas marks ts)

module _ (told : Told) (marks : List ℕ) (p : Program) (catalogue : List Named) (can : CanBeLifted marks p catalogue) where
  own-columns : (d : Derived) → Member d (derived marks p) → AreOwn marks (columns_of_table p.tables d.table)
  own-columns d m =
      let r = can.tables d (contains-member (derived marks p) d m) in
      subst (AreOwn marks) (sym r.columns) (record { differ = r.differ; own = r.own })

  schema-same : (d : Derived) → Member d (derived marks p) → schema_of (derived_named told marks catalogue d) ≡ derived_schema marks p.tables d
  unfolding derived_schema derived_table
  schema-same d m =
      let r = can.tables d (contains-member (derived marks p) d m) in
      ap (λ (cs : List Column). record { name = d.name; schema = cs ++ added_columns marks d.calls }) (sym r.columns)

  schemas-same : schemas_of (catalogue ++ derived_tables told marks p catalogue) ≡ schemas_of catalogue ++ map (derived_schema marks p.tables) (derived marks p)
  unfolding derived_tables
  schemas-same =
      map-append-of schema_of catalogue (map (derived_named told marks catalogue) (derived marks p))
      ∙ ap (λ (more : List NamedSchema). schemas_of catalogue ++ more)
      (map-twice (derived_named told marks catalogue) schema_of (derived marks p)
      ∙ map-same (λ (d : Derived). schema_of (derived_named told marks catalogue d)) (derived_schema marks p.tables) (derived marks p) schema-same)

  ready-of : fits p (schemas_of catalogue) ≡ true → FitsUnlifted marks p (schemas_of catalogue)
  ready-of f = record {
    fits = f;
    liftable = can.liftable;
    own = all-schemas marks catalogue ∙ can.own;
    tables = λ d c. own-columns d (member-contains (derived marks p) d c);
    names = can.names;
    calls = can.calls;
  }

  tables-fit : fits p (schemas_of catalogue) ≡ true → fits (lifted_program marks p) (schemas_of (catalogue ++ derived_tables told marks p catalogue)) ≡ true
  tables-fit f = ap (fits (lifted_program marks p)) schemas-same ∙ (lifted_fits marks p (schemas_of catalogue) (ready-of f)).0

pub lifted_fits_tables : LiftedFitsTables
lifted_fits_tables told marks p catalogue can f = tables-fit told marks p catalogue can f
