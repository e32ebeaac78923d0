-- The lifted program over the catalogue with the derived tables.
use Rattle.std.proofs.Common.{◌≡◌, ℕ, Bool, true, false, not, List, [], ◌∷◌, ◌++◌, map, refl, sym, ap, ◌∙◌, inl, inr}
use Rattle.std.specs.Prelude.{bytes_eq, cond, find, fold, None, Some}
use Rattle.std.specs.List.{flat_map, list_all}
use Rattle.std.proofs.lemmas.Bool.{and_parts, cases_Bool}
use Rattle.std.proofs.lemmas.Slice.Eq.{bytes_eq-Decides}
use Rattle.kql_cells.specs.Catalogues.{Named, table_name}
use Rattle.kql_cells.specs.Table.{Grid}
use Rattle.kql_bound.specs.declared.plan.Plan.{Plan}
use Rattle.kql_bound.specs.declared.plan.Program.{Program}
use Rattle.kql_meaning.specs.FittingOperators.{are_distinct}
use Rattle.kql_meaning.specs.Plans.{World, lets_mean, means, plan_means}
use Rattle.kql_meaning.specs.Sources.{named_table, table_of}
use Rattle.kql_meaning.specs.Tables.{has_column, is_name_among, names_of}
use Rattle.kql_meaning.proofs.MemberLaws.{Member, contains-member, member-either, member-left, member-map, member-of-map, member-right}
use Rattle.pattern_lift.specs.declared.calls.Derived.{Derived}
use Rattle.pattern_lift.specs.Derived.{derived, derived_in, derived_in_plans}
use Rattle.pattern_lift.specs.Lifted.{lifted_plan, lifted_program}
use Rattle.pattern_lift.specs.Marks.{begins_with}
use Rattle.pattern_laws.specs.LawsOfPrograms.{CanBeLifted, IsRead, LiftedMeans}
use Rattle.pattern_laws.specs.Liftable.{plan_is_liftable, program_is_liftable}
use Rattle.pattern_laws.specs.Meaning.{Told, told_lets, told_means, told_plan}
use Rattle.pattern_laws.specs.Tables.{derived_named, derived_table, derived_tables}
use Rattle.pattern_laws.proofs.BesideLaws.{IsOwn, distinct-apart}
use Rattle.pattern_laws.proofs.DerivedLaws.{every-derived, every-derived-of}
use Rattle.pattern_laws.proofs.PlanLaws.{Standing, Worlds, every-plan}
use Rattle.pattern_laws.proofs.PrefixLaws.{among-alike, among-cons}
use Rattle.pattern_laws.proofs.StartLaws.{call-marked}

turned : (b : Bool) → not b ≡ true → b ≡ false
turned true h = sym h
turned false h = refl

name-cons : (m : List ℕ) (names : List (List ℕ)) (n : List ℕ) → is_name_among (m ∷ names) n ≡ cond (bytes_eq m n) true (is_name_among names n)
name-cons m names n = sym (among-alike (m ∷ names) n) ∙ (among-cons m names n ∙ ap (λ b. cond (bytes_eq m n) true b) (among-alike names n))

-- What is found in lists.

none-found : {X : Type 0} (p : X → Bool) (xs : List X) → ((x : X) → Member x xs → p x ≡ false) → find p xs ≡ None
none-found p [] h = refl
none-found p (x ∷ xs) h = rw (h x (inl refl)) (none-found p xs (λ y m. h y (inr m)))

pub found-behind : {X : Type 0} (p : X → Bool) (xs ys : List X) → ((x : X) → Member x xs → p x ≡ false) → find p (xs ++ ys) ≡ find p ys
found-behind p [] ys h = refl
found-behind p (x ∷ xs) ys h = rw (h x (inl refl)) (found-behind p xs ys (λ y m. h y (inr m)))

found-before : {X : Type 0} (p : X → Bool) (xs ys : List X) → find p ys ≡ None → find p (xs ++ ys) ≡ find p xs
found-before p [] ys h = h
found-before p (x ∷ xs) ys h = elim (cases_Bool (p x)) [
  | inl t ↦ rw t refl
  | inr f ↦ rw f (found-before p xs ys h)
]

pub names-differ : (m n : List ℕ) (marks : List ℕ) → begins_with marks m ≡ false → begins_with marks n ≡ true → (bytes_eq m n ≡ false) × (bytes_eq n m ≡ false)
names-differ m n marks a b = (differ m n (λ e. sym a ∙ (ap (begins_with marks) e ∙ b)), differ n m (λ e. sym a ∙ (ap (begins_with marks) (sym e) ∙ b)))
  where
    differ : (k l : List ℕ) → (k ≡ l → false ≡ true) → bytes_eq k l ≡ false
    differ k l h = elim (cases_Bool (bytes_eq k l)) [
      | inl t ↦ let no : false ≡ true = h ((bytes_eq-Decides k l).0 t) in absurd cc
      | inr f ↦ f
    ]

pub member-name : (ns : List (List ℕ)) (n : List ℕ) → Member n ns → is_name_among ns n ≡ true
member-name [] n m = absurd m
member-name (k ∷ ns) n (inl e) = name-cons k ns n ∙ rw ((bytes_eq-Decides k n).1 e) refl
member-name (k ∷ ns) n (inr m) = name-cons k ns n ∙ either-true (bytes_eq k n) (is_name_among ns n) (member-name ns n m)
  where
    either-true : (a b : Bool) → b ≡ true → cond a true b ≡ true
    either-true true b h = refl
    either-true false b h = h

named-member : (ds : List Derived) (d : Derived) → Member d ds → Member d.name (map (λ (x : Derived). x.name) ds)
named-member ds d m = member-map (λ (x : Derived). x.name) ds d m

none-named : (n : List ℕ) → is_name_among [] n ≡ true → ⊥
unfolding is_name_among
none-named n e = cc

module _ (told : Told) (marks : List ℕ) (catalogue : List Named) where
  abbrev made : Derived → Named
  made d = derived_named told marks catalogue d

  made-found : (ds : List Derived) → are_distinct (map (λ (d : Derived). d.name) ds) ≡ true → (d : Derived) → Member d ds → find (λ n. bytes_eq (table_name n) d.name) (map made ds) ≡ Some (made d)
  unfolding are_distinct
  made-found [] a d m = absurd m
  made-found (e ∷ ds) a d (inl s) = rw ((bytes_eq-Decides e.name d.name).1 (ap (λ (x : Derived). x.name) s)) (ap (λ (x : Derived). Some (made x)) s)
  made-found (e ∷ ds) a d (inr m) =
      let p = and_parts (not (is_name_among (map (λ (x : Derived). x.name) ds) e.name)) (are_distinct (map (λ (x : Derived). x.name) ds)) a in
      let other : bytes_eq e.name d.name ≡ false = elim (cases_Bool (bytes_eq e.name d.name)) [
        | inl t ↦
            let there = member-name (map (λ (x : Derived). x.name) ds) d.name (named-member ds d m) in
            let no : true ≡ false = sym there ∙ (ap (is_name_among (map (λ (x : Derived). x.name) ds)) (sym ((bytes_eq-Decides e.name d.name).0 t)) ∙ turned (is_name_among (map (λ (x : Derived). x.name) ds) e.name) p.0) in absurd cc
        | inr f ↦ f
      ] in
      rw other (made-found ds p.1 d m)

pub own-name : (marks : List ℕ) (ns : List (List ℕ)) (n : List ℕ) → list_all (λ m. not (begins_with marks m)) ns ≡ true → is_name_among ns n ≡ true → begins_with marks n ≡ false
own-name marks [] n l h = absurd (none-named n h)
own-name marks (k ∷ ns) n l h =
    let p = and_parts (not (begins_with marks k)) (list_all (λ m. not (begins_with marks m)) ns) l in
    let q = sym (name-cons k ns n) ∙ h in
    elim (cases_Bool (bytes_eq k n)) [
      | inl t ↦ ap (begins_with marks) (sym ((bytes_eq-Decides k n).0 t)) ∙ turned (begins_with marks k) p.0
      | inr f ↦ let rest : is_name_among ns n ≡ true = rw f at q in own-name marks ns n p.1 rest
    ]

own-table : (marks : List ℕ) (tables : List Named) → list_all (λ n. not (begins_with marks (table_name n))) tables ≡ true → (t : Named) → Member t tables → begins_with marks (table_name t) ≡ false
own-table marks [] l t m = absurd m
own-table marks (k ∷ ts) l t (inl e) = ap (λ (x : Named). begins_with marks (table_name x)) (sym e) ∙ turned (begins_with marks (table_name k)) (and_parts (not (begins_with marks (table_name k))) (list_all (λ n. not (begins_with marks (table_name n))) ts) l).0
own-table marks (k ∷ ts) l t (inr m) = own-table marks ts (and_parts (not (begins_with marks (table_name k))) (list_all (λ n. not (begins_with marks (table_name n))) ts) l).1 t m

module _ (told : Told) (marks : List ℕ) (p : Program) (catalogue : List Named) (can : CanBeLifted marks p catalogue) where
  abbrev all_tables : List Named
  all_tables = catalogue ++ derived_tables told marks p catalogue

  derived-marked : (d : Derived) → Member d (derived marks p) → begins_with marks d.name ≡ true
  unfolding derived
  derived-marked d m = elim (member-either (derived_in_plans marks p.lets) (derived_in marks p.main) d m) [
    | inl l ↦ every-derived-of marks (λ (x : Derived). begins_with marks x.name ≡ true) (λ table c cs. call-marked marks c) p.lets d l
    | inr r ↦ every-derived marks (λ (x : Derived). begins_with marks x.name ≡ true) (λ table c cs. call-marked marks c) p.main d r
  ]

  made-marked : (t : Named) → Member t (derived_tables told marks p catalogue) → begins_with marks (table_name t) ≡ true
  unfolding derived_tables
  made-marked t m =
      let q = member-of-map (derived_named told marks catalogue) (derived marks p) t m in
      ap (λ (x : Named). begins_with marks (table_name x)) (sym q.2) ∙ derived-marked q.0 q.1

  own-stays : (n : List ℕ) → begins_with marks n ≡ false → named_table all_tables n ≡ named_table catalogue n
  unfolding named_table
  own-stays n own =
      ap table_of (found-before (λ t. bytes_eq (table_name t) n) catalogue (derived_tables told marks p catalogue)
      (none-found (λ t. bytes_eq (table_name t) n) (derived_tables told marks p catalogue) (λ t m. (names-differ n (table_name t) marks own (made-marked t m)).1)))

  derived-stands : (d : Derived) → Member d (derived marks p) → named_table all_tables d.name ≡ derived_table told marks d.calls (named_table catalogue d.table)
  unfolding named_table derived_tables derived_table table_of
  derived-stands d m =
      ap table_of (found-behind (λ t. bytes_eq (table_name t) d.name) catalogue (map (derived_named told marks catalogue) (derived marks p)) (λ t n. (names-differ (table_name t) d.name marks (own-table marks catalogue can.own t n) (derived-marked d m)).0)
      ∙ made-found told marks catalogue (derived marks p) can.names d m)

  is-own : (d : Derived) → IsRead marks p catalogue d → IsOwn marks (named_table catalogue d.table)
  unfolding has_column
  is-own d r = record {
    apart = distinct-apart (named_table catalogue d.table).columns r.differ;
    full = r.full;
    unmarked = λ n h. own-name marks (names_of (named_table catalogue d.table).columns) n r.own h;
  }

  abbrev world : List Grid → World
  world lets = record { tables = catalogue; lets = lets }

  abbrev lifted_world : List Grid → World
  lifted_world lets = record { tables = all_tables; lets = lets }

  worlds : (lets : List Grid) → Worlds marks (world lets) (lifted_world lets)
  worlds lets = record { lets = refl; tables = own-stays }

  standing : (lets : List Grid) (d : Derived) → Member d (derived marks p) → Standing told marks p.tables (world lets) (lifted_world lets) d
  standing lets d m =
      let c = contains-member (derived marks p) d m in
      let r = can.tables d c in
      record { columns = r.columns; own = is-own d r; apart = can.calls d c; table = derived-stands d m }

  lets-same : (ps : List Plan) (done : List Grid) → list_all (plan_is_liftable marks p.tables) ps ≡ true → ((d : Derived) → Member d (derived_in_plans marks ps) → Member d (derived marks p)) → fold (λ before (q : Plan). before ++ plan_means q (lifted_world before) ∷ []) done (map (lifted_plan marks p.tables) ps) ≡ fold (λ before (q : Plan). before ++ told_plan told q (world before) ∷ []) done ps
  unfolding derived_in_plans
  lets-same [] done l h = refl
  lets-same (q ∷ qs) done l h =
      let a = and_parts (plan_is_liftable marks p.tables q) (list_all (plan_is_liftable marks p.tables) qs) l in
      let one = every-plan told marks p.tables (world done) (lifted_world done) (worlds done) q a.0 (λ d m. standing done d (h d (member-left (derived_in marks q) (flat_map (derived_in marks) qs) d m))) in
      ap (λ (g : Grid). fold (λ before (z : Plan). before ++ plan_means z (lifted_world before) ∷ []) (done ++ g ∷ []) (map (lifted_plan marks p.tables) qs)) one
      ∙ lets-same qs (done ++ told_plan told q (world done) ∷ []) a.1 (λ d m. h d (member-right (derived_in marks q) (flat_map (derived_in marks) qs) d m))

  program-same : means (lifted_program marks p) all_tables ≡ told_means told p catalogue
  unfolding means lifted_program told_means lets_mean told_lets program_is_liftable derived
  program-same =
      let a = and_parts (list_all (plan_is_liftable marks p.tables) p.lets) (plan_is_liftable marks p.tables p.main) can.liftable in
      let lets = lets-same p.lets [] a.0 (λ d m. member-left (derived_in_plans marks p.lets) (derived_in marks p.main) d m) in
      let done = fold (λ before (q : Plan). before ++ told_plan told q (world before) ∷ []) [] p.lets in
      ap (λ (ts : List Grid). plan_means (lifted_plan marks p.tables p.main) (lifted_world ts)) lets
      ∙ every-plan told marks p.tables (world done) (lifted_world done) (worlds done) p.main a.1 (λ d m. standing done d (member-right (derived_in_plans marks p.lets) (derived_in marks p.main) d m))

pub lifted_means : LiftedMeans
lifted_means told marks p catalogue can = program-same told marks p catalogue can
