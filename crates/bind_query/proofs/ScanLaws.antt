-- A scan's own faults in their order, and the columns that it gives.
use Rattle.std.proofs.Common.{◌≡◌, ◌<◌, ◌≤◌, ◌+◌, ℕ, Bool, true, false, List, [], ◌∷◌, ◌++◌, append-nil, append_assoc, length, map, refl, sym, ap, ap₂, ◌∙◌, inl, inr, arith, subst}
use Rattle.std.specs.Prelude.{fold, nat_le, not, Option, None, Some, Ok, Err, option_map, option_to_list}
use Rattle.std.proofs.lemmas.Bool.{cases_Bool, leb-false, leb-true}
use Rattle.std.proofs.lemmas.List.{map-append}
use Rattle.kql_cells.specs.Named.{HasDistinctNames, column_name}
use Rattle.kql_cells.specs.declared.schema.Column.{Column}
use Rattle.kql_cells.specs.declared.value.Kind.{Kind}
use Rattle.kql_lexer.specs.declared.place.Place.{Place}
use Rattle.kql_bound.specs.declared.literal.Lit.{Lit}
use Rattle.kql_bound.specs.declared.parts.Decl.{Decl as BoundDecl}
use Rattle.kql_bound.specs.declared.parts.ScanPlan.{ScanPlan}
use Rattle.kql_bound.specs.declared.parts.ScanStep.{ScanStep}
use Rattle.kql_meaning.specs.Scan.{declared_columns, id_columns, scan_columns}
use Rattle.kql_meaning.specs.Tables.{names_of}
use Rattle.kql_meaning.proofs.MemberLaws.{Member, Pairwise, every-of-members, member-either, member-left, member-map, member-right, of-member, pairs-of, pairwise-append}
use Rattle.kql_syntax.specs.declared.query.Decl.{Decl}
use Rattle.kql_syntax.specs.declared.query.Scan.{Scan}
use Rattle.kql_syntax.specs.declared.query.Step.{Step}
use Rattle.kql_syntax.specs.declared.tree.Name.{Name}
use Rattle.bind_expr.specs.Names.{text_of}
use Rattle.bind_expr.specs.Outcome.{Answers, Outcome, ◌>>=◌}
use Rattle.bind_expr.specs.declared.fault.BindFault.{BindFault}
use Rattle.bind_expr.specs.declared.fault.BindFault.TheVariants as fault
use Rattle.bind_operators.specs.Faults.{each_bound, fault_if, unless}
use Rattle.bind_operators.specs.Items.{names_twice}
use Rattle.bind_operators.specs.Wanted.{kind_bound}
use Rattle.bind_operators.specs.declared.known.Known.{Known}
use Rattle.bind_operators.specs.declared.shape.Shape.{Shape}
use Rattle.bind_expr.proofs.AnswerFacts.{answers-along}
use Rattle.bind_operators.specs.Places.{name_place}
use Rattle.bind_operators.proofs.AnswerSteps.{none-told}
use Rattle.bind_operators.proofs.NameLaws.{apart, different, pairwise-of}
use Rattle.bind_groups.specs.Names.{with_written, written}
use Rattle.bind_groups.specs.declared.written_names.WrittenNames.{WrittenNames}
use Rattle.bind_groups.proofs.EachLaws.{each-answers}
use Rattle.bind_groups.proofs.NameSteps.{apart-of, names-once, written-more}
use Rattle.bind_query.specs.Scan.{Assignment, assignment_faults, decl_bound, decl_of, declared_default, declared_names, new_names, scan_faults, scan_plan, step_faults, step_name_faults}

-- The first of faults, one part after another.

pub fault-first : (fs gs : List BindFault) (r : Outcome (Unit {0})) (f : BindFault) → r ≡ Err f → Answers r (unless fs tt) → Answers {X = Unit {0}} (Err f) (unless (fs ++ gs) tt)
unfolding unless
fault-first fs gs r fault.OutOfMemory is a = record { holds = tt }
fault-first fs gs r (fault.Refused code place) is a =
    let there : Answers (Err (fault.Refused code place)) (unless fs tt) = subst (λ s. Answers s (unless fs tt)) is a in
    front fs (there.holds)
  where
    front : (fs : List BindFault) → unless {X = Unit {0}} fs tt ≡ Err (fault.Refused code place) → Answers {X = Unit {0}} (Err (fault.Refused code place)) (unless (fs ++ gs) tt)
    front [] e = cc
    front (g ∷ more) e = record { holds = e }

pub none-first : (fs gs : List BindFault) (r result : Outcome (Unit {0})) → r ≡ Ok tt → Answers r (unless fs tt) → Answers result (unless gs tt) → Answers result (unless (fs ++ gs) tt)
none-first fs gs r result is a h = let none = none-told fs r is a in rw none h

pub not-serial : (serial : Bool) (operator : Place) (gs : List BindFault) → serial ≡ false → Answers {X = Unit {0}} (Err (fault.Refused 407 operator)) (unless (fault_if (not serial) 407 operator ++ gs) tt)
unfolding unless fault_if
not-serial serial operator gs is = rw is (record { holds = refl })

pub when-serial : (serial : Bool) (operator : Place) (gs : List BindFault) (result : Outcome (Unit {0})) → serial ≡ true → Answers result (unless gs tt) → Answers result (unless (fault_if (not serial) 407 operator ++ gs) tt)
unfolding unless fault_if
when-serial serial operator gs result is h = rw is h

pub ruleset fault_steps = (not-serial, when-serial, fault-first, none-first)

-- Steps, one after another.

le-true : (a b : ℕ) → a ≤ b → nat_le a b ≡ true
le-true a b h = elim (cases_Bool (nat_le a b)) [
  | inl t ↦ t
  | inr f ↦ absurd (omega (arith, h, leb-false a b f))
]

le-false : (a b : ℕ) → b < a → nat_le a b ≡ false
le-false a b h = elim (cases_Bool (nat_le a b)) [
  | inl t ↦ absurd (omega (arith, h, leb-true a b t))
  | inr f ↦ f
]

-- What is told of steps, where so many stand before them.
abbrev told_of : List (List ℕ) → ℕ → List Step → Outcome (Unit {0})
told_of declared before steps = unless (step_faults declared before steps) tt

at-one : (declared : List (List ℕ)) (before : ℕ) (left more all : List Step) (s : Step) → left ≡ s ∷ more → told_of declared before left ≡ told_of declared 0 all → told_of declared before (s ∷ more) ≡ told_of declared 0 all
at-one declared before left more all s is same = subst (λ steps. told_of declared before steps ≡ told_of declared 0 all) is same

pub step-late : (declared : List (List ℕ)) (before : ℕ) (left more all : List Step) (s : Step) (place : Place) → left ≡ s ∷ more → place ≡ name_place s.name → 64 ≤ before → told_of declared before left ≡ told_of declared 0 all → Answers (Err (fault.Refused 413 place)) (told_of declared 0 all)
unfolding step_faults unless fault_if
step-late declared before left more all s place is at late same =
    let late : nat_le 64 before ≡ true = le-true 64 before late in
    answers-along (Err (fault.Refused 413 place)) (told_of declared before (s ∷ more)) (told_of declared 0 all) (rw (late, at) (record { holds = refl })) (at-one declared before left more all s is same)

pub step-assigns : (declared : List (List ℕ)) (before : ℕ) (left more all : List Step) (s : Step) (sets : List Assignment) (r : Outcome (Unit {0})) (f : BindFault) → left ≡ s ∷ more → sets ≡ s.sets → before < 64 → told_of declared before left ≡ told_of declared 0 all → r ≡ Err f → Answers r (unless (assignment_faults declared [] sets) tt) → Answers (Err f) (told_of declared 0 all)
unfolding step_faults fault_if
step-assigns declared before left more all s sets r f is at early same told a =
    let early : nat_le 64 before ≡ false = le-false 64 before early in
    let there : Answers r (unless (assignment_faults declared [] s.sets) tt) = subst (λ ss. Answers r (unless {X = Unit {0}} (assignment_faults declared [] ss) tt)) at a in
    answers-along (Err f) (told_of declared before (s ∷ more)) (told_of declared 0 all) (rw early (fault-first (assignment_faults declared [] s.sets) (step_faults declared (before + 1) more) r f told there)) (at-one declared before left more all s is same)

pub step-more : (declared : List (List ℕ)) (before : ℕ) (left more all : List Step) (s : Step) (r : Outcome (Unit {0})) → left ≡ s ∷ more → before < 64 → told_of declared before left ≡ told_of declared 0 all → r ≡ Ok tt → Answers r (unless (assignment_faults declared [] s.sets) tt) → told_of declared (before + 1) more ≡ told_of declared 0 all
unfolding step_faults fault_if
step-more declared before left more all s r is early same told a =
    let early : nat_le 64 before ≡ false = le-false 64 before early in
    let none : assignment_faults declared [] s.sets ≡ [] = none-told (assignment_faults declared [] s.sets) r told a in
    let rest : told_of declared before (s ∷ more) ≡ told_of declared (before + 1) more = rw (early, none) refl in
    sym rest ∙ at-one declared before left more all s is same

pub step-end : (declared : List (List ℕ)) (before : ℕ) (left all : List Step) → length left ≡ 0 → told_of declared before left ≡ told_of declared 0 all → Answers (Ok tt) (told_of declared 0 all)
unfolding step_faults unless
step-end declared before [] all e same = record { holds = sym same }
step-end declared before (s ∷ left) all e same = absurd (omega (arith, e))

pub ruleset step_steps = (step-late, step-assigns, step-more, step-end)

-- The names of new columns, one after another.

names-from : (names : List Name) (ds : List Decl) → fold (λ w (d : Decl). with_written w d.name) (written names) ds ≡ written (names ++ map (λ (d : Decl). d.name) ds)
names-from names [] = ap written (sym (append-nil names))
names-from names (d ∷ ds) =
    ap (λ w. fold (λ w (d : Decl). with_written w d.name) w ds) (written-more names d.name (written names) (with_written (written names) d.name) refl refl)
    ∙ (names-from (names ++ d.name ∷ []) ds ∙ ap written (append_assoc names (d.name ∷ []) (map (λ (d : Decl). d.name) ds)))

pub names-made : (id : Option Name) (ds : List Decl) (first made : WrittenNames) → first ≡ written (option_to_list id) → made ≡ fold (λ w (d : Decl). with_written w d.name) first ds → made ≡ written (new_names id ds)
unfolding new_names
names-made id ds first made a b = b ∙ (ap (λ w. fold (λ w (d : Decl). with_written w d.name) w ds) a ∙ names-from (option_to_list id) ds)

pub ruleset written_steps = (names-made)

-- What is declared keeps its names.

abbrev bound_name : BoundDecl → List ℕ
bound_name d = d.name

abbrev same_names : List Decl → List BoundDecl → Type 0
same_names ds bs = map bound_name bs ≡ declared_names ds

decl-named : (d : Decl) (o : Outcome Lit) (b : BoundDecl) → (o >>= λ l. Ok (decl_of d l)) ≡ Ok b → b.name ≡ text_of d.name
decl-named d (Ok l) b e = let same : decl_of d l ≡ b = cc in ap bound_name (sym same)
decl-named d (Err f) b e = cc

one-named : (operator : Place) (known : Known) (rows : Shape) (d : Decl) (b : BoundDecl) (ds : List Decl) (bs : List BoundDecl) → decl_bound operator known rows d ≡ Ok b → same_names ds bs → same_names (d ∷ ds) (b ∷ bs)
unfolding decl_bound
one-named operator known rows d b ds bs e h = let here = kind-first (kind_bound d.kind) e in rw (here, h) refl
  where
    kind-first : (k : Outcome Kind) → (k >>= λ k. declared_default operator known rows k d.default >>= λ l. Ok (decl_of d l)) ≡ Ok b → b.name ≡ text_of d.name
    kind-first (Ok k) e = decl-named d (declared_default operator known rows k d.default) b e
    kind-first (Err f) e = cc

pub plan-declared : (operator : Place) (known : Known) (rows : Shape) (s : Scan) (r : Outcome (List BoundDecl)) (declared : List BoundDecl) (steps : List ScanStep) (plan : ScanPlan) → r ≡ Ok declared → Answers r (each_bound (decl_bound operator known rows) s.declared) → plan ≡ scan_plan s declared steps → map bound_name plan.declared ≡ declared_names s.declared
unfolding scan_plan
plan-declared operator known rows s r declared steps plan is a made =
    rw made (each-answers (decl_bound operator known rows) same_names refl (λ d b ds bs. one-named operator known rows d b ds bs) r s.declared declared is a)

pub plan-id : (s : Scan) (declared : List BoundDecl) (steps : List ScanStep) (plan : ScanPlan) → plan ≡ scan_plan s declared steps → plan.match_id ≡ option_map text_of s.match_id
unfolding scan_plan
plan-id s declared steps plan made = rw made refl

pub ruleset plan_steps = (plan-declared, plan-id)

-- No two columns have one name.

front-none : {X : Type 0} (xs ys : List X) → xs ++ ys ≡ [] → xs ≡ []
front-none [] ys e = refl
front-none (x ∷ xs) ys e = cc

back-none : {X : Type 0} (xs ys : List X) → xs ++ ys ≡ [] → ys ≡ []
back-none [] ys e = e
back-none (x ∷ xs) ys e = cc

pub names-told : (operator : Place) (s : Scan) (rows : Shape) (r : Outcome (Unit {0})) → r ≡ Ok tt → Answers r (unless (scan_faults operator s rows) tt) → names_twice (names_of rows.columns) (new_names s.match_id s.declared) ≡ []
unfolding scan_faults
names-told operator s rows r is a =
    let names : List BindFault = names_twice (names_of rows.columns) (new_names s.match_id s.declared) in
    let steps : List BindFault = step_name_faults [] s.steps ++ step_faults (declared_names s.declared) 0 s.steps in
    front-none names steps (back-none (fault_if (not rows.serial) 407 operator) (names ++ steps) (none-told (scan_faults operator s rows) r is a))

pub ruleset once_steps = (names-told)

split : {X : Type 0} (R : X → X → Type 0) (xs ys : List X) → Pairwise R (xs ++ ys) → Pairwise R xs × Pairwise R ys × ((x y : X) → Member x xs → Member y ys → R x y)
split R [] ys h = (tt, h, λ x y m n. absurd m)
split R (x ∷ xs) ys h =
    let rest = split R xs ys h.1 in (
      (every-of-members (R x) xs (λ z m. of-member (R x) (xs ++ ys) z h.0 (member-left xs ys z m)), rest.0),
      rest.1,
      λ z y m n. elim m [
        | inl e ↦ subst (λ w. R w y) e (of-member (R x) (xs ++ ys) y h.0 (member-right xs ys y n))
        | inr m ↦ rest.2 z y m n
      ],
    )

-- Old columns, and two lists of new ones whose names were looked at in the other order.
scan-differ : (old first second : List Column) → Pairwise different old → Pairwise apart (names_of second ++ names_of first) → ((n : List ℕ) → Member n (names_of second ++ names_of first) → Member n (names_of old) → ⊥) → Pairwise different (old ++ (first ++ second))
unfolding names_of
scan-differ old first second h once new =
    let parts = split apart (names_of second) (names_of first) once in
    let both : Pairwise different (first ++ second) = pairwise-append different first second (apart-of column_name first parts.1) (apart-of column_name second parts.0) (λ c d m n same. parts.2 d.name c.name (member-map column_name second d n) (member-map column_name first c m) (sym same)) in
    pairwise-append different old (first ++ second) h both
    (λ c d m n same. new d.name
    (elim (member-either first second d n) [
      | inl l ↦ member-right (names_of second) (names_of first) d.name (member-map column_name first d l)
      | inr r ↦ member-left (names_of second) (names_of first) d.name (member-map column_name second d r)
    ])
    (subst (λ k. Member k (names_of old)) same (member-map column_name old c m)))

id-named : (id : Option Name) → names_of (id_columns (option_map text_of id)) ≡ map text_of (option_to_list id)
unfolding id_columns names_of
id-named None = refl
id-named (Some n) = refl

declared-named : (bs : List BoundDecl) → names_of (map (λ (d : BoundDecl). record { name = d.name; kind = d.default.kind }) bs) ≡ map bound_name bs
unfolding names_of
declared-named [] = refl
declared-named (b ∷ bs) = ap (λ more. b.name ∷ more) (declared-named bs)

texts-are : (id : Option Name) (ds : List Decl) → map text_of (new_names id ds) ≡ map text_of (option_to_list id) ++ declared_names ds
unfolding new_names
texts-are id ds = map-append text_of (option_to_list id) (map (λ (d : Decl). d.name) ds) ∙ ap (λ more. map text_of (option_to_list id) ++ more) (each ds)
  where
    each : (ds : List Decl) → map text_of (map (λ (d : Decl). d.name) ds) ≡ declared_names ds
    each [] = refl
    each (d ∷ ds) = ap (λ more. text_of d.name ∷ more) (each ds)

pub scan-once : (s : Scan) (plan : ScanPlan) (columns made : List Column) → HasDistinctNames column_name columns → plan.match_id ≡ option_map text_of s.match_id → map bound_name plan.declared ≡ declared_names s.declared → names_twice (names_of columns) (new_names s.match_id s.declared) ≡ [] → made ≡ scan_columns plan columns → HasDistinctNames column_name made
unfolding scan_columns declared_columns
scan-once s plan columns made h id named none is =
    let told = names-once (names_of columns) (new_names s.match_id s.declared) none in
    let second : names_of (id_columns plan.match_id) ≡ map text_of (option_to_list s.match_id) = ap (λ o. names_of (id_columns o)) id ∙ id-named s.match_id in
    let first : names_of (declared_columns plan) ≡ declared_names s.declared = declared-named plan.declared ∙ named in
    let all : names_of (id_columns plan.match_id) ++ names_of (declared_columns plan) ≡ map text_of (new_names s.match_id s.declared) = ap₂ (λ a b. a ++ b) second first ∙ sym (texts-are s.match_id s.declared) in
    rw is (pairs-of different (columns ++ (declared_columns plan ++ id_columns plan.match_id))
    (scan-differ columns (declared_columns plan) (id_columns plan.match_id) (pairwise-of different columns h)
    (subst (λ ns. Pairwise apart ns) (sym all) told.0)
    (λ n m there. told.1 n (subst (λ ns. Member n ns) all m) there)))

pub ruleset column_steps = (scan-once)
