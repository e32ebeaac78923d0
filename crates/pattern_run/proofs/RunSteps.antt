-- The endings of a run.
use Rattle.std.proofs.Common.{◌≡◌, ℕ, true, List, [], ◌∷◌, ◌++◌, length, map, refl, sym, ap, ap₂, ◌∙◌, subst, inl, inr}
use Rattle.std.specs.Prelude.{◌&&◌, Contains, Option, None, Some, Result, Ok, Err, IsErrAnd, option_map, slice_get}
use Rattle.std.proofs.lemmas.Bool.{and_parts, cases_Bool}
use Rattle.kql_cells.specs.Catalogues.{Named, schemas_of}
use Rattle.kql_cells.specs.declared.schemas.NamedSchema.{NamedSchema}
use Rattle.kql_lexer.specs.declared.place.Place.{Place}
use Rattle.kql_lexer.specs.declared.token.Token.{Token}
use Rattle.kql_bound.specs.declared.plan.Program.{Program}
use Rattle.kql_meaning.specs.Fits.{fits}
use Rattle.pattern_search.specs.declared.span.Span.{Span}
use Rattle.pattern_lift.specs.declared.calls.Derived.{Derived}
use Rattle.pattern_lift.specs.declared.calls.PatternCall.{PatternCall}
use Rattle.pattern_lift.specs.Derived.{derived, derived_schema}
use Rattle.pattern_lift.specs.Lifted.{lifted_program}
use Rattle.pattern_laws.specs.LawsOfFitting.{FitsUnlifted}
use Rattle.pattern_laws.specs.Meaning.{Told}
use Rattle.pattern_laws.specs.Tables.{derived_named, derived_tables}
use Rattle.pattern_laws.specs.Tested.{can_lift, tables_are_unmarked}
use Rattle.pattern_laws.proofs.BesideLaws.{length-map}
use Rattle.pattern_run.specs.declared.fault.PatternFault.{PatternFault}
use Rattle.pattern_run.specs.declared.fault.PatternFault.TheVariants as fault
use Rattle.pattern_run.specs.declared.lifted.Lifted.{Lifted}
use Rattle.pattern_run.specs.Patterned.{Found, IsPatterned, IsRefusalIn, calls_of_program, counted_by, faults_after, finds_of, first_call, is_pattern, is_pattern_in, lifted_over, marks_for, most_calls, or_misplaced, patterned, refused_call, told_by, word_of}
use Rattle.pattern_run.specs.Ready.{IsReadyIn}
use Rattle.pattern_run.proofs.Standing.{all-ready, ready-to-lift, schemas-made}

-- Where no call is refused, the program can be lifted.

to-lift : (marks : List ℕ) (p : Program) (schemas : List NamedSchema) (c : PatternCall) (cs : List PatternCall) → calls_of_program p ≡ c ∷ cs → (o : Option Place) → or_misplaced o marks p schemas ≡ None → (can_lift marks p ≡ true) × (tables_are_unmarked marks schemas ≡ true)
unfolding first_call
to-lift marks p schemas c cs e (Some place) h = absurd cc
to-lift marks p schemas c cs e None h = elim (cases_Bool (can_lift marks p && tables_are_unmarked marks schemas)) [
  | inl t ↦ and_parts (can_lift marks p) (tables_are_unmarked marks schemas) t
  | inr f ↦ let first : Some (word_of c) ≡ None = rw (f, e) at h in absurd cc
]

pub can-lift : (marks : List ℕ) (p : Program) (schemas : List NamedSchema) (cs : List PatternCall) → cs ≡ calls_of_program p → (cs ≡ [] → ⊥) → refused_call marks p schemas ≡ None → (can_lift marks p ≡ true) × (tables_are_unmarked marks schemas ≡ true)
unfolding refused_call
can-lift marks p schemas [] e some h = absurd (some refl)
can-lift marks p schemas (c ∷ cs) e some h = to-lift marks p schemas c cs (sym e) (option_map word_of (slice_get (calls_of_program p) most_calls)) h

module _ (found : Found) (tokens : List Token) (p : Program) (tables : List Named) where
  abbrev marks : List ℕ
  marks = marks_for tokens (schemas_of tables)

  abbrev refused : Option Place
  refused = refused_call (marks_for tokens (schemas_of tables)) p (schemas_of tables)

  abbrev Gives : Result Lifted PatternFault → Type 0
  Gives r = IsPatterned found tokens p tables r

  pub stays : (cs : List PatternCall) → cs ≡ calls_of_program p → cs ≡ [] → IsPatterned found tokens p tables (Ok (record { program = p; catalogue = tables }))
  unfolding patterned
  stays cs e none = let no : calls_of_program p ≡ [] = sym e ∙ none in inl (rw no refl)

  pub refuses : (cs : List PatternCall) (place : Place) → cs ≡ calls_of_program p → (cs ≡ [] → ⊥) → Some place ≡ refused_call (marks_for tokens (schemas_of tables)) p (schemas_of tables) → IsPatterned found tokens p tables (Err (fault.PatternHere place))
  unfolding patterned
  refuses [] place e some r = absurd (some refl)
  refuses (c ∷ cs) place e some r = inl (rw (sym e, sym r) refl)

  bad-pattern : (cs : List PatternCall) (place : Place) → cs ≡ calls_of_program p → (cs ≡ [] → ⊥) → None ≡ refused_call (marks_for tokens (schemas_of tables)) p (schemas_of tables) → is_pattern p place ≡ true → IsPatterned found tokens p tables (Err (fault.BadPattern place))
  unfolding patterned
  bad-pattern [] place e some r i = absurd (some refl)
  bad-pattern (c ∷ cs) place e some r i = inl (rw (sym e, sym r, i) refl)

  pub unmade : (cs : List PatternCall) (f : PatternFault) (r : Result Lifted PatternFault) → cs ≡ calls_of_program p → (cs ≡ [] → ⊥) → None ≡ refused_call (marks_for tokens (schemas_of tables)) p (schemas_of tables) → IsRefusalIn cs f → IsErrAnd r (λ e. e ≡ f) → IsPatterned found tokens p tables r
  unfolding is_pattern
  unmade cs f (Ok l) e some n i h = absurd h
  unmade cs (fault.PatternHere place) (Err g) e some n i h = absurd i
  unmade cs (fault.BadPattern place) (Err g) e some n i h = subst (λ (x : PatternFault). IsPatterned found tokens p tables (Err x)) (sym h) (bad-pattern cs place e some n (subst (λ (xs : List PatternCall). is_pattern_in xs place ≡ true) e i))
  unmade cs fault.OutOfMemory (Err g) e some n i h = inr (ap (λ (x : PatternFault). Err x) h)

  pub lifts : (cs : List PatternCall) (l : Lifted) → cs ≡ calls_of_program p → (cs ≡ [] → ⊥) → None ≡ refused_call (marks_for tokens (schemas_of tables)) p (schemas_of tables) → l ≡ lifted_over found (marks_for tokens (schemas_of tables)) p tables → IsPatterned found tokens p tables (Ok l)
  unfolding patterned
  lifts [] l e some n h = absurd (some refl)
  lifts (c ∷ cs) l e some n h = inl (rw (sym e, sym n) (ap (λ (x : Lifted). Ok x) h))

  pub wants : (r : Result Lifted PatternFault) → IsErrAnd r (λ e. e ≡ fault.OutOfMemory) → IsPatterned found tokens p tables r
  wants (Ok l) h = absurd h
  wants (Err e) h = inr (ap (λ (x : PatternFault). Err x) h)

-- The count.

pub passed-on : {T : Type 0} (f : PatternFault) (r : Result T PatternFault) (now before : ℕ) → IsErrAnd r (λ e. e ≡ f) → now ≡ counted_by f before → now ≡ faults_after r before
passed-on f (Ok l) now before h e = absurd h
passed-on f (Err g) now before h e = e ∙ sym (ap (λ (x : PatternFault). counted_by x before) h)

pub still-counted : {T : Type 0} (r : Result T PatternFault) (now before : ℕ) → IsErrAnd r (λ e. e ≡ fault.OutOfMemory) → now ≡ before → now ≡ faults_after r before
still-counted r now before h e = passed-on fault.OutOfMemory r now before h e

-- The same along equations.

pub refused-same : (m n : List ℕ) (p q : Program) (s t : List NamedSchema) → m ≡ n → p ≡ q → s ≡ t → refused_call m p s ≡ refused_call n q t
refused-same m n p q s t em ep es = ap₂ (λ (x : List ℕ) (y : Program). refused_call x y s) em ep ∙ ap (refused_call n q) es

pub derived-same : (m n : List ℕ) (p q : Program) → m ≡ n → p ≡ q → derived m p ≡ derived n q
derived-same m n p q em ep = ap₂ derived em ep

pub as-many-made : {M : Type 0} (finds : M → List ℕ → Option (List (Option Span))) (found : Found) (made : List M) (calls : List PatternCall) → map finds made ≡ map (finds_of found) calls → length made ≡ length calls
as-many-made finds found made calls e = sym (length-map finds made) ∙ (ap length e ∙ length-map (finds_of found) calls)

module _ (marks : List ℕ) (p : Program) (tables : List Named) (can : (can_lift marks p ≡ true) × (tables_are_unmarked marks (schemas_of tables) ≡ true)) (fit : fits p (schemas_of tables) ≡ true) where
  pub ready-at : (m : List ℕ) (ts : List Named) (ds : List Derived) → m ≡ marks → ts ≡ tables → ds ≡ derived marks p → (d : Derived) → Contains ds d → IsReadyIn m ts d
  ready-at m ts ds em et ed d k =
      subst (λ (x : List ℕ). IsReadyIn x ts d) (sym em)
      (subst (λ (x : List Named). IsReadyIn marks x d) (sym et) (all-ready marks p tables can.0 can.1 fit d (subst (λ (xs : List Derived). Contains xs d) ed k)))

  pub unlifted-at : (m : List ℕ) (q : Program) → m ≡ marks → q ≡ p → FitsUnlifted m q (schemas_of tables)
  unlifted-at m q em eq =
      subst (λ (x : List ℕ). FitsUnlifted x q (schemas_of tables)) (sym em)
      (subst (λ (x : Program). FitsUnlifted marks x (schemas_of tables)) (sym eq) (ready-to-lift marks p tables can.0 can.1 fit))

  pub tables-at : (told : Told) (m : List ℕ) (ts : List Named) (ds : List Derived) (made : List Named) → m ≡ marks → ts ≡ tables → ds ≡ derived marks p → made ≡ map (derived_named told m ts) ds → made ≡ map (derived_named told marks tables) (derived marks p)
  tables-at told m ts ds made em et ed h =
      h ∙ (ap₂ (λ (x : List ℕ) (y : List Named). map (derived_named told x y) ds) em et ∙ ap (map (derived_named told marks tables)) ed)

  pub schemas-at : (told : Told) (m : List ℕ) (q : Program) (made : List Named) → m ≡ marks → q ≡ p → made ≡ map (derived_named told marks tables) (derived marks p) → schemas_of made ≡ map (derived_schema m q.tables) (derived m q)
  schemas-at told m q made em eq h =
      schemas-made marks p tables can.0 can.1 fit told made h
      ∙ sym (ap₂ (λ (x : List ℕ) (y : Program). map (derived_schema x y.tables) (derived x y)) em eq)

pub lifted-at : (found : Found) (n : List ℕ) (p : Program) (tables : List Named) (m : List ℕ) (q : Program) (made : List Named) (l : Lifted) → m ≡ n → q ≡ p → made ≡ map (derived_named (told_by found) n tables) (derived n p) → l ≡ record { program = lifted_program m q; catalogue = tables ++ made } → l ≡ lifted_over found n p tables
unfolding lifted_over derived_tables
lifted-at found n p tables m q made l em eq h e =
    e ∙ ap₂ (λ (x : Program) (ts : List Named). record { program = x; catalogue = tables ++ ts }) (ap₂ lifted_program em eq) h
