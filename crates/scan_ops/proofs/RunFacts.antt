-- A row at a step.
use Rattle.std.proofs.Common.{◌≡◌, ◌<◌, ◌≤◌, ◌+◌, ◌-◌, ◌++◌, ℕ, zero, suc, Bool, true, false, List, [], ◌∷◌, map, length, replicate, take, get_or, refl, sym, ap, ap₂, ◌∙◌, ◌≢◌, ◌⊎◌, subst, arith, inl, inr, append_assoc, length-append}
use Rattle.std.specs.Prelude.{◌==◌, All, IfSome, None, Option, Some, is_some, nat_lt, option_map, slice_get, slice_set, if◌then◌else◌}
use Rattle.std.specs.List.{swap}
use Rattle.std.proofs.lemmas.Bool.{cases_Bool}
use Rattle.std.proofs.lemmas.Bool.Decides.{nat_tests}
use Rattle.std.proofs.lemmas.List.{get_or-replicate, get_or-set_other, get_or-set_same, length-map, length-replicate, length-set, map-set, length-take-le, take_all}
use Rattle.std.proofs.lemmas.List.Edits.{swap_is}
use Rattle.std.proofs.lemmas.List.Elements.{All-append, All-push, All-take}
use Rattle.std.proofs.lemmas.Option.{slice_get-get_or, slice_get_within}
use Rattle.kql_cells.specs.Table.{Grid}
use Rattle.kql_cells.specs.declared.schema.Column.{Column}
use Rattle.kql_cells.specs.declared.value.Value.{Value}
use Rattle.kql_scalar_fns.specs.Arguments.{AreWellFormed}
use Rattle.kql_bound.specs.declared.parts.ScanPlan.{ScanPlan}
use Rattle.kql_bound.specs.declared.parts.ScanStep.{ScanStep}
use Rattle.kql_meaning.specs.Expressions.{val}
use Rattle.kql_meaning.specs.Readings.{Records}
use Rattle.kql_meaning.specs.Scan.{Held, Machine, Turn, after, begun_anew, check_one, check_two, comes_true, emitted_at_once, first_outcome, held_rows, machine_at_start, new_record, promoted, records_of, renewed, replaced, state_before, state_of, tried, with_state}
use Rattle.kql_meaning.specs.Values.{holds}
use Rattle.kql_values.specs.Grids.{HaveLength}
use Rattle.kql_scalar.specs.Evaluated.{AreSound}
use Rattle.scan_ops.specs.Runs.{AreStates, HasMovedUp, IsRun, IsStateAt, IsStepOf, emitted_by_move, emitted_with, held_in, machine_of}
use Rattle.scan_ops.specs.States.{StateSeen, begun_with, held_with, id_in}
use Rattle.scan_ops.specs.Steps.{PlacedStep}
use Rattle.scan_ops.specs.declared.run.Run.{Run}
use Rattle.scan_ops.proofs.EmitFacts.{state-of, state-room, state-there}

-- The start.

abbrev pub turn_with : Machine → List (List Value) → Turn
turn_with m rows = record { machine = m; emitted = rows }

abbrev empty_state : ℕ → StateSeen
empty_state size = record { size = size; held = None }

none-held : (n size : ℕ) → map held_in (replicate n (empty_state size)) ≡ replicate n None
none-held zero size = refl
none-held (suc n) size = ap (λ (hs : List (Option Held)). None ∷ hs) (none-held n size)

pub turn-start : (p : ScanPlan) (n : ℕ) (ss : List StateSeen) (emitted : List (List Value)) → n ≡ length p.steps → ss ≡ replicate n (empty_state n) → turn_with (machine_of ss 0) emitted ≡ turn_with (machine_at_start p) emitted
unfolding machine_at_start
turn-start p n ss emitted size is =
    ap (λ (hs : List (Option Held)). turn_with (record { states = hs; begun = 0 }) emitted) (ap (map held_in) is ∙ (none-held n n ∙ ap (λ k. replicate k None) size))

empty-at : (size width k : ℕ) → IsStateAt size width k (empty_state size)
empty-at size width k = record { size = refl; count = tt; width = tt; form = tt }

pub states-start : (size width n : ℕ) (ss : List StateSeen) → n ≡ size → ss ≡ replicate n (empty_state n) → AreStates size width ss
states-start size width n ss same is = record {
  each = λ k d lt.
      let short : k < n = omega (arith, ap length is, length-replicate n (empty_state n), lt) in
      let there : get_or ss k d ≡ empty_state n = ap (λ (xs : List StateSeen). get_or xs k d) is ∙ get_or-replicate n k (empty_state n) d short in
      subst (IsStateAt size width k) (sym there) (subst (λ m. IsStateAt size width k (empty_state m)) (sym same) (empty-at size width k));
}

pub count-start : (p : ScanPlan) (n : ℕ) (ss : List StateSeen) → n ≡ length p.steps → ss ≡ replicate n (empty_state n) → length ss ≡ length p.steps
count-start p n ss size is = ap length is ∙ (length-replicate n (empty_state n) ∙ size)

none-wide : (w : ℕ) → HaveLength {X = Value} w []
unfolding HaveLength
none-wide w = tt

pub width-start : (w : ℕ) (rows : List (List Value)) → rows ≡ [] → HaveLength w rows
width-start w rows is = subst (HaveLength w) (sym is) (none-wide w)

pub ruleset start_facts = (turn-start, states-start, count-start)

-- The records of a state are sound.

some-sound : (rows : List (List Value)) → All AreWellFormed rows → All (λ (held : Option (List Value)). IfSome held AreWellFormed) (map Some rows)
some-sound [] h k d lt = absurd (omega (arith, lt))
some-sound (r ∷ rows) h zero d lt = h 0 r (omega arith)
some-sound (r ∷ rows) h (suc k) d lt = some-sound rows (λ j e l. h (suc j) e (omega (arith, l))) k d (omega (arith, lt))

none-sound : (n : ℕ) → All (λ (held : Option (List Value)). IfSome held AreWellFormed) (replicate n None)
none-sound n k d lt =
    let short : k < n = omega (arith, lt, length-replicate {A = Option (List Value)} n None) in
    subst (λ (o : Option (List Value)). IfSome o AreWellFormed) (sym (get_or-replicate n k None d short)) tt

sound-of : (n : ℕ) (h : Option Held) → IfSome h (λ s. All AreWellFormed s.records) → AreSound (records_of n h)
unfolding records_of
sound-of n None f = record { each = none-sound n }
sound-of n (Some h) f = record { each = All-append (λ (held : Option (List Value)). IfSome held AreWellFormed) (map Some h.records) (replicate (n - length h.records) None) (some-sound h.records f) (none-sound (n - length h.records)) }

pub records-sound : (size width at : ℕ) (s : StateSeen) (rs : Records) → IsStateAt size width at s → rs ≡ records_of s.size s.held → AreSound rs
records-sound size width at s rs h is = subst AreSound (sym is) (sound-of s.size s.held h.form)

-- The states before a step.

before-first : (ss : List StateSeen) (begun at : ℕ) → at ≡ 0 → state_before (machine_of ss begun) (at + 1) ≡ None
unfolding state_before
before-first ss begun at first =
    let test : nat_lt 1 (at + 1) ≡ false = grind (arith, nat_tests) in
    rw test refl

pub before-there : (ss : List StateSeen) (begun at : ℕ) (b : StateSeen) → 0 < at → at - 1 < length ss → b ≡ get_or ss (at - 1) b → state_before (machine_of ss begun) (at + 1) ≡ b.held
unfolding state_before
before-there ss begun at b above lt is =
    let test : nat_lt 1 (at + 1) ≡ true = grind (arith, nat_tests) in
    let same : at + 1 - 1 ≡ at - 1 + 1 = omega (arith, above) in
    rw (test, same) (state-of ss begun (at - 1) b lt is)

-- Check 1.

abbrev one : ScanPlan → ScanStep → Grid → ℕ → ℕ → List StateSeen → ℕ → Option Turn
one p s t i at ss begun = check_one p s t i (at + 1) (machine_of ss begun) (state_before (machine_of ss begun) (at + 1))

pub first-stays : (p : ScanPlan) (s : ScanStep) (t : Grid) (i at : ℕ) (ss : List StateSeen) (begun : ℕ) → at ≡ 0 → false ≡ is_some (one p s t i at ss begun)
unfolding check_one
first-stays p s t i at ss begun first = sym (ap (λ (h : Option Held). is_some (check_one p s t i (at + 1) (machine_of ss begun) h)) (before-first ss begun at first))

empty-one : (p : ScanPlan) (s : ScanStep) (t : Grid) (i k : ℕ) (m : Machine) (h : Option Held) → id_in h ≡ None → is_some (check_one p s t i k m h) ≡ false
unfolding check_one id_in
empty-one p s t i k m None e = refl
empty-one p s t i k m (Some h) e = absurd cc

pub empty-stays : (p : ScanPlan) (s : ScanStep) (t : Grid) (i at : ℕ) (ss : List StateSeen) (begun : ℕ) (b : StateSeen) → 0 < at → at - 1 < length ss → b ≡ get_or ss (at - 1) b → id_in b.held ≡ None → false ≡ is_some (one p s t i at ss begun)
empty-stays p s t i at ss begun b above lt is none =
    sym (ap (λ (h : Option Held). is_some (check_one p s t i (at + 1) (machine_of ss begun) h)) (before-there ss begun at b above lt is) ∙ empty-one p s t i (at + 1) (machine_of ss begun) b.held none)

some-if : {X : Type 0} (b : Bool) (x : X) → is_some (if b then Some x else None) ≡ b
some-if true x = refl
some-if false x = refl

full-one : (p : ScanPlan) (s : ScanStep) (t : Grid) (i k : ℕ) (m : Machine) (h : Option Held) (id : ℕ) → id_in h ≡ Some id → is_some (check_one p s t i k m h) ≡ holds (val s.condition t i (records_of (length p.steps) h))
unfolding check_one comes_true id_in
full-one p s t i k m None id e = absurd cc
full-one p s t i k m (Some h) id e = some-if (holds (val s.condition t i (records_of (length p.steps) (Some h)))) (promoted p s t i k m h)

pub full-moves : (p : ScanPlan) (s : ScanStep) (t : Grid) (i at width : ℕ) (ss : List StateSeen) (begun : ℕ) (b : StateSeen) (id : ℕ) (rs : Records) (truth : Bool) → 0 < at → at - 1 < length ss → b ≡ get_or ss (at - 1) b → AreStates (length p.steps) width ss → id_in b.held ≡ Some id → rs ≡ records_of b.size b.held → truth ≡ holds (val s.condition t i rs) → truth ≡ is_some (one p s t i at ss begun)
full-moves p s t i at width ss begun b id rs truth above lt is states some same e =
    let h = state-there (length p.steps) width (at - 1) ss b states lt is in
    e ∙ (ap (λ (xs : Records). holds (val s.condition t i xs)) (same ∙ ap (λ n. records_of n b.held) h.size)
    ∙ sym (ap (λ (h : Option Held). is_some (check_one p s t i (at + 1) (machine_of ss begun) h)) (before-there ss begun at b above lt is) ∙ full-one p s t i (at + 1) (machine_of ss begun) b.held id some))

-- Check 2.

abbrev two : ScanPlan → ScanStep → Grid → ℕ → ℕ → List StateSeen → ℕ → Option Turn
two p s t i at ss begun = check_two p s t i (at + 1) (machine_of ss begun)

not-first : (at : ℕ) → 0 < at → (at + 1 == 1) ≡ false
not-first at above = grind (arith, nat_tests)

is-first : (at : ℕ) → at ≡ 0 → (at + 1 == 1) ≡ true
is-first at e = grind (arith, nat_tests)

abbrev no_turn : Option Turn
no_turn = None

if-none : (b : Bool) → is_some (if b then no_turn else no_turn) ≡ false
if-none true = refl
if-none false = refl

empty-two : (p : ScanPlan) (s : ScanStep) (t : Grid) (i at : ℕ) (m : Machine) (h : Option Held) → 0 < at → id_in h ≡ None → is_some (if comes_true p s t i h then renewed p s t i (at + 1) m h else None) ≡ false
unfolding renewed id_in
empty-two p s t i at m None above e = rw (not-first at above) (if-none (comes_true p s t i None))
empty-two p s t i at m (Some h) above e = absurd cc

pub empty-remains : (p : ScanPlan) (s : ScanStep) (t : Grid) (i at : ℕ) (ss : List StateSeen) (begun : ℕ) (b : StateSeen) → 0 < at → at < length ss → b ≡ get_or ss at b → id_in b.held ≡ None → false ≡ is_some (two p s t i at ss begun)
unfolding check_two
empty-remains p s t i at ss begun b above lt is none =
    let m = machine_of ss begun in
    sym (ap (λ (h : Option Held). is_some (if comes_true p s t i h then renewed p s t i (at + 1) m h else None)) (state-of ss begun at b lt is) ∙ empty-two p s t i at m b.held above none)

renewed-some : (p : ScanPlan) (s : ScanStep) (t : Grid) (i at : ℕ) (m : Machine) (h : Option Held) → (at ≡ 0) ⊎ ((id : ℕ) × (0 < at) × (id_in h ≡ Some id)) → is_some (renewed p s t i (at + 1) m h) ≡ true
unfolding renewed id_in
renewed-some p s t i at m h (inl first) = rw (is-first at first) refl
renewed-some p s t i at m None (inr q) = absurd cc
renewed-some p s t i at m (Some h) (inr q) = rw (not-first at q.1) refl

some-when : {X : Type 0} (b : Bool) (o : Option X) → is_some o ≡ true → is_some (if b then o else None) ≡ b
some-when true o e = e
some-when false o e = refl

pub full-renews : (p : ScanPlan) (s : ScanStep) (t : Grid) (i at width : ℕ) (ss : List StateSeen) (begun : ℕ) (b : StateSeen) (rs : Records) (truth : Bool) → at < length ss → b ≡ get_or ss at b → AreStates (length p.steps) width ss → (at ≡ 0) ⊎ ((id : ℕ) × (0 < at) × (id_in b.held ≡ Some id)) → rs ≡ records_of b.size b.held → truth ≡ holds (val s.condition t i rs) → truth ≡ is_some (two p s t i at ss begun)
unfolding check_two comes_true
full-renews p s t i at width ss begun b rs truth lt is states some same e =
    let m = machine_of ss begun in
    let h = state-there (length p.steps) width at ss b states lt is in
    e ∙ (ap (λ (xs : Records). holds (val s.condition t i xs)) (same ∙ ap (λ n. records_of n b.held) h.size)
    ∙ sym (ap (λ (h : Option Held). is_some (if holds (val s.condition t i (records_of (length p.steps) h)) then renewed p s t i (at + 1) m h else None)) (state-of ss begun at b lt is)
    ∙ some-when (holds (val s.condition t i (records_of (length p.steps) b.held))) (renewed p s t i (at + 1) m b.held) (renewed-some p s t i at m b.held some)))

-- What is tried.

outcome-one : (turn new : Turn) (o q : Option Turn) → Some new ≡ option_map (after turn.emitted) o → new ≡ first_outcome turn o q
unfolding first_outcome
outcome-one turn new None q e = absurd cc
outcome-one turn new (Some x) q e = let same : new ≡ after turn.emitted x = cc in same

outcome-two : (turn new : Turn) (o q : Option Turn) → is_some o ≡ false → new ≡ first_outcome turn None q → new ≡ first_outcome turn o q
unfolding first_outcome
outcome-two turn new (Some x) q none e = absurd cc
outcome-two turn new None q none e = e

abbrev at_step : ScanPlan → ScanStep → Grid → ℕ → ℕ → Turn → Option Turn
at_step p s t i at turn = check_one p s t i (at + 1) turn.machine (state_before turn.machine (at + 1))

abbrev again : ScanPlan → ScanStep → Grid → ℕ → ℕ → Turn → Option Turn
again p s t i at turn = check_two p s t i (at + 1) turn.machine

pub tried-one : (p : ScanPlan) (s : ScanStep) (t : Grid) (i at : ℕ) (turn new : Turn) → Some new ≡ option_map (after turn.emitted) (at_step p s t i at turn) → new ≡ tried p t i turn (at + 1, s)
unfolding tried
tried-one p s t i at turn new e = outcome-one turn new (at_step p s t i at turn) (again p s t i at turn) e

pub tried-two : (p : ScanPlan) (s : ScanStep) (t : Grid) (i at : ℕ) (turn new : Turn) → is_some (at_step p s t i at turn) ≡ false → new ≡ first_outcome turn None (again p s t i at turn) → new ≡ tried p t i turn (at + 1, s)
unfolding tried
tried-two p s t i at turn new none e = outcome-two turn new (at_step p s t i at turn) (again p s t i at turn) none e

-- Check 2 alone.

pub outcome-again : (turn new : Turn) (q : Option Turn) → Some new ≡ option_map (after turn.emitted) q → new ≡ first_outcome turn None q
unfolding first_outcome
outcome-again turn new None e = absurd cc
outcome-again turn new (Some x) e = let same : new ≡ after turn.emitted x = cc in same

pub outcome-none : (turn : Turn) (q : Option Turn) → is_some q ≡ false → turn ≡ first_outcome turn None q
unfolding first_outcome
outcome-none turn (Some x) n = absurd cc
outcome-none turn None n = refl

-- Check 1 has held.

abbrev moved_states : ℕ → List Value → List StateSeen → StateSeen → List StateSeen
moved_states at row ss b = slice_set (slice_set ss (at - 1) (empty_state b.size)) at (record { size = b.size; held = option_map (held_with at row) b.held })

held-set : (ss : List StateSeen) (k : ℕ) (s : StateSeen) → map held_in (slice_set ss k s) ≡ slice_set (map held_in ss) k s.held
held-set ss k s = map-set held_in ss k s

moved-held : (at : ℕ) (row : List Value) (ss : List StateSeen) (b : StateSeen) → map held_in (moved_states at row ss b) ≡ slice_set (slice_set (map held_in ss) (at - 1) None) at (option_map (held_with at row) b.held)
moved-held at row ss b =
    held-set (slice_set ss (at - 1) (empty_state b.size)) at (record { size = b.size; held = option_map (held_with at row) b.held })
    ∙ ap (λ (hs : List (Option Held)). slice_set hs at (option_map (held_with at row) b.held)) (held-set ss (at - 1) (empty_state b.size))

-- What check 1 makes of the state before, where it holds.
promoted-is : (p : ScanPlan) (s : ScanStep) (t : Grid) (i at : ℕ) (m : Machine) (h : Option Held) (line : List Value) (all : List (List Value)) → 0 < at → is_some (check_one p s t i (at + 1) m h) ≡ true → IfSome h (λ g. length g.records ≡ at) → line ≡ new_record s t i (records_of (length p.steps) h)
    → Some (record { machine = record { states = slice_set (slice_set m.states (at - 1) None) at (option_map (held_with at line) h); begun = m.begun }; emitted = all ++ emitted_by_move p s at line h (state_of m (at + 1)) }) ≡ option_map (after all) (check_one p s t i (at + 1) m h)
unfolding check_one promoted with_state after emitted_by_move emitted_with
promoted-is p s t i at m None line all above e count is = absurd cc
promoted-is p s t i at m (Some h) line all above e count is = elim (cases_Bool (comes_true p s t i (Some h))) [
  | inl y ↦
      let first : at + 1 - 1 - 1 ≡ at - 1 = omega arith in
      let here : at + 1 - 1 ≡ at = omega arith in
      let whole : take at h.records ≡ h.records = take_all at h.records (omega (arith, count)) in
      rw (y, first, here, whole, sym is) refl
  | inr f ↦ let no : false ≡ true = rw f at e in absurd cc
]

pub promoted-turn : (p : ScanPlan) (s : ScanStep) (t : Grid) (i at width : ℕ) (ss new : List StateSeen) (begun : ℕ) (emitted more : List (List Value)) (b o : StateSeen) (rs : Records) (line : List Value) → 0 < at → at < length ss → b ≡ get_or ss (at - 1) b → o ≡ get_or ss at o → AreStates (length p.steps) width ss
    → is_some (one p s t i at ss begun) ≡ true → rs ≡ records_of b.size b.held → line ≡ new_record s t i rs → more ≡ emitted ++ emitted_by_move p s at line b.held o.held → HasMovedUp at line ss new
    → Some (record { machine = machine_of new begun; emitted = more }) ≡ option_map (after emitted) (one p s t i at ss begun)
promoted-turn p s t i at width ss new begun emitted more b o rs line above lt before old states check same made rows moved =
    let m = machine_of ss begun in
    let below : at - 1 < length ss = omega (arith, lt) in
    let h = state-there (length p.steps) width (at - 1) ss b states below before in
    let there = before-there ss begun at b above below before in
    let next : at - 1 + 1 ≡ at = omega (arith, above) in
    let count : IfSome b.held (λ g. length g.records ≡ at) = subst (λ n. IfSome b.held (λ g. length g.records ≡ n)) next h.count in
    let line-is : line ≡ new_record s t i (records_of (length p.steps) b.held) = made ∙ ap (new_record s t i) (same ∙ ap (λ n. records_of n b.held) h.size) in
    let found : slice_get ss (at - 1) ≡ Some b = slice_get-get_or ss (at - 1) b below ∙ ap Some (sym before) in
    let holds : is_some (check_one p s t i (at + 1) m b.held) ≡ true = ap (λ (g : Option Held). is_some (check_one p s t i (at + 1) m g)) (sym there) ∙ check in
    let states-are : map held_in new ≡ slice_set (slice_set m.states (at - 1) None) at (option_map (held_with at line) b.held) = ap (map held_in) (moved.states b found) ∙ moved-held at line ss b in
    let rows-are : more ≡ emitted ++ emitted_by_move p s at line b.held (state_of m (at + 1)) = rows ∙ ap (λ (g : Option Held). emitted ++ emitted_by_move p s at line b.held g) (sym (state-of ss begun at o lt old)) in
    ap₂ (λ (hs : List (Option Held)) (rows : List (List Value)). Some (record { machine = record { states = hs; begun = begun }; emitted = rows })) states-are rows-are
    ∙ (promoted-is p s t i at m b.held line emitted above holds count line-is
    ∙ ap (λ (g : Option Held). option_map (after emitted) (check_one p s t i (at + 1) m g)) (sym there))

-- The states stay states.

set-states : (size width k : ℕ) (ss : List StateSeen) (s : StateSeen) → AreStates size width ss → IsStateAt size width k s → AreStates size width (slice_set ss k s)
set-states size width k ss s h here = record { each = λ j d lt. by j d (omega (arith, lt, length-set {A = StateSeen} ss k s)) }
  where
    by : (j : ℕ) (d : StateSeen) → j < length ss → IsStateAt size width j (get_or (slice_set ss k s) j d)
    by j d lt = elim (cases_Bool (j == k)) [
      | inl y ↦
          let same : j ≡ k = grind (arith, y, nat_tests) in
          subst (λ n. IsStateAt size width n (get_or (slice_set ss k s) n d)) (sym same) (subst (IsStateAt size width k) (sym (get_or-set_same ss k s d (omega (arith, same, lt)))) here)
      | inr f ↦
          let other : j ≢ k = grind (arith, f, nat_tests) in
          subst (IsStateAt size width j) (sym (get_or-set_other ss k j s d other)) (h.each j d lt)
    ]

longer : (size width at k : ℕ) (h : Option Held) (row : List Value) → k + 1 ≡ at → IfSome h (λ g. length g.records ≡ k + 1) → IfSome h (λ g. All (λ r. length r ≡ width) g.records) → IfSome h (λ g. All AreWellFormed g.records) → length row ≡ width → AreWellFormed row → IsStateAt size width at (record { size = size; held = option_map (held_with at row) h })
longer size width at k None row e count wide form same good = record { size = refl; count = tt; width = tt; form = tt }
longer size width at k (Some h) row e count wide form same good =
    let whole : take at h.records ≡ h.records = take_all at h.records (omega (arith, count, e)) in
    record {
      size = refl;
      count = omega (arith, length-append (take at h.records) (row ∷ []), ap length whole, count, e);
      width = All-push (λ r. length r ≡ width) (take at h.records) row (All-take (λ r. length r ≡ width) at h.records wide) same;
      form = All-push AreWellFormed (take at h.records) row (All-take AreWellFormed at h.records form) good;
    }

pub moved-states : (size width at : ℕ) (ss new : List StateSeen) (row : List Value) (b : StateSeen) → AreStates size width ss → 0 < at → at < length ss → b ≡ get_or ss (at - 1) b → length row ≡ width → AreWellFormed row → HasMovedUp at row ss new → AreStates size width new
moved-states size width at ss new row b states above lt before wide good moved =
    let below : at - 1 < length ss = omega (arith, lt) in
    let h = state-there size width (at - 1) ss b states below before in
    let found : slice_get ss (at - 1) ≡ Some b = slice_get-get_or ss (at - 1) b below ∙ ap Some (sym before) in
    let here : IsStateAt size width at (record { size = b.size; held = option_map (held_with at row) b.held }) = subst (λ n. IsStateAt size width at (record { size = n; held = option_map (held_with at row) b.held })) (sym h.size) (longer size width at (at - 1) b.held row (omega (arith, above)) h.count h.width h.form wide good) in
    let gone : IsStateAt size width (at - 1) (empty_state b.size) = subst (λ n. IsStateAt size width (at - 1) (empty_state n)) (sym h.size) (empty-at size width (at - 1)) in
    subst (AreStates size width) (sym (moved.states b found)) (set-states size width at (slice_set ss (at - 1) (empty_state b.size)) _ (set-states size width (at - 1) ss (empty_state b.size) states gone) here)

pub moved-count : (at : ℕ) (ss new : List StateSeen) (row : List Value) (b : StateSeen) → at - 1 < length ss → b ≡ get_or ss (at - 1) b → HasMovedUp at row ss new → length new ≡ length ss
moved-count at ss new row b below before moved =
    let found : slice_get ss (at - 1) ≡ Some b = slice_get-get_or ss (at - 1) b below ∙ ap Some (sym before) in
    ap length (moved.states b found) ∙ (length-set _ at _ ∙ length-set ss (at - 1) _)

-- What a move up asks, and that it is one.

pub up-held : (size width at k : ℕ) (ss : List StateSeen) (b : StateSeen) → AreStates size width ss → 0 < at → at < length ss → b ≡ get_or ss (at - 1) b → IfSome b.held (λ h. (at ≤ length h.records) × (length h.records ≤ at + 1))
up-held size width at k ss b states above lt before = by b.held (state-there size width (at - 1) ss b states (omega (arith, lt)) before).count
  where
    by : (o : Option Held) → IfSome o (λ h. length h.records ≡ at - 1 + 1) → IfSome o (λ h. (at ≤ length h.records) × (length h.records ≤ at + 1))
    by None e = tt
    by (Some h) e = (omega (arith, above, e), omega (arith, above, e))

pub up-room : (width at : ℕ) (ss : List StateSeen) (b : StateSeen) → AreStates (length ss) width ss → 0 < at → at < length ss → b ≡ get_or ss (at - 1) b → at < b.size
up-room width at ss b states above lt before = state-room (length ss) width (at - 1) at b (state-there (length ss) width (at - 1) ss b states (omega (arith, lt)) before) lt

-- Two states that change places, the first of which is then emptied.

sets-over : {X : Type 0} (xs : List X) (n : ℕ) (a b x y : X) → slice_set (slice_set (slice_set (slice_set xs n a) (suc n) b) n x) (suc n) y ≡ slice_set (slice_set xs n x) (suc n) y
sets-over [] n a b x y = refl
sets-over (c ∷ []) zero a b x y = refl
sets-over (c ∷ d ∷ xs) zero a b x y = refl
sets-over (c ∷ xs) (suc n) a b x y = ap (λ zs. c ∷ zs) (sets-over xs n a b x y)

swap-low : (ss : List StateSeen) (at : ℕ) (d : StateSeen) → 0 < at → at < length ss → get_or (swap ss (at - 1) at) (at - 1) d ≡ get_or ss at d
swap-low ss at d above lt =
    let i = at - 1 in
    let below : i < length ss = omega (arith, lt) in
    let other : i ≢ at = λ e. absurd (omega (arith, above, e)) in
    ap (λ (xs : List StateSeen). get_or xs i d) (sym (swap_is ss i at d below lt)) ∙ (get_or-set_other (slice_set ss i (get_or ss at d)) at i (get_or ss i d) d other ∙ get_or-set_same ss i (get_or ss at d) d below)

swap-high : (ss : List StateSeen) (at : ℕ) (d : StateSeen) → 0 < at → at < length ss → get_or (swap ss (at - 1) at) at d ≡ get_or ss (at - 1) d
swap-high ss at d above lt =
    let i = at - 1 in
    let below : i < length ss = omega (arith, lt) in
    ap (λ (xs : List StateSeen). get_or xs at d) (sym (swap_is ss i at d below lt)) ∙ get_or-set_same (slice_set ss i (get_or ss at d)) at (get_or ss i d) d (omega (arith, lt, length-set {A = StateSeen} ss i (get_or ss at d)))

pub swapped-before : (ss xs : List StateSeen) (at : ℕ) (ce m : StateSeen) → 0 < at → at < length ss → xs ≡ swap ss (at - 1) at → m ≡ get_or (slice_set xs (at - 1) ce) at m → m ≡ get_or ss (at - 1) m
swapped-before ss xs at ce m above lt swapped is =
    let other : at ≢ at - 1 = λ e. absurd (omega (arith, above, e)) in
    is ∙ (get_or-set_other xs (at - 1) at ce m other ∙ (ap (λ (ys : List StateSeen). get_or ys at m) swapped ∙ swap-high ss at m above lt))

swapped-sets : (ss : List StateSeen) (at : ℕ) (x y : StateSeen) → 0 < at → at < length ss → slice_set (slice_set (swap ss (at - 1) at) (at - 1) x) at y ≡ slice_set (slice_set ss (at - 1) x) at y
swapped-sets ss at x y above lt =
    let i = at - 1 in
    let below : i < length ss = omega (arith, lt) in
    let next : suc i ≡ at = omega (arith, above) in
    let a = get_or ss at x in
    let b = get_or ss i x in
    ap (λ (zs : List StateSeen). slice_set (slice_set zs i x) at y) (sym (swap_is ss i at x below lt))
    ∙ subst (λ j. slice_set (slice_set (slice_set (slice_set ss i a) j b) i x) j y ≡ slice_set (slice_set ss i x) j y) next (sets-over ss i a b x y)

pub swapped-moved : (at width : ℕ) (row : List Value) (ss xs new : List StateSeen) (e m ce tk : StateSeen) → AreStates (length ss) width ss → 0 < at → at < length ss → xs ≡ swap ss (at - 1) at → e ≡ get_or xs (at - 1) e → ce ≡ empty_state e.size → m ≡ get_or (slice_set xs (at - 1) ce) at m
    → tk ≡ record { size = m.size; held = option_map (held_with at row) m.held } → new ≡ slice_set (slice_set xs (at - 1) ce) at tk → HasMovedUp at row ss new
swapped-moved at width row ss xs new e m ce tk states above lt swapped low cleared high taken made = record { states = λ b found. by b found }
  where
    below : at - 1 < length ss
    below = omega (arith, lt)

    by : (b : StateSeen) → slice_get ss (at - 1) ≡ Some b → new ≡ slice_set (slice_set ss (at - 1) (empty_state b.size)) at (record { size = b.size; held = option_map (held_with at row) b.held })
    by b found =
        let before : m ≡ get_or ss (at - 1) m = swapped-before ss xs at ce m above lt swapped high in
        let there : Some m ≡ Some b = sym (slice_get-get_or ss (at - 1) m below ∙ ap Some (sym before)) ∙ found in
        let same : m ≡ b = cc in
        let first : e ≡ get_or ss at e = low ∙ (ap (λ (ys : List StateSeen). get_or ys (at - 1) e) swapped ∙ swap-low ss at e above lt) in
        let size : e.size ≡ m.size = (state-there (length ss) width at ss e states lt first).size ∙ sym (state-there (length ss) width (at - 1) ss m states below before).size in
        made
        ∙ (ap₂ (λ (x y : StateSeen). slice_set (slice_set xs (at - 1) x) at y) (cleared ∙ ap empty_state size) taken
        ∙ (ap (λ (ys : List StateSeen). slice_set (slice_set ys (at - 1) (empty_state m.size)) at (record { size = m.size; held = option_map (held_with at row) m.held })) swapped
        ∙ (swapped-sets ss at (empty_state m.size) (record { size = m.size; held = option_map (held_with at row) m.held }) above lt
        ∙ ap (λ (x : StateSeen). slice_set (slice_set ss (at - 1) (empty_state x.size)) at (record { size = x.size; held = option_map (held_with at row) x.held })) same)))

pub swapped-held : (size width at : ℕ) (ss xs : List StateSeen) (ce m : StateSeen) → AreStates size width ss → 0 < at → at < length ss → xs ≡ swap ss (at - 1) at → m ≡ get_or (slice_set xs (at - 1) ce) at m → IfSome m.held (λ h. (at ≤ length h.records) × (length h.records ≤ at + 1))
swapped-held size width at ss xs ce m states above lt swapped is = up-held size width at 0 ss m states above lt (swapped-before ss xs at ce m above lt swapped is)

pub swapped-room : (width at : ℕ) (ss xs : List StateSeen) (ce m : StateSeen) → AreStates (length ss) width ss → 0 < at → at < length ss → xs ≡ swap ss (at - 1) at → m ≡ get_or (slice_set xs (at - 1) ce) at m → at < m.size
swapped-room width at ss xs ce m states above lt swapped is = up-room width at ss m states above lt (swapped-before ss xs at ce m above lt swapped is)

-- Check 2 has held at the first step.

begun-is : (p : ScanPlan) (s : ScanStep) (t : Grid) (i at : ℕ) (m : Machine) (h : Option Held) (line : List Value) (all : List (List Value)) → at ≡ 0 → is_some (if comes_true p s t i h then renewed p s t i (at + 1) m h else None) ≡ true → line ≡ new_record s t i (records_of (length p.steps) h)
    → Some (record { machine = record { states = slice_set m.states at (Some (begun_with m.begun line)); begun = m.begun + 1 }; emitted = all ++ (held_rows p (at + 1) h ++ emitted_at_once p s line m.begun) }) ≡ option_map (after all) (if comes_true p s t i h then renewed p s t i (at + 1) m h else None)
unfolding renewed begun_anew with_state after
begun-is p s t i at m h line all first e is = elim (cases_Bool (comes_true p s t i h)) [
  | inl y ↦ rw (y, is-first at first, first, sym is) refl
  | inr f ↦ let no : false ≡ true = rw f at e in absurd cc
]

pub begun-turn : (p : ScanPlan) (s : ScanStep) (t : Grid) (i at width : ℕ) (ss new : List StateSeen) (begun : ℕ) (emitted e1 e2 : List (List Value)) (b n : StateSeen) (rs : Records) (line : List Value) → at ≡ 0 → at < length ss → b ≡ get_or ss at b → AreStates (length p.steps) width ss
    → is_some (two p s t i at ss begun) ≡ true → rs ≡ records_of b.size b.held → line ≡ new_record s t i rs → e1 ≡ emitted ++ held_rows p (at + 1) b.held → e2 ≡ e1 ++ emitted_at_once p s line begun → new ≡ slice_set ss at n → n ≡ record { size = b.size; held = Some (begun_with begun line) }
    → Some (record { machine = machine_of new (begun + 1); emitted = e2 }) ≡ option_map (after emitted) (two p s t i at ss begun)
unfolding check_two
begun-turn p s t i at width ss new begun emitted e1 e2 b n rs line first lt here states check same made r1 r2 set made-state =
    let m = machine_of ss begun in
    let h = state-there (length p.steps) width at ss b states lt here in
    let there = state-of ss begun at b lt here in
    let line-is : line ≡ new_record s t i (records_of (length p.steps) b.held) = made ∙ ap (new_record s t i) (same ∙ ap (λ k. records_of k b.held) h.size) in
    let two-of = λ (g : Option Held). (if comes_true p s t i g then renewed p s t i (at + 1) m g else None) in
    let holds : is_some (two-of b.held) ≡ true = ap (λ (g : Option Held). is_some (two-of g)) (sym there) ∙ check in
    let states-are : map held_in new ≡ slice_set m.states at (Some (begun_with begun line)) = ap (map held_in) set ∙ (held-set ss at n ∙ ap (λ (x : StateSeen). slice_set m.states at x.held) made-state) in
    let rows-are : e2 ≡ emitted ++ (held_rows p (at + 1) b.held ++ emitted_at_once p s line begun) = r2 ∙ (ap (λ (rows : List (List Value)). rows ++ emitted_at_once p s line begun) r1 ∙ append_assoc emitted (held_rows p (at + 1) b.held) (emitted_at_once p s line begun)) in
    ap₂ (λ (hs : List (Option Held)) (rows : List (List Value)). Some (record { machine = record { states = hs; begun = begun + 1 }; emitted = rows })) states-are rows-are
    ∙ (begun-is p s t i at m b.held line emitted first holds line-is
    ∙ ap (λ (g : Option Held). option_map (after emitted) (two-of g)) (sym there))

pub begin-held : (size width at : ℕ) (ss : List StateSeen) (b : StateSeen) → AreStates size width ss → at ≡ 0 → at < length ss → b ≡ get_or ss at b → IfSome b.held (λ h. length h.records ≤ 1)
begin-held size width at ss b states first lt here = by b.held (state-there size width at ss b states lt here).count
  where
    by : (o : Option Held) → IfSome o (λ h. length h.records ≡ at + 1) → IfSome o (λ h. length h.records ≤ 1)
    by None e = tt
    by (Some h) e = omega (arith, first, e)

one-record : (row : List Value) (P : List Value → Type 0) → P row → All P (row ∷ [])
one-record row P h zero d lt = h
one-record row P h (suc k) d lt = absurd (omega (arith, lt))

pub begun-states : (size width at id : ℕ) (ss new : List StateSeen) (row : List Value) (b n : StateSeen) → AreStates size width ss → at ≡ 0 → at < length ss → b ≡ get_or ss at b → length row ≡ width → AreWellFormed row → new ≡ slice_set ss at n → n ≡ record { size = b.size; held = Some (begun_with id row) } → AreStates size width new
begun-states size width at id ss new row b n states first lt here wide good set made =
    let h = state-there size width at ss b states lt here in
    let fresh : IsStateAt size width at n = subst (IsStateAt size width at) (sym made) (record { size = h.size; count = omega (arith, first); width = one-record row (λ r. length r ≡ width) wide; form = one-record row AreWellFormed good }) in
    subst (AreStates size width) (sym set) (set-states size width at ss n states fresh)

pub set-count : (ss new : List StateSeen) (at : ℕ) (n : StateSeen) → new ≡ slice_set ss at n → length new ≡ length ss
set-count ss new at n set = ap length set ∙ length-set ss at n

-- Check 2 has held at a step above the first.

replaced-is : (p : ScanPlan) (s : ScanStep) (t : Grid) (i at : ℕ) (m : Machine) (h : Option Held) (line : List Value) (all : List (List Value)) → 0 < at → is_some (if comes_true p s t i h then renewed p s t i (at + 1) m h else None) ≡ true → line ≡ new_record s t i (records_of (length p.steps) h)
    → Some (record { machine = record { states = slice_set m.states at (option_map (held_with at line) h); begun = m.begun }; emitted = all ++ emitted_with p s line h }) ≡ option_map (after all) (if comes_true p s t i h then renewed p s t i (at + 1) m h else None)
unfolding renewed replaced with_state after emitted_with
replaced-is p s t i at m None line all above e is =
    let no : false ≡ true = sym (rw (not-first at above) (if-none (comes_true p s t i None))) ∙ e in absurd cc
replaced-is p s t i at m (Some h) line all above e is = elim (cases_Bool (comes_true p s t i (Some h))) [
  | inl y ↦
      let here : at + 1 - 1 ≡ at = omega arith in
      rw (y, not-first at above, here, sym is) refl
  | inr f ↦ let no : false ≡ true = rw f at e in absurd cc
]

pub replaced-turn : (p : ScanPlan) (s : ScanStep) (t : Grid) (i at width : ℕ) (ss new : List StateSeen) (begun : ℕ) (emitted more : List (List Value)) (b n : StateSeen) (rs : Records) (line : List Value) → 0 < at → at < length ss → b ≡ get_or ss at b → AreStates (length p.steps) width ss
    → is_some (two p s t i at ss begun) ≡ true → rs ≡ records_of b.size b.held → line ≡ new_record s t i rs → more ≡ emitted ++ emitted_with p s line b.held → new ≡ slice_set ss at n → n ≡ record { size = b.size; held = option_map (held_with at line) b.held }
    → Some (record { machine = machine_of new begun; emitted = more }) ≡ option_map (after emitted) (two p s t i at ss begun)
unfolding check_two
replaced-turn p s t i at width ss new begun emitted more b n rs line above lt here states check same made rows set made-state =
    let m = machine_of ss begun in
    let h = state-there (length p.steps) width at ss b states lt here in
    let there = state-of ss begun at b lt here in
    let line-is : line ≡ new_record s t i (records_of (length p.steps) b.held) = made ∙ ap (new_record s t i) (same ∙ ap (λ k. records_of k b.held) h.size) in
    let two-of = λ (g : Option Held). (if comes_true p s t i g then renewed p s t i (at + 1) m g else None) in
    let holds : is_some (two-of b.held) ≡ true = ap (λ (g : Option Held). is_some (two-of g)) (sym there) ∙ check in
    let states-are : map held_in new ≡ slice_set m.states at (option_map (held_with at line) b.held) = ap (map held_in) set ∙ (held-set ss at n ∙ ap (λ (x : StateSeen). slice_set m.states at x.held) made-state) in
    ap₂ (λ (hs : List (Option Held)) (rows : List (List Value)). Some (record { machine = record { states = hs; begun = begun }; emitted = rows })) states-are rows
    ∙ (replaced-is p s t i at m b.held line emitted above holds line-is
    ∙ ap (λ (g : Option Held). option_map (after emitted) (two-of g)) (sym there))

pub renew-held : (size width at : ℕ) (ss : List StateSeen) (b : StateSeen) → AreStates size width ss → at < length ss → b ≡ get_or ss at b → IfSome b.held (λ h. (at ≤ length h.records) × (length h.records ≤ at + 1))
renew-held size width at ss b states lt here = by b.held (state-there size width at ss b states lt here).count
  where
    by : (o : Option Held) → IfSome o (λ h. length h.records ≡ at + 1) → IfSome o (λ h. (at ≤ length h.records) × (length h.records ≤ at + 1))
    by None e = tt
    by (Some h) e = (omega (arith, e), omega (arith, e))

kept-long : (size width at : ℕ) (h : Option Held) (row : List Value) → IfSome h (λ g. length g.records ≡ at + 1) → IfSome h (λ g. All (λ r. length r ≡ width) g.records) → IfSome h (λ g. All AreWellFormed g.records) → length row ≡ width → AreWellFormed row → IsStateAt size width at (record { size = size; held = option_map (held_with at row) h })
kept-long size width at None row count wide form same good = record { size = refl; count = tt; width = tt; form = tt }
kept-long size width at (Some h) row count wide form same good =
    record {
      size = refl;
      count = omega (arith, length-append (take at h.records) (row ∷ []), length-take-le at h.records (omega (arith, count)));
      width = All-push (λ r. length r ≡ width) (take at h.records) row (All-take (λ r. length r ≡ width) at h.records wide) same;
      form = All-push AreWellFormed (take at h.records) row (All-take AreWellFormed at h.records form) good;
    }

pub replaced-states : (size width at : ℕ) (ss new : List StateSeen) (row : List Value) (b n : StateSeen) → AreStates size width ss → at < length ss → b ≡ get_or ss at b → length row ≡ width → AreWellFormed row → new ≡ slice_set ss at n → n ≡ record { size = b.size; held = option_map (held_with at row) b.held } → AreStates size width new
replaced-states size width at ss new row b n states lt here wide good set made =
    let h = state-there size width at ss b states lt here in
    let fresh : IsStateAt size width at n = subst (IsStateAt size width at) (sym made) (subst (λ k. IsStateAt size width at (record { size = k; held = option_map (held_with at row) b.held })) (sym h.size) (kept-long size width at b.held row h.count h.width h.form wide good)) in
    subst (AreStates size width) (sym set) (set-states size width at ss n states fresh)

-- The width of a new record.
pub new-width : (s : ScanStep) (t : Grid) (i : ℕ) (rs : Records) (r : List Value) → r ≡ new_record s t i rs → length r ≡ length t.columns
unfolding new_record
new-width s t i rs r is = ap length is ∙ length-map t.columns _

pub step-columns : (p : ScanPlan) (columns : List Column) (at : ℕ) (s : PlacedStep) → IsStepOf p columns at s → columns ≡ s.columns
step-columns p columns at s h = h.columns

pub step-within : (p : ScanPlan) (cs : List Column) (at : ℕ) (s : PlacedStep) → IsStepOf p cs at s → at < length p.steps
step-within p cs at s h = slice_get_within p.steps at s.step h.step

pub within-run : (p : ScanPlan) (cs : List Column) (at : ℕ) (s : PlacedStep) (r : Run) → IsStepOf p cs at s → IsRun p cs r → at < length r.states.items
within-run p cs at s r h k = omega (arith, step-within p cs at s h, k.count)

pub ruleset try_facts = (tried-one, tried-two)

pub ruleset again_facts = (outcome-again, outcome-none)

pub ruleset check_facts = (records-sound, within-run, state-there)

pub ruleset move_facts = (records-sound, new-width, step-within, within-run, state-there)

pub ruleset up_facts = (swapped-held, swapped-room, swapped-moved)

pub ruleset begin_facts = (records-sound, new-width, step-within, within-run, state-there)

pub ruleset renew_facts = (records-sound, new-width, step-within, within-run, state-there)
