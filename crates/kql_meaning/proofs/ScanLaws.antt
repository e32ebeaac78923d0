-- A scan of one step that takes every row.
use Rattle.std.proofs.Common.{◌≡◌, ◌<◌, ◌≤◌, ◌+◌, ◌++◌, ℕ, zero, suc, true, false, List, [], ◌∷◌, map, length, refl, sym, subst, ap, ◌∙◌, append-nil, arith}
use Rattle.std.specs.Prelude.{Option, None, Some, fold}
use Rattle.std.specs.List.{range_with_len}
use Rattle.std.proofs.lemmas.List.{length-map}
use Rattle.std.proofs.lemmas.List.FromFn.{map-range_with_len_more}
use Rattle.kql_cells.specs.Table.{Grid}
use Rattle.kql_cells.specs.declared.value.Value.{Value}
use Rattle.kql_bound.specs.declared.parts.Decl.{Decl}
use Rattle.kql_bound.specs.declared.parts.Output.TheVariants as output
use Rattle.kql_bound.specs.declared.parts.ScanPlan.{ScanPlan}
use Rattle.kql_bound.specs.declared.parts.ScanStep.{ScanStep}
use Rattle.kql_meaning.specs.Expressions.{val}
use Rattle.kql_meaning.specs.LawsOfScan.{ScanTakesEveryRow, TakesEveryRow, taken_record}
use Rattle.kql_meaning.specs.Scan.{Held, Turn, after, all_rows, begun_anew, check_one, check_two, comes_true, emitted_at_once, emitted_if_last, first_outcome, held_rows, is_all, is_last, machine_at_start, new_record, records_of, renewed, row_after, row_of_record, row_turn, rows_at_end, scan_rows, scan_table, state_before, state_of, steps_down, tried, with_declared, with_state}
use Rattle.kql_meaning.specs.Tables.{places, places_below}
use Rattle.kql_meaning.specs.Values.{holds}

-- The state of the step after so many rows.
abbrev held_after : ScanStep → Grid → ℕ → Option Held
held_after step t zero = None
held_after step t (suc i) = Some (record { records = taken_record step t i ∷ []; id = i })

abbrev row_of_place : ScanPlan → ScanStep → Grid → ℕ → List Value
row_of_place p step t i = row_of_record p (taken_record step t i) i

-- The machine after so many rows, and what it emitted.
abbrev turn_after : ScanPlan → ScanStep → Grid → ℕ → Turn
turn_after p step t n = record {
  machine = record { states = held_after step t n ∷ []; begun = n };
  emitted = map (row_of_place p step t) (range_with_len 0 n);
}

abbrev one_step : Option (List ℕ) → List Decl → ScanStep → ScanPlan
one_step id declared step = record { match_id = id; declared = declared; steps = step ∷ [] }

module _ (id : Option (List ℕ)) (declared : List Decl) (step : ScanStep) (all : step.output ≡ output.All) where
  abbrev p : ScanPlan
  p = one_step id declared step

  emits : is_all step.output ≡ true
  unfolding is_all
  emits = rw all refl

  keeps-back : is_last step.output ≡ false
  unfolding is_last
  keeps-back = rw all refl

  nothing-held : (h : Option Held) → held_rows p 1 h ≡ []
  unfolding held_rows emitted_if_last
  nothing-held None = refl
  nothing-held (Some h) = rw keeps-back refl

  -- A row begins a sequence anew, from the state that was held.
  begun : (t : Grid) (i n : ℕ) (old : Option Held) → begun_anew p step t i (record { states = old ∷ []; begun = n }) old ≡ record {
    machine = record { states = Some (record { records = new_record step t i (records_of 1 old) ∷ []; id = n }) ∷ []; begun = n + 1 };
    emitted = row_of_record p (new_record step t i (records_of 1 old)) n ∷ [];
  }
  unfolding begun_anew emitted_at_once with_state
  begun t i n old = rw (nothing-held old, emits) refl

  outcome : (t : Grid) (i n : ℕ) (old : Option Held) → holds (val step.condition t i (records_of 1 old)) ≡ true → row_turn p t (record { states = old ∷ []; begun = n }) i ≡ record {
    machine = record { states = Some (record { records = new_record step t i (records_of 1 old) ∷ []; id = n }) ∷ []; begun = n + 1 };
    emitted = row_of_record p (new_record step t i (records_of 1 old)) n ∷ [];
  }
  unfolding row_turn steps_down tried first_outcome check_one check_two state_before state_of comes_true renewed after
  outcome t i n None true_here = rw true_here (ap (after []) (begun t i n None))
  outcome t i n (Some h) true_here = rw true_here (ap (after []) (begun t i n (Some h)))

  next-row : (t : Grid) (i : ℕ) → TakesEveryRow step t → i < length t.lines → row_after p t (turn_after p step t i) i ≡ turn_after p step t (suc i)
  unfolding row_after after records_of
  next-row t zero every lt = rw (outcome t 0 0 None (every 0 (None ∷ []) lt)) refl
  next-row t (suc i) every lt =
      let h : Held = record { records = taken_record step t i ∷ []; id = i } in
      let more = map-range_with_len_more (row_of_place p step t) 0 (suc i) (suc i) (omega arith) in
      let longer : suc i + 1 ≡ suc (suc i) = omega arith in
      rw (outcome t (suc i) (suc i) (Some h) (every (suc i) (Some (taken_record step t i) ∷ []) lt), sym more, longer) refl

  rows-after : (t : Grid) (i n : ℕ) → TakesEveryRow step t → i + n ≤ length t.lines → fold (row_after p t) (turn_after p step t i) (range_with_len i n) ≡ turn_after p step t (i + n)
  rows-after t i zero every le = let e : i + 0 ≡ i = omega arith in rw e refl
  rows-after t i (suc n) every le =
      let e : i + 1 + n ≡ i + suc n = omega arith in
      let f : suc i ≡ i + 1 = omega arith in
      ap (λ turn. fold (row_after p t) turn (range_with_len (i + 1) n)) (next-row t i every (omega arith) ∙ ap (turn_after p step t) f)
      ∙ (rows-after t (i + 1) n every (omega arith) ∙ ap (turn_after p step t) e)

  nothing-at-end : (t : Grid) (n : ℕ) → rows_at_end p (turn_after p step t n).machine ≡ []
  unfolding rows_at_end state_of
  nothing-at-end t n = ap (λ (rows : List (List Value)). rows ++ []) (nothing-held (held_after step t n))

  rows-of-scan : (t : Grid) → TakesEveryRow step t → scan_rows p t ≡ map (row_of_place p step t) (range_with_len 0 (length t.lines))
  unfolding scan_rows all_rows machine_at_start places places_below
  rows-of-scan t every =
      let n = length t.lines in
      let from_none : 0 + n ≡ n = omega arith in
      ap (λ (turn : Turn). turn.emitted ++ rows_at_end p turn.machine) (rows-after t 0 n every (omega arith) ∙ ap (turn_after p step t) from_none)
      ∙ (ap (λ rows. map (row_of_place p step t) (range_with_len 0 n) ++ rows) (nothing-at-end t n) ∙ append-nil (map (row_of_place p step t) (range_with_len 0 n)))

abbrev GivesAll : ScanStep → Grid → ScanPlan → Type 0
GivesAll step t p = TakesEveryRow step (with_declared p t) → (scan_table p t).lines ≡ map (row_of_place p step (with_declared p t)) (places t)

gives-all : (id : Option (List ℕ)) (declared : List Decl) (step : ScanStep) (t : Grid) → step.output ≡ output.All → GivesAll step t (one_step id declared step)
unfolding scan_table with_declared places places_below
gives-all id declared step t all every =
    let p = one_step id declared step in
    rows-of-scan id declared step all (with_declared p t) every
    ∙ ap (λ n. map (row_of_place p step (with_declared p t)) (range_with_len 0 n)) (length-map t.lines _)

pub scan_takes_every_row : ScanTakesEveryRow
scan_takes_every_row p step t one all every =
    let same : one_step p.match_id p.declared step ≡ p = ap (λ steps. record { match_id = p.match_id; declared = p.declared; steps = steps }) (sym one) in
    subst (GivesAll step t) same (gives-all p.match_id p.declared step t all) every

pub ruleset scan_laws = (scan_takes_every_row)
