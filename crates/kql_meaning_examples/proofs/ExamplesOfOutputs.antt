-- What a scan gives of a small table by the outputs of its steps. The machine is the same for all of them: each turn is computed with
-- outputs that are not told yet.
use Rattle.std.proofs.Common.{◌≡◌, ℕ, List, [], ◌∷◌, ◌++◌, refl, ap}
use Rattle.std.specs.Prelude.{codes, Option, Some, None, if◌then◌else◌}
use Rattle.kql_texts.specs.Texts.{begins, holds}
use Rattle.kql_cells.specs.Table.{Grid}
use Rattle.kql_cells.specs.declared.value.Value.{Value}
use Rattle.kql_scalar_fns.specs.Applied.{applied}
use Rattle.kql_scalar_fns.specs.Arguments.{argument}
use Rattle.kql_scalar_fns.specs.Logic.{truth}
use Rattle.kql_scalar_fns.specs.Search.{found, search_call, stands}
use Rattle.kql_bound.specs.declared.parts.Output.{Output}
use Rattle.kql_bound.specs.declared.parts.Output.TheVariants as output
use Rattle.kql_bound.specs.declared.parts.ScanPlan.{ScanPlan}
use Rattle.kql_meaning_examples.specs.Examples.{ScanLastAtEnd, ScanLastOfBoth, ScanLastOfFirst, ScanLastOfSecond, ScanNoneOfFirst, ScanNoneOfSecond, all_seen, events, letters_again, n, seen, t, two_letters}
use Rattle.kql_meaning.specs.Readings.{values_at}
use Rattle.kql_meaning.specs.Scan.{Held, Machine, Turn, after, all_rows, assigned, begun_anew, check_one, check_two, comes_true, declared_columns, declared_defaults, defaults_of, emitted_at_once, emitted_if_last, first_outcome, held_rows, id_cells, id_columns, is_all, is_last, machine_at_start, new_record, promoted, records_of, renewed, replaced, row_after, row_of_record, row_turn, rows_at_end, scan_columns, scan_rows, scan_table, state_before, state_of, steps_down, tried, with_declared, with_state}
use Rattle.kql_meaning.specs.Tables.{absent_in, cell, cell_in, is_name_among, places, places_below}
use Rattle.kql_meaning.specs.Values as values
use Rattle.kql_meaning_examples.proofs.ExamplesOfScan.{letter-value, letter_read}

abbrev row : ℕ → List ℕ → List Value
row i e = n i ∷ t e ∷ []

abbrev held : List (List Value) → ℕ → Option Held
held records id = Some (record { records = records; id = id })

abbrev machine : Option Held → Option Held → ℕ → Machine
machine one two begun = record { states = one ∷ two ∷ []; begun = begun }

abbrev first : Machine
first = machine None None 0

abbrev second : Machine
second = machine (held (row 1 (codes "A") ∷ []) 0) None 1

abbrev third : Machine
third = machine (held (row 2 (codes "AB") ∷ []) 1) (held (row 1 (codes "A") ∷ row 2 (codes "AB") ∷ []) 0) 2

abbrev fourth : Machine
fourth = machine None (held (row 2 (codes "AB") ∷ row 3 (codes "B") ∷ []) 1) 2

abbrev end : Machine
end = machine None (held (row 2 (codes "AB") ∷ row 4 (codes "B") ∷ []) 1) 2

abbrev turned : Machine → List (List Value) → Turn
turned m emitted = record { machine = m; emitted = emitted }

-- A new record, where the step emits each at once; and one that is held, where it emits the last.
abbrev at_once : Output → List Value → List (List Value)
at_once o line = if is_all o then line ∷ [] else []

abbrev held_last : Output → List Value → List (List Value)
held_last o line = if is_last o then line ∷ [] else []

-- What the turns emit.
abbrev of_one : Output → List (List Value)
of_one one = at_once one (seen 1 (codes "A") 0)

abbrev of_two : Output → Output → List (List Value)
of_two one two = (held_last one (seen 1 (codes "A") 0) ++ at_once two (seen 2 (codes "AB") 0)) ++ at_once one (seen 2 (codes "AB") 1)

abbrev of_three : Output → Output → List (List Value)
of_three one two = held_last two (seen 2 (codes "AB") 0) ++ (held_last one (seen 2 (codes "AB") 1) ++ at_once two (seen 3 (codes "B") 1))

abbrev of_four : Output → List (List Value)
of_four two = at_once two (seen 4 (codes "B") 1)

turn_one : (one two : Output) → row_turn (two_letters one two) events first 0 ≡ turned second (of_one one)
unfolding after assigned begun_anew check_one check_two comes_true declared_columns declared_defaults emitted_at_once emitted_if_last first_outcome held_rows id_cells new_record promoted records_of renewed replaced row_of_record row_turn state_before state_of steps_down tried with_declared with_state absent_in cell cell_in is_name_among values.absent values.holds letter_read applied argument truth found search_call stands begins holds values_at
turn_one one two = simp (letter-value)

turn_two : (one two : Output) → row_turn (two_letters one two) events second 1 ≡ turned third (of_two one two)
unfolding after assigned begun_anew check_one check_two comes_true declared_columns declared_defaults emitted_at_once emitted_if_last first_outcome held_rows id_cells new_record promoted records_of renewed replaced row_of_record row_turn state_before state_of steps_down tried with_declared with_state absent_in cell cell_in is_name_among values.absent values.holds letter_read applied argument truth found search_call stands begins holds values_at
turn_two one two = simp (letter-value)

turn_three : (one two : Output) → row_turn (two_letters one two) events third 2 ≡ turned fourth (of_three one two)
unfolding after assigned begun_anew check_one check_two comes_true declared_columns declared_defaults emitted_at_once emitted_if_last first_outcome held_rows id_cells new_record promoted records_of renewed replaced row_of_record row_turn state_before state_of steps_down tried with_declared with_state absent_in cell cell_in is_name_among values.absent values.holds letter_read applied argument truth found search_call stands begins holds values_at
turn_three one two = simp (letter-value)

turn_four : (one two : Output) → row_turn (two_letters one two) events fourth 3 ≡ turned end (of_four two)
unfolding after assigned begun_anew check_one check_two comes_true declared_columns declared_defaults emitted_at_once emitted_if_last first_outcome held_rows id_cells new_record promoted records_of renewed replaced row_of_record row_turn state_before state_of steps_down tried with_declared with_state absent_in cell cell_in is_name_among values.absent values.holds letter_read applied argument truth found search_call stands begins holds values_at
turn_four one two = simp (letter-value)

-- All that is emitted before the end.
abbrev of_all : Output → Output → List (List Value)
of_all one two = ((of_one one ++ of_two one two) ++ of_three one two) ++ of_four two

start : (one two : Output) → machine_at_start (two_letters one two) ≡ first
unfolding machine_at_start
start one two = refl

after_turn : (one two : Output) (g : Grid) (m next : Machine) (i : ℕ) (before emitted : List (List Value)) → row_turn (two_letters one two) g m i ≡ turned next emitted → row_after (two_letters one two) g (turned m before) i ≡ turned next (before ++ emitted)
unfolding row_after after
after_turn one two g m next i before emitted same = ap (λ (turn : Turn). record { machine = turn.machine; emitted = before ++ turn.emitted }) same

nothing_declared : (one two : Output) → with_declared (two_letters one two) events ≡ events
unfolding with_declared declared_columns declared_defaults defaults_of
nothing_declared one two = refl

taken_through : (one two : Output) → all_rows (two_letters one two) events ≡ turned end (of_all one two)
unfolding all_rows places places_below
taken_through one two = rw (start one two, after_turn one two events first second 0 [] (of_one one) (turn_one one two), after_turn one two events second third 1 (of_one one) (of_two one two) (turn_two one two), after_turn one two events third fourth 2 (of_one one ++ of_two one two) (of_three one two) (turn_three one two), after_turn one two events fourth end 3 ((of_one one ++ of_two one two) ++ of_three one two) (of_four two) (turn_four one two)) refl

-- The whole, by what is emitted before the end and at the end.
scanned : (one two : Output) → scan_table (two_letters one two) events ≡ all_seen (of_all one two ++ (held_last two (seen 4 (codes "B") 1) ++ []))
unfolding scan_table scan_columns declared_columns id_columns scan_rows rows_at_end held_rows emitted_if_last state_of row_of_record id_cells
scanned one two = rw (nothing_declared one two, taken_through one two) refl

pub last_of_first : ScanLastOfFirst
unfolding is_all is_last
last_of_first = scanned output.Last output.All

pub last_of_second : ScanLastOfSecond
unfolding is_all is_last
last_of_second = scanned output.All output.Last

pub last_of_both : ScanLastOfBoth
unfolding is_all is_last
last_of_both = scanned output.Last output.Last

pub none_of_first : ScanNoneOfFirst
unfolding is_all is_last
none_of_first = scanned output.Nothing output.All

pub none_of_second : ScanNoneOfSecond
unfolding is_all is_last
none_of_second = scanned output.All output.Nothing

-- The other rows, where both steps emit the last.
abbrev lasts : ScanPlan
lasts = two_letters output.Last output.Last

abbrev one_held : Machine
one_held = machine (held (row 1 (codes "A") ∷ []) 0) None 1

abbrev other_held : Machine
other_held = machine (held (row 2 (codes "A") ∷ []) 1) None 2

abbrev gone_on : Machine
gone_on = machine None (held (row 2 (codes "A") ∷ row 3 (codes "B") ∷ []) 1) 2

abbrev both_held : Machine
both_held = machine (held (row 4 (codes "A") ∷ []) 2) (held (row 2 (codes "A") ∷ row 3 (codes "B") ∷ []) 1) 3

again_one : row_turn lasts letters_again first 0 ≡ turned one_held []
unfolding after assigned begun_anew check_one check_two comes_true declared_columns declared_defaults emitted_at_once emitted_if_last first_outcome held_rows id_cells new_record promoted records_of renewed replaced row_of_record row_turn state_before state_of steps_down tried with_declared with_state absent_in cell cell_in is_name_among values.absent values.holds letter_read applied argument truth found search_call stands begins holds values_at is_all is_last
again_one = simp (letter-value)

again_two : row_turn lasts letters_again one_held 1 ≡ turned other_held (seen 1 (codes "A") 0 ∷ [])
unfolding after assigned begun_anew check_one check_two comes_true declared_columns declared_defaults emitted_at_once emitted_if_last first_outcome held_rows id_cells new_record promoted records_of renewed replaced row_of_record row_turn state_before state_of steps_down tried with_declared with_state absent_in cell cell_in is_name_among values.absent values.holds letter_read applied argument truth found search_call stands begins holds values_at is_all is_last
again_two = simp (letter-value)

again_three : row_turn lasts letters_again other_held 2 ≡ turned gone_on (seen 2 (codes "A") 1 ∷ [])
unfolding after assigned begun_anew check_one check_two comes_true declared_columns declared_defaults emitted_at_once emitted_if_last first_outcome held_rows id_cells new_record promoted records_of renewed replaced row_of_record row_turn state_before state_of steps_down tried with_declared with_state absent_in cell cell_in is_name_among values.absent values.holds letter_read applied argument truth found search_call stands begins holds values_at is_all is_last
again_three = simp (letter-value)

again_four : row_turn lasts letters_again gone_on 3 ≡ turned both_held []
unfolding after assigned begun_anew check_one check_two comes_true declared_columns declared_defaults emitted_at_once emitted_if_last first_outcome held_rows id_cells new_record promoted records_of renewed replaced row_of_record row_turn state_before state_of steps_down tried with_declared with_state absent_in cell cell_in is_name_among values.absent values.holds letter_read applied argument truth found search_call stands begins holds values_at is_all is_last
again_four = simp (letter-value)

again : all_rows lasts letters_again ≡ turned both_held (seen 1 (codes "A") 0 ∷ seen 2 (codes "A") 1 ∷ [])
unfolding all_rows places places_below
again = rw (start output.Last output.Last, after_turn output.Last output.Last letters_again first one_held 0 [] [] again_one, after_turn output.Last output.Last letters_again one_held other_held 1 [] (seen 1 (codes "A") 0 ∷ []) again_two, after_turn output.Last output.Last letters_again other_held gone_on 2 (seen 1 (codes "A") 0 ∷ []) (seen 2 (codes "A") 1 ∷ []) again_three, after_turn output.Last output.Last letters_again gone_on both_held 3 (seen 1 (codes "A") 0 ∷ seen 2 (codes "A") 1 ∷ []) [] again_four) refl

nothing_declared_again : with_declared lasts letters_again ≡ letters_again
unfolding with_declared declared_columns declared_defaults defaults_of
nothing_declared_again = refl

pub last_at_end : ScanLastAtEnd
unfolding scan_table scan_columns declared_columns id_columns scan_rows rows_at_end held_rows emitted_if_last state_of row_of_record id_cells is_last
last_at_end = rw (nothing_declared_again, again) refl

pub ruleset output_examples = (last_of_first, last_of_second, last_of_both, last_at_end, none_of_first, none_of_second)
