-- What a scan gives of a small table, computed row by row.
use Rattle.std.proofs.Common.{◌≡◌, ℕ, false, List, [], ◌∷◌, refl, ap}
use Rattle.std.specs.Prelude.{codes, Option, Some, None}
use Rattle.kql_texts.specs.Texts.{begins, holds}
use Rattle.kql_cells.specs.Table.{Grid}
use Rattle.kql_cells.specs.declared.value.Kind.TheVariants as kind
use Rattle.kql_cells.specs.declared.value.Value.{Value}
use Rattle.kql_functions.specs.declared.func.Func.TheVariants as func
use Rattle.kql_functions.specs.declared.func.SearchPlace.TheVariants as place
use Rattle.kql_texts.specs.declared.folding.Fold.TheVariants as fold_of
use Rattle.kql_scalar_fns.specs.Applied.{applied}
use Rattle.kql_scalar_fns.specs.Arguments.{argument}
use Rattle.kql_scalar_fns.specs.Logic.{truth}
use Rattle.kql_scalar_fns.specs.Search.{found, search_call, stands}
use Rattle.kql_bound.specs.declared.expr.BExpr.TheOpen.{BExpr-F}
use Rattle.kql_meaning_examples.specs.Examples.{ScanColumns, ScanTwoSteps, events, has_letter, i_of_s1, literal, matched, n, null, t, two_steps}
use Rattle.kql_meaning.specs.Expressions.{reading, reading_step, recorded, step_value, val}
use Rattle.kql_meaning.specs.Readings.{Reading, Records, values_at}
use Rattle.kql_meaning.specs.Scan.{Held, Machine, Turn, after, all_rows, assigned, begun_anew, check_one, check_two, comes_true, declared_columns, declared_defaults, emitted_at_once, emitted_if_last, first_outcome, held_rows, id_cells, id_columns, is_all, is_last, machine_at_start, new_record, promoted, records_of, renewed, replaced, row_after, row_of_record, row_turn, rows_at_end, scan_columns, scan_rows, scan_table, state_before, state_of, steps_down, tried, with_declared, with_state}
use Rattle.kql_meaning.specs.Tables.{absent_in, cell, cell_in, is_name_among, places, places_below}
use Rattle.kql_meaning.specs.Values as values
use Rattle.kql_meaning.proofs.ReadingLaws.{reading_steps}
use Rattle.kql_meaning.proofs.ValueLaws.{val-Literal, val-Step}

-- How the expressions of the steps read.
unfoldable pub letter_read : List ℕ → Reading
letter_read letter = reading_step (BExpr-F.Call (func.Search (record { place = place.Anywhere; «fold» = fold_of.Exact; negated = false })) (reading_step (BExpr-F.Column (codes "e")) ∷ reading_step (BExpr-F.Literal (record { kind = kind.Text; value = t letter })) ∷ []))

letter-reading : (letter : List ℕ) → reading (has_letter letter) ≡ letter_read letter
unfolding letter_read
letter-reading letter = simp reading_steps

pub letter-value : (letter : List ℕ) (g : Grid) (i : ℕ) (s : Records) → val (has_letter letter) g i s ≡ (letter_read letter).at g i s
unfolding val
letter-value letter g i s = ap (λ (r : Reading). r.at g i s) (letter-reading letter)

one-value : (g : Grid) (i : ℕ) (s : Records) → val (literal 1) g i s ≡ n 1
one-value g i s = val-Literal (record { kind = kind.Long; value = n 1 }) g i s

step-value : (g : Grid) (i : ℕ) (s : Records) → val i_of_s1 g i s ≡ step_value (record { step = codes "s1"; column = codes "i"; number = 1; place = 0; default = record { kind = kind.Long; value = null } }) s
step-value g i s = val-Step (record { step = codes "s1"; column = codes "i"; number = 1; place = 0; default = record { kind = kind.Long; value = null } }) g i s

-- The rows with the declared column, the machine before each of them, and the turn of each.
abbrev given : Grid
given = with_declared two_steps events

abbrev row : ℕ → List ℕ → ℕ → List Value
row i e k = n i ∷ t e ∷ n k ∷ []

abbrev held : List (List Value) → ℕ → Option Held
held records id = Some (record { records = records; id = id })

abbrev machine : Option Held → Option Held → ℕ → Machine
machine one two begun = record { states = one ∷ two ∷ []; begun = begun }

abbrev first : Machine
first = machine None None 0

abbrev second : Machine
second = machine (held (row 1 (codes "A") 1 ∷ []) 0) None 1

abbrev third : Machine
third = machine (held (row 2 (codes "AB") 1 ∷ []) 1) (held (row 1 (codes "A") 1 ∷ row 2 (codes "AB") 1 ∷ []) 0) 2

abbrev fourth : Machine
fourth = machine None (held (row 2 (codes "AB") 1 ∷ row 3 (codes "B") 2 ∷ []) 1) 2

abbrev last : Machine
last = machine None (held (row 2 (codes "AB") 1 ∷ row 4 (codes "B") 2 ∷ []) 1) 2

abbrev turned : Machine → List (List Value) → Turn
turned m emitted = record { machine = m; emitted = emitted }

turn_one : row_turn two_steps given first 0 ≡ turned second (matched 1 (codes "A") 1 0 ∷ [])
unfolding after assigned begun_anew check_one check_two comes_true declared_columns declared_defaults emitted_at_once emitted_if_last first_outcome held_rows id_cells is_all is_last new_record promoted records_of renewed replaced row_of_record row_turn state_before state_of steps_down tried with_declared with_state absent_in cell cell_in is_name_among values.absent values.holds letter_read applied argument truth found search_call stands begins holds values_at step_value recorded
turn_one = simp (letter-value, one-value, step-value)

turn_two : row_turn two_steps given second 1 ≡ turned third (matched 2 (codes "AB") 1 0 ∷ matched 2 (codes "AB") 1 1 ∷ [])
unfolding after assigned begun_anew check_one check_two comes_true declared_columns declared_defaults emitted_at_once emitted_if_last first_outcome held_rows id_cells is_all is_last new_record promoted records_of renewed replaced row_of_record row_turn state_before state_of steps_down tried with_declared with_state absent_in cell cell_in is_name_among values.absent values.holds letter_read applied argument truth found search_call stands begins holds values_at step_value recorded
turn_two = simp (letter-value, one-value, step-value)

turn_three : row_turn two_steps given third 2 ≡ turned fourth (matched 3 (codes "B") 2 1 ∷ [])
unfolding after assigned begun_anew check_one check_two comes_true declared_columns declared_defaults emitted_at_once emitted_if_last first_outcome held_rows id_cells is_all is_last new_record promoted records_of renewed replaced row_of_record row_turn state_before state_of steps_down tried with_declared with_state absent_in cell cell_in is_name_among values.absent values.holds letter_read applied argument truth found search_call stands begins holds values_at step_value recorded
turn_three = simp (letter-value, one-value, step-value)

turn_four : row_turn two_steps given fourth 3 ≡ turned last (matched 4 (codes "B") 2 1 ∷ [])
unfolding after assigned begun_anew check_one check_two comes_true declared_columns declared_defaults emitted_at_once emitted_if_last first_outcome held_rows id_cells is_all is_last new_record promoted records_of renewed replaced row_of_record row_turn state_before state_of steps_down tried with_declared with_state absent_in cell cell_in is_name_among values.absent values.holds letter_read applied argument truth found search_call stands begins holds values_at step_value recorded
turn_four = simp (letter-value, one-value, step-value)

start : machine_at_start two_steps ≡ first
unfolding machine_at_start
start = refl

after_one : row_after two_steps given (turned first []) 0 ≡ turned second (matched 1 (codes "A") 1 0 ∷ [])
unfolding row_after after
after_one = rw turn_one refl

after_two : row_after two_steps given (turned second (matched 1 (codes "A") 1 0 ∷ [])) 1 ≡ turned third (matched 1 (codes "A") 1 0 ∷ matched 2 (codes "AB") 1 0 ∷ matched 2 (codes "AB") 1 1 ∷ [])
unfolding row_after after
after_two = rw turn_two refl

after_three : row_after two_steps given (turned third (matched 1 (codes "A") 1 0 ∷ matched 2 (codes "AB") 1 0 ∷ matched 2 (codes "AB") 1 1 ∷ [])) 2 ≡ turned fourth (matched 1 (codes "A") 1 0 ∷ matched 2 (codes "AB") 1 0 ∷ matched 2 (codes "AB") 1 1 ∷ matched 3 (codes "B") 2 1 ∷ [])
unfolding row_after after
after_three = rw turn_three refl

after_four : row_after two_steps given (turned fourth (matched 1 (codes "A") 1 0 ∷ matched 2 (codes "AB") 1 0 ∷ matched 2 (codes "AB") 1 1 ∷ matched 3 (codes "B") 2 1 ∷ [])) 3 ≡ turned last (matched 1 (codes "A") 1 0 ∷ matched 2 (codes "AB") 1 0 ∷ matched 2 (codes "AB") 1 1 ∷ matched 3 (codes "B") 2 1 ∷ matched 4 (codes "B") 2 1 ∷ [])
unfolding row_after after
after_four = rw turn_four refl

taken_through : all_rows two_steps given ≡ turned last (matched 1 (codes "A") 1 0 ∷ matched 2 (codes "AB") 1 0 ∷ matched 2 (codes "AB") 1 1 ∷ matched 3 (codes "B") 2 1 ∷ matched 4 (codes "B") 2 1 ∷ [])
unfolding all_rows places places_below with_declared
taken_through = rw (start, after_one, after_two, after_three, after_four) refl

pub scan_two_steps : ScanTwoSteps
unfolding scan_table scan_rows rows_at_end held_rows emitted_if_last is_last state_of
scan_two_steps = rw taken_through refl

pub scan_columns_of_two : ScanColumns
unfolding scan_table scan_columns declared_columns id_columns
scan_columns_of_two = refl

pub ruleset scan_examples = (scan_two_steps, scan_columns_of_two)
