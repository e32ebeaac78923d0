-- `scan`: a machine that takes the rows one after another through its steps.
--
-- Steps are numbered from 1 to n. The state of step k is empty, or holds one record for each of the steps 1 to k and a match id. A
-- record is an input row with the declared columns. Expressions are read over the rows with the declared columns at their defaults.
use Rattle.std.specs.Prelude.{ℕ, ◌+◌, ◌-◌, ◌==◌, nat_lt, Bool, true, false, List, [], ◌∷◌, ◌++◌, Option, None, Some, find, fold, length, map, option_map, replicate, reverse, slice_get, slice_index_or, slice_set, take, pos, if◌then◌else◌}
use Rattle.std.specs.List.{enumerate_from, flat_map, range_with_len}
use Rattle.kql_cells.specs.Table.{Grid}
use Rattle.kql_cells.specs.declared.schema.Column.{Column}
use Rattle.kql_cells.specs.declared.value.Kind.TheVariants as kind
use Rattle.kql_cells.specs.declared.value.Value.{Value}
use Rattle.kql_cells.specs.declared.value.Value.TheVariants as value
use Rattle.kql_bound.specs.declared.parts.BItem.{BItem}
use Rattle.kql_bound.specs.declared.parts.Decl.{Decl}
use Rattle.kql_bound.specs.declared.parts.Output.{Output}
use Rattle.kql_bound.specs.declared.parts.Output.TheVariants as output
use Rattle.kql_bound.specs.declared.parts.ScanPlan.{ScanPlan}
use Rattle.kql_bound.specs.declared.parts.ScanStep.{ScanStep}
use Rattle.kql_meaning.specs.Expressions.{val}
use Rattle.kql_meaning.specs.Readings.{Records}
use Rattle.kql_meaning.specs.Tables.{cell, is_name_among, places}
use Rattle.kql_meaning.specs.Values.{holds}

-- The state of a step that is not empty.
pub record Held : Type 0 where
  pub records : List (List Value)
  pub id : ℕ

-- The state of the machine: that of each step in order, and the number of sequences begun.
pub record Machine : Type 0 where
  pub states : List (Option Held)
  pub begun : ℕ

-- A machine after a turn, and the rows that it emitted in it.
pub record Turn : Type 0 where
  pub machine : Machine
  pub emitted : List (List Value)

-- At first all states are empty.
unfoldable pub machine_at_start : ScanPlan → Machine
machine_at_start p = record { states = replicate (length p.steps) None; begun = 0 }

-- The state of step k.
unfoldable pub state_of : Machine → ℕ → Option Held
state_of m k = slice_index_or m.states (k - 1) None

-- The state of the step before step k; step 1 has none before it.
unfoldable pub state_before : Machine → ℕ → Option Held
state_before m k = if nat_lt 1 k then state_of m (k - 1) else None

-- The states once that of step k is another.
unfoldable pub with_state : List (Option Held) → ℕ → Option Held → List (Option Held)
with_state states k h = slice_set states (k - 1) h

-- The step records of a state: one for each step, of which there are n.
unfoldable pub records_of : ℕ → Option Held → Records
records_of n None = replicate n None
records_of n (Some h) = map Some h.records ++ replicate (n - length h.records) None

-- The columns that are declared, and their defaults.
unfoldable pub declared_columns : ScanPlan → List Column
declared_columns p = map (λ (d : Decl). record { name = d.name; kind = d.default.kind }) p.declared

unfoldable pub defaults_of : List Decl → List Value
defaults_of declared = map (λ (d : Decl). d.default.value) declared

unfoldable pub declared_defaults : ScanPlan → List Value
declared_defaults p = defaults_of p.declared

-- The input rows with the declared columns at their defaults.
unfoldable pub with_declared : ScanPlan → Grid → Grid
with_declared p t = record { columns = t.columns ++ declared_columns p; lines = map (λ line. line ++ declared_defaults p) t.lines }

-- What a column of the new record holds: what is assigned to it, and else the cell of the row.
unfoldable pub assigned : Option BItem → Column → Grid → ℕ → Records → Value
assigned None c t i s = cell t i c.name
assigned (Some b) c t i s = val b.expr t i s

-- The extended record of row i, with the assignments of a step.
unfoldable pub new_record : ScanStep → Grid → ℕ → Records → List Value
new_record step t i s = map (λ (c : Column). assigned (find (λ (b : BItem). is_name_among b.names c.name) step.sets) c t i s) t.columns

-- The cell of the match id, where it has a name.
unfoldable pub id_cells : Option (List ℕ) → ℕ → List Value
id_cells None id = []
id_cells (Some name) id = value.Long (pos id) ∷ []

-- A record as the row that is emitted, with the match id of its state.
unfoldable pub row_of_record : ScanPlan → List Value → ℕ → List Value
row_of_record p line id = line ++ id_cells p.match_id id

-- Whether a step emits each record at once, or the one that is held last.
unfoldable pub is_all : Output → Bool
is_all output.All = true
is_all _ = false

unfoldable pub is_last : Output → Bool
is_last output.Last = true
is_last _ = false

-- The row of a new record, which is emitted where the step is `all`.
unfoldable pub emitted_at_once : ScanPlan → ScanStep → List Value → ℕ → List (List Value)
emitted_at_once p step line id = if is_all step.output then row_of_record p line id ∷ [] else []

-- The row of the record that step k holds in a state of step k, which is emitted where the step is `last` and the state is not empty.
unfoldable pub emitted_if_last : ScanPlan → ℕ → Option ScanStep → Option Held → List (List Value)
emitted_if_last p k None h = []
emitted_if_last p k (Some step) None = []
emitted_if_last p k (Some step) (Some h) = if is_last step.output then row_of_record p (slice_index_or h.records (k - 1) []) h.id ∷ [] else []

unfoldable pub held_rows : ScanPlan → ℕ → Option Held → List (List Value)
held_rows p k h = emitted_if_last p k (slice_get p.steps (k - 1)) h

-- Whether the condition of a step is true at row i with the records of a state.
unfoldable pub comes_true : ScanPlan → ScanStep → Grid → ℕ → Option Held → Bool
comes_true p step t i h = holds (val step.condition t i (records_of (length p.steps) h))

-- Check 1 has held: the state h of step k - 1 becomes that of step k with one record more, and is empty itself. The assignments read
-- the records of h. Emitted are the record that step k held, the record that step k - 1 held, and the new one, as their steps' outputs say.
unfoldable pub promoted : ScanPlan → ScanStep → Grid → ℕ → ℕ → Machine → Held → Turn
promoted p step t i k m h =
    let line = new_record step t i (records_of (length p.steps) (Some h)) in
    let states = with_state (with_state m.states (k - 1) None) k (Some (record { records = h.records ++ line ∷ []; id = h.id })) in
    record {
      machine = record { states = states; begun = m.begun };
      emitted = held_rows p k (state_of m k) ++ (held_rows p (k - 1) (Some h) ++ emitted_at_once p step line h.id);
    }

-- Check 1: the state of the step before is not empty, and the condition is true with it.
unfoldable pub check_one : ScanPlan → ScanStep → Grid → ℕ → ℕ → Machine → Option Held → Option Turn
check_one p step t i k m None = None
check_one p step t i k m (Some h) = if comes_true p step t i (Some h) then Some (promoted p step t i k m h) else None

-- Check 2 has held for step 1: a new sequence begins. The assignments read the old state. Emitted are the old record, where there is
-- one, and the new one, as the step's output says.
unfoldable pub begun_anew : ScanPlan → ScanStep → Grid → ℕ → Machine → Option Held → Turn
begun_anew p step t i m old =
    let line = new_record step t i (records_of (length p.steps) old) in
    record {
      machine = record { states = with_state m.states 1 (Some (record { records = line ∷ []; id = m.begun })); begun = m.begun + 1 };
      emitted = held_rows p 1 old ++ emitted_at_once p step line m.begun;
    }

-- Check 2 has held for a step k above 1: its own record is replaced. The assignments read the state as it was.
unfoldable pub replaced : ScanPlan → ScanStep → Grid → ℕ → ℕ → Machine → Held → Turn
replaced p step t i k m h =
    let line = new_record step t i (records_of (length p.steps) (Some h)) in
    record {
      machine = record { states = with_state m.states k (Some (record { records = take (k - 1) h.records ++ line ∷ []; id = h.id })); begun = m.begun };
      emitted = emitted_at_once p step line h.id;
    }

-- Check 2 has held, with this state: at step 1 a new sequence begins, and at a step above 1 its own record is replaced, where the state is
-- not empty.
unfoldable pub renewed : ScanPlan → ScanStep → Grid → ℕ → ℕ → Machine → Option Held → Option Turn
renewed p step t i k m state = if k == 1 then Some (begun_anew p step t i m state) else option_map (replaced p step t i k m) state

-- Check 2: the state of step k is not empty, or k is 1, and the condition is true with it.
unfoldable pub check_two : ScanPlan → ScanStep → Grid → ℕ → ℕ → Machine → Option Turn
check_two p step t i k m = if comes_true p step t i (state_of m k) then renewed p step t i k m (state_of m k) else None

-- What is emitted in a turn comes behind what was emitted before.
unfoldable pub after : List (List Value) → Turn → Turn
after before turn = record { machine = turn.machine; emitted = before ++ turn.emitted }

-- The outcome of the checks of a step: that of check 1, else that of check 2, else the machine as it was.
unfoldable pub first_outcome : Turn → Option Turn → Option Turn → Turn
first_outcome turn (Some one) two = after turn.emitted one
first_outcome turn None (Some two) = after turn.emitted two
first_outcome turn None None = turn

-- A row is tried at step k.
unfoldable pub tried : ScanPlan → Grid → ℕ → Turn → ℕ × ScanStep → Turn
tried p t i turn numbered =
    let k = numbered.0 in
    let step = numbered.1 in
    first_outcome turn (check_one p step t i k turn.machine (state_before turn.machine k)) (check_two p step t i k turn.machine)

-- The steps with their numbers, from n down to 1.
unfoldable pub steps_down : ScanPlan → List (ℕ × ScanStep)
steps_down p = reverse (enumerate_from 1 p.steps)

-- One row taken through all steps, of rows with the declared columns.
unfoldable pub row_turn : ScanPlan → Grid → Machine → ℕ → Turn
row_turn p t m i = fold (tried p t i) (record { machine = m; emitted = [] }) (steps_down p)

-- The rows taken through one after another.
unfoldable pub row_after : ScanPlan → Grid → Turn → ℕ → Turn
row_after p t turn i = after turn.emitted (row_turn p t turn.machine i)

unfoldable pub all_rows : ScanPlan → Grid → Turn
all_rows p t = fold (row_after p t) (record { machine = machine_at_start p; emitted = [] }) (places t)

-- At the end the records that the `last` steps hold are emitted, steps from 1 to n.
unfoldable pub rows_at_end : ScanPlan → Machine → List (List Value)
rows_at_end p m = flat_map (λ k. held_rows p k (state_of m k)) (range_with_len 1 (length p.steps))

unfoldable pub scan_rows : ScanPlan → Grid → List (List Value)
scan_rows p t = (all_rows p t).emitted ++ rows_at_end p (all_rows p t).machine

-- The column of the match id, where it has a name.
unfoldable pub id_columns : Option (List ℕ) → List Column
id_columns None = []
id_columns (Some name) = record { name = name; kind = kind.Long } ∷ []

unfoldable pub scan_columns : ScanPlan → List Column → List Column
scan_columns p columns = columns ++ (declared_columns p ++ id_columns p.match_id)

unfoldable pub scan_table : ScanPlan → Grid → Grid
scan_table p t = record { columns = scan_columns p t.columns; lines = scan_rows p (with_declared p t) }
