-- The log of the trial: a table that a recurrence makes up from a seed, so that anyone can make it again.
use Rattle.std.specs.Prelude.{ℕ, ◌+◌, ◌*◌, ◌/◌, ◌%◌, ◌^◌, ◌==◌, nat_le, zero, suc, pos, List, [], ◌∷◌, ◌++◌, map, codes, if◌then◌else◌}
use Rattle.std.specs.Fmt.{decimal}
use Rattle.std.specs.List.{range_with_len}
use Rattle.kql_cells.specs.Catalogues.{Named}
use Rattle.kql_cells.specs.Table.{Grid}
use Rattle.kql_cells.specs.declared.schema.Column.{Column}
use Rattle.kql_cells.specs.declared.value.Kind.{Kind}
use Rattle.kql_cells.specs.declared.value.Kind.TheVariants as kind
use Rattle.kql_cells.specs.declared.value.Value.{Value}
use Rattle.kql_cells.specs.declared.value.Value.TheVariants as value

-- the state behind a state
abbrev pub next_state : ℕ → ℕ
next_state x = (x * 6364136223846793005 + 1442695040888963407) % 2 ^ 64

-- the state after so many steps from the seed
unfoldable pub state_after : ℕ → ℕ → ℕ
state_after seed zero = seed
state_after seed (suc n) = next_state (state_after seed n)

-- the draw of the row of this number, from 0: the upper bits of the state after its step
unfoldable pub draw_of : ℕ → ℕ → ℕ
draw_of seed i = next_state (state_after seed i) / 2 ^ 33

-- the texts of a draw: one of 17 hosts, one error in ten and two warnings, and a message
abbrev pub host_of : ℕ → List ℕ
host_of draw = codes "host" ++ decimal (draw % 17)

abbrev pub level_named : ℕ → List ℕ
level_named level = if level == 0 then codes "Error" else if nat_le level 2 then codes "Warn" else codes "Info"

abbrev pub level_of : ℕ → List ℕ
level_of draw = level_named (draw / 17 % 10)

abbrev pub message_of : ℕ → List ℕ
message_of draw = codes "id=" ++ (decimal (draw % 1000) ++ codes " done")

-- the moment of a row, so many seconds behind 2024-01-01
abbrev pub moment_of : ℕ → ℕ
moment_of i = 638396640000000000 + i * 10000000

-- the row of this number, from 0, and of this draw
abbrev pub log_row_of : ℕ → ℕ → List Value
log_row_of i draw =
    value.Moment (pos (moment_of i)) ∷ value.Text (host_of draw) ∷ value.Text (level_of draw) ∷ value.Text (message_of draw)
    ∷ value.Long (pos (draw / 170 % 10000)) ∷ []

unfoldable pub log_row : ℕ → ℕ → List Value
log_row seed i = log_row_of i (draw_of seed i)

abbrev pub log_column : List ℕ → Kind → Column
log_column name kind = record { name = name; kind = kind }

abbrev pub log_columns : List Column
log_columns =
    log_column (codes "Ts") kind.Moment ∷ log_column (codes "Host") kind.Text ∷ log_column (codes "Level") kind.Text
    ∷ log_column (codes "Message") kind.Text ∷ log_column (codes "Bytes") kind.Long ∷ []

-- the log of so many rows
unfoldable pub log_table : ℕ → ℕ → Grid
log_table rows seed = record { columns = log_columns; lines = map (log_row seed) (range_with_len 0 rows) }

-- the catalogue of the trial, which has the log alone
abbrev pub log_tables : ℕ → ℕ → List Named
log_tables rows seed = record { name = codes "Log"; table = log_table rows seed } ∷ []
