-- What `trial` asks for: a line for each stored query over the log, with how many rows its table has, and how many bytes the text of that
-- table.
use Rattle.std.specs.Prelude.{◌≡◌, ℕ, ◌+◌, List, [], ◌∷◌, length, codes, None, Result, Ok, Err, String, string_bytes}
use Rattle.std.specs.Fmt.{decimal}
use Rattle.std.specs.Global.{Global}
use Rattle.csv_io.specs.Text.{table_text}
use Rattle.kql_cells.specs.Catalogues.{Named}
use Rattle.kql_cells.specs.Table.{Grid}
use Rattle.kql_trial.specs.Log.{log_tables}
use Rattle.kql_trial.specs.Queries.{stored_queries}
use Rattle.kql_words.specs.Refusals.{Answer, ◌>>=◌}
use Rattle.kql_words.specs.declared.trial.Trial.{Trial}
use Rattle.kql_program.specs.Files.{query_tokens}
use Rattle.kql_program.specs.Lines.{joined}
use Rattle.kql_program.specs.Queries.{AreRows}
use Rattle.kql_program.specs.Refusals.{after}
use Rattle.kql_program.specs.declared.refusal.Stop.{Stop}
use Rattle.kql_program.specs.declared.refusal.Stop.TheVariants as stop

-- `QN rows R bytes B`
abbrev pub counted_line : ℕ → ℕ → ℕ → List ℕ
counted_line number rows bytes = joined (codes "Q" ∷ decimal number ∷ codes " rows " ∷ decimal rows ∷ codes " bytes " ∷ decimal bytes ∷ codes "\n" ∷ [])

-- the line of a query with this table
abbrev pub trial_line : ℕ → Grid → List ℕ
trial_line number grid = counted_line number (length grid.lines) (length (table_text grid))

abbrev pub line_as : ℕ → Answer Grid → Answer (List ℕ)
line_as number rows = rows >>= λ grid. Ok (trial_line number grid)

-- this is the line of a query over tables, or the refusal of the query
pub record IsLine (tables : List Named) (number : ℕ) (text : List ℕ) (a : Answer (List ℕ)) : Type 0 where
  pub rows : Answer Grid
  pub are : AreRows (query_tokens text) (Ok tables) None rows
  pub is : a ≡ line_as number rows

-- a line and those behind it, or a refusal in its place
abbrev pub LinesFrom : (Answer (List ℕ) → Type 0) → Answer (List ℕ) → Answer (List ℕ) → Type 0
LinesFrom Behind (Err refusal) a = a ≡ Err refusal
LinesFrom Behind (Ok line) a = (more : Answer (List ℕ)) × Behind more × (a ≡ after line more)

-- these are the lines of queries over tables, of which the first has this number, or the first refusal
unfoldable pub AreLines : List Named → ℕ → List (List ℕ) → Answer (List ℕ) → Type 0
AreLines tables number [] a = a ≡ Ok []
AreLines tables number (text ∷ texts) a =
    (line : Answer (List ℕ)) × IsLine tables number text line × LinesFrom (AreLines tables (number + 1) texts) line a

-- this is what a trial is answered
abbrev pub AnswersTrial : Trial → Answer (List ℕ) → Type 0
AnswersTrial trial a = AreLines (log_tables trial.rows trial.seed) 1 stored_queries a

-- a call gave the line of a query, or its refusal; want of memory alone may stand in its place
abbrev pub FindsLine : List Named → ℕ → List ℕ → Result (String Global) Stop → Type 0
FindsLine tables number text (Ok line) = IsLine tables number text (Ok (string_bytes line))
FindsLine tables number text (Err (stop.Refused refusal)) = IsLine tables number text (Err refusal)
FindsLine tables number text (Err stop.ReadFault) = ⊥
FindsLine tables number text (Err stop.OutOfMemory) = Unit {0}
