-- What is shown as a table grows: the answer over it at first, and after each batch the answer over all until then, where its text differs from the
-- one before. Each stands under a line that tells after how many batches it holds.
use Rattle.std.specs.Prelude.{ℕ, ◌+◌, List, [], ◌∷◌, ◌++◌, codes, if◌then◌else◌}
use Rattle.std.specs.Fmt.{decimal}
use Rattle.std.specs.Str.{bytes_eq}
use Rattle.csv_io.specs.Text.{table_text}
use Rattle.kql_cells.specs.Table.{Grid}
use Rattle.live_tables.specs.Growing.{with_rows}

-- texts one after another
abbrev pub joined : List (List ℕ) → List ℕ
joined [] = []
joined (t ∷ ts) = t ++ joined ts

-- `# batches: K`
abbrev pub watch_line : ℕ → List ℕ
watch_line k = joined (codes "# batches: " ∷ decimal k ∷ codes "\n" ∷ [])

-- an answer's text under its line
abbrev pub shown : ℕ → List ℕ → List ℕ
shown k text = watch_line k ++ text

-- the same, where it differs from the text before
abbrev pub shown_after : List ℕ → ℕ → List ℕ → List ℕ
shown_after before k text = if bytes_eq text before then [] else shown k text

-- what is shown of the batches behind the first k, where the table is the one after these, and its answer has this text
unfoldable pub watched_from : (Grid → Grid) → ℕ → List ℕ → Grid → List Grid → List ℕ
watched_from answer k before table [] = []
watched_from answer k before table (b ∷ bs) =
    shown_after before (k + 1) (table_text (answer (with_rows table b)))
    ++ watched_from answer (k + 1) (table_text (answer (with_rows table b))) (with_rows table b) bs

unfoldable pub watch_text : (Grid → Grid) → Grid → List Grid → List ℕ
watch_text answer opening batches = shown 0 (table_text (answer opening)) ++ watched_from answer 0 (table_text (answer opening)) opening batches
