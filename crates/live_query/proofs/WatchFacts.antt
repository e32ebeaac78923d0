-- What is shown as a table grows.
use Rattle.std.proofs.Common.{◌≡◌, ◌+◌, ◌∙◌, ℕ, All, List, [], ◌∷◌, ◌++◌, length, refl, ap, append_assoc, subst, sym}
use Rattle.std.proofs.lemmas.List.{append-nil, nil_from_length}
use Rattle.std.proofs.lemmas.List.Elements.{All-head, All-tail}
use Rattle.csv_io.specs.Text.{table_text}
use Rattle.kql_cells.specs.Table.{Grid}
use Rattle.live_tables.specs.Growing.{has_columns_of, with_rows}
use Rattle.kql_values.specs.Moves.{kinds_of}
use Rattle.live_query.specs.Watching.{shown, shown_after, watch_line, watch_text, watched_from}

-- the answer over the opening table
pub watch-begins : (answer : Grid → Grid) (opening table : Grid) (batches : List Grid) (none out before : List ℕ) → table ≡ opening → before ≡ table_text (answer table) → none ≡ [] → out ≡ none ++ shown 0 before
    → out ++ watched_from answer 0 before table batches ≡ watch_text answer opening batches
unfolding watch_text
watch-begins answer opening table batches none out before t b n o =
    let text : before ≡ table_text (answer opening) = b ∙ ap (λ (g : Grid). table_text (answer g)) t in
    let front : out ≡ shown 0 before = o ∙ ap (λ (xs : List ℕ). xs ++ shown 0 before) n in
    rw (front, t, text) refl

-- and after each batch
pub watch-next : (answer : Grid → Grid) (k : ℕ) (before text out more whole : List ℕ) (table grown : Grid) (batch : Grid) (left rest : List Grid) → left ≡ batch ∷ rest → grown ≡ with_rows table batch → text ≡ table_text (answer grown)
    → more ≡ out ++ shown_after before (k + 1) text → out ++ watched_from answer k before table left ≡ whole → more ++ watched_from answer (k + 1) text grown rest ≡ whole
unfolding watched_from
watch-next answer k before text out more whole table grown batch left rest is g t m h =
    let here : out ++ watched_from answer k before table (batch ∷ rest) ≡ whole = subst (λ (bs : List Grid). out ++ watched_from answer k before table bs ≡ whole) is h in
    let over : text ≡ table_text (answer (with_rows table batch)) = t ∙ ap (λ (x : Grid). table_text (answer x)) g in
    ap (λ (xs : List ℕ). xs ++ watched_from answer (k + 1) text grown rest) m
    ∙ (append_assoc out (shown_after before (k + 1) text) (watched_from answer (k + 1) text grown rest) ∙ (rw (g, over) here))

pub watch-ends : (answer : Grid → Grid) (k : ℕ) (before out whole : List ℕ) (table : Grid) (left : List Grid) → length left ≡ 0 → out ++ watched_from answer k before table left ≡ whole → out ≡ whole
unfolding watched_from
watch-ends answer k before out whole table left none h =
    let here : out ++ [] ≡ whole = subst (λ (bs : List Grid). out ++ watched_from answer k before table bs ≡ whole) (nil_from_length left none) h in
    sym (append-nil out) ∙ here

-- a table that has grown has its columns
pub same-columns : (opening table grown batch : Grid) → table.columns ≡ opening.columns → grown ≡ with_rows table batch → grown.columns ≡ opening.columns
same-columns opening table grown batch e g = ap (λ (t : Grid). t.columns) g ∙ e

-- and so have the batches that are left
pub rest-fits : (opening batch : Grid) (left rest : List Grid) → left ≡ batch ∷ rest → All (has_columns_of opening) left → All (has_columns_of opening) rest
rest-fits opening batch left rest is h = All-tail (has_columns_of opening) batch rest (subst (All (has_columns_of opening)) is h)

-- so the table takes the next one
pub kinds-fit : (opening table batch copy : Grid) (left rest : List Grid) → left ≡ batch ∷ rest → All (has_columns_of opening) left → table.columns ≡ opening.columns → copy ≡ batch → kinds_of copy.columns ≡ kinds_of table.columns
kinds-fit opening table batch copy left rest is fits same copied =
    let first : opening.columns ≡ batch.columns = All-head (has_columns_of opening) batch rest (subst (All (has_columns_of opening)) is fits) in
    ap kinds_of (ap (λ (t : Grid). t.columns) copied ∙ (sym first ∙ sym same))

-- a line, and then a text
pub pushed : (out line made more text : List ℕ) (k : ℕ) → made ≡ out ++ line → line ≡ watch_line k → more ≡ made ++ text → more ≡ out ++ shown k text
pushed out line made more text k m l e = e ∙ (ap (λ (xs : List ℕ). xs ++ text) (m ∙ ap (λ (xs : List ℕ). out ++ xs) l) ∙ append_assoc out (watch_line k) text)
