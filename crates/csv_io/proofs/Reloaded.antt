-- The text of a table, with the types in its header, loads as the table.
use Rattle.std.proofs.Common.{◌≡◌, ◌≤◌, ◌<◌, ◌+◌, ◌&&◌, ◌∙◌, ℕ, suc, Bool, true, false, List, [], ◌∷◌, length, drop, map, refl, ap, arith}
use Rattle.std.specs.Prelude.{All, IsUtf8, Ok, flat_map, nat_lt}
use Rattle.std.proofs.lemmas.Bool.Decides.{nat_tests}
use Rattle.std.proofs.lemmas.List.{drop_at, length-map}
use Rattle.std.proofs.lemmas.List.Elements.{All-cons, All-head, All-nil, All-tail}
use Rattle.std.proofs.lemmas.List.Folds.{flat_map-map}
use Rattle.std.proofs.lemmas.Str.{IsUtf8-append, IsUtf8-nil}
use Rattle.csv.specs.Reading.{strip_bom}
use Rattle.csv.specs.Records.{AllText}
use Rattle.csv.specs.Writing.{default_writer, read_back, row_text}
use Rattle.csv_io.specs.Load.{cell_faults, cell_of, cells_faults, cells_of, faults_of, file_records, grid_of, loaded, row_faults, rows_faults}
use Rattle.csv_io.specs.Reload.{IsLoadable, ReadsBack, typed_name, typed_text, with_kinds, word_of}
use Rattle.csv_io.specs.Text.{cell_text, line_text, names_of, table_text}
use Rattle.csv_io.specs.TextRecords.{AllRecordsText}
use Rattle.csv_io.proofs.LoadFacts.{loaded-text, row-even}
use Rattle.csv_io.proofs.TypedHeader.{columns-back, typed-faults}
use Rattle.csv_io.proofs.WrittenText.{AllFilled, no-mark, one-byte, rows-long, rows-read, rows-utf8}
use Rattle.kql_cells.specs.Named.{HasDistinctNames, column_name}
use Rattle.kql_cells.specs.Table.{Grid, RowFits}
use Rattle.kql_cells.specs.Values.{IsOfKind, IsWellFormed}
use Rattle.kql_cells.specs.declared.schema.Column.{Column}
use Rattle.kql_cells.specs.declared.value.Kind.{Kind}
use Rattle.kql_cells.specs.declared.value.Kind.TheVariants as kind
use Rattle.kql_cells.specs.declared.value.Value.{Value}

-- ---- rows

pub fits-size : (cs : List Column) (row : List Value) → RowFits cs row → length row ≡ length cs
unfolding RowFits
fits-size [] [] h = refl
fits-size [] (v ∷ row) h = absurd h
fits-size (c ∷ cs) [] h = absurd h
fits-size (c ∷ cs) (v ∷ row) h = ap suc (fits-size cs row h.1)

pub row-forms : (cs : List Column) (row : List Value) → RowFits cs row → All IsWellFormed row
unfolding RowFits
row-forms [] [] h = All-nil IsWellFormed
row-forms [] (v ∷ row) h = absurd h
row-forms (c ∷ cs) [] h = absurd h
row-forms (c ∷ cs) (v ∷ row) h = All-cons IsWellFormed v row h.0.1 (row-forms cs row h.1)

cell-back : (k : Kind) (v : Value) (n at : ℕ) → IsOfKind k v → ReadsBack v → (cell_of k (cell_text v) ≡ v) × (cell_faults k n at (cell_text v) ≡ [])
unfolding cell_of cell_faults
cell-back k v n at h back = let read = back.1 k h in (rw read refl, rw read refl)

cells-back : (cs : List Column) (row : List Value) (n at : ℕ) → RowFits cs row → All ReadsBack row
    → (cells_of cs (map cell_text row) ≡ row) × (cells_faults n at cs (map cell_text row) ≡ [])
unfolding RowFits
cells-back [] [] n at h b = (refl, refl)
cells-back [] (v ∷ row) n at h b = absurd h
cells-back (c ∷ cs) [] n at h b = absurd h
cells-back (c ∷ cs) (v ∷ row) n at h b =
    let q = cell-back c.kind v n at h.0.0 (All-head ReadsBack v row b) in
    let r = cells-back cs row n (at + 1) h.1 (All-tail ReadsBack v row b) in
    (rw (q.0, r.0) refl, rw (q.1, r.1) refl)

row-back : (cs : List Column) (row : List Value) (n : ℕ) → RowFits cs row → All ReadsBack row → row_faults cs n (map cell_text row) ≡ []
row-back cs row n h b =
    let size : length (map cell_text row) ≡ length cs = length-map row cell_text ∙ fits-size cs row h in
    row-even cs n (map cell_text row) size ∙ (cells-back cs row n 1 h b).1

rows-back : (cs : List Column) (lines : List (List Value)) (n : ℕ) → All (RowFits cs) lines → All (All ReadsBack) lines
    → (map (cells_of cs) (map (map cell_text) lines) ≡ lines) × (rows_faults cs n (map (map cell_text) lines) ≡ [])
rows-back cs [] n h b = (refl, refl)
rows-back cs (row ∷ lines) n h b =
    let fit = All-head (RowFits cs) row lines h in
    let back = All-head (All ReadsBack) row lines b in
    let q = (cells-back cs row n 1 fit back).0 in
    let p = row-back cs row n fit back in
    let r = rows-back cs lines (n + 1) (All-tail (RowFits cs) row lines h) (All-tail (All ReadsBack) row lines b) in
    (rw (q, r.0) refl, rw (p, r.1) refl)

-- a row of one field or more
row-filled : (cs : List Column) (row : List Value) → 1 ≤ length cs → RowFits cs row → read_back (map cell_text row) ≡ map cell_text row
row-filled cs [] some h = let size = fits-size cs [] h in absurd (omega arith)
row-filled cs (v ∷ row) some h = refl

lines-filled : (cs : List Column) (lines : List (List Value)) → 1 ≤ length cs → All (RowFits cs) lines → AllFilled (map (map cell_text) lines)
lines-filled cs [] some h = tt
lines-filled cs (row ∷ lines) some h = (row-filled cs row some (All-head (RowFits cs) row lines h), lines-filled cs lines some (All-tail (RowFits cs) row lines h))

-- ---- texts

row-texts : (row : List Value) → All ReadsBack row → AllText (map cell_text row)
unfolding AllText
row-texts [] b = tt
row-texts (v ∷ row) b = ((All-head ReadsBack v row b).0, row-texts row (All-tail ReadsBack v row b))

lines-texts : (lines : List (List Value)) → All (All ReadsBack) lines → AllRecordsText (map (map cell_text) lines)
unfolding AllRecordsText
lines-texts [] b = tt
lines-texts (row ∷ lines) b = (row-texts row (All-head (All ReadsBack) row lines b), lines-texts lines (All-tail (All ReadsBack) row lines b))

text-cons : (r : List (List ℕ)) (rs : List (List (List ℕ))) → AllText r → AllRecordsText rs → AllRecordsText (r ∷ rs)
unfolding AllRecordsText
text-cons r rs a b = (a, b)

abbrev are_ascii : List ℕ → Bool
are_ascii [] = true
are_ascii (b ∷ bs) = nat_lt b 128 && are_ascii bs

both : (a b : Bool) → (a && b) ≡ true → (a ≡ true) × (b ≡ true)
both true b e = (refl, e)
both false b e = cc

low : (b : ℕ) → nat_lt b 128 ≡ true → b < 128
low b e = grind (arith, nat_tests)

ascii-text : (bs : List ℕ) → are_ascii bs ≡ true → IsUtf8 bs
ascii-text [] e = IsUtf8-nil
ascii-text (b ∷ bs) e =
    let q = both (nat_lt b 128) (are_ascii bs) e in
    IsUtf8-append (b ∷ []) bs (one-byte b (low b q.0)) (ascii-text bs q.1)

word-text : (k : Kind) → IsUtf8 (58 ∷ word_of k)
word-text kind.Bool = ascii-text _ refl
word-text kind.Long = ascii-text _ refl
word-text kind.Text = ascii-text _ refl
word-text kind.Moment = ascii-text _ refl
word-text kind.Span = ascii-text _ refl
word-text kind.Dynamic = ascii-text _ refl

typed-texts : (cs : List Column) → AllText (names_of cs) → AllText (map typed_name cs)
unfolding AllText
typed-texts [] a = tt
typed-texts (c ∷ cs) a = (IsUtf8-append c.name (58 ∷ word_of c.kind) a.0 (word-text c.kind), typed-texts cs a.1)

-- ---- the whole

-- the records of the text
abbrev typed-records : List Column → List (List Value) → List (List (List ℕ))
typed-records cs lines = map typed_name cs ∷ map (map cell_text) lines

abbrev typed-text : List Column → List (List Value) → List ℕ
typed-text cs lines = flat_map (row_text default_writer) (typed-records cs lines)

text-is : (cs : List Column) (lines : List (List Value)) (b : List ℕ) → b ≡ table_text (record { columns = cs; lines = lines }) → with_kinds cs b ≡ typed-text cs lines
text-is cs lines b e =
    let names = row_text default_writer (names_of cs) in
    let rest : drop (length names) b ≡ flat_map line_text lines = rw e (drop_at names (flat_map line_text lines) (length names) refl) in
    let same : flat_map (row_text default_writer) (map (map cell_text) lines) ≡ flat_map line_text lines = flat_map-map (row_text default_writer) (map cell_text) lines in
    rw (rest, same) refl

named : (cs : List Column) → 1 ≤ length cs → read_back (map typed_name cs) ≡ map typed_name cs
named [] some = absurd (omega arith)
named (c ∷ cs) some = refl

unmarked : (cs : List Column) (lines : List (List Value)) → IsLoadable cs → strip_bom (typed-text cs lines) ≡ typed-text cs lines
unmarked [] lines h = let some = h.0 in absurd (omega arith)
unmarked (c ∷ cs) lines h = no-mark c.name (word_of c.kind) (map typed_name cs) (flat_map (row_text default_writer) (map (map cell_text) lines)) h.3

records-are : (cs : List Column) (lines : List (List Value)) → IsLoadable cs → All (RowFits cs) lines → file_records (typed-text cs lines) ≡ typed-records cs lines
records-are cs lines h fits =
    let t = typed-text cs lines in
    let filled : AllFilled (typed-records cs lines) = (named cs h.0, lines-filled cs lines h.0 fits) in
    let long : length (typed-records cs lines) ≤ length t = rows-long (typed-records cs lines) in
    rw (unmarked cs lines h) (rows-read (length t + 1) (typed-records cs lines) filled (omega arith))

loads-as : (t : List ℕ) (rs : List (List (List ℕ))) → IsUtf8 t → file_records t ≡ rs → faults_of rs ≡ [] → loaded t ≡ Ok (grid_of rs)
loads-as t rs u er ef = loaded-text t u ∙ rw (er, ef) refl

no-faults : (cs : List Column) (lines : List (List Value)) → IsLoadable cs → HasDistinctNames column_name cs → All (RowFits cs) lines → All (All ReadsBack) lines → faults_of (typed-records cs lines) ≡ []
no-faults cs lines h distinct fits back =
    let size : length {A = Column} [] + length cs ≤ 256 = omega (arith, h.1) in
    let names = typed-faults [] cs size h.2 distinct in
    rw (names, columns-back cs, (rows-back cs lines 1 fits back).1) refl

grid-is : (cs : List Column) (lines : List (List Value)) → All (RowFits cs) lines → All (All ReadsBack) lines → grid_of (typed-records cs lines) ≡ record { columns = cs; lines = lines }
grid-is cs lines fits back = rw (columns-back cs, (rows-back cs lines 1 fits back).0) refl

typed-is : (g : Grid) → typed-text g.columns g.lines ≡ typed_text g
typed-is g = rw (flat_map-map (row_text default_writer) (map cell_text) g.lines) refl

loads-typed : (g : Grid) → AllText (names_of g.columns) → HasDistinctNames column_name g.columns → All (RowFits g.columns) g.lines → All (All ReadsBack) g.lines
    → IsLoadable g.columns → loaded (typed-text g.columns g.lines) ≡ Ok g
loads-typed g names distinct fits back h =
    let cs = g.columns in
    let lines = g.lines in
    let texts : AllRecordsText (typed-records cs lines) = text-cons (map typed_name cs) (map (map cell_text) lines) (typed-texts cs names) (lines-texts lines back) in
    let u = rows-utf8 (typed-records cs lines) texts in
    let loads = loads-as (typed-text cs lines) (typed-records cs lines) u (records-are cs lines h fits) (no-faults cs lines h distinct fits back) in
    loads ∙ ap Ok (grid-is cs lines fits back)

pub typed-loads : (g : Grid) (b : List ℕ) → b ≡ typed_text g → AllText (names_of g.columns) → HasDistinctNames column_name g.columns → All (RowFits g.columns) g.lines → All (All ReadsBack) g.lines
    → IsLoadable g.columns → loaded b ≡ Ok g
typed-loads g b e names distinct fits back h = rw (e, ← typed-is g) (loads-typed g names distinct fits back h)

pub loads-again : (g : Grid) (b : List ℕ) → b ≡ table_text g → AllText (names_of g.columns) → HasDistinctNames column_name g.columns → All (RowFits g.columns) g.lines → All (All ReadsBack) g.lines
    → IsLoadable g.columns → loaded (with_kinds g.columns b) ≡ Ok g
loads-again g b e names distinct fits back h =
    rw (text-is g.columns g.lines b e) (loads-typed g names distinct fits back h)
