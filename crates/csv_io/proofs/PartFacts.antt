-- Tables that are read in parts.
use Rattle.std.proofs.Common.{◌≡◌, ◌≤◌, ◌<◌, ◌==◌, ◌+◌, ◌++◌, ◌∷◌, ◌∙◌, ℕ, Bool, true, false, List, [], length, drop, get_or, map, refl, sym, ap, arith, append_assoc, inl, inr, subst}
use Rattle.std.proofs.lemmas.Bool.{cases_Bool}
use Rattle.std.proofs.lemmas.List.{append-nil, drop_all, length-map, map-append}
use Rattle.std.proofs.lemmas.Str.{IsCharBoundary-after_ascii, IsUtf8-drop}
use Rattle.std.specs.Prelude.{IfErr, IfOk, IsUtf8, Ok, Err, Result, is_some, if◌then◌else◌}
use Rattle.csv.specs.Machine.{next_record}
use Rattle.csv.specs.Reading.{default_config, records, strip_bom}
use Rattle.csv.specs.declared.parser.State.TheVariants as st
use Rattle.csv_io.specs.Cells.{read_cell}
use Rattle.csv_io.specs.Cuts.{IsRecordAt, records_at}
use Rattle.csv_io.specs.Faults.{Fault, IsFaultOf, IsFirstOf, Reads, no_header, unless}
use Rattle.csv_io.specs.Header.{column_of, header_faults}
use Rattle.csv_io.specs.Load.{cell_faults, cells_faults, cells_of, faults_of, file_records, grid_of, loaded, row_faults, rows_faults, rows_grid}
use Rattle.csv_io.specs.Parts.{Headed, IsFirst, IsHead, IsPart, IsStart, behind_first, loaded_rows}
use Rattle.csv_io.specs.TextRecords.{AllRecordsText}
use Rattle.csv_io.specs.TypedLoad.{differences, loaded_typed, typed_faults_of, typed_grid_of}
use Rattle.csv_io.specs.declared.fault.DataFault.{DataFault}
use Rattle.csv_io.specs.declared.fault.DataFault.TheVariants as fault
use Rattle.csv_io.proofs.LoadFacts.{first-append, fault-read, loaded-text, refused-at, table-read}
use Rattle.csv_io.proofs.RecordFacts.{left-none}
use Rattle.csv_io.proofs.TextFacts.{records-text, strip-good}
use Rattle.csv_io.proofs.TypedLoadFacts.{typed-text}
use Rattle.kql_cells.specs.Table.{Grid}
use Rattle.kql_cells.specs.declared.schema.Column.{Column}
use Rattle.kql_cells.specs.declared.value.Kind.{Kind}
use Rattle.kql_cells.specs.declared.value.Value.{Value}

-- ---- whether a row has a fault does not depend on its number

front-nil : (fs gs : List Fault) → fs ++ gs ≡ [] → fs ≡ []
front-nil [] gs e = refl
front-nil (f ∷ fs) gs e = cc e

back-nil : (fs gs : List Fault) → fs ++ gs ≡ [] → gs ≡ []
back-nil [] gs e = e
back-nil (f ∷ fs) gs e = cc e

cell-free : (k : Kind) (n m at : ℕ) (f : List ℕ) → cell_faults k n at f ≡ [] → cell_faults k m at f ≡ []
unfolding cell_faults
cell-free k n m at f e = elim (cases_Bool (is_some (read_cell k f))) [
  | inl t ↦ rw t refl
  | inr x ↦ cc (rw x at e)
]

cells-free : (cs : List Column) (fs : List (List ℕ)) (n m at : ℕ) → cells_faults n at cs fs ≡ [] → cells_faults m at cs fs ≡ []
cells-free [] fs n m at e = refl
cells-free (c ∷ cs) [] n m at e = refl
cells-free (c ∷ cs) (f ∷ fs) n m at e =
    rw (cell-free c.kind n m at f (front-nil (cell_faults c.kind n at f) (cells_faults n (at + 1) cs fs) e), cells-free cs fs n m (at + 1) (back-nil (cell_faults c.kind n at f) (cells_faults n (at + 1) cs fs) e)) refl

row-free : (cs : List Column) (fs : List (List ℕ)) (n m : ℕ) → row_faults cs n fs ≡ [] → row_faults cs m fs ≡ []
unfolding row_faults
row-free cs fs n m e = elim (cases_Bool (length fs == length cs)) [
  | inl t ↦ rw t (cells-free cs fs n m 1 (rw t at e))
  | inr x ↦ cc (rw x at e)
]

rows-free : (cs : List Column) (rows : List (List (List ℕ))) (n m : ℕ) → rows_faults cs n rows ≡ [] → rows_faults cs m rows ≡ []
rows-free cs [] n m e = refl
rows-free cs (r ∷ rows) n m e =
    rw (row-free cs r n m (front-nil (row_faults cs n r) (rows_faults cs (n + 1) rows) e), rows-free cs rows (n + 1) (m + 1) (back-nil (row_faults cs n r) (rows_faults cs (n + 1) rows) e)) refl

-- ---- rows, and others behind them

behind : (cs : List Column) (xs ys : List (List (List ℕ))) (n m : ℕ) → m ≡ n + length xs → rows_faults cs n xs ≡ [] → rows_faults cs n (xs ++ ys) ≡ rows_faults cs m ys
behind cs [] ys n m e h = let same : m ≡ n = omega arith in rw same refl
behind cs (x ∷ xs) ys n m e h =
    rw (front-nil (row_faults cs n x) _ h) (behind cs xs ys (n + 1) m (omega arith) (back-nil (row_faults cs n x) _ h))

-- the rows of a part have no fault, and as many lines
part-behind : (cs : List Column) (text : List ℕ) (from end : ℕ) (lines : List (List Value)) (n m : ℕ) → IsPart cs text from end lines → m ≡ n + length lines
    → rows_faults cs n (records_at text from) ≡ rows_faults cs m (records_at text end)
part-behind cs text from end lines n m p e =
    let size : length lines ≡ length p.rows = rw p.cells (length-map p.rows (cells_of cs)) in
    rw p.stands (behind cs p.rows (records_at text end) n m (omega (arith, size)) (rows-free cs p.rows 1 n p.sound))

-- ---- parts

-- a part of no rows
pub part-none : (cs : List Column) (text : List ℕ) (from end : ℕ) (lines : List (List Value)) → end ≤ length text → records_at text from ≡ records_at text end → lines ≡ [] → IsPart cs text from end lines
part-none cs text from end lines within same none = record { rows = []; within = within; stands = same; sound = refl; cells = none }

-- one part behind another
pub part-join : (cs : List Column) (text : List ℕ) (from mid end : ℕ) (lines more : List (List Value)) → IsPart cs text from mid lines → IsPart cs text mid end more → IsPart cs text from end (lines ++ more)
part-join cs text from mid end lines more p q = record {
  rows = p.rows ++ q.rows;
  within = q.within;
  stands = p.stands ∙ (ap (λ rest. p.rows ++ rest) q.stands ∙ sym (append_assoc p.rows q.rows (records_at text end)));
  sound = behind cs p.rows q.rows 1 (1 + length p.rows) refl p.sound ∙ rows-free cs q.rows 1 (1 + length p.rows) q.sound;
  cells = rw (p.cells, q.cells) (sym (map-append (cells_of cs) p.rows q.rows));
}

-- one row
part-one : (cs : List Column) (text : List ℕ) (at end next n : ℕ) (fields : List (List ℕ)) (row : List Value) → records_at text at ≡ fields ∷ records_at text end → records_at text end ≡ records_at text next
    → next ≤ length text → row_faults cs n fields ≡ [] → row ≡ cells_of cs fields → IsPart cs text at next (row ∷ [])
part-one cs text at end next n fields row e same within none er = record {
  rows = fields ∷ [];
  within = within;
  stands = e ∙ ap (λ rest. fields ∷ rest) same;
  sound = rw (row-free cs fields n 1 none) refl;
  cells = rw er refl;
}

-- a row more
pub part-more : (cs : List Column) (text : List ℕ) (from at end next n : ℕ) (lines new : List (List Value)) (fields : List (List ℕ)) (row : List Value) → IsPart cs text from at lines
    → records_at text at ≡ fields ∷ records_at text end → records_at text end ≡ records_at text next → next ≤ length text → row_faults cs n fields ≡ [] → row ≡ cells_of cs fields
    → new ≡ lines ++ row ∷ [] → IsPart cs text from next new
part-more cs text from at end next n lines new fields row p e same within none er ew =
    rw ew (part-join cs text from at next lines (row ∷ []) p (part-one cs text at end next n fields row e same within none er))

-- a row that does not read
pub part-fault : (cs : List Column) (text : List ℕ) (from at n m : ℕ) (lines : List (List Value)) (fields : List (List ℕ)) (rest : List (List (List ℕ))) (e : DataFault) → IsPart cs text from at lines
    → records_at text at ≡ fields ∷ rest → m ≡ n + length lines → IsFirstOf (row_faults cs m fields) e → IsFirstOf (rows_faults cs n (records_at text from)) e
part-fault cs text from at n m lines fields rest e p left size first =
    rw (part-behind cs text from at lines n m p size, left) (first-append (row_faults cs m fields) (rows_faults cs (m + 1) rest) e first)

-- the first fault of what comes behind a part
pub part-first : (cs : List Column) (text : List ℕ) (from at n m : ℕ) (lines : List (List Value)) (e : DataFault) → IsPart cs text from at lines → m ≡ n + length lines
    → IsFirstOf (rows_faults cs m (records_at text at)) e → IsFirstOf (rows_faults cs n (records_at text from)) e
part-first cs text from at n m lines e p size first = rw (part-behind cs text from at lines n m p size) first

same-grid : (cs : List Column) (ls : List (List Value)) (t : Grid) → t.columns ≡ cs → t.lines ≡ ls → t ≡ record { columns = cs; lines = ls }
same-grid cs ls t a b = rw (← a, ← b) refl

-- a part behind which there is nothing
pub part-whole : (cs : List Column) (text : List ℕ) (from end : ℕ) (t : Grid) → t.columns ≡ cs → IsPart cs text from end t.lines → records_at text end ≡ []
    → (rows_faults cs 1 (records_at text from) ≡ []) × (t ≡ rows_grid cs (records_at text from))
part-whole cs text from end t ec p none =
    let all : records_at text from ≡ p.rows = p.stands ∙ (rw none (append-nil p.rows)) in
    rw all (p.sound, same-grid cs (map (cells_of cs) p.rows) t ec p.cells)

-- ---- places

-- no record where the text ends
pub at-end : (text : List ℕ) (at : ℕ) → length text ≤ at → records_at text at ≡ []
unfolding next_record
at-end text at le = rw (drop_all at text le) (left-none st.StartRecord [] refl)

texts-behind : (xs ys : List (List (List ℕ))) → AllRecordsText (xs ++ ys) → AllRecordsText ys
unfolding AllRecordsText
texts-behind [] ys a = a
texts-behind (x ∷ xs) ys a = texts-behind xs ys a.1

-- where a part ends the next may begin
pub part-start : (cs : List Column) (text : List ℕ) (from end : ℕ) (lines : List (List Value)) → IsPart cs text from end lines → IsStart text from → IsStart text end
part-start cs text from end lines p s = (p.within, texts-behind p.rows (records_at text end) (rw p.stands at s.1))

-- where a text ends, and behind a byte of ASCII
pub start-end : (text : List ℕ) (at : ℕ) → at ≡ length text → IsStart text at
unfolding AllRecordsText
start-end text at e = let none = at-end text at (omega (arith, e)) in (omega (arith, e), rw none tt)

pub start-behind : (text : List ℕ) (at start : ℕ) → IsUtf8 text → at < length text → get_or text at 0 ≡ 10 → start ≤ length text → records_at text (at + 1) ≡ records_at text start → IsStart text start
start-behind text at start u lt line within same =
    let ascii : get_or text at 0 < 128 = omega (arith, line) in
    let back : IsUtf8 (drop (at + 1) text) = IsUtf8-drop text (at + 1) u (IsCharBoundary-after_ascii text at u lt ascii) in
    (within, rw same at (records-text (drop (at + 1) text) back))

-- ---- the first record

drop-none : (xs : List ℕ) → drop 0 xs ≡ xs
drop-none [] = refl
drop-none (x ∷ xs) = refl

-- where the first record begins
pub first-at : (text : List ℕ) (from start : ℕ) (b : Bool) → strip_bom text ≡ (if b then drop 3 text else text) → from ≡ (if b then 3 else 0) → records_at text from ≡ records_at text start
    → file_records text ≡ records_at text start
first-at text from start true e f same = rw e (rw f at same)
first-at text from start false e f same = rw e (ap (records default_config) (sym (drop-none text)) ∙ rw f at same)

-- no first record
pub first-none : (text bytes : List ℕ) (start : ℕ) → bytes ≡ text → file_records bytes ≡ records_at bytes start → length bytes ≤ start → file_records text ≡ []
first-none text bytes start same first over = ap file_records (sym same) ∙ (first ∙ at-end bytes start over)

-- the first record, and what is behind it
pub first-read : (text bytes : List ℕ) (start end : ℕ) (fields : List (List ℕ)) → bytes ≡ text → IsUtf8 text → file_records bytes ≡ records_at bytes start → IsRecordAt bytes start fields end → IsFirst text fields end
unfolding AllRecordsText
first-read text bytes start end fields same u first r =
    let v : IsUtf8 bytes = rw same u in
    let left : file_records bytes ≡ fields ∷ records_at bytes end = first ∙ r.1 in
    let all : AllRecordsText (fields ∷ records_at bytes end) = rw left at (records-text (strip_bom bytes) (strip-good bytes v)) in
    subst (λ (t : List ℕ). IsFirst t fields end) same (record { stands = left; texts = all.0; start = (r.0, all.1) })

-- ---- the header

pub head-made : (text : List ℕ) (fields : List (List ℕ)) (end : ℕ) → IsUtf8 text → IsFirst text fields end → IsHead text end × IsUtf8 text
head-made text fields end u f = ((ap behind_first f.stands, f.start), u)

-- with the rows behind it, it is the file
pub head-loads : (text : List ℕ) (fields : List (List ℕ)) (end : ℕ) (cs : List Column) → IsUtf8 text → IsFirst text fields end → header_faults [] fields ≡ [] → cs ≡ map column_of fields → loaded text ≡ loaded_rows cs text
unfolding loaded_rows
head-loads text fields end cs u f none names = loaded-text text u ∙ rw (f.stands, none, names) refl

pub typed-loads : (text : List ℕ) (fields : List (List ℕ)) (end : ℕ) (cs : List Column) → IsUtf8 text → IsFirst text fields end → differences 1 cs fields ≡ [] → loaded_typed cs text ≡ loaded_rows cs text
unfolding loaded_rows
typed-loads text fields end cs u f none = typed-text cs text u ∙ rw (f.stands, none) refl

-- it has a fault
pub head-bad : (text : List ℕ) (fields : List (List ℕ)) (end : ℕ) (e : DataFault) → IsUtf8 text → IsFirst text fields end → IsFirstOf (header_faults [] fields) e → IsFaultOf (loaded text) e
head-bad text fields end e u f bad =
    rw (loaded-text text u, f.stands) (refused-at (faults_of (fields ∷ records_at text end)) (grid_of (fields ∷ records_at text end)) e
    (first-append (header_faults [] fields) (rows_faults (map column_of fields) 1 (records_at text end)) e bad))

pub typed-bad : (text : List ℕ) (fields : List (List ℕ)) (end : ℕ) (cs : List Column) (e : DataFault) → IsUtf8 text → IsFirst text fields end → IsFirstOf (differences 1 cs fields) e → IsFaultOf (loaded_typed cs text) e
typed-bad text fields end cs e u f bad =
    rw (typed-text cs text u, f.stands) (refused-at (typed_faults_of cs (fields ∷ records_at text end)) (typed_grid_of cs (fields ∷ records_at text end)) e
    (first-append (differences 1 cs fields) (rows_faults cs 1 (records_at text end)) e bad))

-- there is none
pub head-none : (text : List ℕ) (e : DataFault) → IsUtf8 text → file_records text ≡ [] → e ≡ fault.Refused no_header 0 0 → IsFaultOf (loaded text) e
head-none text e u none is = rw (is, loaded-text text u, none) refl

pub typed-none : (text : List ℕ) (cs : List Column) (e : DataFault) → IsUtf8 text → file_records text ≡ [] → e ≡ fault.Refused no_header 0 0 → IsFaultOf (loaded_typed cs text) e
typed-none text cs e u none is = rw (is, typed-text cs text u, none) refl

-- ---- what the calls answer

rows-loaded : (cs : List Column) (text : List ℕ) (end : ℕ) → IsHead text end
    → loaded_rows cs text ≡ unless (rows_faults cs 1 (records_at text end)) (rows_grid cs (records_at text end))
unfolding loaded_rows
rows-loaded cs text end h = rw h.0 refl

pub joined-table : (cs : List Column) (text bytes : List ℕ) (end : ℕ) (h : Headed) (r : Result Grid DataFault) → record { text = text; columns = cs } ≡ h → bytes ≡ text → IsHead text end × IsUtf8 text
    → Reads (rows_faults cs 1 (records_at bytes end)) (rows_grid cs (records_at bytes end)) r → IfOk r (λ t. loaded_rows h.columns h.text ≡ Ok t)
joined-table cs text bytes end h r e same inv q =
    let here : Reads (rows_faults cs 1 (records_at text end)) (rows_grid cs (records_at text end)) r =
    subst (λ (b : List ℕ). Reads (rows_faults cs 1 (records_at b end)) (rows_grid cs (records_at b end)) r) same q in
    table-read (rows_faults cs 1 (records_at text end)) (rows_grid cs (records_at text end)) (loaded_rows h.columns h.text) r
    (ap (λ (g : Headed). loaded_rows g.columns g.text) (sym e) ∙ rows-loaded cs text end inv.0) here

pub joined-fault : (cs : List Column) (text bytes : List ℕ) (end : ℕ) (h : Headed) (r : Result Grid DataFault) → record { text = text; columns = cs } ≡ h → bytes ≡ text → IsHead text end × IsUtf8 text
    → Reads (rows_faults cs 1 (records_at bytes end)) (rows_grid cs (records_at bytes end)) r → IfErr r (IsFaultOf (loaded_rows h.columns h.text))
joined-fault cs text bytes end h r e same inv q =
    let here : Reads (rows_faults cs 1 (records_at text end)) (rows_grid cs (records_at text end)) r =
    subst (λ (b : List ℕ). Reads (rows_faults cs 1 (records_at b end)) (rows_grid cs (records_at b end)) r) same q in
    fault-read (rows_faults cs 1 (records_at text end)) (rows_grid cs (records_at text end)) (loaded_rows h.columns h.text) r
    (ap (λ (g : Headed). loaded_rows g.columns g.text) (sym e) ∙ rows-loaded cs text end inv.0) here

pub joined-columns : (cs : List Column) (text : List ℕ) (rows : List (List (List ℕ))) (fs : List Fault) (h : Headed) (r : Result Grid DataFault) → record { text = text; columns = cs } ≡ h
    → Reads fs (rows_grid cs rows) r → IfOk r (λ t. t.columns ≡ h.columns)
joined-columns cs text rows fs h (Ok t) e q = ap (λ (g : Grid). g.columns) q.1 ∙ ap (λ (g : Headed). g.columns) e
joined-columns cs text rows fs h (Err x) e q = tt

-- what is read of the rows is what is loaded
pub load-table : (answer : Result Grid Fault) (text : List ℕ) (h : Headed) (r : Result Grid DataFault) → h.text ≡ text → answer ≡ loaded_rows h.columns text
    → IfOk r (λ t. loaded_rows h.columns h.text ≡ Ok t) → IfOk r (λ t. answer ≡ Ok t)
load-table answer text h (Ok t) e f q = f ∙ (ap (loaded_rows h.columns) (sym e) ∙ q)
load-table answer text h (Err x) e f q = tt

pub load-fault : (answer : Result Grid Fault) (text : List ℕ) (h : Headed) (r : Result Grid DataFault) → h.text ≡ text → answer ≡ loaded_rows h.columns text
    → IfErr r (IsFaultOf (loaded_rows h.columns h.text)) → IfErr r (IsFaultOf answer)
load-fault answer text h (Ok t) e f q = tt
load-fault answer text h (Err x) e f q = subst (λ (a : Result Grid Fault). IsFaultOf a x) (ap (loaded_rows h.columns) e ∙ sym f) q

pub load-columns : (cs : List Column) (h : Headed) (r : Result Grid DataFault) → h.columns ≡ cs → IfOk r (λ t. t.columns ≡ h.columns) → IfOk r (λ t. t.columns ≡ cs)
load-columns cs h (Ok t) e q = q ∙ e
load-columns cs h (Err x) e q = tt
