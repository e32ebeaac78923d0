-- The rows of an entry's files.
use Rattle.std.proofs.Common.{◌≡◌, ◌≤◌, ◌+◌, ◌-◌, ◌∙◌, ℕ, List, [], ◌∷◌, ◌++◌, length, refl, ap, sym, subst, arith}
use Rattle.std.specs.Prelude.{Option, Some, None, IsErrAnd, IfSome, Result, Ok, Err}
use Rattle.csv_io.specs.TypedLoad.{loaded_typed}
use Rattle.kql_cells.specs.Table.{Grid}
use Rattle.kql_cells.specs.declared.schema.Column.{Column}
use Rattle.kql_cells.specs.declared.value.Value.{Value}
use Rattle.kql_words.specs.Refusals.{Answer, ◌>>=◌}
use Rattle.catalogue_tables.specs.Computes.{Computes, Gives}
use Rattle.catalogue_tables.specs.Files.{Files, file_within}
use Rattle.catalogue_tables.specs.Tables.{AddsRows, Part, file_rows, files_rows, loaded_as, part, with_rows}
use Rattle.catalogue_tables.specs.declared.stop.CatalogueStop.{CatalogueStop}
use Rattle.catalogue_tables.proofs.AnswerFacts.{computes, goes_on, raised, stops}

-- the file can't be had
pub rows-unread : (told : Option Files) (number room : ℕ) (columns : List Column) (path : List ℕ) (s : CatalogueStop) (r : Result Part CatalogueStop)
    → IfSome told (λ files. Computes (file_within files number 308 room path) (Err s)) → IsErrAnd r (λ e. e ≡ s)
    → IfSome told (λ files. Computes (file_rows files number room columns path) r)
unfolding file_rows
rows-unread None number room columns path s r h i = tt
rows-unread (Some files) number room columns path s r h i =
    raised (file_rows files number room columns path) r s i
    (stops (file_within files number 308 room path) (λ bytes. loaded_as number (loaded_typed columns bytes) >>= part (room - length bytes)) s h)

-- its bytes do not load
pub rows-bad : (told : Option Files) (number room : ℕ) (columns : List Column) (path bytes text : List ℕ) (s : CatalogueStop) (r : Result Part CatalogueStop)
    → IfSome told (λ files. file_within files number 308 room path ≡ Ok bytes) → text ≡ bytes → Gives (loaded_as number (loaded_typed columns text)) (Err s) → IsErrAnd r (λ e. e ≡ s)
    → IfSome told (λ files. Computes (file_rows files number room columns path) r)
unfolding file_rows
rows-bad None number room columns path bytes text s r h t g i = tt
rows-bad (Some files) number room columns path bytes text s r h t g i =
    let step = stops (loaded_as number (loaded_typed columns bytes)) (part (room - length bytes)) s (computes (loaded_as number (loaded_typed columns bytes)) (Err s) (subst (λ (x : List ℕ). Gives (loaded_as number (loaded_typed columns x)) (Err s)) t g)) in
    raised (file_rows files number room columns path) r s i
    (goes_on (file_within files number 308 room path) (λ bytes. loaded_as number (loaded_typed columns bytes) >>= part (room - length bytes)) bytes (Err s) h step)

-- they load
pub rows-there : (told : Option Files) (number room left : ℕ) (columns : List Column) (path bytes text : List ℕ) (grid : Grid)
    → IfSome told (λ files. file_within files number 308 room path ≡ Ok bytes) → text ≡ bytes → loaded_as number (loaded_typed columns text) ≡ Ok grid → left ≡ room - length bytes
    → IfSome told (λ files. file_rows files number room columns path ≡ Ok (grid, left))
unfolding file_rows
rows-there None number room left columns path bytes text grid h t g l = tt
rows-there (Some files) number room left columns path bytes text grid h t g l =
    let here : loaded_as number (loaded_typed columns bytes) ≡ Ok grid = rw t at g in
    rw (h, here, l) refl

-- One file after another.

-- a file more
next-of : (files : Files) (number room left : ℕ) (path : List ℕ) (paths all : List (List ℕ)) (before now : Grid) (answer : Answer Part) → all ≡ path ∷ paths
    → AddsRows files number room path before now (Ok left) → files_rows files number room before all ≡ answer → files_rows files (number + 1) left now paths ≡ answer
unfolding files_rows
next-of files number room left path paths all before now answer i (more, read, new) h = rw new (rw (i, read) at h)

pub files-next : (now-told told : Option Files) (number room left : ℕ) (path : List ℕ) (paths all : List (List ℕ)) (before now : Grid) (answer : Files → Answer Part) → all ≡ path ∷ paths
    → now-told ≡ told → IfSome now-told (λ files. AddsRows files number room path before now (Ok left)) → IfSome told (λ files. files_rows files number room before all ≡ answer files)
    → IfSome told (λ files. files_rows files (number + 1) left now paths ≡ answer files)
files-next now-told None number room left path paths all before now answer i e a h = tt
files-next now-told (Some files) number room left path paths all before now answer i e a h = next-of files number room left path paths all before now (answer files) i (rw e at a) h

-- one that can't be had
stop-of : (files : Files) (number room : ℕ) (path : List ℕ) (paths all : List (List ℕ)) (before : Grid) (answer : Answer Part) (s : CatalogueStop) (r : Result Part CatalogueStop) → all ≡ path ∷ paths
    → Computes (file_rows files number room before.columns path) (Err s) → files_rows files number room before all ≡ answer → IsErrAnd r (λ e. e ≡ s) → Computes answer r
unfolding files_rows
stop-of files number room path paths all before answer s r i a h q =
    let same : (file_rows files number room before.columns path >>= λ read. files_rows files (number + 1) read.1 (with_rows before read.0) paths) ≡ answer = rw i at h in
    raised answer r s q (subst (λ (x : Answer Part). Computes x (Err s)) same
    (stops (file_rows files number room before.columns path) (λ read. files_rows files (number + 1) read.1 (with_rows before read.0) paths) s a))

pub files-stop : (now-told told : Option Files) (number room : ℕ) (path : List ℕ) (paths all : List (List ℕ)) (before now : Grid) (answer : Files → Answer Part) (s : CatalogueStop) (r : Result Part CatalogueStop) → all ≡ path ∷ paths
    → now-told ≡ told → IfSome now-told (λ files. AddsRows files number room path before now (Err s)) → IfSome told (λ files. files_rows files number room before all ≡ answer files) → IsErrAnd r (λ e. e ≡ s)
    → IfSome told (λ files. Computes (answer files) r)
files-stop now-told None number room path paths all before now answer s r i e a h q = tt
files-stop now-told (Some files) number room path paths all before now answer s r i e a h q = stop-of files number room path paths all before (answer files) s r i (rw e at a) h q

-- and no other
end-of : (files : Files) (number room : ℕ) (all : List (List ℕ)) (grid : Grid) (answer : Answer Part) → length all ≡ 0 → files_rows files number room grid all ≡ answer → answer ≡ Ok (grid, room)
unfolding files_rows
end-of files number room [] grid answer n h = sym h
end-of files number room (path ∷ paths) grid answer n h = absurd (omega arith)

pub files-end : (told : Option Files) (number room : ℕ) (all : List (List ℕ)) (grid : Grid) (answer : Files → Answer Part) → length all ≡ 0
    → IfSome told (λ files. files_rows files number room grid all ≡ answer files) → IfSome told (λ files. answer files ≡ Ok (grid, room))
files-end None number room all grid answer n h = tt
files-end (Some files) number room all grid answer n h = end-of files number room all grid (answer files) n h
