-- What was read of the files of the paths.
use Rattle.std.proofs.Common.{◌≡◌, ◌≤◌, ◌+◌, ◌-◌, ◌∙◌, ℕ, List, [], ◌∷◌, ◌++◌, length, refl, ap, arith, cond, subst, sym, inl, inr}
use Rattle.std.specs.Prelude.{Option, Some, None, IfSome, IsErrAnd, Result, Ok, Err, String, string_bytes}
use Rattle.std.specs.Global.{Global}
use Rattle.std.proofs.lemmas.Bool.{cases_Bool}
use Rattle.std.proofs.lemmas.List.{append-nil, nil_from_length}
use Rattle.catalogue_tables.specs.Files.{Files, file_bytes}
use Rattle.kql_cells.specs.Table.{Grid}
use Rattle.kql_cells.specs.declared.schema.Column.{Column}
use Rattle.kql_program.specs.Files.{ReadsTable, table_in}
use Rattle.kql_program.specs.Refusals.{Computes, after, with_first}
use Rattle.kql_program.specs.declared.refusal.Stop.{Stop}
use Rattle.kql_program.specs.declared.refusal.Stop.TheVariants as stop
use Rattle.kql_program.proofs.AnswerFacts.{after-first, raised}
use Rattle.kql_program.proofs.WordFacts.{KeepsWords}
use Rattle.kql_words.specs.Command.{texts}
use Rattle.kql_words.specs.Refusals.{Answer, ◌>>=◌}
use Rattle.kql_words.specs.declared.refusal.Refusal.{Refusal}
use Rattle.live_tables.specs.Columns.{difference_from, same_column}
use Rattle.kql_live.specs.LiveFiles.{ReadsBatch, alike, batch_in, live_batches, live_tables, tables_with, unless_differs}
use Rattle.kql_live.specs.declared.bound.LiveTables.{LiveTables}

-- The first column that differs is one of the first list, or the one behind it.

abbrev place_is : ℕ → Option ℕ
place_is k = Some k

place-same : (j k : ℕ) → place_is j ≡ place_is k → j ≡ k
place-same j k e = cc

pub difference-within : (place : ℕ) (cs ds : List Column) (k : ℕ) → difference_from place cs ds ≡ Some k → k ≤ place + length cs
unfolding difference_from
difference-within place [] [] k e = absurd cc
difference-within place [] (d ∷ ds) k e = let same = place-same place k e in omega (arith, same)
difference-within place (c ∷ cs) [] k e = let same = place-same place k e in omega (arith, same)
difference-within place (c ∷ cs) (d ∷ ds) k e = elim (cases_Bool (same_column c d)) [
  | inl t ↦
      let rest : difference_from (place + 1) cs ds ≡ Some k = subst (λ b. cond b (difference_from (place + 1) cs ds) (Some place) ≡ Some k) t e in
      let within = difference-within (place + 1) cs ds k rest in
      omega (arith, within)
  | inr n ↦
      let here : Some place ≡ Some k = subst (λ b. cond b (difference_from (place + 1) cs ds) (Some place) ≡ Some k) n e in
      let same = place-same place k here in
      omega (arith, same)
]

abbrev refused : {X : Type 0} → Refusal → Answer X
refused q = Err q

refusal-same : {X : Type 0} (q r : Refusal) → refused {X = X} q ≡ refused r → q ≡ r
refusal-same q r e = cc

-- A batch.

-- what stops the first two steps stops all three
stops-behind : {X Y Z : Type 0} (a : Answer X) (f : X → Answer Y) (g : Y → Answer Z) (s : Stop) → Computes (a >>= f) (Err s) → Computes (a >>= λ x. f x >>= g) (Err s)
stops-behind (Ok x) f g (stop.Refused q) h = rw h refl
stops-behind (Ok x) f g stop.ReadFault h = tt
stops-behind (Ok x) f g stop.OutOfMemory h = tt
stops-behind {Y = Y} (Err q) f g (stop.Refused r) h = ap Err (refusal-same {X = Y} q r h)
stops-behind (Err q) f g stop.ReadFault h = tt
stops-behind (Err q) f g stop.OutOfMemory h = tt

raised-batch : (files : Files) (columns : List Column) (number room : ℕ) (path : List ℕ) (r : Result (Grid × ℕ) Stop) (s : Stop) → IsErrAnd r (λ e. e ≡ s)
    → Computes (file_bytes number files path >>= batch_in columns number room) (Err s) → ReadsBatch files columns number room path r
raised-batch files columns number room path (Ok x) s i h = absurd i
raised-batch files columns number room path (Err e) s i h = rw i h

-- the table can't be had
pub batch-stop : (told : Option Files) (columns : List Column) (number room : ℕ) (path : List ℕ) (r : Result (Grid × ℕ) Stop) (s : Stop) → IfSome told (λ files. ReadsTable files number room path (Err s)) → IsErrAnd r (λ e. e ≡ s)
    → IfSome told (λ files. ReadsBatch files columns number room path r)
batch-stop None columns number room path r s h i = tt
batch-stop (Some files) columns number room path r s h i =
    raised-batch files columns number room path r s i (stops-behind (file_bytes number files path) (table_in number room) (alike number columns) s h)

-- its columns are others
differs-of : (a : Answer (List ℕ)) (columns : List Column) (number room : ℕ) (bytes : List ℕ) (grid : Grid) (q : Refusal) → a ≡ Ok bytes → table_in number room bytes ≡ Ok grid → Err q ≡ alike number columns grid
    → (a >>= batch_in columns number room) ≡ Err q
differs-of a columns number room bytes grid q found loads differs = rw (found, loads) (sym differs)

pub batch-differs : (told : Option Files) (columns : List Column) (number room left : ℕ) (path : List ℕ) (grid : Grid) (r : Result (Grid × ℕ) Stop) (q : Refusal) → IfSome told (λ files. ReadsTable files number room path (Ok (grid, left)))
    → Err q ≡ alike number columns grid → IsErrAnd r (λ e. e ≡ stop.Refused q) → IfSome told (λ files. ReadsBatch files columns number room path r)
batch-differs None columns number room left path grid r q h differs i = tt
batch-differs (Some files) columns number room left path grid r q (bytes, found, loads, m) differs i =
    raised-batch files columns number room path r (stop.Refused q) i (differs-of (file_bytes number files path) columns number room bytes grid q found loads differs)

pub batch-ok : (told : Option Files) (columns : List Column) (number room left : ℕ) (path : List ℕ) (grid batch : Grid) → IfSome told (λ files. ReadsTable files number room path (Ok (grid, left)))
    → Ok batch ≡ alike number columns grid → IfSome told (λ files. ReadsBatch files columns number room path (Ok (batch, left)))
batch-ok None columns number room left path grid batch h same = tt
batch-ok (Some files) columns number room left path grid batch (bytes, found, loads, m) same = (bytes, found, rw loads (sym same), m)

-- no word is refused by it
differs-words : (number : ℕ) (o : Option ℕ) (grid : Grid) (q : Refusal) → Err q ≡ unless_differs number o grid → KeepsWords (stop.Refused q)
differs-words number None grid q e word code k = cc e
differs-words number (Some place) grid q e word code k = cc (e, k)

pub alike-words : (number : ℕ) (columns : List Column) (grid : Grid) (q : Refusal) → Err q ≡ alike number columns grid → KeepsWords (stop.Refused q)
unfolding alike
alike-words number columns grid q e = differs-words number (difference_from 0 columns grid.columns) grid q e

-- The batches.

step-of : (files : Files) (columns : List Column) (number room more : ℕ) (path : String Global) (word : List ℕ) (rest : List (String Global)) (batch : Grid) (bytes : List ℕ) → word ≡ string_bytes path
    → file_bytes number files word ≡ Ok bytes → batch_in columns number room bytes ≡ Ok batch → more ≡ room - length bytes
    → live_batches files columns number room (texts (path ∷ rest)) ≡ with_first batch (live_batches files columns (number + 1) more (texts rest))
unfolding live_batches
step-of files columns number room more path word rest batch bytes w found loads m = rw (← w, found, loads, ← m) refl

-- one batch more
batches-next : (files : Files) (columns : List Column) (number room more : ℕ) (left rest : List (String Global)) (path : String Global) (word : List ℕ) (batch : Grid) (before now : List Grid) (all : Answer (List Grid))
    → left ≡ path ∷ rest → word ≡ string_bytes path → ReadsBatch files columns number room word (Ok (batch, more)) → now ≡ before ++ batch ∷ []
    → after before (live_batches files columns number room (texts left)) ≡ all → after now (live_batches files columns (number + 1) more (texts rest)) ≡ all
batches-next files columns number room more left rest path word batch before now all is w (bytes, found, loads, m) n h =
    let step = step-of files columns number room more path word rest batch bytes w found loads m in
    let front : live_batches files columns number room (texts left) ≡ with_first batch (live_batches files columns (number + 1) more (texts rest)) =
    ap (λ (ws : List (String Global)). live_batches files columns number room (texts ws)) is ∙ step in
    ap (λ (bs : List Grid). after bs (live_batches files columns (number + 1) more (texts rest))) n
    ∙ (sym (after-first before batch (live_batches files columns (number + 1) more (texts rest))) ∙ (sym (ap (after before) front) ∙ h))

none-of : (files : Files) (columns : List Column) (number room : ℕ) (path : String Global) (word : List ℕ) (rest : List (String Global)) (q : Refusal) → word ≡ string_bytes path
    → (file_bytes number files word >>= batch_in columns number room) ≡ Err q → live_batches files columns number room (texts (path ∷ rest)) ≡ Err q
unfolding live_batches
none-of files columns number room path word rest q w h = rw (← w) (stops-three (file_bytes number files word) (batch_in columns number room)
    (λ bytes batch. with_first batch (live_batches files columns (number + 1) (room - length bytes) (texts rest))) q h)
  where
    stops-three : {X Y Z : Type 0} (a : Answer X) (f : X → Answer Y) (g : X → Y → Answer Z) (q : Refusal) → (a >>= f) ≡ Err q → (a >>= λ x. f x >>= λ y. g x y) ≡ Err q
    stops-three (Ok x) f g q e = rw e refl
    stops-three (Err r) f g q e = cc

-- the first batch that can't be had
batches-stop : (files : Files) (columns : List Column) (number room : ℕ) (left rest : List (String Global)) (path : String Global) (word : List ℕ) (before : List Grid) (all : Answer (List Grid)) (r : Result (List Grid) Stop) (s : Stop)
    → left ≡ path ∷ rest → word ≡ string_bytes path → ReadsBatch files columns number room word (Err s)
    → after before (live_batches files columns number room (texts left)) ≡ all → IsErrAnd r (λ e. e ≡ s) → Computes all r
batches-stop files columns number room left rest path word before all (Ok x) s is w a h i = absurd i
batches-stop files columns number room left rest path word before all (Err e) stop.ReadFault is w a h i = rw i tt
batches-stop files columns number room left rest path word before all (Err e) stop.OutOfMemory is w a h i = rw i tt
batches-stop files columns number room left rest path word before all (Err e) (stop.Refused q) is w a h i =
    let none : live_batches files columns number room (texts left) ≡ Err q = ap (λ (ws : List (String Global)). live_batches files columns number room (texts ws)) is ∙ none-of files columns number room path word rest q w a in
    rw i (sym h ∙ ap (after before) none)

batches-end : (files : Files) (columns : List Column) (number room : ℕ) (left : List (String Global)) (before : List Grid) (all : Answer (List Grid)) → length left ≡ 0
    → after before (live_batches files columns number room (texts left)) ≡ all → all ≡ Ok before
unfolding live_batches
batches-end files columns number room left before all none h =
    let here : after before (live_batches files columns number room (texts [])) ≡ all = subst (λ (ws : List (String Global)). after before (live_batches files columns number room (texts ws)) ≡ all) (nil_from_length left none) h in
    sym here ∙ ap Ok (append-nil before)

-- the same where the files are told or not
pub told-next : (now-told told : Option Files) (columns : List Column) (number room more first : ℕ) (left rest paths : List (String Global)) (path : String Global) (word : List ℕ) (batch : Grid) (before now : List Grid)
    → left ≡ path ∷ rest → word ≡ string_bytes path → now-told ≡ told → IfSome now-told (λ files. ReadsBatch files columns number room word (Ok (batch, more))) → now ≡ before ++ batch ∷ []
    → IfSome told (λ files. after before (live_batches files columns number room (texts left)) ≡ live_batches files columns 2 first (texts paths))
    → IfSome told (λ files. after now (live_batches files columns (number + 1) more (texts rest)) ≡ live_batches files columns 2 first (texts paths))
told-next now-told None columns number room more first left rest paths path word batch before now is w e a n h = tt
told-next now-told (Some files) columns number room more first left rest paths path word batch before now is w e a n h =
    batches-next files columns number room more left rest path word batch before now (live_batches files columns 2 first (texts paths)) is w (rw e at a) n h

pub told-stop : (now-told told : Option Files) (columns : List Column) (number room first : ℕ) (left rest paths : List (String Global)) (path : String Global) (word : List ℕ) (before : List Grid) (r : Result (List Grid) Stop) (s : Stop)
    → left ≡ path ∷ rest → word ≡ string_bytes path → now-told ≡ told → IfSome now-told (λ files. ReadsBatch files columns number room word (Err s))
    → IfSome told (λ files. after before (live_batches files columns number room (texts left)) ≡ live_batches files columns 2 first (texts paths)) → IsErrAnd r (λ e. e ≡ s)
    → IfSome told (λ files. Computes (live_batches files columns 2 first (texts paths)) r)
told-stop now-told None columns number room first left rest paths path word before r s is w e a h i = tt
told-stop now-told (Some files) columns number room first left rest paths path word before r s is w e a h i =
    batches-stop files columns number room left rest path word before (live_batches files columns 2 first (texts paths)) r s is w (rw e at a) h i

pub told-end : (told : Option Files) (columns : List Column) (number room first : ℕ) (left paths : List (String Global)) (before : List Grid) → length left ≡ 0
    → IfSome told (λ files. after before (live_batches files columns number room (texts left)) ≡ live_batches files columns 2 first (texts paths))
    → IfSome told (λ files. Computes (live_batches files columns 2 first (texts paths)) (Ok before))
told-end None columns number room first left paths before none h = tt
told-end (Some files) columns number room first left paths before none h = batches-end files columns number room left before (live_batches files columns 2 first (texts paths)) none h

pub told-begin : (told : Option Files) (columns : List Column) (first : ℕ) (paths : List (String Global)) (none : List Grid) → none ≡ []
    → IfSome told (λ files. after none (live_batches files columns 2 first (texts paths)) ≡ live_batches files columns 2 first (texts paths))
told-begin None columns first paths none e = tt
told-begin (Some files) columns first paths none e = ap (λ (bs : List Grid). after bs (live_batches files columns 2 first (texts paths))) e ∙ same (live_batches files columns 2 first (texts paths))
  where
    same : (a : Answer (List Grid)) → after [] a ≡ a
    same (Ok bs) = refl
    same (Err q) = refl

-- The opening table, and then the batches.

-- the opening table can't be had
opening-of : {X Y : Type 0} (a : Answer (List ℕ)) (f : List ℕ → Answer X) (g : List ℕ → X → Answer Y) (s : Stop) → Computes (a >>= f) (Err s) → Computes (a >>= λ b. f b >>= λ x. g b x) (Err s)
opening-of (Ok b) f g (stop.Refused q) h = rw h refl
opening-of (Ok b) f g stop.ReadFault h = tt
opening-of (Ok b) f g stop.OutOfMemory h = tt
opening-of {X = X} (Err q) f g (stop.Refused r) h = ap Err (refusal-same {X = X} q r h)
opening-of (Err q) f g stop.ReadFault h = tt
opening-of (Err q) f g stop.OutOfMemory h = tt

pub tables-first : (told : Option Files) (limit : ℕ) (path : List ℕ) (paths : List (String Global)) (r : Result LiveTables Stop) (s : Stop) → IfSome told (λ files. ReadsTable files 1 limit path (Err s)) → IsErrAnd r (λ e. e ≡ s)
    → IfSome told (λ files. Computes (live_tables files limit path (texts paths)) r)
unfolding live_tables
tables-first None limit path paths r s h i = tt
tables-first (Some files) limit path paths r s h i =
    raised (live_tables files limit path (texts paths)) r s i
    (opening-of (file_bytes 1 files path) (table_in 1 limit) (λ bytes opening. tables_with opening (live_batches files opening.columns 2 (limit - length bytes) (texts paths))) s h)

-- a batch can't be had
with-stop : (opening : Grid) (a : Answer (List Grid)) (s : Stop) → Computes a (Err s) → Computes (tables_with opening a) (Err s)
with-stop opening a (stop.Refused q) h = rw h refl
with-stop opening a stop.ReadFault h = tt
with-stop opening a stop.OutOfMemory h = tt

tables-are : (files : Files) (limit room : ℕ) (path bytes : List ℕ) (paths : List (String Global)) (opening : Grid) → file_bytes 1 files path ≡ Ok bytes → table_in 1 limit bytes ≡ Ok opening → room ≡ limit - length bytes
    → tables_with opening (live_batches files opening.columns 2 room (texts paths)) ≡ live_tables files limit path (texts paths)
unfolding live_tables
tables-are files limit room path bytes paths opening found loads m = rw (found, loads, m) refl

pub tables-next : (told now-told : Option Files) (limit room : ℕ) (path : List ℕ) (paths : List (String Global)) (opening : Grid) (r : Result LiveTables Stop) (s : Stop) → IfSome told (λ files. ReadsTable files 1 limit path (Ok (opening, room)))
    → now-told ≡ told → IfSome now-told (λ files. Computes (live_batches files opening.columns 2 room (texts paths)) (Err s)) → IsErrAnd r (λ e. e ≡ s)
    → IfSome told (λ files. Computes (live_tables files limit path (texts paths)) r)
tables-next None now-told limit room path paths opening r s h e b i = tt
tables-next (Some files) now-told limit room path paths opening r s (bytes, found, loads, m) e b i =
    let there : Computes (live_batches files opening.columns 2 room (texts paths)) (Err s) = rw e at b in
    raised (live_tables files limit path (texts paths)) r s i
    (subst (λ (a : Answer LiveTables). Computes a (Err s)) (tables-are files limit room path bytes paths opening found loads m) (with-stop opening (live_batches files opening.columns 2 room (texts paths)) s there))

pub tables-ok : (told now-told : Option Files) (limit room : ℕ) (path : List ℕ) (paths : List (String Global)) (opening : Grid) (batches : List Grid) → IfSome told (λ files. ReadsTable files 1 limit path (Ok (opening, room)))
    → now-told ≡ told → IfSome now-told (λ files. live_batches files opening.columns 2 room (texts paths) ≡ Ok batches)
    → IfSome told (λ files. live_tables files limit path (texts paths) ≡ Ok (record { opening = opening; batches = batches }))
tables-ok None now-told limit room path paths opening batches h e b = tt
tables-ok (Some files) now-told limit room path paths opening batches (bytes, found, loads, m) e b =
    let there : live_batches files opening.columns 2 room (texts paths) ≡ Ok batches = rw e at b in
    sym (tables-are files limit room path bytes paths opening found loads m) ∙ ap (tables_with opening) there
