-- The tables of the words, one after another.
use Rattle.std.proofs.Common.{◌≡◌, ◌≤◌, ◌<◌, ◌+◌, ◌-◌, ◌∙◌, ℕ, zero, suc, true, false, get_or, List, [], ◌∷◌, ◌++◌, length, map, take, drop, refl, ap, sym, subst, inl, inr, arith, append_assoc}
use Rattle.std.specs.Prelude.{Option, Some, None, IfSome, IsErrAnd, Result, Ok, Err, String, string_bytes, nat_le}
use Rattle.std.specs.Global.{Global}
use Rattle.std.specs.List.{list_any}
use Rattle.std.specs.Str.{bytes_eq}
use Rattle.std.proofs.lemmas.Bool.{cases_Bool}
use Rattle.std.proofs.lemmas.Bool.Decides.{nat_tests}
use Rattle.std.proofs.lemmas.List.{append-nil, drop_all, get_or-map, length-map, length-take, take-map, take_all}
use Rattle.std.proofs.lemmas.List.Folds.{list_any_at}
use Rattle.std.proofs.lemmas.Slice.Eq.{bytes_eq-Decides}
use Rattle.kql_cells.specs.Catalogues.{table_name}
use Rattle.kql_cells.specs.Named.{IsAbsent}
use Rattle.kql_cells.specs.Catalogues.{Named}
use Rattle.kql_words.specs.Command.{AreTables, name_in, names_table, path_in, table_faults, tables_faults, texts}
use Rattle.catalogue_tables.specs.Files.{Files, file_bytes}
use Rattle.catalogue_tables.specs.Computes as computing
use Rattle.catalogue_tables.specs.Tables.{catalogue_tables}
use Rattle.catalogue_tables.specs.declared.stop.CatalogueStop.{CatalogueStop}
use Rattle.catalogue_tables.specs.declared.stop.CatalogueStop.TheVariants as catalogue_stops
use Rattle.kql_program.specs.Files.{AddsTable, named_as, table_in, tables_behind, tables_from, tables_of}
use Rattle.kql_program.specs.Stops.{catalogue_stop}
use Rattle.kql_program.specs.Refusals.{Computes, after, with_first}
use Rattle.kql_words.specs.Refusals.{Answer, ◌>>=◌}
use Rattle.kql_words.specs.declared.refusal.Refusal.{Refusal}
use Rattle.kql_program.specs.declared.refusal.Stop.{Stop}
use Rattle.kql_program.specs.declared.refusal.Stop.TheVariants as stop
use Rattle.kql_program.proofs.AnswerFacts.{after-first, raised}
use Rattle.kql_words.proofs.CommandLaws.{words-at}
use Rattle.kql_words.proofs.AskedLaws.{both-empty}

-- words without faults: the word of a place has none behind those before it
clean-at : (number : ℕ) (names words : List (List ℕ)) (i : ℕ) → tables_faults number names words ≡ [] → i < length words
    → table_faults (number + i) (names ++ map name_in (take i words)) (get_or words i []) ≡ []
clean-at number names [] i e lt = absurd (omega arith)
clean-at number names (w ∷ ws) zero e lt =
    let here = (both-empty (table_faults number names w) (tables_faults (number + 1) (names ++ name_in w ∷ []) ws) e).0 in
    let same : number + 0 ≡ number = omega arith in
    rw (same, append-nil names) here
clean-at number names (w ∷ ws) (suc i) e lt =
    let more = (both-empty (table_faults number names w) (tables_faults (number + 1) (names ++ name_in w ∷ []) ws) e).1 in
    let next = clean-at (number + 1) (names ++ name_in w ∷ []) ws i more (omega arith) in
    let same : number + suc i ≡ number + 1 + i = omega arith in
    rw (same, ← append_assoc names (name_in w ∷ []) (map name_in (take i ws))) next

-- what a word without a fault is
clean-word : (number : ℕ) (names : List (List ℕ)) (w : List ℕ) → table_faults number names w ≡ []
    → (names_table w ≡ true) × (list_any (bytes_eq (name_in w)) names ≡ false) × (length names < 64)
clean-word number names w e = elim (cases_Bool (names_table w)) [
  | inr n ↦ cc (rw n at e)
  | inl t ↦ elim (cases_Bool (list_any (bytes_eq (name_in w)) names)) [
    | inl u ↦ cc (rw (t, u) at e)
    | inr m ↦ elim (cases_Bool (nat_le 64 (length names))) [
      | inl v ↦ cc (rw (t, m, v) at e)
      | inr k ↦ (t, m, grind (arith, nat_tests))
    ]
  ]
]

length-names : (words : List (String Global)) (i : ℕ) → i < length words → length (map name_in (texts (take i words))) ≡ i
length-names words i lt =
    let inner = length-take i words in
    let middle = length-map (take i words) string_bytes in
    let outer = length-map (texts (take i words)) name_in in
    omega arith

pub record IsCleanWord (words : List (String Global)) (i : ℕ) (word : List ℕ) : Type 0 where
  pub names : names_table word ≡ true
  pub fresh : list_any (bytes_eq (name_in word)) (map name_in (texts (take i words))) ≡ false
  pub few : i < 64

pub clean : (words : List (String Global)) (i : ℕ) (d : String Global) (word : List ℕ) → AreTables (texts words) → i < length words → word ≡ string_bytes (get_or words i d) → IsCleanWord words i word
clean words i d word e lt w =
    let size = length-map words string_bytes in
    let within : i < length (texts words) = omega arith in
    let front : take i (texts words) ≡ texts (take i words) = take-map string_bytes i words in
    let read : get_or (texts words) i [] ≡ word = get_or-map string_bytes words i d [] lt ∙ sym w in
    let none = clean-at 0 [] (texts words) i e within in
    let here : table_faults (0 + i) (map name_in (texts (take i words))) word ≡ [] = rw (front, read) at none in
    let (named, fresh, few) = clean-word (0 + i) (map name_in (texts (take i words))) word here in
    let count : length (map name_in (texts (take i words))) ≡ i = length-names words i lt in
    record { names = named; fresh = fresh; few = omega arith }

pub few-words : (words : List (String Global)) (i : ℕ) → AreTables (texts words) → i < length words → i < 64
few-words [] i e lt = absurd (omega arith)
few-words (w ∷ ws) i e lt = (clean (w ∷ ws) i w (string_bytes (get_or (w ∷ ws) i w)) e lt refl).few

-- no table has the name
pub absent : (tables : List Named) (name : List ℕ) → list_any (bytes_eq name) (map table_name tables) ≡ false → IsAbsent table_name name tables
absent tables name e k d lt same =
    let size = length-map tables table_name in
    let within : k < length (map table_name tables) = omega arith in
    let here : name ≡ get_or (map table_name tables) k [] = sym (get_or-map table_name tables k d [] lt ∙ same) in
    let found = list_any_at (bytes_eq name) (map table_name tables) k [] within ((bytes_eq-Decides name (get_or (map table_name tables) k [])).1 here) in
    cc

-- one more table
pub tables-next : (files : Files) (behind : ℕ → Answer (List Named)) (i room more : ℕ) (words : List (String Global)) (d : String Global) (word : List ℕ) (before now : List Named) (all : Answer (List Named)) → i < length words
    → word ≡ string_bytes (get_or words i d) → AddsTable files (i + 1) room word before now (Ok more)
    → after before (tables_from files behind (i + 1) room (drop i (texts words))) ≡ all
    → after now (tables_from files behind (i + 1 + 1) more (drop (i + 1) (texts words))) ≡ all
unfolding tables_from
tables-next files behind i room more words d word before now all lt w (bytes, grid, found, loads, m, n) h =
    let at = words-at words i d lt in
    let step : tables_from files behind (i + 1) room (drop i (texts words)) ≡ with_first (named_as (name_in word) grid) (tables_from files behind (i + 1 + 1) more (drop (i + 1) (texts words))) = rw (at, ← w, found, loads, ← m) refl in
    rw (n, ← after-first before (named_as (name_in word) grid) (tables_from files behind (i + 1 + 1) more (drop (i + 1) (texts words))), ← step) h

-- what stops the first two steps stops all three
stops-three : {X Y Z : Type 0} (a : Answer X) (f : X → Answer Y) (g : X → Y → Answer Z) (q : Refusal) → (a >>= f) ≡ Err q → (a >>= λ x. f x >>= λ y. g x y) ≡ Err q
stops-three (Ok x) f g q e = rw e refl
stops-three (Err r) f g q e = cc

-- the first table that can't be had
pub tables-stop : (files : Files) (behind : ℕ → Answer (List Named)) (i room : ℕ) (words : List (String Global)) (d : String Global) (word : List ℕ) (before now : List Named) (all : Answer (List Named)) (r : Result (List Named) Stop) (s : Stop) → i < length words
    → word ≡ string_bytes (get_or words i d) → AddsTable files (i + 1) room word before now (Err s)
    → after before (tables_from files behind (i + 1) room (drop i (texts words))) ≡ all → IsErrAnd r (λ e. e ≡ s) → Computes all r
unfolding tables_from
tables-stop files behind i room words d word before now all (Ok x) s lt w a h q = absurd q
tables-stop files behind i room words d word before now all (Err e) stop.ReadFault lt w a h q = rw q tt
tables-stop files behind i room words d word before now all (Err e) stop.OutOfMemory lt w a h q = rw q tt
tables-stop files behind i room words d word before now all (Err e) (stop.Refused refusal) lt w a h q =
    let at = words-at words i d lt in
    let three = stops-three (file_bytes (i + 1) files (path_in word)) (table_in (i + 1) room)
    (λ bytes grid. with_first (named_as (name_in word) grid) (tables_from files behind (i + 1 + 1) (room - length bytes) (drop (i + 1) (texts words)))) refusal a in
    let none : tables_from files behind (i + 1) room (drop i (texts words)) ≡ Err refusal = rw (at, ← w) three in
    rw q (sym h ∙ ap (after before) none)

-- the end of the words: what is left is what follows their tables
tables-end : (files : Files) (behind : ℕ → Answer (List Named)) (i room : ℕ) (words : List (String Global)) (tables : List Named) (all : Answer (List Named)) → length words ≤ i
    → after tables (tables_from files behind (i + 1) room (drop i (texts words))) ≡ all → after tables (behind room) ≡ all
unfolding tables_from
tables-end files behind i room words tables all le h =
    let size = length-map words string_bytes in
    let none : drop i (texts words) ≡ [] = drop_all i (texts words) (omega arith) in
    rw none at h

-- the same where the files are told or not
pub told-next : (now-told told : Option Files) (limit i room more : ℕ) (catalogue : Option (List ℕ)) (words : List (String Global)) (d : String Global) (word : List ℕ) (before now : List Named) → i < length words
    → word ≡ string_bytes (get_or words i d) → now-told ≡ told → IfSome now-told (λ files. AddsTable files (i + 1) room word before now (Ok more))
    → IfSome told (λ files. after before (tables_from files (tables_behind files (map name_in (texts words)) catalogue) (i + 1) room (drop i (texts words))) ≡ tables_of files limit catalogue (texts words))
    → IfSome told (λ files. after now (tables_from files (tables_behind files (map name_in (texts words)) catalogue) (i + 1 + 1) more (drop (i + 1) (texts words))) ≡ tables_of files limit catalogue (texts words))
told-next now-told None limit i room more catalogue words d word before now lt w e a h = tt
told-next now-told (Some files) limit i room more catalogue words d word before now lt w e a h =
    tables-next files (tables_behind files (map name_in (texts words)) catalogue) i room more words d word before now (tables_of files limit catalogue (texts words)) lt w (rw e at a) h

pub told-stop : (now-told told : Option Files) (limit i room : ℕ) (catalogue : Option (List ℕ)) (words : List (String Global)) (d : String Global) (word : List ℕ) (before now : List Named) (r : Result (List Named) Stop) (s : Stop) → i < length words
    → word ≡ string_bytes (get_or words i d) → now-told ≡ told → IfSome now-told (λ files. AddsTable files (i + 1) room word before now (Err s))
    → IfSome told (λ files. after before (tables_from files (tables_behind files (map name_in (texts words)) catalogue) (i + 1) room (drop i (texts words))) ≡ tables_of files limit catalogue (texts words)) → IsErrAnd r (λ e. e ≡ s)
    → IfSome told (λ files. Computes (tables_of files limit catalogue (texts words)) r)
told-stop now-told None limit i room catalogue words d word before now r s lt w e a h q = tt
told-stop now-told (Some files) limit i room catalogue words d word before now r s lt w e a h q =
    tables-stop files (tables_behind files (map name_in (texts words)) catalogue) i room words d word before now (tables_of files limit catalogue (texts words)) r s lt w (rw e at a) h q

-- no catalogue file
pub told-end : (told : Option Files) (limit i room : ℕ) (catalogue : Option (List ℕ)) (words : List (String Global)) (tables : List Named) → length words ≤ i → catalogue ≡ None
    → IfSome told (λ files. after tables (tables_from files (tables_behind files (map name_in (texts words)) catalogue) (i + 1) room (drop i (texts words))) ≡ tables_of files limit catalogue (texts words))
    → IfSome told (λ files. Computes (tables_of files limit catalogue (texts words)) (Ok tables))
told-end None limit i room catalogue words tables le c h = tt
told-end (Some files) limit i room catalogue words tables le c h =
    let behind = tables_behind files (map name_in (texts words)) catalogue in
    let here = tables-end files behind i room words tables (tables_of files limit catalogue (texts words)) le h in
    let none : behind room ≡ Ok [] = rw c refl in
    sym here ∙ (ap (after tables) none ∙ ap Ok (append-nil tables))

-- Behind the words' tables, those of a catalogue file.

-- the names of the tables are those of the words
pub all-names : (words : List (String Global)) (i : ℕ) (tables : List Named) → length words ≤ i → map table_name tables ≡ map name_in (texts (take i words)) → map table_name tables ≡ map name_in (texts words)
all-names words i tables le h = rw (take_all i words le) at h

pub few-tables : (words : List (String Global)) (i : ℕ) (tables : List Named) → i ≤ 64 → map table_name tables ≡ map name_in (texts (take i words)) → length tables ≤ 64
few-tables words i tables le h =
    let size = length-map tables table_name in
    let inner = length-take i words in
    let middle = length-map (take i words) string_bytes in
    let outer = length-map (texts (take i words)) name_in in
    let same : length (map table_name tables) ≡ length (map name_in (texts (take i words))) = ap length h in
    omega arith

catalogue-of : {X : Type 0} (a : Answer X) (s : CatalogueStop) → computing.Computes a (Err s) → Computes a (Err (catalogue_stop s))
catalogue-of a (catalogue_stops.Refused file code row column) h = h
catalogue-of a catalogue_stops.ReadFault h = tt
catalogue-of a catalogue_stops.OutOfMemory h = tt

pub all-few : (words : List (String Global)) → AreTables (texts words) → length words ≤ 64
all-few [] e = omega arith
all-few (w ∷ ws) e =
    let few = few-words (w ∷ ws) (length ws) e (omega arith) in
    omega (arith, few)

-- what the catalogue file's tables are, all are
pub told-catalogue : (now-told told : Option Files) (limit i room : ℕ) (catalogue : Option (List ℕ)) (path : List ℕ) (words : List (String Global)) (tables now : List Named) → length words ≤ i
    → map table_name tables ≡ map name_in (texts (take i words)) → catalogue ≡ Some path → now-told ≡ told
    → IfSome now-told (λ files. after tables (catalogue_tables files (map table_name tables) room path) ≡ Ok now)
    → IfSome told (λ files. after tables (tables_from files (tables_behind files (map name_in (texts words)) catalogue) (i + 1) room (drop i (texts words))) ≡ tables_of files limit catalogue (texts words))
    → IfSome told (λ files. Computes (tables_of files limit catalogue (texts words)) (Ok now))
told-catalogue now-told None limit i room catalogue path words tables now le n c e a h = tt
told-catalogue now-told (Some files) limit i room catalogue path words tables now le n c e a h =
    let here = tables-end files (tables_behind files (map name_in (texts words)) catalogue) i room words tables (tables_of files limit catalogue (texts words)) le h in
    let behind : tables_behind files (map name_in (texts words)) catalogue room ≡ catalogue_tables files (map name_in (texts words)) room path = rw c refl in
    let got = rw (e, all-names words i tables le n) at a in
    sym here ∙ (ap (after tables) behind ∙ got)

pub told-no_catalogue : (now-told told : Option Files) (limit i room : ℕ) (catalogue : Option (List ℕ)) (path : List ℕ) (words : List (String Global)) (tables : List Named) (s : CatalogueStop) (r : Result (List Named) Stop) → length words ≤ i
    → map table_name tables ≡ map name_in (texts (take i words)) → catalogue ≡ Some path → now-told ≡ told
    → IfSome now-told (λ files. computing.Computes (after tables (catalogue_tables files (map table_name tables) room path)) (Err s))
    → IfSome told (λ files. after tables (tables_from files (tables_behind files (map name_in (texts words)) catalogue) (i + 1) room (drop i (texts words))) ≡ tables_of files limit catalogue (texts words))
    → IsErrAnd r (λ e. e ≡ catalogue_stop s)
    → IfSome told (λ files. Computes (tables_of files limit catalogue (texts words)) r)
told-no_catalogue now-told None limit i room catalogue path words tables s r le n c e a h q = tt
told-no_catalogue now-told (Some files) limit i room catalogue path words tables s r le n c e a h q =
    let here = tables-end files (tables_behind files (map name_in (texts words)) catalogue) i room words tables (tables_of files limit catalogue (texts words)) le h in
    let behind : tables_behind files (map name_in (texts words)) catalogue room ≡ catalogue_tables files (map name_in (texts words)) room path = rw c refl in
    let over : IfSome (Some files) (λ files. computing.Computes (after tables (catalogue_tables files (map table_name tables) room path)) (Err s)) =
    subst (λ (o : Option Files). IfSome o (λ files. computing.Computes (after tables (catalogue_tables files (map table_name tables) room path)) (Err s))) e a in
    let got : computing.Computes (after tables (catalogue_tables files (map name_in (texts words)) room path)) (Err s) =
    subst (λ (ns : List (List ℕ)). computing.Computes (after tables (catalogue_tables files ns room path)) (Err s)) (all-names words i tables le n) over in
    let all : Computes (tables_of files limit catalogue (texts words)) (Err (catalogue_stop s)) =
    subst (λ (x : Answer (List Named)). Computes x (Err (catalogue_stop s))) (sym (ap (after tables) behind) ∙ here) (catalogue-of (after tables (catalogue_tables files (map name_in (texts words)) room path)) s got) in
    raised (tables_of files limit catalogue (texts words)) r (catalogue_stop s) q all
