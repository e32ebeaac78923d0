-- Files that are started, one after another.
use Rattle.std.proofs.Common.{◌≡◌, ◌≤◌, ◌<◌, ◌+◌, ◌-◌, ℕ, get_or, List, [], ◌∷◌, length, map, take, drop, refl, sym, subst, inl, inr, arith}
use Rattle.std.specs.Prelude.{◌⊎◌, Option, Some, None, IfSome, Ok, String, string_bytes}
use Rattle.std.specs.Global.{Global}
use Rattle.std.proofs.lemmas.List.{drop_all, length-map}
use Rattle.catalogue_tables.specs.Computes.{IsRefused}
use Rattle.catalogue_tables.specs.Entries.{entries_taken}
use Rattle.catalogue_tables.specs.Files.{Files, file_bytes}
use Rattle.kql_cells.specs.Catalogues.{Named, table_name}
use Rattle.kql_cells.specs.Table.{Grid}
use Rattle.kql_outside.specs.Calls.{one_more}
use Rattle.kql_words.specs.Command.{catalogue_path, name_in, path_in, table_words, texts}
use Rattle.kql_words.specs.declared.command.Asked.{Asked}
use Rattle.kql_words.proofs.AskedLaws.{texts-rest}
use Rattle.kql_words.proofs.CommandLaws.{words-at}
use Rattle.kql_program.specs.Calls.{HasOwnFault, StartsBehind, StartsFrom, StartsOf, StartsTables, left_behind}
use Rattle.kql_program.specs.Files.{AddsTable, table_in}
use Rattle.kql_program.proofs.TableFacts.{all-names}

-- what is started from a place of the words on, is started for all of them
abbrev pub StartsLead : Files → Option (List ℕ) → ℕ → List (String Global) → ℕ → ℕ → Option ℕ → Option ℕ → Type 0
StartsLead files catalogue limit words i room b m =
    (n : Option ℕ) → StartsFrom files (StartsBehind files (map name_in (texts words)) catalogue) (i + 1) room (drop i (texts words)) m n → StartsTables files limit catalogue (texts words) b n

pub lead-first : (told : Option Files) (catalogue : Option (List ℕ)) (limit room : ℕ) (words : List (String Global)) (b : Option ℕ) → room ≡ limit → IfSome told (λ files. StartsLead files catalogue limit words 0 room b b)
lead-first None catalogue limit room words b e = tt
lead-first (Some files) catalogue limit room words b e = λ n h. subst (λ (r : ℕ). StartsFrom files (StartsBehind files (map name_in (texts words)) catalogue) 1 r (texts words) b n) e h

left-of : (files : Files) (number room left : ℕ) (word bytes : List ℕ) (grid : Grid) → file_bytes number files (path_in word) ≡ Ok bytes → table_in number room bytes ≡ Ok grid → left ≡ room - length bytes → left_behind files number room word ≡ Ok left
unfolding left_behind
left-of files number room left word bytes grid found loads l = rw (found, loads, l) refl

-- one table more
next-from : (files : Files) (Behind : Option ℕ → Option ℕ → Type 0) (i room left : ℕ) (words : List (String Global)) (d : String Global) (word : List ℕ) (before now : List Named) (m k n : Option ℕ) → i < length words
    → word ≡ string_bytes (get_or words i d) → AddsTable files (i + 1) room word before now (Ok left) → k ≡ one_more m
    → StartsFrom files Behind (i + 1 + 1) left (drop (i + 1) (texts words)) k n → StartsFrom files Behind (i + 1) room (drop i (texts words)) m n
unfolding StartsFrom
next-from files Behind i room left words d word before now m k n lt w (bytes, grid, found, loads, l, names) s h =
    let at = words-at words i d lt in
    let read = left-of files (i + 1) room left word bytes grid found loads l in
    let more : StartsFrom files Behind (i + 1 + 1) left (drop (i + 1) (texts words)) (one_more m) n = subst (λ (x : Option ℕ). StartsFrom files Behind (i + 1 + 1) left (drop (i + 1) (texts words)) x n) s h in
    let all : StartsFrom files Behind (i + 1) room (word ∷ drop (i + 1) (texts words)) m n = inr (inr (left, read, more)) in
    rw (at, ← w) all

pub lead-next : (now-told told : Option Files) (catalogue : Option (List ℕ)) (limit i room left : ℕ) (words : List (String Global)) (d : String Global) (word : List ℕ) (before now : List Named) (b m k : Option ℕ) → i < length words
    → word ≡ string_bytes (get_or words i d) → now-told ≡ told → IfSome now-told (λ files. AddsTable files (i + 1) room word before now (Ok left)) → k ≡ one_more m
    → IfSome told (λ files. StartsLead files catalogue limit words i room b m) → IfSome told (λ files. StartsLead files catalogue limit words (i + 1) left b k)
lead-next now-told None catalogue limit i room left words d word before now b m k lt w e a s h = tt
lead-next now-told (Some files) catalogue limit i room left words d word before now b m k lt w e a s h =
    λ n more. h n (next-from files (StartsBehind files (map name_in (texts words)) catalogue) i room left words d word before now m k n lt w (rw e at a) s more)

-- a file that is the last
last-from : (files : Files) (Behind : Option ℕ → Option ℕ → Type 0) (i room : ℕ) (words : List (String Global)) (m n : Option ℕ) → i < length words → n ≡ one_more m → StartsFrom files Behind (i + 1) room (drop i (texts words)) m n
unfolding StartsFrom
last-from files Behind i room [] m n lt s = absurd (omega arith)
last-from files Behind i room (w ∷ ws) m n lt s =
    let at = words-at (w ∷ ws) i w lt in
    let all : StartsFrom files Behind (i + 1) room (string_bytes (get_or (w ∷ ws) i w) ∷ drop (i + 1) (texts (w ∷ ws))) m n = inr (inl s) in
    rw at all

pub lead-stop : (told : Option Files) (catalogue : Option (List ℕ)) (limit i room : ℕ) (words : List (String Global)) (b m n : Option ℕ) → i < length words → n ≡ one_more m
    → IfSome told (λ files. StartsLead files catalogue limit words i room b m) → IfSome told (λ files. StartsTables files limit catalogue (texts words) b n)
lead-stop None catalogue limit i room words b m n lt s h = tt
lead-stop (Some files) catalogue limit i room words b m n lt s h = h n (last-from files (StartsBehind files (map name_in (texts words)) catalogue) i room words m n lt s)

-- behind all words
behind-from : (files : Files) (Behind : Option ℕ → Option ℕ → Type 0) (i room : ℕ) (words : List (String Global)) (m n : Option ℕ) → length words ≤ i → (n ≡ m) ⊎ Behind m n → StartsFrom files Behind (i + 1) room (drop i (texts words)) m n
unfolding StartsFrom
behind-from files Behind i room words m n le h =
    let size = length-map words string_bytes in
    let none : drop i (texts words) ≡ [] = drop_all i (texts words) (omega arith) in
    rw none h

pub lead-end : (told : Option Files) (catalogue : Option (List ℕ)) (limit i room : ℕ) (words : List (String Global)) (b m : Option ℕ) → length words ≤ i → IfSome told (λ files. StartsLead files catalogue limit words i room b m)
    → IfSome told (λ files. StartsTables files limit catalogue (texts words) b m)
lead-end None catalogue limit i room words b m le h = tt
lead-end (Some files) catalogue limit i room words b m le h = h m (behind-from files (StartsBehind files (map name_in (texts words)) catalogue) i room words m m le (inl refl))

pub lead-catalogue : (now-told told : Option Files) (catalogue : Option (List ℕ)) (path : List ℕ) (limit i room : ℕ) (words : List (String Global)) (tables : List Named) (b m n : Option ℕ) → length words ≤ i
    → map table_name tables ≡ map name_in (texts (take i words)) → catalogue ≡ Some path → now-told ≡ told
    → IfSome now-told (λ files. IsRefused (entries_taken files (map table_name tables) path) → n ≡ one_more m)
    → IfSome told (λ files. StartsLead files catalogue limit words i room b m) → IfSome told (λ files. StartsTables files limit catalogue (texts words) b n)
lead-catalogue now-told None catalogue path limit i room words tables b m n le names c e s h = tt
lead-catalogue now-told (Some files) catalogue path limit i room words tables b m n le names c e s h =
    let here : IsRefused (entries_taken files (map table_name tables) path) → n ≡ one_more m =
    subst (λ (o : Option Files). IfSome o (λ files. IsRefused (entries_taken files (map table_name tables) path) → n ≡ one_more m)) e s in
    let over : IsRefused (entries_taken files (map name_in (texts words)) path) → n ≡ one_more m =
    subst (λ (ns : List (List ℕ)). IsRefused (entries_taken files ns path) → n ≡ one_more m) (all-names words i tables le names) here in
    let behind : StartsBehind files (map name_in (texts words)) catalogue m n = subst (λ (o : Option (List ℕ)). StartsBehind files (map name_in (texts words)) o m n) (sym c) over in
    h n (behind-from files (StartsBehind files (map name_in (texts words)) catalogue) i room words m n le (inr behind))

-- Of a query.

none-from : (files : Files) (Behind : Option ℕ → Option ℕ → Type 0) (number room : ℕ) (words : List (List ℕ)) (b n : Option ℕ) → n ≡ b → StartsFrom files Behind number room words b n
unfolding StartsFrom
none-from files Behind number room [] b n e = inl e
none-from files Behind number room (w ∷ ws) b n e = inl e

-- no file of its tables
pub none-start : (told : Option Files) (limit : ℕ) (catalogue : Option (List ℕ)) (words : List (List ℕ)) (b n : Option ℕ) → n ≡ b → IfSome told (λ files. StartsTables files limit catalogue words b n)
none-start None limit catalogue words b n e = tt
none-start (Some files) limit catalogue words b n e = none-from files (StartsBehind files (map name_in words) catalogue) 1 limit words b n e

-- its own file alone
pub query-start : (told : Option Files) (words : List (List ℕ)) (asked : Asked) (b n : Option ℕ) → n ≡ one_more b → IfSome told (λ files. StartsOf words files asked b n)
query-start None words asked b n e = tt
query-start (Some files) words asked b n e = record {
  own = λ fault. e;
  tables = none-from files (StartsBehind files (map name_in (table_words words asked)) (catalogue_path words asked)) 1 asked.options.limit (table_words words asked) (one_more b) n e;
}

-- and those of its tables
pub tables-start : (told now-told : Option Files) (words rest : List (String Global)) (asked : Asked) (catalogue : Option (List ℕ)) (b m n : Option ℕ) → rest ≡ take (length words - (asked.query + 1)) (drop (asked.query + 1) words)
    → catalogue ≡ catalogue_path (texts words) asked → now-told ≡ told → m ≡ one_more b → IfSome told (λ files. HasOwnFault (texts words) files asked → n ≡ one_more b)
    → IfSome now-told (λ files. StartsTables files asked.options.limit catalogue (texts rest) m n) → IfSome told (λ files. StartsOf (texts words) files asked b n)
tables-start None now-told words rest asked catalogue b m n w c e s own h = tt
tables-start (Some files) now-told words rest asked catalogue b m n w c e s own h =
    let here : StartsTables files asked.options.limit catalogue (texts rest) m n = subst (λ (o : Option Files). IfSome o (λ files. StartsTables files asked.options.limit catalogue (texts rest) m n)) e h in
    let named = subst (λ (o : Option (List ℕ)). StartsTables files asked.options.limit o (texts rest) m n) c here in
    let behind = subst (λ (ws : List (List ℕ)). StartsTables files asked.options.limit (catalogue_path (texts words) asked) ws m n) (texts-rest words rest (asked.query + 1) w) named in
    record { own = own; tables = subst (λ (x : Option ℕ). StartsTables files asked.options.limit (catalogue_path (texts words) asked) (table_words (texts words) asked) x n) s behind }
