-- The tables of entries, one after another.
use Rattle.std.proofs.Common.{◌≡◌, ◌≤◌, ◌+◌, ◌∙◌, ℕ, List, [], ◌∷◌, ◌++◌, length, map, refl, ap, sym, subst, append_assoc, arith}
use Rattle.std.specs.Prelude.{Option, Some, None, IsErrAnd, IfSome, Result, Ok, Err}
use Rattle.std.proofs.lemmas.List.{append-nil, length-map}
use Rattle.catalogue_file.specs.declared.entry.Entry.{Entry}
use Rattle.kql_cells.specs.Catalogues.{Named, table_name}
use Rattle.kql_cells.specs.Table.{Grid}
use Rattle.kql_outside.specs.Calls.{one_more}
use Rattle.kql_values.specs.Kept.{all_named, named_of}
use Rattle.kql_values.specs.declared.catalogue.Named as kept_named
use Rattle.kql_words.specs.Refusals.{Answer, ◌>>=◌}
use Rattle.catalogue_tables.specs.Computes.{Computes, Gives, IsRefused}
use Rattle.catalogue_tables.specs.Entries.{entries_checked, entries_read, entries_taken}
use Rattle.catalogue_tables.specs.Files.{Files}
use Rattle.catalogue_tables.specs.Tables.{AddsEntry, Part, after, catalogue_tables, entries_tables, entry_part, named_as, with_first}
use Rattle.catalogue_tables.specs.declared.stop.CatalogueStop.{CatalogueStop}
use Rattle.catalogue_tables.proofs.AnswerFacts.{computes, computes-along, goes_on, raised, stops}

-- one more table, behind those before it
after-first : (before : List Named) (x : Named) (rest : Answer (List Named)) → after before (with_first x rest) ≡ after (before ++ x ∷ []) rest
after-first before x (Ok xs) = ap Ok (sym (append_assoc before (x ∷ []) xs))
after-first before x (Err r) = refl

-- an entry more
next-of : (files : Files) (count room left : ℕ) (e : Entry) (es all : List Entry) (before now : List Named) (answer : Answer (List Named)) → all ≡ e ∷ es
    → AddsEntry files count room e before now (Ok left) → after before (entries_tables files count room all) ≡ answer
    → after now (entries_tables files (count + length e.files) left es) ≡ answer
unfolding entries_tables
next-of files count room left e es all before now answer i (grid, read, new) h =
    let step : after before (with_first (named_as e.name grid) (entries_tables files (count + length e.files) left es)) ≡ answer = rw (i, read) at h in
    rw (new, ← after-first before (named_as e.name grid) (entries_tables files (count + length e.files) left es)) step

pub entries-next : (now-told told : Option Files) (count room left : ℕ) (e : Entry) (es all : List Entry) (before now : List Named) (answer : Files → Answer (List Named)) → all ≡ e ∷ es
    → now-told ≡ told → IfSome now-told (λ files. AddsEntry files count room e before now (Ok left)) → IfSome told (λ files. after before (entries_tables files count room all) ≡ answer files)
    → IfSome told (λ files. after now (entries_tables files (count + length e.files) left es) ≡ answer files)
entries-next now-told None count room left e es all before now answer i t a h = tt
entries-next now-told (Some files) count room left e es all before now answer i t a h = next-of files count room left e es all before now (answer files) i (rw t at a) h

-- one that can't be had
stop-of : (files : Files) (count room : ℕ) (e : Entry) (es all : List Entry) (before : List Named) (answer : Answer (List Named)) (s : CatalogueStop) (r : Result (List Named) CatalogueStop) → all ≡ e ∷ es
    → Computes (entry_part files count room e) (Err s) → after before (entries_tables files count room all) ≡ answer → IsErrAnd r (λ x. x ≡ s) → Computes answer r
unfolding entries_tables
stop-of files count room e es all before answer s r i a h q =
    let rest : Part → Answer (List Named) = λ read. with_first (named_as e.name read.0) (entries_tables files (count + length e.files) read.1 es) in
    let same : after before (entry_part files count room e >>= rest) ≡ answer = rw i at h in
    raised answer r s q (computes-along (after before (entry_part files count room e >>= rest)) answer (Err s) same
    (stops (entry_part files count room e >>= rest) (λ more. Ok (before ++ more)) s (stops (entry_part files count room e) rest s a)))

pub entries-stop : (now-told told : Option Files) (count room : ℕ) (e : Entry) (es all : List Entry) (before now : List Named) (answer : Files → Answer (List Named)) (s : CatalogueStop) (r : Result (List Named) CatalogueStop) → all ≡ e ∷ es
    → now-told ≡ told → IfSome now-told (λ files. AddsEntry files count room e before now (Err s)) → IfSome told (λ files. after before (entries_tables files count room all) ≡ answer files) → IsErrAnd r (λ x. x ≡ s)
    → IfSome told (λ files. Computes (answer files) r)
entries-stop now-told None count room e es all before now answer s r i t a h q = tt
entries-stop now-told (Some files) count room e es all before now answer s r i t a h q = stop-of files count room e es all before (answer files) s r i (rw t at a) h q

-- and no other
end-of : (files : Files) (count room : ℕ) (all : List Entry) (tables : List Named) (answer : Answer (List Named)) → length all ≡ 0 → after tables (entries_tables files count room all) ≡ answer → answer ≡ Ok tables
unfolding entries_tables
end-of files count room [] tables answer n h = sym h ∙ ap Ok (append-nil tables)
end-of files count room (e ∷ es) tables answer n h = absurd (omega arith)

pub entries-end : (told : Option Files) (count room : ℕ) (all : List Entry) (tables : List Named) (answer : Files → Answer (List Named)) → length all ≡ 0
    → IfSome told (λ files. after tables (entries_tables files count room all) ≡ answer files) → IfSome told (λ files. answer files ≡ Ok tables)
entries-end None count room all tables answer n h = tt
entries-end (Some files) count room all tables answer n h = end-of files count room all tables (answer files) n h

-- The whole.

abbrev behind : Files → List (List ℕ) → ℕ → List Entry → Answer (List Named)
behind files names room entries = entries_checked (length names + 1) 1 names (length names) entries >>= λ _. entries_tables files (length names) room entries

abbrev adding : List Named → List Named → Answer (List Named)
adding tables more = Ok (tables ++ more)

-- the entries can't be had
pub whole-unread : (told : Option Files) (names : List (List ℕ)) (number room : ℕ) (path : List ℕ) (tables : List Named) (s : CatalogueStop) (r : Result (List Named) CatalogueStop) → number ≡ length names + 1
    → IfSome told (λ files. Computes (entries_read files number path) (Err s)) → IsErrAnd r (λ x. x ≡ s)
    → IfSome told (λ files. Computes (after tables (catalogue_tables files names room path)) r)
unfolding catalogue_tables
whole-unread None names number room path tables s r n h q = tt
whole-unread (Some files) names number room path tables s r n h q =
    let here : Computes (entries_read files (length names + 1) path) (Err s) = subst (λ (k : ℕ). Computes (entries_read files k path) (Err s)) n h in
    raised (after tables (catalogue_tables files names room path)) r s q
    (stops (catalogue_tables files names room path) (adding tables) s (stops (entries_read files (length names + 1) path) (behind files names room) s here))

-- one of them is refused
pub whole-refused : (told : Option Files) (names listed : List (List ℕ)) (number room : ℕ) (path : List ℕ) (entries all : List Entry) (tables : List Named) (s : CatalogueStop) (r : Result (List Named) CatalogueStop) → number ≡ length names + 1 → listed ≡ names
    → IfSome told (λ files. entries_read files number path ≡ Ok entries) → all ≡ entries → Gives (entries_checked number 1 listed (length listed) all) (Err s) → IsErrAnd r (λ x. x ≡ s)
    → IfSome told (λ files. Computes (after tables (catalogue_tables files names room path)) r)
unfolding catalogue_tables
whole-refused None names listed number room path entries all tables s r n l h i g q = tt
whole-refused (Some files) names listed number room path entries all tables s r n l h i g q =
    let here : entries_read files (length names + 1) path ≡ Ok entries = rw n at h in
    let first : Gives (entries_checked (length names + 1) 1 listed (length listed) all) (Err s) = subst (λ (k : ℕ). Gives (entries_checked k 1 listed (length listed) all) (Err s)) n g in
    let second : Gives (entries_checked (length names + 1) 1 names (length names) all) (Err s) = subst (λ (ns : List (List ℕ)). Gives (entries_checked (length names + 1) 1 ns (length ns) all) (Err s)) l first in
    let checked : Gives (entries_checked (length names + 1) 1 names (length names) entries) (Err s) = subst (λ (es : List Entry). Gives (entries_checked (length names + 1) 1 names (length names) es) (Err s)) i second in
    let inner = stops (entries_checked (length names + 1) 1 names (length names) entries) (λ _. entries_tables files (length names) room entries) s (computes (entries_checked (length names + 1) 1 names (length names) entries) (Err s) checked) in
    raised (after tables (catalogue_tables files names room path)) r s q
    (stops (catalogue_tables files names room path) (adding tables) s (goes_on (entries_read files (length names + 1) path) (behind files names room) entries (Err s) here inner))

-- their tables
pub whole-there : (now-told told : Option Files) (names listed : List (List ℕ)) (number count room : ℕ) (path : List ℕ) (entries all again : List Entry) (tables : List Named) (x : Unit {0}) (r : Result (List Named) CatalogueStop) → number ≡ length names + 1 → count ≡ length names → listed ≡ names
    → IfSome told (λ files. entries_read files number path ≡ Ok entries) → all ≡ entries → again ≡ entries → entries_checked number 1 listed (length listed) all ≡ Ok x → now-told ≡ told
    → IfSome now-told (λ files. Computes (after tables (entries_tables files count room again)) r)
    → IfSome told (λ files. Computes (after tables (catalogue_tables files names room path)) r)
unfolding catalogue_tables
whole-there now-told None names listed number count room path entries all again tables x r n c l h i j g t a = tt
whole-there now-told (Some files) names listed number count room path entries all again tables x r n c l h i j g t a =
    let here : entries_read files (length names + 1) path ≡ Ok entries = rw n at h in
    let first : entries_checked (length names + 1) 1 listed (length listed) all ≡ Ok x = subst (λ (k : ℕ). entries_checked k 1 listed (length listed) all ≡ Ok x) n g in
    let second : entries_checked (length names + 1) 1 names (length names) all ≡ Ok x = subst (λ (ns : List (List ℕ)). entries_checked (length names + 1) 1 ns (length ns) all ≡ Ok x) l first in
    let checked : entries_checked (length names + 1) 1 names (length names) entries ≡ Ok x = subst (λ (es : List Entry). entries_checked (length names + 1) 1 names (length names) es ≡ Ok x) i second in
    let same : catalogue_tables files names room path ≡ entries_tables files (length names) room entries = rw (here, checked) refl in
    let over : IfSome (Some files) (λ files. Computes (after tables (entries_tables files count room again)) r) = subst (λ (o : Option Files). IfSome o (λ files. Computes (after tables (entries_tables files count room again)) r)) t a in
    let there : Computes (after tables (entries_tables files (length names) room entries)) r = subst (λ (es : List Entry). Computes (after tables (entries_tables files (length names) room es)) r) j
    (subst (λ (k : ℕ). Computes (after tables (entries_tables files k room again)) r) c over) in
    computes-along (after tables (entries_tables files (length names) room entries)) (after tables (catalogue_tables files names room path)) r (ap (after tables) (sym same)) there

-- how many tables there are
pub counted : (kept : List kept_named.Named) (tables : List Named) → all_named kept ≡ tables → length kept ≡ length (map table_name tables)
counted kept tables e =
    let outer = length-map tables table_name in
    let inner = length-map kept named_of in
    let same : length (all_named kept) ≡ length tables = ap length e in
    omega arith

-- Files that are started.

-- entries that are read and have no fault are not refused
pub taken : (told : Option Files) (names listed : List (List ℕ)) (number : ℕ) (path : List ℕ) (entries all : List Entry) (x : Unit {0}) (before now : Option ℕ) → number ≡ length names + 1 → listed ≡ names
    → IfSome told (λ files. entries_read files number path ≡ Ok entries) → all ≡ entries → entries_checked number 1 listed (length listed) all ≡ Ok x
    → IfSome told (λ files. IsRefused (entries_taken files names path) → now ≡ one_more before)
taken None names listed number path entries all x before now n l h i g = tt
taken (Some files) names listed number path entries all x before now n l h i g =
    let here : entries_read files (length names + 1) path ≡ Ok entries = rw n at h in
    let first : entries_checked (length names + 1) 1 listed (length listed) all ≡ Ok x = subst (λ (k : ℕ). entries_checked k 1 listed (length listed) all ≡ Ok x) n g in
    let second : entries_checked (length names + 1) 1 names (length names) all ≡ Ok x = subst (λ (ns : List (List ℕ)). entries_checked (length names + 1) 1 ns (length ns) all ≡ Ok x) l first in
    let checked : entries_checked (length names + 1) 1 names (length names) entries ≡ Ok x = subst (λ (es : List Entry). entries_checked (length names + 1) 1 names (length names) es ≡ Ok x) i second in
    let none : entries_taken files names path ≡ Ok x = rw here checked in
    λ refused. absurd (rw none at refused)

pub told-start : (told : Option Files) (names : List (List ℕ)) (path : List ℕ) (before now : Option ℕ) → now ≡ one_more before → IfSome told (λ files. IsRefused (entries_taken files names path) → now ≡ one_more before)
told-start None names path before now e = tt
told-start (Some files) names path before now e = λ refused. e
