-- The entries of a catalogue file.
use Rattle.std.proofs.Common.{◌≡◌, ◌≤◌, ◌<◌, ◌+◌, ◌∙◌, ℕ, true, false, not, List, [], ◌∷◌, ◌++◌, length, map, get_or, refl, ap, sym, arith, inl, inr, ◌<◌, ◌≢◌}
use Rattle.std.specs.Prelude.{Option, Some, None, IsErrAnd, IfSome, Result, Ok, Err, nat_le, nat_lt}
use Rattle.std.specs.List.{list_any}
use Rattle.std.specs.Str.{bytes_eq}
use Rattle.std.proofs.lemmas.Bool.{cases_Bool}
use Rattle.std.proofs.lemmas.Bool.Decides.{nat_tests}
use Rattle.std.proofs.lemmas.List.{get_or-map, length-map}
use Rattle.std.proofs.lemmas.List.Folds.{list_any_at}
use Rattle.std.proofs.lemmas.Slice.Eq.{bytes_eq-Decides}
use Rattle.catalogue_file.specs.Catalogue.{catalogue_of}
use Rattle.catalogue_file.specs.declared.entry.Entry.{Entry}
use Rattle.kql_cells.specs.Catalogues.{Named, table_name}
use Rattle.kql_cells.specs.Named.{IsAbsent}
use Rattle.kql_words.specs.Command.{tables_top}
use Rattle.kql_words.specs.Refusals.{Answer, ◌>>=◌}
use Rattle.kql_words.specs.declared.refusal.Refusal.TheVariants.{Data}
use Rattle.catalogue_tables.specs.Computes.{Computes, Gives}
use Rattle.catalogue_tables.specs.Entries.{AreClean, bytes_top, entries_checked, entries_read, entry_code, files_top, has_name, is_table_name, read_as}
use Rattle.catalogue_tables.specs.Files.{Files, file_within}
use Rattle.catalogue_tables.specs.declared.stop.CatalogueStop.{CatalogueStop}
use Rattle.catalogue_tables.proofs.AnswerFacts.{computes, goes_on, raised, stops}

-- the catalogue file can't be had
pub entries-unread : (told : Option Files) (number : ℕ) (path : List ℕ) (s : CatalogueStop) (r : Result (List Entry) CatalogueStop)
    → IfSome told (λ files. Computes (file_within files number 314 bytes_top path) (Err s)) → IsErrAnd r (λ e. e ≡ s)
    → IfSome told (λ files. Computes (entries_read files number path) r)
unfolding entries_read
entries-unread None number path s r h i = tt
entries-unread (Some files) number path s r h i =
    raised (entries_read files number path) r s i (stops (file_within files number 314 bytes_top path) (λ bytes. read_as number (catalogue_of bytes)) s h)

-- the entries in its bytes
pub entries-there : (told : Option Files) (number : ℕ) (path bytes text : List ℕ) (r : Result (List Entry) CatalogueStop)
    → IfSome told (λ files. file_within files number 314 bytes_top path ≡ Ok bytes) → text ≡ bytes → Gives (read_as number (catalogue_of text)) r
    → IfSome told (λ files. Computes (entries_read files number path) r)
unfolding entries_read
entries-there None number path bytes text r h e g = tt
entries-there (Some files) number path bytes text r h e g =
    goes_on (file_within files number 314 bytes_top path) (λ bytes. read_as number (catalogue_of bytes)) bytes r h (computes (read_as number (catalogue_of bytes)) r (rw e at g))

-- what an entry without a fault is
pub record IsClean (names : List (List ℕ)) (count : ℕ) (e : Entry) : Type 0 where
  pub fresh : has_name names e.name ≡ false
  pub tables : length names < 64
  pub files : count + length e.files ≤ 256

pub clean : (names : List (List ℕ)) (count : ℕ) (e : Entry) → entry_code names count e ≡ None → IsClean names count e
unfolding entry_code
clean names count e h = elim (cases_Bool (not (is_table_name e.name))) [
  | inl a ↦ cc (rw a at h)
  | inr a ↦ elim (cases_Bool (has_name names e.name)) [
    | inl b ↦ cc (rw (a, b) at h)
    | inr b ↦ elim (cases_Bool (nat_le tables_top (length names))) [
      | inl c ↦ cc (rw (a, b, c) at h)
      | inr c ↦ elim (cases_Bool (nat_lt files_top (count + length e.files))) [
        | inl d ↦ cc (rw (a, b, c, d) at h)
        | inr d ↦ record { fresh = b; tables = grind (arith, nat_tests); files = grind (arith, nat_tests) }
      ]
    ]
  ]
]

-- no table has the name
pub absent : (tables : List Named) (name : List ℕ) → has_name (map table_name tables) name ≡ false → IsAbsent table_name name tables
absent tables name e k d lt same =
    let size = length-map tables table_name in
    let within : k < length (map table_name tables) = omega arith in
    let here : get_or (map table_name tables) k [] ≡ name = get_or-map table_name tables k d [] lt ∙ same in
    let found = list_any_at (λ other. bytes_eq other name) (map table_name tables) k [] within ((bytes_eq-Decides (get_or (map table_name tables) k []) name).1 here) in
    cc

-- entries without faults
pub first-clean : (names : List (List ℕ)) (count : ℕ) (e : Entry) (es all : List Entry) → all ≡ e ∷ es → AreClean names count all → entry_code names count e ≡ None
unfolding AreClean
first-clean names count e es all i h = (rw i at h).0

pub others-clean : (names more : List (List ℕ)) (count : ℕ) (e : Entry) (es all : List Entry) → all ≡ e ∷ es → more ≡ names ++ e.name ∷ [] → AreClean names count all → AreClean more (count + length e.files) es
unfolding AreClean
others-clean names more count e es all i n h = rw n (rw i at h).1

-- an entry more
pub checked-next : (number at count : ℕ) (names more : List (List ℕ)) (e : Entry) (es all : List Entry) (answer : Answer (Unit {0})) → all ≡ e ∷ es → more ≡ names ++ e.name ∷ [] → entry_code names count e ≡ None
    → entries_checked number at names count all ≡ answer → entries_checked number (at + 1) more (count + length e.files) es ≡ answer
unfolding entries_checked
checked-next number at count names more e es all answer i n c h = rw n (rw (i, c) at h)

-- one with a fault
pub checked-stop : (number at count code : ℕ) (names : List (List ℕ)) (e : Entry) (es all : List Entry) (answer : Answer (Unit {0})) → all ≡ e ∷ es → entry_code names count e ≡ Some code
    → entries_checked number at names count all ≡ answer → answer ≡ Err (Data number code at 0)
unfolding entries_checked
checked-stop number at count code names e es all answer i c h = sym (rw (i, c) at h)

-- and no other
pub checked-end : (number at count : ℕ) (names : List (List ℕ)) (all : List Entry) (answer : Answer (Unit {0})) → length all ≡ 0
    → entries_checked number at names count all ≡ answer → answer ≡ Ok (tt {0})
unfolding entries_checked
checked-end number at count names [] answer n h = sym h
checked-end number at count names (e ∷ es) answer n h = absurd (omega arith)

pub clean-end : (names : List (List ℕ)) (count : ℕ) (all : List Entry) → length all ≡ 0 → AreClean names count all
unfolding AreClean
clean-end names count [] n = tt
clean-end names count (e ∷ es) n = absurd (omega arith)

pub clean-next : (names more : List (List ℕ)) (count : ℕ) (e : Entry) (es all : List Entry) → all ≡ e ∷ es → more ≡ names ++ e.name ∷ [] → entry_code names count e ≡ None
    → AreClean more (count + length e.files) es → AreClean names count all
unfolding AreClean
clean-next names more count e es all i n c h = rw i (c, rw n at h)
