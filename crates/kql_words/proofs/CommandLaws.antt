-- One more word of the command.
use Rattle.std.proofs.Common.{◌≡◌, ◌<◌, ◌+◌, ◌∙◌, ℕ, suc, get_or, List, [], ◌∷◌, ◌++◌, length, map, take, drop, refl, ap, sym, arith, drop-cons}
use Rattle.std.specs.Prelude.{Ok, Err, String, string_bytes}
use Rattle.std.specs.Global.{Global}
use Rattle.std.proofs.lemmas.List.{get_or-map, length-map, map-append, take_more}
use Rattle.kql_words.specs.Command.{name_in, table_faults, tables_faults, texts}
use Rattle.kql_words.specs.Refusals.{Answer, unless}
use Rattle.kql_words.specs.declared.refusal.Refusal.{Refusal}

-- the name in a word of the command
pub name-at : (words : List (String Global)) (i : ℕ) (d : String Global) → i < length words → get_or (map name_in (texts words)) i [] ≡ name_in (string_bytes (get_or words i d))
name-at words i d lt =
    let size = length-map words string_bytes in
    let within : i < length (texts words) = omega arith in
    get_or-map name_in (texts words) i [] [] within ∙ ap name_in (get_or-map string_bytes words i d [] lt)

-- no fault in the first part
pub unless-none : {X : Type 0} (a b : List Refusal) (x y : X) → unless a y ≡ Ok y → unless (a ++ b) x ≡ unless b x
unless-none [] b x y e = refl
unless-none (r ∷ rs) b x y e = cc

-- a fault in the first part
pub unless-some : {X Y : Type 0} (a b : List Refusal) (x : X) (y : Y) (r : Refusal) → unless a y ≡ Err r → unless (a ++ b) x ≡ Err r
unless-some [] b x y r e = cc
unless-some (q ∷ qs) b x y r e = cc

-- the words from a place on
pub words-at : (words : List (String Global)) (i : ℕ) (d : String Global) → i < length words → drop i (texts words) ≡ string_bytes (get_or words i d) ∷ drop (i + 1) (texts words)
words-at words i d lt =
    let size = length-map words string_bytes in
    let within : i < length (texts words) = omega arith in
    let next : suc i ≡ i + 1 = omega arith in
    let head : get_or (texts words) i [] ≡ string_bytes (get_or words i d) = get_or-map string_bytes words i d [] lt in
    rw (drop-cons (texts words) i [], head, next) refl

-- the names of the words before the next place
pub names-more : (words : List (String Global)) (i : ℕ) (d : String Global) → i < length words
    → map name_in (texts (take (i + 1) words)) ≡ map name_in (texts (take i words)) ++ name_in (string_bytes (get_or words i d)) ∷ []
names-more words i d lt = rw (take_more words i d lt, map-append string_bytes (take i words) (get_or words i d ∷ []), map-append name_in (texts (take i words)) (string_bytes (get_or words i d) ∷ [])) refl

faults-here : (words : List (String Global)) (first i : ℕ) (d : String Global) → i < length words
    → tables_faults (i + first) (map name_in (texts (take i words))) (drop i (texts words))
    ≡ table_faults (i + first) (map name_in (texts (take i words))) (string_bytes (get_or words i d)) ++ tables_faults (i + 1 + first) (map name_in (texts (take (i + 1) words))) (drop (i + 1) (texts words))
faults-here words first i d lt =
    let next : i + first + 1 ≡ i + 1 + first = omega arith in
    rw (words-at words i d lt, names-more words i d lt, next) refl

-- a word without a fault
pub check-next : (words : List (String Global)) (first i : ℕ) (d : String Global) (word : List ℕ) (all : Answer (Unit {0})) → i < length words → word ≡ string_bytes (get_or words i d)
    → Ok tt ≡ unless (table_faults (i + first) (map name_in (texts (take i words))) word) (tt {0})
    → unless (tables_faults (i + first) (map name_in (texts (take i words))) (drop i (texts words))) (tt {0}) ≡ all
    → unless (tables_faults (i + 1 + first) (map name_in (texts (take (i + 1) words))) (drop (i + 1) (texts words))) (tt {0}) ≡ all
check-next words first i d word all lt w e h =
    sym (unless-none (table_faults (i + first) (map name_in (texts (take i words))) (string_bytes (get_or words i d))) _ (tt {0}) (tt {0}) (sym (rw w at e))) ∙ (rw (← faults-here words first i d lt) h)

-- the first word with a fault
pub check-fault : (words : List (String Global)) (first i : ℕ) (d : String Global) (word : List ℕ) (r : Refusal) (all : Answer (Unit {0})) → i < length words → word ≡ string_bytes (get_or words i d)
    → Err r ≡ unless (table_faults (i + first) (map name_in (texts (take i words))) word) (tt {0})
    → unless (tables_faults (i + first) (map name_in (texts (take i words))) (drop i (texts words))) (tt {0}) ≡ all
    → Err r ≡ all
check-fault words first i d word r all lt w e h =
    sym (unless-some (table_faults (i + first) (map name_in (texts (take i words))) (string_bytes (get_or words i d))) (tables_faults (i + 1 + first) (map name_in (texts (take (i + 1) words))) (drop (i + 1) (texts words))) (tt {0}) (tt {0}) r (sym (rw w at e))) ∙ (rw (← faults-here words first i d lt) h)
