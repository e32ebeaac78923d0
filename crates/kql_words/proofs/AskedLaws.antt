-- The words behind `run`, `plain` and `explain`.
use Rattle.std.proofs.Common.{◌≡◌, ◌+◌, ◌-◌, ◌∙◌, ℕ, Bool, true, false, List, [], ◌∷◌, ◌++◌, length, drop, take, refl, ap, sym, arith}
use Rattle.std.specs.Prelude.{Ok, Err, String, string_bytes, nat_le, if◌then◌else◌}
use Rattle.std.specs.List.{list_any}
use Rattle.std.specs.Str.{bytes_eq}
use Rattle.std.specs.Global.{Global}
use Rattle.std.proofs.lemmas.List.{drop-map, length-drop, take_all}
use Rattle.kql_words.specs.Command.{AreTables, name_in, names_table, asked_of, table_faults, tables_faults, tables_top, texts}
use Rattle.kql_words.specs.Options.{asked_from, no_options}
use Rattle.kql_words.specs.Refusals.{unless}
use Rattle.kql_words.specs.declared.command.Asked.{Asked}
use Rattle.kql_words.specs.declared.refusal.Refusal.{Refusal}
use Rattle.kql_words.specs.declared.refusal.Refusal.TheVariants.{Usage}
use Rattle.kql_words.proofs.UnlessFacts.{unless-err, unless-ok}

-- the words from a place on
pub rest-of : (words : List (String Global)) (n : ℕ) → take (length words - n) (drop n words) ≡ drop n words
rest-of words n =
    let size = length-drop n words in
    take_all (length words - n) (drop n words) (omega arith)

pub texts-rest : (words rest : List (String Global)) (n : ℕ) → rest ≡ take (length words - n) (drop n words) → texts rest ≡ drop n (texts words)
texts-rest words rest n e = ap texts (e ∙ rest-of words n) ∙ sym (drop-map string_bytes n words)

-- what the words from a place on say, whatever the number of the first
no-faults : {X : Type 0} (faults : List Refusal) (x y : X) → Ok y ≡ unless faults x → faults ≡ []
no-faults [] x y e = refl
no-faults (r ∷ rs) x y e = cc

pub both-empty : {X : Type 0} (a b : List X) → a ++ b ≡ [] → (a ≡ []) × (b ≡ [])
both-empty [] b e = (refl, e)
both-empty (x ∷ xs) b e = cc

word-numbered : (m n : ℕ) (names : List (List ℕ)) (word : List ℕ) → table_faults m names word ≡ [] → table_faults n names word ≡ []
word-numbered m n names word e = by-tests (names_table word) (list_any (bytes_eq (name_in word)) names) (nat_le tables_top (length names)) e
  where
    faults : ℕ → Bool → Bool → Bool → List Refusal
    faults k a b c = if a then (if b then Usage k 608 ∷ [] else if c then Usage k 610 ∷ [] else []) else Usage k 607 ∷ []

    by-tests : (a b c : Bool) → faults m a b c ≡ [] → faults n a b c ≡ []
    by-tests false b c e = cc e
    by-tests true true c e = cc e
    by-tests true false true e = cc e
    by-tests true false false e = refl

numbered : (m n : ℕ) (names words : List (List ℕ)) → tables_faults m names words ≡ [] → tables_faults n names words ≡ []
numbered m n names [] e = refl
numbered m n names (word ∷ words) e =
    let parts = both-empty (table_faults m names word) (tables_faults (m + 1) (names ++ name_in word ∷ []) words) e in
    rw (word-numbered m n names word parts.0, numbered (m + 1) (n + 1) (names ++ name_in word ∷ []) words parts.1) refl

pub asked-ok : (types : Bool) (words rest : List (String Global)) (c : Asked) (x : Unit {0}) → Ok c ≡ asked_from types 1 no_options (texts words) → rest ≡ take (length words - c.query) (drop c.query words)
    → Ok x ≡ unless (tables_faults (c.query + 1) [] (texts rest)) (tt {0}) → Ok c ≡ asked_of types (texts words)
unfolding asked_of
asked-ok types words rest c x e r h =
    rw (← e, ← texts-rest words rest c.query r) (sym (unless-ok (tables_faults (c.query + 1) [] (texts rest)) c x h))

pub asked-tables : (words rest : List (String Global)) (c : Asked) (x : Unit {0}) → rest ≡ take (length words - c.query) (drop c.query words)
    → Ok x ≡ unless (tables_faults (c.query + 1) [] (texts rest)) (tt {0}) → AreTables (texts (drop c.query words))
asked-tables words rest c x r h =
    numbered (c.query + 1) 0 [] (texts (drop c.query words)) (rw (← rest-of words c.query, ← r) (no-faults (tables_faults (c.query + 1) [] (texts rest)) (tt {0}) x h))

pub asked-err : (types : Bool) (words rest : List (String Global)) (c : Asked) (r : Refusal) → Ok c ≡ asked_from types 1 no_options (texts words) → rest ≡ take (length words - c.query) (drop c.query words)
    → Err r ≡ unless (tables_faults (c.query + 1) [] (texts rest)) (tt {0}) → asked_of types (texts words) ≡ Err r
unfolding asked_of
asked-err types words rest c r e s h =
    rw (← e, ← texts-rest words rest c.query s) (unless-err (tables_faults (c.query + 1) [] (texts rest)) c (tt {0}) r h)
