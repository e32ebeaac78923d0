-- The words behind QUERY.
use Rattle.std.proofs.Common.{◌≡◌, ◌+◌, ◌-◌, ◌∙◌, ℕ, Bool, true, false, List, [], ◌∷◌, ◌++◌, length, drop, take, refl, ap, sym, subst}
use Rattle.std.specs.Prelude.{Ok, Err, String, string_bytes, nat_le, if◌then◌else◌}
use Rattle.std.specs.Global.{Global}
use Rattle.kql_words.specs.Command.{names_table, texts}
use Rattle.kql_words.specs.Refusals.{Answer, ◌>>=◌, unless}
use Rattle.kql_words.specs.declared.refusal.Refusal.{Refusal}
use Rattle.kql_words.specs.declared.refusal.Refusal.TheVariants.{Usage}
use Rattle.kql_words.proofs.AskedLaws.{both-empty, rest-of, texts-rest}
use Rattle.kql_words.proofs.CommandLaws.{unless-none, unless-some}
use Rattle.kql_words.proofs.UnlessFacts.{unless-err, unless-ok}
use Rattle.live_words.specs.LiveOptionWords.{live_from, no_live_options}
use Rattle.live_words.specs.LiveWords.{AreLivePaths, further_faults, live_asked, live_faults, path_fault, paths_top, table_fault}
use Rattle.live_words.specs.declared.command.LiveAsked.{LiveAsked}

-- a path without a fault
pub path-next : (left more : List (String Global)) (path : String Global) (number before : ℕ) (word : List ℕ) (x : Unit {0}) (all : Answer (Unit {0}))
    → left ≡ path ∷ more → word ≡ string_bytes path → Ok x ≡ unless (path_fault number before word) (tt {0})
    → unless (further_faults number before (texts left)) (tt {0}) ≡ all → unless (further_faults (number + 1) (before + 1) (texts more)) (tt {0}) ≡ all
path-next left more path number before word x all is same fine h =
    let here : unless (path_fault number before (string_bytes path)) (tt {0}) ≡ Ok tt = sym (rw same at fine) in
    sym (unless-none (path_fault number before (string_bytes path)) (further_faults (number + 1) (before + 1) (texts more)) (tt {0}) (tt {0}) here) ∙ (rw is at h)

-- the first path with a fault
pub path-refused : (left more : List (String Global)) (path : String Global) (number before : ℕ) (word : List ℕ) (r : Refusal) (all : Answer (Unit {0}))
    → left ≡ path ∷ more → word ≡ string_bytes path → Err r ≡ unless (path_fault number before word) (tt {0})
    → unless (further_faults number before (texts left)) (tt {0}) ≡ all → all ≡ Err r
path-refused left more path number before word r all is same fault h =
    let here : unless (path_fault number before (string_bytes path)) (tt {0}) ≡ Err r = sym (rw same at fault) in
    sym (rw is at h) ∙ unless-some (path_fault number before (string_bytes path)) (further_faults (number + 1) (before + 1) (texts more)) (tt {0}) (tt {0}) r here

-- what the words say, whatever the number of the first
path-numbered : (m n before : ℕ) (path : List ℕ) → path_fault m before path ≡ [] → path_fault n before path ≡ []
path-numbered m n before [] e = by-test (nat_le paths_top before) e
  where
    by-test : (b : Bool) → (if b then Usage m 610 ∷ [] else Usage m 611 ∷ []) ≡ [] → (if b then Usage n 610 ∷ [] else Usage n 611 ∷ []) ≡ []
    by-test true e = cc
    by-test false e = cc
path-numbered m n before (b ∷ bs) e = by-test (nat_le paths_top before) e
  where
    by-test : (b : Bool) → (if b then Usage m 610 ∷ [] else []) ≡ [] → (if b then Usage n 610 ∷ [] else []) ≡ []
    by-test true e = cc
    by-test false e = refl

further-numbered : (m n before : ℕ) (paths : List (List ℕ)) → further_faults m before paths ≡ [] → further_faults n before paths ≡ []
further-numbered m n before [] e = refl
further-numbered m n before (path ∷ paths) e =
    let parts = both-empty (path_fault m before path) (further_faults (m + 1) (before + 1) paths) e in
    rw (path-numbered m n before path parts.0, further-numbered (m + 1) (n + 1) (before + 1) paths parts.1) refl

table-numbered : (m n : ℕ) (word : List ℕ) → table_fault m word ≡ [] → table_fault n word ≡ []
table-numbered m n word e = by-test (names_table word) e
  where
    by-test : (b : Bool) → (if b then [] else Usage m 607 ∷ []) ≡ [] → (if b then [] else Usage n 607 ∷ []) ≡ []
    by-test true e = refl
    by-test false e = cc

numbered : (m n : ℕ) (words : List (List ℕ)) → live_faults m words ≡ [] → live_faults n words ≡ []
numbered m n [] e = cc
numbered m n (word ∷ words) e =
    let parts = both-empty (table_fault m word) (further_faults (m + 1) 1 words) e in
    rw (table-numbered m n word parts.0, further-numbered (m + 1) (n + 1) 1 words parts.1) refl

no-faults : {X : Type 0} (faults : List Refusal) (x y : X) → Ok y ≡ unless faults x → faults ≡ []
no-faults [] x y e = refl
no-faults (r ∷ rs) x y e = cc

pub asked-ok : (words rest : List (String Global)) (c : LiveAsked) (x : Unit {0}) → Ok c ≡ live_from 1 no_live_options (texts words) → rest ≡ take (length words - c.query) (drop c.query words)
    → Ok x ≡ unless (live_faults (c.query + 1) (texts rest)) (tt {0}) → Ok c ≡ live_asked (texts words)
unfolding live_asked
asked-ok words rest c x e r h = rw (← e, ← texts-rest words rest c.query r) (sym (unless-ok (live_faults (c.query + 1) (texts rest)) c x h))

pub asked-err : (words rest : List (String Global)) (c : LiveAsked) (r : Refusal) → Ok c ≡ live_from 1 no_live_options (texts words) → rest ≡ take (length words - c.query) (drop c.query words)
    → Err r ≡ unless (live_faults (c.query + 1) (texts rest)) (tt {0}) → live_asked (texts words) ≡ Err r
unfolding live_asked
asked-err words rest c r e s h = rw (← e, ← texts-rest words rest c.query s) (unless-err (live_faults (c.query + 1) (texts rest)) c (tt {0}) r h)

pub asked-paths : (words rest : List (String Global)) (c : LiveAsked) (x : Unit {0}) → rest ≡ take (length words - c.query) (drop c.query words)
    → Ok x ≡ unless (live_faults (c.query + 1) (texts rest)) (tt {0}) → AreLivePaths (texts (drop c.query words))
asked-paths words rest c x r h =
    numbered (c.query + 1) 0 (texts (drop c.query words)) (rw (← rest-of words c.query, ← r) (no-faults (live_faults (c.query + 1) (texts rest)) (tt {0}) x h))
