-- The lines of the stored queries, one after another.
use Rattle.std.proofs.Common.{◌≡◌, ◌<◌, ◌≤◌, ◌+◌, ◌∙◌, ℕ, suc, zero, List, [], ◌∷◌, ◌++◌, drop, length, refl, ap, sym, subst, arith, append_assoc}
use Rattle.std.specs.Prelude.{None, Result, Ok, Err, IsErrAnd, String, string_bytes}
use Rattle.std.specs.Global.{Global}
use Rattle.std.proofs.lemmas.List.{append-nil, drop_all}
use Rattle.csv_io.specs.Text.{table_text}
use Rattle.kql_cells.specs.Catalogues.{Named}
use Rattle.kql_cells.specs.Table.{Grid}
use Rattle.kql_trial.specs.Queries.{stored_queries, stored_query}
use Rattle.kql_words.specs.Refusals.{Answer}
use Rattle.kql_program.specs.Files.{query_tokens}
use Rattle.kql_program.specs.Queries.{AreRows}
use Rattle.kql_program.specs.Refusals.{Finds, after}
use Rattle.kql_program.specs.Trials.{AreLines, FindsLine, IsLine, counted_line}
use Rattle.kql_program.specs.declared.refusal.Stop.{Stop}
use Rattle.kql_program.specs.declared.refusal.Stop.TheVariants as stop

-- what the queries from a place on are answered, behind this text, is what all are answered
unfoldable pub LeadsTo : List Named → ℕ → List ℕ → Type 0
LeadsTo tables k text = (a : Answer (List ℕ)) → AreLines tables (k + 1) (drop k stored_queries) a → AreLines tables 1 stored_queries (after text a)

after-nothing : (a : Answer (List ℕ)) → after [] a ≡ a
after-nothing (Ok xs) = refl
after-nothing (Err r) = refl

after-both : (x y : List ℕ) (a : Answer (List ℕ)) → after x (after y a) ≡ after (x ++ y) a
after-both x y (Ok xs) = ap Ok (sym (append_assoc x y xs))
after-both x y (Err r) = refl

pub leads-first : (tables : List Named) (k : ℕ) (text : List ℕ) → k ≡ 0 → text ≡ [] → LeadsTo tables k text
unfolding LeadsTo
leads-first tables k text z e a h =
    subst (λ (t : List ℕ). AreLines tables 1 stored_queries (after t a)) (sym e)
    (subst (λ (x : Answer (List ℕ)). AreLines tables 1 stored_queries x) (sym (after-nothing a))
    (subst (λ (n : ℕ). AreLines tables (n + 1) (drop n stored_queries) a) z h))

next-query : (k : ℕ) → k < 5 → drop k stored_queries ≡ stored_query k ∷ drop (k + 1) stored_queries
next-query zero lt = refl
next-query (suc zero) lt = refl
next-query (suc (suc zero)) lt = refl
next-query (suc (suc (suc zero))) lt = refl
next-query (suc (suc (suc (suc zero)))) lt = refl
next-query (suc (suc (suc (suc (suc k))))) lt = absurd (omega (arith, lt))

pub leads-on : (tables : List Named) (k : ℕ) (text line : List ℕ) → k < 5 → LeadsTo tables k text → IsLine tables (k + 1) (stored_query k) (Ok line) → LeadsTo tables (k + 1) (text ++ line)
unfolding LeadsTo AreLines
leads-on tables k text line lt to is a h =
    let all : AreLines tables (k + 1) (stored_query k ∷ drop (k + 1) stored_queries) (after line a) = (Ok line, is, (a, h, refl)) in
    let here : AreLines tables (k + 1) (drop k stored_queries) (after line a) = subst (λ (qs : List (List ℕ)). AreLines tables (k + 1) qs (after line a)) (sym (next-query k lt)) all in
    subst (λ (x : Answer (List ℕ)). AreLines tables 1 stored_queries x) (after-both text line a) (to (after line a) here)

-- the last query
pub leads-last : (tables : List Named) (k : ℕ) (text : List ℕ) → 5 ≤ k → LeadsTo tables k text → AreLines tables 1 stored_queries (Ok text)
unfolding LeadsTo AreLines
leads-last tables k text le to =
    let over : length stored_queries ≤ k = le in
    let none : drop k stored_queries ≡ [] = drop_all k stored_queries over in
    let end : AreLines tables (k + 1) (drop k stored_queries) (Ok []) = subst (λ (qs : List (List ℕ)). AreLines tables (k + 1) qs (Ok [])) (sym none) refl in
    subst (λ (x : List ℕ). AreLines tables 1 stored_queries (Ok x)) (append-nil text) (to (Ok []) end)

pub leads-next : (tables : List Named) (k : ℕ) (text line now : List ℕ) → k < 5 → LeadsTo tables k text → IsLine tables (k + 1) (stored_query k) (Ok line) → now ≡ text ++ line → LeadsTo tables (k + 1) now
leads-next tables k text line now lt to is e = subst (λ (t : List ℕ). LeadsTo tables (k + 1) t) (sym e) (leads-on tables k text line lt to is)

pub leads-end : (tables : List Named) (k : ℕ) (text made : List ℕ) → 5 ≤ k → LeadsTo tables k text → made ≡ text → AreLines tables 1 stored_queries (Ok made)
leads-end tables k text made le to e = subst (λ (t : List ℕ). AreLines tables 1 stored_queries (Ok t)) (sym e) (leads-last tables k text le to)

-- a query that has no line
lines-stop : (tables : List Named) (k : ℕ) (text : List ℕ) (s : Stop) → k < 5 → LeadsTo tables k text → FindsLine tables (k + 1) (stored_query k) (Err s) → Finds (AreLines tables 1 stored_queries) (Err s)
unfolding LeadsTo AreLines
lines-stop tables k text (stop.Refused r) lt to is =
    let all : AreLines tables (k + 1) (stored_query k ∷ drop (k + 1) stored_queries) (Err r) = (Err r, is, refl) in
    to (Err r) (subst (λ (qs : List (List ℕ)). AreLines tables (k + 1) qs (Err r)) (sym (next-query k lt)) all)
lines-stop tables k text stop.ReadFault lt to is = absurd is
lines-stop tables k text stop.OutOfMemory lt to is = tt

pub lines-raised : (tables : List Named) (k : ℕ) (text : List ℕ) (r : Result (List ℕ) Stop) (s : Stop) → k < 5 → LeadsTo tables k text → FindsLine tables (k + 1) (stored_query k) (Err s) → IsErrAnd r (λ e. e ≡ s)
    → Finds (AreLines tables 1 stored_queries) r
lines-raised tables k text (Ok x) s lt to is i = absurd i
lines-raised tables k text (Err e) s lt to is i = rw i (lines-stop tables k text s lt to is)

-- the line of a query

line-stop : (tables : List Named) (number : ℕ) (text : List ℕ) (s : Stop) → Finds (AreRows (query_tokens text) (Ok tables) None) (Err s) → FindsLine tables number text (Err s)
line-stop tables number text (stop.Refused r) h = record { rows = Err r; are = h; is = refl }
line-stop tables number text stop.ReadFault h = absurd h
line-stop tables number text stop.OutOfMemory h = tt

-- the query's text as it was read
read-as : (tables : List Named) (seen text : List ℕ) (a : Answer Grid) → seen ≡ text → AreRows (query_tokens seen) (Ok tables) None a → AreRows (query_tokens text) (Ok tables) None a
read-as tables seen text a e h = subst (λ (t : List ℕ). AreRows (query_tokens t) (Ok tables) None a) e h

pub line-raised : (tables : List Named) (number : ℕ) (seen text : List ℕ) (r : Result (String Global) Stop) (s : Stop) → seen ≡ text → Finds (AreRows (query_tokens seen) (Ok tables) None) (Err s) → IsErrAnd r (λ e. e ≡ s) → FindsLine tables number text r
line-raised tables number seen text (Ok x) s q h i = absurd i
line-raised tables number seen text (Err e) s q h i = rw i (line-stop tables number text s (subst (λ (t : List ℕ). Finds (AreRows (query_tokens t) (Ok tables) None) (Err s)) q h))

pub line-made : (tables : List Named) (number rows bytes : ℕ) (seen text written : List ℕ) (grid : Grid) (line : String Global) → seen ≡ text → AreRows (query_tokens seen) (Ok tables) None (Ok grid) → rows ≡ length grid.lines → written ≡ table_text grid
    → bytes ≡ length written → string_bytes line ≡ counted_line number rows bytes → FindsLine tables number text (Ok line)
line-made tables number rows bytes seen text written grid line s h p q b e =
    let size : bytes ≡ length (table_text grid) = b ∙ ap length q in
    record { rows = Ok grid; are = read-as tables seen text (Ok grid) s h; is = ap Ok (rw (← p, ← size) e) }
