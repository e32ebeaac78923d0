-- The steps of a live command's answer.
use Rattle.std.proofs.Common.{◌≡◌, ◌<◌, ◌∙◌, ◌+◌, ◌-◌, ℕ, get_or, true, List, [], ◌∷◌, ◌++◌, length, drop, take, refl, ap, arith, subst, sym}
use Rattle.std.specs.Prelude.{Bool, false, if◌then◌else◌, ℤ, Option, Some, None, IfSome, IsErrAnd, Result, Ok, Err, String, string_bytes}
use Rattle.std.specs.Global.{Global}
use Rattle.std.proofs.lemmas.List.{get_or-map}
use Rattle.catalogue_tables.specs.Files.{Files}
use Rattle.kql_bound.specs.declared.plan.Program.{Program}
use Rattle.kql_cells.specs.Catalogues.{Named}
use Rattle.kql_lexer.specs.declared.token.Token.{Token}
use Rattle.kql_parser.specs.Parsing.{Parsed, Parses}
use Rattle.kql_syntax.specs.declared.parse.SyntaxFault.{SyntaxFault}
use Rattle.kql_syntax.specs.declared.parse.SyntaxFault.TheVariants as syntax
use Rattle.kql_syntax.specs.declared.query.Query.{Query}
use Rattle.kql_program.specs.Files.{file_tokens, named_as}
use Rattle.kql_program.specs.Outcomes.{RefusesNoWord}
use Rattle.kql_program.specs.Queries.{program_of, start_place}
use Rattle.kql_program.specs.Refusals.{Computes, Gives, Reaches}
use Rattle.kql_program.specs.Stops.{syntax_stop}
use Rattle.kql_program.specs.declared.refusal.Stop.{Stop}
use Rattle.kql_program.specs.declared.refusal.Stop.TheVariants as stop
use Rattle.kql_program.proofs.WordFacts.{KeepsWords, program-no_word}
use Rattle.kql_program.proofs.AnswerFacts.{computes, goes_on, raised, raised-gives, raised-reaches, stops}
use Rattle.kql_words.proofs.AskedLaws.{rest-of, texts-rest}
use Rattle.kql_words.specs.Command.{name_in, names_table, path_in, texts}
use Rattle.kql_words.specs.Options.{limit_ungiven}
use Rattle.kql_words.specs.Refusals.{Answer, ◌>>=◌}
use Rattle.kql_words.specs.declared.refusal.Refusal.{Refusal}
use Rattle.kql_words.specs.declared.refusal.Refusal.TheVariants as refusal
use Rattle.live_query.specs.ViewForm.{is_view}
use Rattle.live_words.specs.LiveWords.{AreLivePaths, live_query_path, table_fault}
use Rattle.live_words.specs.declared.command.LiveAsked.{LiveAsked}
use Rattle.kql_live.specs.LiveAnswer.{IsLiveBound, IsLiveBoundAsked, IsLiveQueryBound, first_name, live_bound_over, live_bound_with, live_query_bound, live_rest, over, viewed}
use Rattle.kql_live.specs.LiveFiles.{live_tables, tables_of}
use Rattle.kql_live.specs.declared.bound.LiveBound.{LiveBound}
use Rattle.kql_live.specs.declared.bound.LiveTables.{LiveTables}

-- Binding.

-- a program over an opening table
program-gives : (query : Query) (moment : Option ℤ) (name : List ℕ) (tables : LiveTables) (program : Program) → program_of query moment (named_as name tables.opening ∷ []) ≡ Ok program
    → live_bound_over query moment name tables ≡ Ok (over name tables program)
unfolding live_bound_over
program-gives query moment name tables program e = rw e refl

pub bound-gives : (query : Query) (moment : Option ℤ) (name : List ℕ) (tables : LiveTables) (seen : List Named) (program : Program) → seen ≡ named_as name tables.opening ∷ [] → program_of query moment seen ≡ Ok program
    → live_bound_over query moment name tables ≡ Ok (over name tables program)
bound-gives query moment name tables seen program e g = program-gives query moment name tables program (ap (program_of query moment) (sym e) ∙ g)

-- a refusal of binding
gives-stop : {X Y : Type 0} (a : Answer X) (f : X → Answer Y) (s : Stop) → Gives a (Err s) → Gives (a >>= f) (Err s)
gives-stop a f (stop.Refused r) h = rw h refl
gives-stop a f stop.ReadFault h = absurd h
gives-stop a f stop.OutOfMemory h = tt

unbound : (query : Query) (moment : Option ℤ) (name : List ℕ) (tables : LiveTables) (s : Stop) → Gives (program_of query moment (named_as name tables.opening ∷ [])) (Err s) → Gives (live_bound_over query moment name tables) (Err s)
unfolding live_bound_over
unbound query moment name tables s h = gives-stop (program_of query moment (named_as name tables.opening ∷ [])) (λ p. Ok (over name tables p)) s h

pub bound-stop : (query : Query) (moment : Option ℤ) (name : List ℕ) (tables : LiveTables) (seen : List Named) (r : Result LiveBound Stop) (s : Stop) → seen ≡ named_as name tables.opening ∷ [] → Gives (program_of query moment seen) (Err s)
    → IsErrAnd r (λ e. e ≡ s) → Gives (live_bound_over query moment name tables) r
bound-stop query moment name tables seen r s e g i =
    raised-gives (live_bound_over query moment name tables) r s i (unbound query moment name tables s (subst (λ (ts : List Named). Gives (program_of query moment ts) (Err s)) e g))

-- no word is refused by it
abbrev bound_none : Refusal → Answer LiveBound
bound_none q = Err q

same-refusal : (q r : Refusal) → bound_none q ≡ bound_none r → q ≡ r
same-refusal q r e = cc

no-word-of : (a : Answer Program) (name : List ℕ) (tables : LiveTables) (word code : ℕ) → ((w c : ℕ) → a ≡ Err (refusal.Usage w c) → ⊥) → (a >>= λ p. Ok (over name tables p)) ≡ Err (refusal.Usage word code) → ⊥
no-word-of (Ok program) name tables word code n e = cc e
no-word-of (Err q) name tables word code n e = n word code (ap Err (same-refusal q (refusal.Usage word code) e))

no-word : (query : Query) (moment : Option ℤ) (name : List ℕ) (tables : LiveTables) (word code : ℕ) → live_bound_over query moment name tables ≡ Err (refusal.Usage word code) → ⊥
unfolding live_bound_over
no-word query moment name tables word code e =
    no-word-of (program_of query moment (named_as name tables.opening ∷ [])) name tables word code (program-no_word query moment (named_as name tables.opening ∷ [])) e

pub bound-words : (query : Query) (moment : Option ℤ) (name : List ℕ) (tables : LiveTables) (r : Result LiveBound Stop) → Gives (live_bound_over query moment name tables) r → RefusesNoWord r
bound-words query moment name tables (Ok x) g word code e = cc e
bound-words query moment name tables (Err (stop.Refused (refusal.Query c place))) g word code e = cc e
bound-words query moment name tables (Err (stop.Refused (refusal.Data f c row column))) g word code e = cc e
bound-words query moment name tables (Err (stop.Refused (refusal.Usage w c))) g word code e = absurd (no-word query moment name tables w c g)
bound-words query moment name tables (Err stop.ReadFault) g word code e = cc e
bound-words query moment name tables (Err stop.OutOfMemory) g word code e = cc e

-- The tables, and then binding.

-- the tables can't be had
pub named-stop : (told : Option Files) (query : Query) (moment : Option ℤ) (name path seen-path : List ℕ) (paths : List (List ℕ)) (r : Result LiveBound Stop) (s : Stop) → seen-path ≡ path
    → IfSome told (λ files. Computes (live_tables files limit_ungiven seen-path paths) (Err s)) → IsErrAnd r (λ e. e ≡ s)
    → IfSome told (λ files. Computes (live_bound_with (live_tables files limit_ungiven path paths) moment name query) r)
unfolding live_bound_with
named-stop None query moment name path seen-path paths r s p h i = tt
named-stop (Some files) query moment name path seen-path paths r s p h i =
    let there : Computes (live_tables files limit_ungiven path paths) (Err s) = subst (λ (at : List ℕ). Computes (live_tables files limit_ungiven at paths) (Err s)) p h in
    raised (live_bound_with (live_tables files limit_ungiven path paths) moment name query) r s i (stops (live_tables files limit_ungiven path paths) (λ ts. live_bound_over query moment name ts) s there)

-- the query bound to them
pub named-bound : (told : Option Files) (query : Query) (moment : Option ℤ) (name seen-name path seen-path : List ℕ) (paths : List (List ℕ)) (tables : LiveTables) (r : Result LiveBound Stop) → seen-name ≡ name → seen-path ≡ path
    → IfSome told (λ files. live_tables files limit_ungiven seen-path paths ≡ Ok tables) → Gives (live_bound_over query moment seen-name tables) r
    → IfSome told (λ files. Computes (live_bound_with (live_tables files limit_ungiven path paths) moment name query) r)
unfolding live_bound_with
named-bound None query moment name seen-name path seen-path paths tables r n p h g = tt
named-bound (Some files) query moment name seen-name path seen-path paths tables r n p h g =
    let there : live_tables files limit_ungiven path paths ≡ Ok tables = ap (λ (at : List ℕ). live_tables files limit_ungiven at paths) (sym p) ∙ h in
    let given : Gives (live_bound_over query moment name tables) r = subst (λ (x : List ℕ). Gives (live_bound_over query moment x tables) r) n g in
    goes_on (live_tables files limit_ungiven path paths) (λ ts. live_bound_over query moment name ts) tables r there (computes (live_bound_over query moment name tables) r given)

-- The words behind QUERY.

no-first : {X : Type 0} (a b : List X) → a ++ b ≡ [] → a ≡ []
no-first [] b e = refl
no-first (x ∷ xs) b e = cc

named-of : (word : List ℕ) (b : _) → names_table word ≡ b → table_fault 0 word ≡ [] → names_table word ≡ true
named-of word true n e = n
named-of word _ n e = cc (rw n at e)

-- the first names a table
pub first-names : (words rest : List (String Global)) (word : String Global) (seen : List ℕ) → words ≡ word ∷ rest → seen ≡ string_bytes word → AreLivePaths (texts words) → names_table seen ≡ true
first-names words rest word seen is s h =
    let there : AreLivePaths (texts (word ∷ rest)) = subst (λ (ws : List (String Global)). AreLivePaths (texts ws)) is h in
    rw s (named-of (string_bytes word) (names_table (string_bytes word)) refl (no-first (table_fault 0 (string_bytes word)) _ there))

pub no-words : (words : List (String Global)) (P : Type 0) → length words ≡ 0 → AreLivePaths (texts words) → P
no-words [] P n h = cc h
no-words (w ∷ ws) P n h = absurd (omega (arith, n))

pub words-are : (told : Option Files) (query : Query) (moment : Option ℤ) (words rest : List (String Global)) (word : String Global) (seen : List ℕ) (r : Result LiveBound Stop) → words ≡ word ∷ rest → seen ≡ string_bytes word
    → IfSome told (λ files. Computes (live_bound_with (live_tables files limit_ungiven (path_in seen) (texts rest)) moment (name_in seen) query) r)
    → IfSome told (λ files. Computes (live_bound_with (tables_of files (texts words)) moment (first_name (texts words)) query) r)
words-are None query moment words rest word seen r is s h = tt
words-are (Some files) query moment words rest word seen r is s h = rw is (rw s at h)

-- Tokens, and the query that they are.

fault-reaches : (tables : Answer LiveTables) (tokens : List Token) (moment : Option ℤ) (name : List ℕ) (fault : SyntaxFault) → Parses tokens (Err fault) → Reaches (IsLiveBound (Ok tokens) tables moment name) (Err (syntax_stop fault))
unfolding live_query_bound
fault-reaches tables tokens moment name (syntax.Refused code place) h = record { verdict = Err (refusal.Query code place); judged = h; is = refl }
fault-reaches tables tokens moment name syntax.OutOfMemory h = tt

pub parsed-fault : (told : Option Files) (tokens : List Token) (moment : Option ℤ) (words : List (List ℕ)) (fault : SyntaxFault) (r : Result LiveBound Stop) → Parses tokens (Err fault) → IsErrAnd r (λ e. e ≡ syntax_stop fault)
    → IfSome told (λ files. Reaches (IsLiveBound (Ok tokens) (tables_of files words) moment (first_name words)) r)
parsed-fault None tokens moment words fault r h i = tt
parsed-fault (Some files) tokens moment words fault r h i =
    raised-reaches (IsLiveBound (Ok tokens) (tables_of files words) moment (first_name words)) r (syntax_stop fault) i (fault-reaches (tables_of files words) tokens moment (first_name words) fault h)

query-reaches : (tables : Answer LiveTables) (tokens : List Token) (moment : Option ℤ) (name : List ℕ) (query : Query) (r : Result LiveBound Stop) → Parsed tokens query → Computes (live_bound_with tables moment name query) r
    → Reaches (IsLiveBound (Ok tokens) tables moment name) r
unfolding live_query_bound
query-reaches tables tokens moment name query (Ok bound) p h = record { verdict = Ok query; judged = p; is = sym h }
query-reaches tables tokens moment name query (Err (stop.Refused q)) p h = record { verdict = Ok query; judged = p; is = sym h }
query-reaches tables tokens moment name query (Err stop.ReadFault) p h = tt
query-reaches tables tokens moment name query (Err stop.OutOfMemory) p h = tt

pub parsed-bound : (told : Option Files) (tokens : List Token) (moment : Option ℤ) (words : List (List ℕ)) (query : Query) (r : Result LiveBound Stop) → Parsed tokens query
    → IfSome told (λ files. Computes (live_bound_with (tables_of files words) moment (first_name words) query) r)
    → IfSome told (λ files. Reaches (IsLiveBound (Ok tokens) (tables_of files words) moment (first_name words)) r)
parsed-bound None tokens moment words query r p h = tt
parsed-bound (Some files) tokens moment words query r p h = query-reaches (tables_of files words) tokens moment (first_name words) query r p h

-- The tokens of the query that a command asks for.

tokens-reach : (tokens : Answer (List Token)) (tables : Answer LiveTables) (moment : Option ℤ) (name : List ℕ) (s : Stop) → Computes tokens (Err s) → Reaches (IsLiveBound tokens tables moment name) (Err s)
unfolding live_query_bound
tokens-reach tokens tables moment name (stop.Refused q) h = record { verdict = Err q; judged = rw h tt; is = rw h refl }
tokens-reach tokens tables moment name stop.ReadFault h = tt
tokens-reach tokens tables moment name stop.OutOfMemory h = tt

path-asked : (words : List (String Global)) (asked : LiveAsked) (d : String Global) (path : List ℕ) → asked.query < length words → path ≡ string_bytes (get_or words asked.query d) → live_query_path (texts words) asked ≡ path
path-asked words asked d path lt p = get_or-map string_bytes words asked.query d [] lt ∙ sym p

pub asked-tokens : (told : Option Files) (words : List (String Global)) (asked : LiveAsked) (d : String Global) (path : List ℕ) (r : Result LiveBound Stop) (s : Stop) → asked.query < length words
    → path ≡ string_bytes (get_or words asked.query d) → IfSome told (λ files. Computes (file_tokens files path) (Err s)) → IsErrAnd r (λ e. e ≡ s)
    → IfSome told (λ files. Reaches (IsLiveQueryBound (texts words) files asked) r)
asked-tokens None words asked d path r s lt p h i = tt
asked-tokens (Some files) words asked d path r s lt p h i =
    let there : Computes (file_tokens files (live_query_path (texts words) asked)) (Err s) = subst (λ (at : List ℕ). Computes (file_tokens files at) (Err s)) (sym (path-asked words asked d path lt p)) h in
    raised-reaches (IsLiveQueryBound (texts words) files asked) r s i
    (tokens-reach (file_tokens files (live_query_path (texts words) asked)) (tables_of files (live_rest (texts words) asked)) asked.options.moment (first_name (live_rest (texts words) asked)) s there)

pub asked-parsed : (told now-told : Option Files) (words rest : List (String Global)) (asked : LiveAsked) (d : String Global) (path : List ℕ) (tokens : List Token) (r : Result LiveBound Stop)
    → asked.query < length words → path ≡ string_bytes (get_or words asked.query d) → rest ≡ take (length words - (asked.query + 1)) (drop (asked.query + 1) words)
    → IfSome told (λ files. file_tokens files path ≡ Ok tokens) → now-told ≡ told
    → IfSome now-told (λ files. Reaches (IsLiveBound (Ok tokens) (tables_of files (texts rest)) asked.options.moment (first_name (texts rest))) r)
    → IfSome told (λ files. Reaches (IsLiveQueryBound (texts words) files asked) r)
asked-parsed None now-told words rest asked d path tokens r lt p w t n h = tt
asked-parsed (Some files) now-told words rest asked d path tokens r lt p w t n h =
    let behind : texts rest ≡ live_rest (texts words) asked = texts-rest words rest (asked.query + 1) w in
    let read : file_tokens files (live_query_path (texts words) asked) ≡ Ok tokens = ap (file_tokens files) (path-asked words asked d path lt p) ∙ t in
    let there : Reaches (IsLiveBound (Ok tokens) (tables_of files (texts rest)) asked.options.moment (first_name (texts rest))) r = rw n at h in
    let here : Reaches (IsLiveBound (Ok tokens) (tables_of files (live_rest (texts words) asked)) asked.options.moment (first_name (live_rest (texts words) asked))) r =
    subst (λ (ws : List (List ℕ)). Reaches (IsLiveBound (Ok tokens) (tables_of files ws) asked.options.moment (first_name ws)) r) behind there in
    subst (λ (ts : Answer (List Token)). Reaches (IsLiveBound ts (tables_of files (live_rest (texts words) asked)) asked.options.moment (first_name (live_rest (texts words) asked))) r) (sym read) here

-- the words behind QUERY, where they are those of a command
pub rest-paths : (words rest : List (String Global)) (n : ℕ) → rest ≡ take (length words - n) (drop n words) → AreLivePaths (texts (drop n words)) → AreLivePaths (texts rest)
rest-paths words rest n e h = subst (λ (ws : List (String Global)). AreLivePaths (texts ws)) (sym (e ∙ rest-of words n)) h

-- What a view can keep.

-- a query that could not be bound
unbound-reaches : (words : List (List ℕ)) (files : Files) (asked : LiveAsked) (s : Stop) → Reaches (IsLiveQueryBound words files asked) (Err s) → Reaches (IsLiveBoundAsked words files asked) (Err s)
unbound-reaches words files asked (stop.Refused q) h = record { bound = Err q; is_bound = h; is = refl }
unbound-reaches words files asked stop.ReadFault h = tt
unbound-reaches words files asked stop.OutOfMemory h = tt

pub viewed-stop : (told : Option Files) (words : List (List ℕ)) (asked : LiveAsked) (r : Result LiveBound Stop) (s : Stop) → IfSome told (λ files. Reaches (IsLiveQueryBound words files asked) (Err s)) → IsErrAnd r (λ e. e ≡ s)
    → IfSome told (λ files. Reaches (IsLiveBoundAsked words files asked) r)
viewed-stop None words asked r s h i = tt
viewed-stop (Some files) words asked r s h i = raised-reaches (IsLiveBoundAsked words files asked) r s i (unbound-reaches words files asked s h)

-- one that a view cannot keep
pub viewed-refused : (told : Option Files) (words : List (List ℕ)) (asked : LiveAsked) (b : LiveBound) (r : Result LiveBound Stop) (q : Refusal) → IfSome told (λ files. IsLiveQueryBound words files asked (Ok b))
    → Err q ≡ viewed asked.options.view b → IsErrAnd r (λ e. e ≡ stop.Refused q) → IfSome told (λ files. Reaches (IsLiveBoundAsked words files asked) r)
viewed-refused None words asked b r q h e i = tt
viewed-refused (Some files) words asked b r q h e i =
    raised-reaches (IsLiveBoundAsked words files asked) r (stop.Refused q) i (record { bound = Ok b; is_bound = h; is = e })

-- and one that it can keep, or that needs no view
pub viewed-ok : (told : Option Files) (words : List (List ℕ)) (asked : LiveAsked) (b k : LiveBound) → IfSome told (λ files. IsLiveQueryBound words files asked (Ok b)) → Ok k ≡ viewed asked.options.view b
    → IfSome told (λ files. IsLiveBoundAsked words files asked (Ok k))
viewed-ok None words asked b k h e = tt
viewed-ok (Some files) words asked b k h e = record { bound = Ok b; is_bound = h; is = e }

-- no word is refused by it
refused-words : (can : Bool) (b : LiveBound) (q : Refusal) → Err q ≡ (if can then Ok b else Err (refusal.Query 421 start_place)) → KeepsWords (stop.Refused q)
refused-words true b q e word code k = cc e
refused-words false b q e word code k = cc (e, k)

pub viewed-words : (view : Bool) (b : LiveBound) (q : Refusal) → Err q ≡ viewed view b → KeepsWords (stop.Refused q)
viewed-words false b q e word code k = cc e
viewed-words true b q e word code k = refused-words (is_view b.query.program) b q e word code k
