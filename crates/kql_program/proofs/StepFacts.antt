-- The steps of a query's answer.
use Rattle.std.proofs.Common.{◌≡◌, ◌<◌, ◌∙◌, ◌+◌, ◌-◌, ℕ, get_or, List, [], length, drop, take, refl, ap, ap₂, subst, sym}
use Rattle.std.specs.Prelude.{ℤ, Option, Some, None, IfSome, IsErrAnd, Result, Ok, Err, String, string_bytes}
use Rattle.std.specs.Global.{Global}
use Rattle.std.proofs.lemmas.List.{get_or-map}
use Rattle.kql_cells.specs.Table.{Grid}
use Rattle.kql_cells.specs.Catalogues.{Named}
use Rattle.kql_lexer.specs.declared.token.Token.{Token}
use Rattle.kql_parser.specs.Parsing.{Parsed, Parses}
use Rattle.kql_syntax.specs.declared.parse.SyntaxFault.{SyntaxFault}
use Rattle.kql_syntax.specs.declared.parse.SyntaxFault.TheVariants as syntax
use Rattle.kql_syntax.specs.declared.query.Query.{Query}
use Rattle.kql_words.specs.Command.{catalogue_path, query_path, table_words, texts}
use Rattle.kql_words.specs.Refusals.{Answer}
use Rattle.kql_words.specs.declared.command.Asked.{Asked}
use Rattle.kql_words.specs.declared.refusal.Refusal.TheVariants as refusal
use Rattle.kql_words.proofs.AskedLaws.{texts-rest}
use Rattle.catalogue_tables.specs.Files.{Files}
use Rattle.kql_program.specs.Files.{file_tokens, query_tokens, tables_of}
use Rattle.pattern_run.specs.Patterned.{Found}
use Rattle.kql_program.specs.Queries.{AreRows, IsBound, IsBoundAsked, IsBoundOver, IsBoundWith, bound_with, query_bound, query_rows, rows_over, tables_asked}
use Rattle.kql_program.specs.Refusals.{Computes, Finds, Gives, Reaches}
use Rattle.kql_program.specs.Stops.{syntax_stop}
use Rattle.kql_program.specs.declared.bound.BoundQuery.{BoundQuery}
use Rattle.kql_program.specs.declared.refusal.Stop.{Stop}
use Rattle.kql_program.specs.declared.refusal.Stop.TheVariants as stop
use Rattle.kql_program.proofs.AnswerFacts.{raised-finds, raised-reaches}

-- A query, and the tables of words.

-- the tables can't be had
with-stop : (found : Found) (tokens : List Token) (tables : Answer (List Named)) (moment : Option ℤ) (query : Query) (s : Stop) → Computes tables (Err s) → Reaches (IsBoundWith found tokens tables moment query) (Err s)
unfolding bound_with
with-stop found tokens tables moment query (stop.Refused q) h = rw h refl
with-stop found tokens tables moment query stop.ReadFault h = tt
with-stop found tokens tables moment query stop.OutOfMemory h = tt

pub asked-stop : (told : Option Files) (found : Found) (tokens : List Token) (query : Query) (limit : ℕ) (catalogue : Option (List ℕ)) (moment : Option ℤ) (words : List (List ℕ)) (r : Result BoundQuery Stop) (s : Stop)
    → IfSome told (λ files. Computes (tables_of files limit catalogue words) (Err s)) → IsErrAnd r (λ e. e ≡ s)
    → IfSome told (λ files. Reaches (IsBoundWith found tokens (tables_of files limit catalogue words) moment query) r)
asked-stop None found tokens query limit catalogue moment words r s h i = tt
asked-stop (Some files) found tokens query limit catalogue moment words r s h i =
    raised-reaches (IsBoundWith found tokens (tables_of files limit catalogue words) moment query) r s i (with-stop found tokens (tables_of files limit catalogue words) moment query s h)

-- the query bound to the tables
with-tables : (found : Found) (tokens : List Token) (answer : Answer (List Named)) (moment : Option ℤ) (query : Query) (tables : List Named) (r : Result BoundQuery Stop) → answer ≡ Ok tables
    → Finds (IsBoundOver found tokens query moment tables) r → Reaches (IsBoundWith found tokens answer moment query) r
unfolding bound_with
with-tables found tokens answer moment query tables (Ok b) e h = rw e h
with-tables found tokens answer moment query tables (Err (stop.Refused q)) e h = rw e h
with-tables found tokens answer moment query tables (Err stop.ReadFault) e h = tt
with-tables found tokens answer moment query tables (Err stop.OutOfMemory) e h = tt

pub asked-bound : (told : Option Files) (found : Found) (tokens : List Token) (query : Query) (limit : ℕ) (catalogue : Option (List ℕ)) (moment : Option ℤ) (words : List (List ℕ)) (tables : List Named) (r : Result BoundQuery Stop)
    → IfSome told (λ files. tables_of files limit catalogue words ≡ Ok tables) → Finds (IsBoundOver found tokens query moment tables) r
    → IfSome told (λ files. Reaches (IsBoundWith found tokens (tables_of files limit catalogue words) moment query) r)
asked-bound None found tokens query limit catalogue moment words tables r h g = tt
asked-bound (Some files) found tokens query limit catalogue moment words tables r h g = with-tables found tokens (tables_of files limit catalogue words) moment query tables r h g

-- Tokens, and the query that they are.

-- the syntax is refused
fault-reaches : (found : Found) (tables : Answer (List Named)) (tokens : List Token) (moment : Option ℤ) (fault : SyntaxFault) → Parses tokens (Err fault) → Reaches (IsBound found (Ok tokens) tables moment) (Err (syntax_stop fault))
unfolding query_bound
fault-reaches found tables tokens moment (syntax.Refused code place) h = record { verdict = Err (refusal.Query code place); judged = h; is = refl }
fault-reaches found tables tokens moment syntax.OutOfMemory h = tt

pub parsed-fault : (told : Option Files) (found : Found) (tokens : List Token) (limit : ℕ) (catalogue : Option (List ℕ)) (moment : Option ℤ) (words : List (List ℕ)) (fault : SyntaxFault) (r : Result BoundQuery Stop) → Parses tokens (Err fault) → IsErrAnd r (λ e. e ≡ syntax_stop fault)
    → IfSome told (λ files. Reaches (IsBound found (Ok tokens) (tables_of files limit catalogue words) moment) r)
parsed-fault None found tokens limit catalogue moment words fault r h i = tt
parsed-fault (Some files) found tokens limit catalogue moment words fault r h i =
    raised-reaches (IsBound found (Ok tokens) (tables_of files limit catalogue words) moment) r (syntax_stop fault) i (fault-reaches found (tables_of files limit catalogue words) tokens moment fault h)

-- they are a query
query-reaches : (found : Found) (tables : Answer (List Named)) (tokens : List Token) (moment : Option ℤ) (query : Query) (r : Result BoundQuery Stop) → Parsed tokens query → Reaches (IsBoundWith found tokens tables moment query) r
    → Reaches (IsBound found (Ok tokens) tables moment) r
unfolding query_bound
query-reaches found tables tokens moment query (Ok bound) p h = record { verdict = Ok query; judged = p; is = h }
query-reaches found tables tokens moment query (Err (stop.Refused q)) p h = record { verdict = Ok query; judged = p; is = h }
query-reaches found tables tokens moment query (Err stop.ReadFault) p h = tt
query-reaches found tables tokens moment query (Err stop.OutOfMemory) p h = tt

pub parsed-bound : (told : Option Files) (found : Found) (tokens : List Token) (limit : ℕ) (catalogue : Option (List ℕ)) (moment : Option ℤ) (words : List (List ℕ)) (query : Query) (r : Result BoundQuery Stop) → Parsed tokens query
    → IfSome told (λ files. Reaches (IsBoundWith found tokens (tables_of files limit catalogue words) moment query) r)
    → IfSome told (λ files. Reaches (IsBound found (Ok tokens) (tables_of files limit catalogue words) moment) r)
parsed-bound None found tokens limit catalogue moment words query r p h = tt
parsed-bound (Some files) found tokens limit catalogue moment words query r p h = query-reaches found (tables_of files limit catalogue words) tokens moment query r p h

-- The tokens of the query that a command asks for.

-- tokens can't be had
tokens-reach : (found : Found) (tokens : Answer (List Token)) (tables : Answer (List Named)) (moment : Option ℤ) (s : Stop) → Computes tokens (Err s) → Reaches (IsBound found tokens tables moment) (Err s)
unfolding query_bound
tokens-reach found tokens tables moment (stop.Refused q) h = record { verdict = Err q; judged = rw h tt; is = rw h refl }
tokens-reach found tokens tables moment stop.ReadFault h = tt
tokens-reach found tokens tables moment stop.OutOfMemory h = tt

pub path-asked : (words : List (String Global)) (asked : Asked) (d : String Global) (path : List ℕ) → asked.query < length words → path ≡ string_bytes (get_or words asked.query d) → query_path (texts words) asked ≡ path
path-asked words asked d path lt p = get_or-map string_bytes words asked.query d [] lt ∙ sym p

pub asked-tokens : (told : Option Files) (found : Found) (words : List (String Global)) (asked : Asked) (d : String Global) (path : List ℕ) (r : Result BoundQuery Stop) (s : Stop) → asked.query < length words
    → path ≡ string_bytes (get_or words asked.query d) → IfSome told (λ files. Computes (file_tokens files path) (Err s)) → IsErrAnd r (λ e. e ≡ s)
    → IfSome told (λ files. Reaches (IsBoundAsked found (texts words) files asked) r)
asked-tokens None found words asked d path r s lt p h i = tt
asked-tokens (Some files) found words asked d path r s lt p h i =
    let there : Computes (file_tokens files (query_path (texts words) asked)) (Err s) = subst (λ (at : List ℕ). Computes (file_tokens files at) (Err s)) (sym (path-asked words asked d path lt p)) h in
    raised-reaches (IsBoundAsked found (texts words) files asked) r s i
    (tokens-reach found (file_tokens files (query_path (texts words) asked)) (tables_asked (texts words) files asked) asked.options.moment s there)

-- the query that the tokens are
pub asked-parsed : (told now-told : Option Files) (found : Found) (words rest : List (String Global)) (asked : Asked) (d : String Global) (path : List ℕ) (catalogue : Option (List ℕ)) (tokens : List Token) (r : Result BoundQuery Stop)
    → asked.query < length words → path ≡ string_bytes (get_or words asked.query d) → rest ≡ take (length words - (asked.query + 1)) (drop (asked.query + 1) words) → catalogue ≡ catalogue_path (texts words) asked
    → IfSome told (λ files. file_tokens files path ≡ Ok tokens) → now-told ≡ told → IfSome now-told (λ files. Reaches (IsBound found (Ok tokens) (tables_of files asked.options.limit catalogue (texts rest)) asked.options.moment) r)
    → IfSome told (λ files. Reaches (IsBoundAsked found (texts words) files asked) r)
asked-parsed None now-told found words rest asked d path catalogue tokens r lt p w c t n h = tt
asked-parsed (Some files) now-told found words rest asked d path catalogue tokens r lt p w c t n h =
    let tables : table_words (texts words) asked ≡ texts rest = sym (texts-rest words rest (asked.query + 1) w) in
    let read : file_tokens files (query_path (texts words) asked) ≡ Ok tokens = ap (file_tokens files) (path-asked words asked d path lt p) ∙ t in
    let there : Reaches (IsBound found (Ok tokens) (tables_of files asked.options.limit catalogue (texts rest)) asked.options.moment) r = rw n at h in
    let all : tables_of files asked.options.limit catalogue (texts rest) ≡ tables_asked (texts words) files asked = ap₂ (λ at ws. tables_of files asked.options.limit at ws) c (sym tables) in
    let over : Reaches (IsBound found (Ok tokens) (tables_asked (texts words) files asked) asked.options.moment) r =
    subst (λ (ts : Answer (List Named)). Reaches (IsBound found (Ok tokens) ts asked.options.moment) r) all there in
    subst (λ (ts : Answer (List Token)). Reaches (IsBound found ts (tables_asked (texts words) files asked) asked.options.moment) r) (sym read) over

-- the path of its catalogue file
pub catalogue-at : (words : List (String Global)) (asked : Asked) (k : ℕ) (d : String Global) (path : List ℕ) → asked.options.catalogue ≡ Some k → k < length words → path ≡ string_bytes (get_or words k d)
    → Some path ≡ catalogue_path (texts words) asked
catalogue-at words asked k d path e lt p = rw e (ap Some (p ∙ sym (get_or-map string_bytes words k d [] lt)))

-- A stored query.

-- its tokens can't be had
tokens-find : (tokens : Answer (List Token)) (tables : Answer (List Named)) (moment : Option ℤ) (s : Stop) → Gives tokens (Err s) → Finds (AreRows tokens tables moment) (Err s)
unfolding query_rows
tokens-find tokens tables moment (stop.Refused q) h = record { verdict = Err q; judged = rw h tt; is = rw h refl }
tokens-find tokens tables moment stop.ReadFault h = absurd h
tokens-find tokens tables moment stop.OutOfMemory h = tt

pub stored-tokens : (text bytes : List ℕ) (tables : List Named) (r : Result Grid Stop) (s : Stop) → bytes ≡ text → Gives (query_tokens bytes) (Err s) → IsErrAnd r (λ e. e ≡ s) → Finds (AreRows (query_tokens text) (Ok tables) None) r
stored-tokens text bytes tables r s b h i =
    let there : Gives (query_tokens text) (Err s) = subst (λ (t : List ℕ). Gives (query_tokens t) (Err s)) b h in
    raised-finds (AreRows (query_tokens text) (Ok tables) None) r s i (tokens-find (query_tokens text) (Ok tables) None s there)

-- its syntax is refused
fault-finds : (tables : Answer (List Named)) (tokens : List Token) (moment : Option ℤ) (fault : SyntaxFault) → Parses tokens (Err fault) → Finds (AreRows (Ok tokens) tables moment) (Err (syntax_stop fault))
unfolding query_rows
fault-finds tables tokens moment (syntax.Refused code place) h =
    record { verdict = Err (refusal.Query code place); judged = h; is = refl }
fault-finds tables tokens moment syntax.OutOfMemory h = tt

pub stored-fault : (text bytes : List ℕ) (tokens : List Token) (tables : List Named) (fault : SyntaxFault) (r : Result Grid Stop) → bytes ≡ text → query_tokens bytes ≡ Ok tokens → Parses tokens (Err fault) → IsErrAnd r (λ e. e ≡ syntax_stop fault)
    → Finds (AreRows (query_tokens text) (Ok tables) None) r
stored-fault text bytes tokens tables fault r b e h i =
    raised-finds (AreRows (query_tokens text) (Ok tables) None) r (syntax_stop fault) i
    (subst (λ (ts : Answer (List Token)). Finds (AreRows ts (Ok tables) None) (Err (syntax_stop fault))) (sym (sym (ap query_tokens b) ∙ e)) (fault-finds (Ok tables) tokens None fault h))

rows-are : (tables : List Named) (tokens : List Token) (query : Query) (a : Answer Grid) → Parsed tokens query → rows_over query None tables ≡ a → AreRows (Ok tokens) (Ok tables) None a
unfolding query_rows
rows-are tables tokens query a p h = record { verdict = Ok query; judged = p; is = sym h }

query-finds : (tables : List Named) (tokens : List Token) (query : Query) (r : Result Grid Stop) → Parsed tokens query → Gives (rows_over query None tables) r → Finds (AreRows (Ok tokens) (Ok tables) None) r
query-finds tables tokens query (Ok rows) p h = rows-are tables tokens query (Ok rows) p h
query-finds tables tokens query (Err (stop.Refused q)) p h = rows-are tables tokens query (Err q) p h
query-finds tables tokens query (Err stop.ReadFault) p h = absurd h
query-finds tables tokens query (Err stop.OutOfMemory) p h = tt

-- its rows
pub stored-rows : (text bytes : List ℕ) (tokens : List Token) (tables : List Named) (query : Query) (r : Result Grid Stop) → bytes ≡ text → query_tokens bytes ≡ Ok tokens → Parsed tokens query → Gives (rows_over query None tables) r
    → Finds (AreRows (query_tokens text) (Ok tables) None) r
stored-rows text bytes tokens tables query r b e p g =
    subst (λ (ts : Answer (List Token)). Finds (AreRows ts (Ok tables) None) r) (sym (sym (ap query_tokens b) ∙ e)) (query-finds tables tokens query r p g)
