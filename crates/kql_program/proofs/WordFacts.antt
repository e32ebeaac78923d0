-- Nothing behind the words refuses a word.
use Rattle.std.proofs.Common.{◌≡◌, ◌∙◌, ℕ, List, ap, sym}
use Rattle.std.specs.Prelude.{ℤ, Option, Some, None, Result, Ok, Err, IsErrAnd}
use Rattle.bind_expr.specs.Outcome.{Outcome}
use Rattle.bind_expr.specs.declared.fault.BindFault.TheVariants as bind
use Rattle.bind_query.specs.Bound.{bound}
use Rattle.kql_bound.specs.declared.plan.Program.{Program}
use Rattle.kql_cells.specs.Table.{Grid}
use Rattle.kql_cells.specs.Catalogues.{Named, schemas_of}
use Rattle.kql_lexer.specs.Lexing as lexing
use Rattle.kql_lexer.specs.declared.place.Place.{Place}
use Rattle.kql_lexer.specs.Lexing.{lexed}
use Rattle.kql_lexer.specs.declared.token.Token.{Token}
use Rattle.kql_meaning.specs.Plans.{means}
use Rattle.kql_syntax.specs.declared.parse.SyntaxFault.{SyntaxFault}
use Rattle.kql_syntax.specs.declared.parse.SyntaxFault.TheVariants as syntax
use Rattle.kql_syntax.specs.declared.query.Query.{Query}
use Rattle.pattern_run.specs.Patterned.{first_call}
use Rattle.pattern_run.specs.declared.fault.PatternFault.{PatternFault}
use Rattle.pattern_run.specs.declared.fault.PatternFault.TheVariants as pattern
use Rattle.kql_program.specs.Queries.{bound_as, bound_program_of, program_of, rows_over, unless_called}
use Rattle.kql_program.specs.Files.{lexed_as, query_tokens}
use Rattle.kql_program.specs.Outcomes.{RefusesNoWord}
use Rattle.kql_program.specs.Refusals.{Gives}
use Rattle.kql_words.specs.Refusals.{Answer, ◌>>=◌}
use Rattle.kql_program.specs.Stops.{pattern_stop, syntax_stop}
use Rattle.kql_words.specs.declared.refusal.Refusal.{Refusal}
use Rattle.kql_words.specs.declared.refusal.Refusal.TheVariants as refusal
use Rattle.kql_program.specs.declared.refusal.Stop.{Stop}
use Rattle.kql_program.specs.declared.refusal.Stop.TheVariants as stop

-- the answer refuses no word
NoWord : {X : Type 0} → Answer X → Type 0
NoWord a = (word code : ℕ) → a ≡ Err (refusal.Usage word code) → ⊥

-- the stop refuses no word
abbrev pub KeepsWords : Stop → Type 0
KeepsWords s = (word code : ℕ) → s ≡ stop.Refused (refusal.Usage word code) → ⊥

-- a stop in its place, and a refusal
abbrev halted : {X : Type 0} → Stop → Result X Stop
halted s = Err s

abbrev refused : {X : Type 0} → Refusal → Answer X
refused q = Err q

stop-same : {X : Type 0} (s t : Stop) → halted {X = X} s ≡ halted t → s ≡ t
stop-same s t e = cc

halted-same : {X : Type 0} (q r : Refusal) → halted {X = X} (stop.Refused q) ≡ halted (stop.Refused r) → q ≡ r
halted-same q r e = cc

refusal-same : {X : Type 0} (q r : Refusal) → refused {X = X} q ≡ refused r → q ≡ r
refusal-same q r e = cc

-- a stop that no word is refused by
pub raised-words : {X : Type 0} (r : Result X Stop) (s : Stop) → IsErrAnd r (λ e. e ≡ s) → KeepsWords s → RefusesNoWord r
raised-words (Ok x) s i k word code e = absurd i
raised-words {X = X} (Err t) s i k word code e = k word code (sym i ∙ stop-same {X = X} t (stop.Refused (refusal.Usage word code)) e)

-- the stop that a call answered
pub stopped-words : {X : Type 0} (s : Stop) → RefusesNoWord {X = X} (Err s) → KeepsWords s
stopped-words s n word code e = n word code (ap Err e)

gives-words : {X : Type 0} (a : Answer X) (r : Result X Stop) → NoWord a → Gives a r → RefusesNoWord r
unfolding NoWord
gives-words a (Ok x) n g word code e = cc e
gives-words {X = X} a (Err (stop.Refused q)) n g word code e = n word code (g ∙ ap Err (halted-same {X = X} q (refusal.Usage word code) e))
gives-words a (Err stop.ReadFault) n g word code e = absurd g
gives-words a (Err stop.OutOfMemory) n g word code e = cc e

lexed-words : (r : Result (List Token) lexing.Fault) → NoWord (lexed_as r)
unfolding NoWord
lexed-words (Ok tokens) word code e = cc e
lexed-words (Err fault) word code e = cc e

-- no token refuses a word
pub tokens-words : (bytes : List ℕ) (r : Result (List Token) Stop) → Gives (query_tokens bytes) r → RefusesNoWord r
unfolding query_tokens
tokens-words bytes r g = gives-words (query_tokens bytes) r (lexed-words (lexed bytes)) g

-- nor the syntax
pub syntax-words : (fault : SyntaxFault) → KeepsWords (syntax_stop fault)
syntax-words (syntax.Refused c place) word code e = cc e
syntax-words syntax.OutOfMemory word code e = cc e

then-words : {X Y : Type 0} (a : Answer X) (f : X → Answer Y) → NoWord a → ((x : X) → NoWord (f x)) → NoWord (a >>= f)
unfolding NoWord
then-words (Ok x) f n m word code e = m x word code e
then-words {Y = Y} (Err q) f n m word code e = n word code (ap Err (refusal-same {X = Y} q (refusal.Usage word code) e))

bound-words : (o : Outcome Program) → NoWord (bound_as o)
unfolding NoWord
bound-words (Ok program) word code e = cc e
bound-words (Err (bind.Refused c place)) word code e = cc e
bound-words (Err bind.OutOfMemory) word code e = cc e

value-words : {X : Type 0} (x : X) → NoWord (Ok x)
unfolding NoWord
value-words x word code e = cc e

-- nor binding
bound-none : (query : Query) (moment : Option ℤ) (tables : List Named) → NoWord (bound_program_of query moment tables)
unfolding bound_program_of
bound-none query moment tables = bound-words (bound query (schemas_of tables) moment)

pub bound-no_words : (query : Query) (moment : Option ℤ) (tables : List Named) (r : Result Program Stop) → Gives (bound_program_of query moment tables) r → RefusesNoWord r
bound-no_words query moment tables r g = gives-words (bound_program_of query moment tables) r (bound-none query moment tables) g

-- nor a pattern call
called-words : (word : Option Place) (program : Program) → NoWord (unless_called word program)
unfolding NoWord
called-words None program = value-words program
called-words (Some place) program = λ word code e. cc e

program-none : (query : Query) (moment : Option ℤ) (tables : List Named) → NoWord (program_of query moment tables)
unfolding program_of
program-none query moment tables = then-words (bound_program_of query moment tables) _ (bound-none query moment tables) (λ program. called-words (first_call program) program)

pub program-words : (query : Query) (moment : Option ℤ) (tables : List Named) (r : Result Program Stop) → Gives (program_of query moment tables) r → RefusesNoWord r
program-words query moment tables r g = gives-words (program_of query moment tables) r (program-none query moment tables) g

pub pattern-words : (fault : PatternFault) → KeepsWords (pattern_stop fault)
pattern-words (pattern.PatternHere place) word code e = cc e
pattern-words (pattern.BadPattern place) word code e = cc e
pattern-words pattern.OutOfMemory word code e = cc e

pub program-no_word : (query : Query) (moment : Option ℤ) (tables : List Named) (word code : ℕ) → program_of query moment tables ≡ Err (refusal.Usage word code) → ⊥
unfolding NoWord
program-no_word query moment tables word code e = program-none query moment tables word code e

-- nor the rows
pub row-words : (query : Query) (moment : Option ℤ) (tables : List Named) (r : Result Grid Stop) → Gives (rows_over query moment tables) r → RefusesNoWord r
unfolding rows_over
row-words query moment tables r g =
    gives-words (rows_over query moment tables) r (then-words (program_of query moment tables) _ (program-none query moment tables) (λ program. value-words (means program tables))) g
