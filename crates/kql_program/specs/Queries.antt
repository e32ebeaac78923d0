-- What a query's command asks for: the text of a table, or the first refusal. In this order: the query file's fault, its tokens', its
-- syntax's, the table files', binding's, that of a pattern call that may not stand, that of a pattern that the maker refuses, and else the text of the
-- table that the program means. What patterns find is handed in.
use Rattle.std.specs.Prelude.{◌≡◌, ℕ, ℤ, Bool, true, false, List, Option, Some, None, Result, Ok, Err, IfOk}
use Rattle.bind_expr.specs.Outcome.{Outcome}
use Rattle.bind_expr.specs.declared.fault.BindFault.TheVariants as bind
use Rattle.bind_query.specs.Bound.{bound}
use Rattle.csv_io.specs.Reload.{typed_text}
use Rattle.csv_io.specs.Text.{table_text}
use Rattle.kql_bound.specs.declared.plan.Program.{Program}
use Rattle.kql_cells.specs.Table.{Grid}
use Rattle.kql_cells.specs.Catalogues.{Named, schemas_of}
use Rattle.kql_lexer.specs.declared.place.Place.{Place}
use Rattle.kql_lexer.specs.declared.token.Token.{Token}
use Rattle.kql_meaning.specs.Plans.{means}
use Rattle.kql_syntax.specs.declared.query.Query.{Query}
use Rattle.kql_words.specs.Command.{catalogue_path, query_path, table_words}
use Rattle.kql_words.specs.declared.command.Asked.{Asked}
use Rattle.catalogue_tables.specs.Files.{Files}
use Rattle.kql_program.specs.Files.{file_tokens, tables_of}
use Rattle.kql_words.specs.Refusals.{Answer, ◌>>=◌}
use Rattle.pattern_run.specs.Patterned.{Found, first_call, patterned}
use Rattle.pattern_run.specs.declared.fault.PatternFault.{PatternFault}
use Rattle.pattern_run.specs.declared.fault.PatternFault.TheVariants as pattern
use Rattle.pattern_run.specs.declared.lifted.Lifted.{Lifted}
use Rattle.kql_program.specs.Refusals.{bad_pattern_code, bad_pattern_in}
use Rattle.kql_program.specs.Syntax.{IsVerdict, Verdict}
use Rattle.kql_program.specs.declared.bound.BoundQuery.{BoundQuery}
use Rattle.kql_words.specs.declared.refusal.Refusal.TheVariants.{Query as Refused}

-- where the text of a query starts
abbrev pub start_place : Place
start_place = record { line = 1; column = 1; byte = 0 }

-- a program, or binding's refusal; binding is never defined to want memory
abbrev pub bound_as : Outcome Program → Answer Program
bound_as (Ok program) = Ok program
bound_as (Err (bind.Refused code place)) = Err (Refused code place)
bound_as (Err bind.OutOfMemory) = Err (Refused 0 start_place)

-- the program that a query is bound to over tables, at a moment
unfoldable pub bound_program_of : Query → Option ℤ → List Named → Answer Program
bound_program_of query moment tables = bound_as (bound query (schemas_of tables) moment)

-- the code of a pattern call that may not stand
abbrev pub pattern_here_code : ℕ
pattern_here_code = 420

-- a program whose first pattern call has this word: it is refused there
abbrev pub unless_called : Option Place → Program → Answer Program
unless_called None program = Ok program
unless_called (Some word) program = Err (Refused pattern_here_code word)

abbrev pub without_calls : Program → Answer Program
without_calls program = unless_called (first_call program) program

-- the program of a query over tables, at a moment, where no pattern call may stand
unfoldable pub program_of : Query → Option ℤ → List Named → Answer Program
program_of query moment tables = bound_program_of query moment tables >>= λ program. without_calls program

-- a program over tables
abbrev pub over : Program → List Named → BoundQuery
over program tables = record { program = program; catalogue = tables }

-- the program and the tables that its pattern calls become, or the refusal of one; it is never defined to want memory
abbrev pub patterned_as : Result Lifted PatternFault → Answer BoundQuery
patterned_as (Ok lifted) = Ok (over lifted.program lifted.catalogue)
patterned_as (Err (pattern.PatternHere word)) = Err (Refused pattern_here_code word)
patterned_as (Err (pattern.BadPattern literal)) = Err (Refused bad_pattern_code literal)
patterned_as (Err pattern.OutOfMemory) = Err (Refused 0 start_place)

-- The query that tokens are, bound to tables at a moment: its program, where its pattern calls are answered by what patterns find. The maker refuses the
-- pattern at this place, or none; the names of the tokens are given to no column that is added.
unfoldable pub bound_over : Found → Option Place → List Token → Query → Option ℤ → List Named → Answer BoundQuery
bound_over found bad tokens query moment tables = bound_program_of query moment tables >>= λ program. patterned_as (patterned found bad tokens program tables)

-- this is the query that tokens are, bound over tables at a moment, or the first refusal
abbrev pub IsBoundOver : Found → List Token → Query → Option ℤ → List Named → Answer BoundQuery → Type 0
IsBoundOver found tokens query moment tables a = a ≡ bound_over found (bad_pattern_in a) tokens query moment tables

-- a query bound, at a moment, to tables that may be refused
unfoldable pub bound_with : Found → Option Place → List Token → Answer (List Named) → Option ℤ → Query → Answer BoundQuery
bound_with found bad tokens tables moment query = tables >>= λ ts. bound_over found bad tokens query moment ts

-- this is the query that tokens are, bound at a moment to tables that may be refused, or the first refusal
abbrev pub IsBoundWith : Found → List Token → Answer (List Named) → Option ℤ → Query → Answer BoundQuery → Type 0
IsBoundWith found tokens tables moment query a = a ≡ bound_with found (bad_pattern_in a) tokens tables moment query

-- a query bound, where its syntax has this verdict: its tokens, its syntax, the tables, and then binding, one after another
unfoldable pub query_bound : Found → Option Place → Answer (List Token) → Answer (List Named) → Option ℤ → Verdict → Answer BoundQuery
query_bound found bad tokens tables moment verdict = tokens >>= λ read. verdict >>= λ query. bound_with found bad read tables moment query

-- This is the query that tokens are, bound to tables and at a moment, or the first refusal: it follows from the verdict on the tokens. Which pattern the
-- maker refuses follows from nothing that is told: the answer itself tells it. So a refused pattern is an answer exactly where its literal is that of a
-- call and all before it went well, and each other answer is that of a maker which refuses none.
pub record IsBound (found : Found) (tokens : Answer (List Token)) (tables : Answer (List Named)) (moment : Option ℤ) (a : Answer BoundQuery) : Type 0 where
  pub verdict : Verdict
  pub judged : IfOk tokens (λ read. IsVerdict read verdict)
  pub is : a ≡ query_bound found (bad_pattern_in a) tokens tables moment verdict

-- the tables of a command, or the first refusal
abbrev pub tables_asked : List (List ℕ) → Files → Asked → Answer (List Named)
tables_asked words files asked = tables_of files asked.options.limit (catalogue_path words asked) (table_words words asked)

-- this is the query of a command, bound, or the first refusal
abbrev pub IsBoundAsked : Found → List (List ℕ) → Files → Asked → Answer BoundQuery → Type 0
IsBoundAsked found words files asked a = IsBound found (file_tokens files (query_path words asked)) (tables_asked words files asked) asked.options.moment a

-- The rows of a query that is bound: those that its program means. What is bound fits the schemas of its tables, so that it has rows.
abbrev pub rows_of : Answer BoundQuery → Answer Grid
rows_of bound = bound >>= λ b. Ok (means b.program b.catalogue)

-- the rows of a query over tables, at a moment, where no pattern call may stand
unfoldable pub rows_over : Query → Option ℤ → List Named → Answer Grid
rows_over query moment tables = program_of query moment tables >>= λ program. Ok (means program tables)

-- the same, where its syntax has this verdict
unfoldable pub query_rows : Answer (List Token) → Answer (List Named) → Option ℤ → Verdict → Answer Grid
query_rows tokens tables moment verdict = tokens >>= λ read. verdict >>= λ query. tables >>= λ ts. rows_over query moment ts

-- these are the rows of the query that tokens are, over tables and at a moment, where no pattern call may stand, or the first refusal
pub record AreRows (tokens : Answer (List Token)) (tables : Answer (List Named)) (moment : Option ℤ) (a : Answer Grid) : Type 0 where
  pub verdict : Verdict
  pub judged : IfOk tokens (λ read. IsVerdict read verdict)
  pub is : a ≡ query_rows tokens tables moment verdict

-- these are the rows that a query's command asks for, or the first refusal
pub record AreRowsAsked (found : Found) (words : List (List ℕ)) (files : Files) (asked : Asked) (a : Answer Grid) : Type 0 where
  pub bound : Answer BoundQuery
  pub is_bound : IsBoundAsked found words files asked bound
  pub is : a ≡ rows_of bound

-- the text of a table, with the types of its columns in the header or without
abbrev pub text_as : Bool → Grid → List ℕ
text_as true grid = typed_text grid
text_as false grid = table_text grid

-- the text of rows as a table
abbrev pub text_of : Bool → Answer Grid → Answer (List ℕ)
text_of types rows = rows >>= λ grid. Ok (text_as types grid)

-- this is the text that a query's command asks for, or the first refusal
pub record AnswersQuery (found : Found) (words : List (List ℕ)) (files : Files) (asked : Asked) (a : Answer (List ℕ)) : Type 0 where
  pub rows : Answer Grid
  pub are : AreRowsAsked found words files asked rows
  pub is : a ≡ text_of asked.options.types rows
