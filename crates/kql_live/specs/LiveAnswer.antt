-- What a live command is answered: the text over all batches, or what is shown as the table grows, or the first refusal. In this order: the words'
-- fault, the query file's, its tokens', its syntax's, those of the files of the paths one after another, binding's, and then 421 where a view is asked for.
use Rattle.std.specs.Prelude.{◌≡◌, ℕ, ◌+◌, ℤ, Bool, true, false, List, [], ◌∷◌, All, drop, fold, length, Option, Some, None, IfOk, IfSome, Result, Ok, Err, if◌then◌else◌}
use Rattle.catalogue_tables.specs.Files.{Files}
use Rattle.csv_io.specs.Text.{table_text}
use Rattle.kql_bound.specs.declared.plan.Program.{Program}
use Rattle.kql_cells.specs.Table.{Grid}
use Rattle.kql_lexer.specs.declared.token.Token.{Token}
use Rattle.kql_program.specs.Files.{file_tokens, named_as}
use Rattle.kql_program.specs.Queries.{program_of, start_place}
use Rattle.kql_program.specs.Syntax.{IsVerdict, Verdict}
use Rattle.kql_program.specs.declared.refusal.Stop.{Stop}
use Rattle.kql_syntax.specs.declared.query.Query.{Query}
use Rattle.kql_words.specs.Command.{name_in}
use Rattle.kql_words.specs.Refusals.{Answer, ◌>>=◌}
use Rattle.kql_words.specs.declared.refusal.Refusal.TheVariants.{Query as Refused}
use Rattle.live_query.specs.LiveMeaning.{live_means}
use Rattle.live_query.specs.ViewForm.{is_view}
use Rattle.live_query.specs.Watching.{watch_text}
use Rattle.live_run.specs.Sights.{IsSeenList}
use Rattle.live_run.specs.declared.watch.Seen.{Seen}
use Rattle.live_tables.specs.Growing.{with_rows}
use Rattle.live_words.specs.LiveWords.{live_of, live_query_path}
use Rattle.live_words.specs.declared.command.LiveAsked.{LiveAsked}
use Rattle.kql_live.specs.LiveFiles.{first_word, tables_of}
use Rattle.kql_live.specs.declared.bound.LiveBound.{LiveBound}
use Rattle.kql_live.specs.declared.bound.LiveDone.{LiveDone}
use Rattle.kql_live.specs.declared.bound.LiveTables.{LiveTables}

-- of the words behind QUERY, the name of the opening table
abbrev pub first_name : List (List ℕ) → List ℕ
first_name words = name_in (first_word words)

-- the words behind QUERY
abbrev pub live_rest : List (List ℕ) → LiveAsked → List (List ℕ)
live_rest words asked = drop (asked.query + 1) words

-- a program over an opening table of this name, and the batches
abbrev pub over : List ℕ → LiveTables → Program → LiveBound
over name tables program = record { query = record { name = name; program = program }; opening = tables.opening; batches = tables.batches }

-- a query bound to the opening table under its name, at a moment
unfoldable pub live_bound_over : Query → Option ℤ → List ℕ → LiveTables → Answer LiveBound
live_bound_over query moment name tables = do
  program ← program_of query moment (named_as name tables.opening ∷ [])
  Ok (over name tables program)

-- the same, where the tables may be refused
unfoldable pub live_bound_with : Answer LiveTables → Option ℤ → List ℕ → Query → Answer LiveBound
live_bound_with tables moment name query = tables >>= λ ts. live_bound_over query moment name ts

-- a query bound, where its syntax has this verdict: its tokens, its syntax, the tables, and then binding
unfoldable pub live_query_bound : Answer (List Token) → Answer LiveTables → Option ℤ → List ℕ → Verdict → Answer LiveBound
live_query_bound tokens tables moment name verdict = tokens >>= λ read. verdict >>= λ query. live_bound_with tables moment name query

-- this is the query that tokens are, bound to an opening table of this name, at a moment, or the first refusal
pub record IsLiveBound (tokens : Answer (List Token)) (tables : Answer LiveTables) (moment : Option ℤ) (name : List ℕ) (a : Answer LiveBound) : Type 0 where
  pub verdict : Verdict
  pub judged : IfOk tokens (λ read. IsVerdict read verdict)
  pub is : a ≡ live_query_bound tokens tables moment name verdict

-- this is the query of a command, bound, or the first refusal up to binding's
abbrev pub IsLiveQueryBound : List (List ℕ) → Files → LiveAsked → Answer LiveBound → Type 0
IsLiveQueryBound words files asked a =
    IsLiveBound (file_tokens files (live_query_path words asked)) (tables_of files (live_rest words asked)) asked.options.moment (first_name (live_rest words asked)) a

-- where a view is asked for, a query that a view can keep; else 421 where the query's text starts
abbrev pub viewed : Bool → LiveBound → Answer LiveBound
viewed false b = Ok b
viewed true b = if is_view b.query.program then Ok b else Err (Refused 421 start_place)

-- this is the query of a command, bound, or the first refusal
pub record IsLiveBoundAsked (words : List (List ℕ)) (files : Files) (asked : LiveAsked) (a : Answer LiveBound) : Type 0 where
  pub bound : Answer LiveBound
  pub is_bound : IsLiveQueryBound words files asked bound
  pub is : a ≡ bound >>= viewed asked.options.view

-- the opening table with the rows of all batches at its end, in their order
abbrev pub whole : LiveBound → Grid
whole b = fold with_rows b.opening b.batches

-- the text of a command: of the table that the program means over all rows, or what is shown as the table grows
abbrev pub live_text : Bool → LiveBound → List ℕ
live_text true b = watch_text (live_means b.query) b.opening b.batches
live_text false b = table_text (live_means b.query (whole b))

-- what is shown, where that is asked for
abbrev pub live_watched : Bool → LiveBound → Option (List ℕ)
live_watched true b = Some (watch_text (live_means b.query) b.opening b.batches)
live_watched false b = None

-- what is shown, or else a text
abbrev pub shown_or : Option (List ℕ) → List ℕ → List ℕ
shown_or None text = text
shown_or (Some shown) text = shown

abbrev pub text_of : Bool → Answer LiveBound → Answer (List ℕ)
text_of watch bound = bound >>= λ b. Ok (live_text watch b)

-- this is what the command is answered
pub record AnswersLive (words : List (List ℕ)) (files : Files) (asked : LiveAsked) (a : Answer (List ℕ)) : Type 0 where
  pub bound : Answer LiveBound
  pub is_bound : IsLiveBoundAsked words files asked bound
  pub is : a ≡ text_of asked.options.watch bound

-- the same of the words, which may be refused
abbrev pub AnswersAsked : List (List ℕ) → Files → Answer LiveAsked → Answer (List ℕ) → Type 0
AnswersAsked words files (Err refusal) a = a ≡ Err refusal
AnswersAsked words files (Ok asked) a = AnswersLive words files asked a

-- this is the answer to the words and files
abbrev pub LiveAnswers : List (List ℕ) → Files → Answer (List ℕ) → Type 0
LiveAnswers words files a = AnswersAsked words files (live_of words) a

-- there is no other
abbrev pub HasOneLiveAnswer : List (List ℕ) → Files → Type 0
HasOneLiveAnswer words files = (a b : Answer (List ℕ)) → LiveAnswers words files a → LiveAnswers words files b → a ≡ b

-- What so many readers saw of a bound query: each asked it B + 1 times while B batches were published, and once when all were. The numbers of batches
-- never fall, the last is B, and with each stands how many rows the program means over the opening table grown by so many batches.
pub record SeeBound (b : LiveBound) (readers : ℕ) (seen : List (List Seen)) : Type 0 where
  pub count : length seen ≡ readers
  pub each : All (IsSeenList (live_means b.query) b.opening b.batches) seen

-- the same of a command: where its files are told, the query is the one that it asks for
pub record HasSeen (words : List (List ℕ)) (files : Option Files) (asked : LiveAsked) (seen : List (List Seen)) : Type 0 where
  pub bound : LiveBound
  pub told : IfSome files (λ there. IsLiveBoundAsked words there asked (Ok bound))
  -- each path behind NAME=PATH is a batch
  pub batches : length bound.batches + 1 + (asked.query + 1) ≡ length words
  pub see : SeeBound bound asked.options.readers seen

-- the same of words, which ask for something
abbrev pub HaveSeen : List (List ℕ) → Option Files → Answer LiveAsked → List (List Seen) → Type 0
HaveSeen words files (Err refusal) seen = ⊥
HaveSeen words files (Ok asked) seen = HasSeen words files asked seen

-- the text in a call's result
abbrev pub text_in : Result LiveDone Stop → Result (List ℕ) Stop
text_in (Ok done) = Ok done.text
text_in (Err stop) = Err stop
