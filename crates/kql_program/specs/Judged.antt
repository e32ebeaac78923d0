-- What an answer says of the patterns of its query: all were made. And a refusal of one: it stands at the first that the maker may refuse, and all before
-- it were made. The maker tells which texts it may make and which it may refuse.
use Rattle.std.specs.Prelude.{◌≡◌, ℕ, ℤ, List, Option, IfSome, Result, Ok, Err}
use Rattle.kql_bound.specs.declared.plan.Program.{Program}
use Rattle.kql_cells.specs.Catalogues.{Named}
use Rattle.kql_lexer.specs.declared.place.Place.{Place}
use Rattle.kql_lexer.specs.declared.token.Token.{Token}
use Rattle.kql_parser.specs.Parsing.{Parsed}
use Rattle.kql_syntax.specs.declared.query.Query.{Query}
use Rattle.kql_words.specs.Command.{query_path}
use Rattle.kql_words.specs.Refusals.{Answer}
use Rattle.kql_words.specs.declared.command.Asked.{Asked}
use Rattle.kql_words.specs.declared.refusal.Refusal.TheVariants as refusal
use Rattle.catalogue_tables.specs.Files.{Files}
use Rattle.pattern_run.specs.Patterned.{AreMade, IsFirstRefused, calls_of_program}
use Rattle.kql_program.specs.Files.{file_tokens}
use Rattle.kql_program.specs.Queries.{bound_program_of, tables_asked}
use Rattle.kql_program.specs.Refusals.{bad_pattern_code}
use Rattle.kql_program.specs.declared.ended.Ended.{Ended}
use Rattle.kql_program.specs.declared.ended.Ended.TheVariants as ended
use Rattle.kql_program.specs.declared.refusal.Stop.{Stop}
use Rattle.kql_program.specs.declared.refusal.Stop.TheVariants as stop

-- The program of a query, with its pattern calls.

-- this is the program that a query is bound to over tables, at a moment
abbrev pub IsProgramOver : Query → Option ℤ → List Named → Program → Type 0
IsProgramOver query moment tables program = bound_program_of query moment tables ≡ Ok program

-- the same, over tables that may be refused, and are not
pub record IsProgramWith (tables : Answer (List Named)) (moment : Option ℤ) (query : Query) (program : Program) : Type 0 where
  pub known : List Named
  pub are : tables ≡ Ok known
  pub is : IsProgramOver query moment known program

-- this is the program of the query that tokens are
pub record IsProgramOf (tokens : Answer (List Token)) (tables : Answer (List Named)) (moment : Option ℤ) (program : Program) : Type 0 where
  pub read : List Token
  pub are : tokens ≡ Ok read
  pub query : Query
  pub parsed : Parsed read query
  pub is : IsProgramWith tables moment query program

-- this is the program of the query of a command
abbrev pub IsProgramAsked : List (List ℕ) → Files → Asked → Program → Type 0
IsProgramAsked words files asked program = IsProgramOf (file_tokens files (query_path words asked)) (tables_asked words files asked) asked.options.moment program

-- Which texts a maker may make, or may refuse.
abbrev pub OfTexts : Type 1
OfTexts = List ℕ → Type 0

-- the text of every pattern of the program may be made
pub record AreAllMade (Is : Program → Type 0) (makes : OfTexts) : Type 0 where
  pub program : Program
  pub is : Is program
  pub made : AreMade makes (calls_of_program program)

-- the literal is that of the first pattern of the program that is refused: its text may be refused, and all before it may be made
pub record IsFirstBad (Is : Program → Type 0) (makes refuses : OfTexts) (literal : Place) : Type 0 where
  pub program : Program
  pub is : Is program
  pub first : IsFirstRefused makes refuses (calls_of_program program) literal

-- A stop tells of a refused pattern only where it is the first bad one.
abbrev pub StopJudges : (Program → Type 0) → OfTexts → OfTexts → Stop → Type 0
StopJudges Is makes refuses s = (literal : Place) → s ≡ stop.Refused (refusal.Query bad_pattern_code literal) → IsFirstBad Is makes refuses literal

-- a call gave an answer only where all patterns were made
abbrev pub Judges : {X : Type 0} → (Program → Type 0) → OfTexts → OfTexts → Result X Stop → Type 0
Judges Is makes refuses (Ok x) = AreAllMade Is makes
Judges Is makes refuses (Err s) = StopJudges Is makes refuses s

-- the same of a query's command, where files are told
abbrev pub JudgesFor : {X : Type 0} → OfTexts → OfTexts → List (List ℕ) → Option Files → Option Asked → Result X Stop → Type 0
JudgesFor makes refuses words files asked result = IfSome asked (λ a. IfSome files (λ told. Judges (IsProgramAsked words told a) makes refuses result))

-- What an ending says: a table, or the text of a plan, was answered only where all patterns were made, and the code of a refused pattern stands at the first
-- bad one.
abbrev pub EndingJudges : (Program → Type 0) → OfTexts → OfTexts → Ended → Type 0
EndingJudges Is makes refuses (ended.Table plan report) = AreAllMade Is makes
EndingJudges Is makes refuses ended.PlainTable = AreAllMade Is makes
EndingJudges Is makes refuses (ended.Explained plan) = AreAllMade Is makes
EndingJudges Is makes refuses (ended.Trial reports) = Unit {0}
EndingJudges Is makes refuses (ended.QueryRefused code place) = code ≡ bad_pattern_code → IsFirstBad Is makes refuses place
EndingJudges Is makes refuses (ended.Usage word code) = Unit {0}
EndingJudges Is makes refuses (ended.DataRefused file code row column) = Unit {0}
EndingJudges Is makes refuses ended.ReadFault = Unit {0}
EndingJudges Is makes refuses ended.WriteFault = Unit {0}
EndingJudges Is makes refuses ended.OutOfMemory = Unit {0}

-- so it is with the query of a command, where files are told
abbrev pub IsJudged : OfTexts → OfTexts → List (List ℕ) → Option Files → Option Asked → Ended → Type 0
IsJudged makes refuses words files asked e = IfSome asked (λ a. IfSome files (λ told. EndingJudges (IsProgramAsked words told a) makes refuses e))
