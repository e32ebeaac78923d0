-- The line that an ending writes for errors.
use Rattle.std.specs.Prelude.{ℕ, ◌==◌, nat_lt, List, [], ◌∷◌, ◌++◌, codes, if◌then◌else◌}
use Rattle.std.specs.Fmt.{decimal}
use Rattle.kql_words.specs.declared.refusal.Refusal.{Refusal}
use Rattle.kql_words.specs.declared.refusal.Refusal.TheVariants.{Query, Usage, Data}

-- the name of a code of tokens and syntax
abbrev pub text_name : ℕ → List ℕ
text_name code =
    if code == 101 then codes "BadCharacter"
    else if code == 102 then codes "OpenText"
    else if code == 103 then codes "BadNumber"
    else if code == 104 then codes "TextTooLong"
    else if code == 105 then codes "TooManyTokens"
    else if code == 201 then codes "Unexpected"
    else if code == 202 then codes "TooDeep"
    else if code == 203 then codes "TooManyOperators"
    else []

-- the names of the codes of binding, 401 to 410
abbrev pub bind_name : ℕ → List ℕ
bind_name code =
    if code == 401 then codes "UnknownColumn"
    else if code == 402 then codes "UnknownFunction"
    else if code == 403 then codes "WrongArguments"
    else if code == 404 then codes "WrongType"
    else if code == 405 then codes "UnsupportedType"
    else if code == 406 then codes "UnsupportedFunction"
    else if code == 407 then codes "NotSerialised"
    else if code == 408 then codes "WindowHere"
    else if code == 409 then codes "NoMoment"
    else if code == 410 then codes "UnknownTable"
    else []

-- and 411 to 420, of a query that a view cannot keep, and of a pattern that the maker refused
abbrev pub operator_name : ℕ → List ℕ
operator_name code =
    if code == 411 then codes "ColumnTwice"
    else if code == 412 then codes "TooManyColumns"
    else if code == 413 then codes "BadStep"
    else if code == 414 then codes "BadRange"
    else if code == 415 then codes "TypeClash"
    else if code == 416 then codes "NotInPartition"
    else if code == 417 then codes "NameTwice"
    else if code == 418 then codes "BadLiteral"
    else if code == 419 then codes "NoColumns"
    else if code == 420 then codes "PatternHere"
    else if code == 421 then codes "NotAView"
    else if code == 501 then codes "BadPattern"
    else []

-- the name of a code of a refused query: of its tokens and syntax, or of binding
abbrev pub query_name : ℕ → List ℕ
query_name code = if nat_lt code 401 then text_name code else if nat_lt code 411 then bind_name code else operator_name code

-- the name of a code of a refused word
abbrev pub usage_name : ℕ → List ℕ
usage_name code =
    if code == 601 then codes "NoCommand"
    else if code == 602 then codes "UnknownCommand"
    else if code == 603 then codes "UnknownOption"
    else if code == 604 then codes "OptionTwice"
    else if code == 605 then codes "OptionValue"
    else if code == 606 then codes "NoQuery"
    else if code == 607 then codes "BadTable"
    else if code == 608 then codes "TableTwice"
    else if code == 609 then codes "BadCount"
    else if code == 610 then codes "TooManyTables"
    else if code == 611 then codes "EmptyPath"
    else if code == 612 then codes "NoTable"
    else []

-- the name of a code of a refused file, up to 308
abbrev pub file_name : ℕ → List ℕ
file_name code =
    if code == 301 then codes "NotUtf8"
    else if code == 302 then codes "NoHeader"
    else if code == 303 then codes "BadColumn"
    else if code == 304 then codes "ColumnTwice"
    else if code == 305 then codes "BadLength"
    else if code == 306 then codes "BadCell"
    else if code == 307 then codes "NoFile"
    else if code == 308 then codes "TooLong"
    else []

-- and 309 to 315
abbrev pub catalogue_name : ℕ → List ℕ
catalogue_name code =
    if code == 309 then codes "NotJson"
    else if code == 310 then codes "BadCatalogue"
    else if code == 311 then codes "BadTableName"
    else if code == 312 then codes "HeaderDiffers"
    else if code == 313 then codes "TooManyFiles"
    else if code == 314 then codes "CatalogueTooLong"
    else if code == 315 then codes "SchemaDiffers"
    else []

-- the name of a code of a refused file
abbrev pub data_name : ℕ → List ℕ
data_name code = if nat_lt code 309 then file_name code else catalogue_name code

-- texts one after another
abbrev pub joined : List (List ℕ) → List ℕ
joined [] = []
joined (t ∷ ts) = t ++ joined ts

-- `kql: LINE:COLUMN: CODE NAME`
abbrev pub query_line : ℕ → ℕ → ℕ → List ℕ
query_line line column code =
    joined (codes "kql: " ∷ decimal line ∷ codes ":" ∷ decimal column ∷ codes ": " ∷ decimal code ∷ codes " " ∷ query_name code ∷ codes "\n" ∷ [])

-- `kql: word N: CODE NAME`
abbrev pub usage_line : ℕ → ℕ → List ℕ
usage_line word code =
    joined (codes "kql: word " ∷ decimal word ∷ codes ": " ∷ decimal code ∷ codes " " ∷ usage_name code ∷ codes "\n" ∷ [])

-- `kql: file N: CODE NAME at ROW:COLUMN`
abbrev pub data_line : ℕ → ℕ → ℕ → ℕ → List ℕ
data_line file code row column =
    joined (codes "kql: file " ∷ decimal file ∷ codes ": " ∷ decimal code ∷ codes " " ∷ data_name code ∷ codes " at " ∷ decimal row ∷ codes ":" ∷ decimal column ∷ codes "\n" ∷ [])

-- the line of a refusal, with its line feed
abbrev pub line_of : Refusal → List ℕ
line_of (Query code place) = query_line place.line place.column code
line_of (Usage word code) = usage_line word code
line_of (Data file code row column) = data_line file code row column

abbrev pub read_fault_line : List ℕ
read_fault_line = codes "kql: read fault\n"

abbrev pub memory_line : List ℕ
memory_line = codes "kql: out of memory\n"
