-- What becomes of a bound program with pattern calls: the lifted program over its tables and the derived ones, or the first refusal.
use Rattle.std.specs.Prelude.{◌≡◌, ◌⊎◌, ◌==◌, ℕ, List, [], ◌∷◌, ◌++◌, map, Bool, ◌&&◌, Option, None, Some, option_map, slice_get, Result, Ok, Err, All, IsTrue, if◌then◌else◌}
use Rattle.std.specs.List.{flat_map, list_any}
use Rattle.kql_cells.specs.Catalogues.{Named, schemas_of}
use Rattle.kql_cells.specs.declared.schema.Column.{Column}
use Rattle.kql_cells.specs.declared.schemas.NamedSchema.{NamedSchema}
use Rattle.kql_lexer.specs.declared.place.Place.{Place}
use Rattle.kql_lexer.specs.declared.token.Token.{Token}
use Rattle.kql_lexer.specs.declared.token.TokenForm.{TokenForm}
use Rattle.kql_lexer.specs.declared.token.TokenForm.TheVariants as form
use Rattle.kql_bound.specs.declared.plan.Program.{Program}
use Rattle.pattern_search.specs.declared.span.Span.{Span}
use Rattle.pattern_ops.specs.Answers.{answer}
use Rattle.pattern_ops.specs.Makers.{next_count}
use Rattle.pattern_lift.specs.declared.calls.PatternCall.{PatternCall}
use Rattle.pattern_lift.specs.Derived.{uses}
use Rattle.pattern_lift.specs.Lifted.{lifted_program}
use Rattle.pattern_lift.specs.Marks.{marks_beyond}
use Rattle.pattern_laws.specs.Meaning.{Told}
use Rattle.pattern_laws.specs.Tables.{derived_tables}
use Rattle.pattern_laws.specs.Tested.{can_lift, tables_are_unmarked}
use Rattle.pattern_run.specs.declared.fault.PatternFault.{PatternFault}
use Rattle.pattern_run.specs.declared.fault.PatternFault.TheVariants as fault
use Rattle.pattern_run.specs.declared.lifted.Lifted.{Lifted}

-- What the pattern of a text finds in another text: no match, or the span of each group, that of the match first.
abbrev pub Found : Type 0
Found = List ℕ → List ℕ → Option (List (Option Span))

-- What a call answers by that: whether there is a match, or the text of a group.
abbrev pub told_by : Found → Told
told_by found group pattern text = answer (found pattern) group text

-- What the pattern of a call finds.
abbrev pub finds_of : Found → PatternCall → List ℕ → Option (List (Option Span))
finds_of found c = found c.pattern

-- The names that a query and its tables have: of words and texts, and of columns and tables. The marks of added names begin none of them.
abbrev pub name_in : TokenForm → List (List ℕ)
name_in (form.Word keyword text) = text ∷ []
name_in (form.Text text) = text ∷ []
name_in _ = []

abbrev pub names_in : List Token → List (List ℕ)
names_in tokens = flat_map (λ (t : Token). name_in t.form) tokens

abbrev pub names_of_schema : NamedSchema → List (List ℕ)
names_of_schema s = s.name ∷ map (λ (c : Column). c.name) s.schema

unfoldable pub marks_for : List Token → List NamedSchema → List ℕ
marks_for tokens schemas = marks_beyond (names_in tokens ++ flat_map names_of_schema schemas)

-- The place of the word of a call.
abbrev pub word_of : PatternCall → Place
word_of c = c.func.word

-- The calls of a program do not depend on the marks.
unfoldable pub calls_of_program : Program → List PatternCall
calls_of_program p = uses [] p

-- That of a program's first call.
unfoldable pub first_call : Program → Option Place
first_call p = option_map word_of (slice_get (calls_of_program p) 0)

-- How many calls a query may have.
abbrev pub most_calls : ℕ
most_calls = 256

-- The place of a call that may not stand: the first behind so many, or else the first of all where the program can't be lifted.
abbrev pub or_misplaced : Option Place → List ℕ → Program → List NamedSchema → Option Place
or_misplaced (Some place) marks p schemas = Some place
or_misplaced None marks p schemas = if can_lift marks p && tables_are_unmarked marks schemas then None else first_call p

unfoldable pub refused_call : List ℕ → Program → List NamedSchema → Option Place
refused_call marks p schemas = or_misplaced (option_map word_of (slice_get (calls_of_program p) most_calls)) marks p schemas

-- Whether this is the place of the pattern of one of these calls.
abbrev pub is_same : Place → Place → Bool
is_same a b = a.line == b.line && (a.column == b.column && a.byte == b.byte)

abbrev pub is_pattern_in : List PatternCall → Place → Bool
is_pattern_in calls place = list_any (λ (c : PatternCall). is_same c.func.literal place) calls

unfoldable pub is_pattern : Program → Place → Bool
is_pattern p place = is_pattern_in (calls_of_program p) place

-- Why one of these calls has no pattern: the maker refused it, or memory was wanting.
abbrev pub IsRefusalIn : List PatternCall → PatternFault → Type 0
IsRefusalIn calls (fault.PatternHere place) = ⊥
IsRefusalIn calls (fault.BadPattern place) = IsTrue (is_pattern_in calls place)
IsRefusalIn calls fault.OutOfMemory = Unit {0}

-- A pattern may be made of the text of each of these calls.
abbrev pub AreMade : (List ℕ → Type 0) → List PatternCall → Type 0
AreMade makes calls = All (λ (c : PatternCall). makes c.pattern) calls

-- This is the literal of the first of these calls whose pattern is refused: its text may be refused, and all before it may be made.
pub record IsFirstRefused (makes refuses : List ℕ → Type 0) (calls : List PatternCall) (literal : Place) : Type 0 where
  pub before : List PatternCall
  pub bad : PatternCall
  pub behind : List PatternCall
  pub are : calls ≡ before ++ bad ∷ behind
  pub made : AreMade makes before
  pub refused : refuses bad.pattern
  pub at : literal ≡ bad.func.literal

-- What a maker that may make these texts and refuse those says of calls by a fault,
abbrev pub IsJudgedBy : (List ℕ → Type 0) → (List ℕ → Type 0) → List PatternCall → PatternFault → Type 0
IsJudgedBy makes refuses calls (fault.PatternHere place) = Unit {0}
IsJudgedBy makes refuses calls (fault.BadPattern literal) = IsFirstRefused makes refuses calls literal
IsJudgedBy makes refuses calls fault.OutOfMemory = Unit {0}

-- and by an answer: all patterns are made.
abbrev pub AreJudged : {T : Type 0} → (List ℕ → Type 0) → (List ℕ → Type 0) → List PatternCall → Result T PatternFault → Type 0
AreJudged makes refuses calls (Ok value) = AreMade makes calls
AreJudged makes refuses calls (Err f) = IsJudgedBy makes refuses calls f

-- The same of one call.
abbrev pub IsCallJudgedBy : (List ℕ → Type 0) → PatternCall → PatternFault → Type 0
IsCallJudgedBy refuses c (fault.PatternHere place) = Unit {0}
IsCallJudgedBy refuses c (fault.BadPattern literal) = refuses c.pattern × (literal ≡ c.func.literal)
IsCallJudgedBy refuses c fault.OutOfMemory = Unit {0}

abbrev pub IsCallJudged : {T : Type 0} → (List ℕ → Type 0) → (List ℕ → Type 0) → PatternCall → Result T PatternFault → Type 0
IsCallJudged makes refuses c (Ok value) = makes c.pattern
IsCallJudged makes refuses c (Err f) = IsCallJudgedBy refuses c f

-- The program and the tables that it reads, lifted.
unfoldable pub lifted_over : Found → List ℕ → Program → List Named → Lifted
lifted_over found marks p tables = record { program = lifted_program marks p; catalogue = tables ++ derived_tables (told_by found) marks p tables }

-- That, or the refusal of the pattern at a place.
abbrev pub unless_bad : Option Place → Program → Lifted → Result Lifted PatternFault
unless_bad None p l = Ok l
unless_bad (Some place) p l = if is_pattern p place then Err (fault.BadPattern place) else Ok l

abbrev pub unless_refused : Option Place → Result Lifted PatternFault → Result Lifted PatternFault
unless_refused (Some place) r = Err (fault.PatternHere place)
unless_refused None r = r

abbrev pub with_calls : List PatternCall → Program → List Named → Result Lifted PatternFault → Result Lifted PatternFault
with_calls [] p tables r = Ok (record { program = p; catalogue = tables })
with_calls (c ∷ cs) p tables r = r

-- What becomes of a program over tables, where the maker refuses the pattern at a place, or none: without calls it stays as it is.
unfoldable pub patterned : Found → Option Place → List Token → Program → List Named → Result Lifted PatternFault
patterned found bad tokens p tables =
    let marks : List ℕ = marks_for tokens (schemas_of tables) in
    with_calls (calls_of_program p) p tables
    (unless_refused (refused_call marks p (schemas_of tables)) (unless_bad bad p (lifted_over found marks p tables)))

-- The place of the pattern that the maker refused.
abbrev pub bad_in : {T : Type 0} → Result T PatternFault → Option Place
bad_in (Err (fault.BadPattern place)) = Some place
bad_in _ = None

-- A call gave that; want of memory alone may stand in its place.
abbrev pub IsPatterned : Found → List Token → Program → List Named → Result Lifted PatternFault → Type 0
IsPatterned found tokens p tables result = (result ≡ patterned found (bad_in result) tokens p tables) ⊎ (result ≡ Err fault.OutOfMemory)

-- The maker's count behind that: one more where it refused a pattern, and else the same.
abbrev pub counted_by : PatternFault → ℕ → ℕ
counted_by (fault.BadPattern place) count = next_count count
counted_by _ count = count

abbrev pub faults_after : {T : Type 0} → Result T PatternFault → ℕ → ℕ
faults_after (Ok value) count = count
faults_after (Err f) count = counted_by f count
