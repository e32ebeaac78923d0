-- What a pattern call answers to a cell.
use Rattle.std.specs.Prelude.{◌≡◌, ℕ, List, [], map, length, slice_range, Option, Some, None, is_some, IfSome, All}
use Rattle.kql_cells.specs.Values.{IsOfKind}
use Rattle.kql_cells.specs.declared.value.Kind.{Kind}
use Rattle.kql_cells.specs.declared.value.Kind.TheVariants as kind
use Rattle.kql_cells.specs.declared.value.Value.{Value}
use Rattle.kql_cells.specs.declared.value.Value.TheVariants as val
use Rattle.pattern_search.specs.declared.span.Span.{Span}
use Rattle.pattern_search.specs.Found.{group_in}

-- the text that a cell shows, which is empty where it shows none
abbrev pub text_of : Value → List ℕ
text_of (val.Text t) = t
text_of _ = []

-- the text of a span, which is empty where there is none
abbrev pub text_at : List ℕ → Option Span → List ℕ
text_at text None = []
text_at text (Some s) = slice_range text s.from s.to

-- whether the pattern is found in a text, or the text of a group
abbrev pub answer : (List ℕ → Option (List (Option Span))) → Option ℕ → List ℕ → Value
answer find None text = val.Bool (is_some (find text))
answer find (Some number) text = val.Text (text_at text (group_in (find text) number))

-- the same of what a cell shows
abbrev pub answer_to : (List ℕ → Option (List (Option Span))) → Option ℕ → Value → Value
answer_to find group cell = answer find group (text_of cell)

abbrev pub answer_kind : Option ℕ → Kind
answer_kind None = kind.Bool
answer_kind (Some number) = kind.Text

-- what a pattern answers to each cell, where it is told what it finds
abbrev pub AreAnswers : Option (List ℕ → Option (List (Option Span))) → Option ℕ → List Value → List Value → Type 0
AreAnswers told group cells answers = IfSome told (λ find. answers ≡ map (answer_to find group) cells)

-- one value for each cell, of the kind that the call has
abbrev pub FitAnswers : Option ℕ → List Value → List Value → Type 0
FitAnswers group cells answers = (length answers ≡ length cells) × All (IsOfKind (answer_kind group)) answers
