-- The answers to a range of cells, and behind them those to the next range, are those to both.
use Rattle.std.specs.Prelude.{◌≡◌, ℕ, ◌≤◌, List, ◌++◌, length, Option, slice_range}
use Rattle.kql_cells.specs.declared.value.Value.{Value}
use Rattle.pattern_search.specs.declared.span.Span.{Span}
use Rattle.pattern_ops.specs.Answers.{AreAnswers, FitAnswers}

abbrev pub AnswersJoin : Type 0
AnswersJoin = (told : Option (List ℕ → Option (List (Option Span)))) (group : Option ℕ) (cells front back : List Value) (from at to : ℕ) →
    from ≤ at → at ≤ to →
    AreAnswers told group (slice_range cells from at) front → AreAnswers told group (slice_range cells at to) back →
    AreAnswers told group (slice_range cells from to) (front ++ back)

abbrev pub FittingJoins : Type 0
FittingJoins = (group : Option ℕ) (cells front back : List Value) (from at to : ℕ) → from ≤ at → at ≤ to →
    FitAnswers group (slice_range cells from at) front → FitAnswers group (slice_range cells at to) back →
    FitAnswers group (slice_range cells from to) (front ++ back)

abbrev pub WholeIsRange : Type 0
WholeIsRange = (cells : List Value) → slice_range cells 0 (length cells) ≡ cells
