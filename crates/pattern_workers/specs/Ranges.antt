-- Ranges of a column, and what is answered to their cells.
use Rattle.std.specs.Prelude.{◌≤◌, ℕ, List, length, map, max, min, Option, Some, slice_range, slice_index_or}
use Rattle.kql_cells.specs.declared.value.Value.{Value}
use Rattle.pattern_search.specs.declared.span.Span.{Span}
use Rattle.pattern_ops.specs.Answers.{AreAnswers, FitAnswers, answer_to}
use Rattle.pattern_workers.specs.declared.answers.Range.{Range}
use Rattle.pattern_workers.specs.declared.answers.Ranged.{Ranged}

-- What a pattern finds in a text.
abbrev pub Finds : Type 0
Finds = List ℕ → Option (List (Option Span))

-- The range of a piece; none stands behind the last.
unfoldable pub range_at : List Range → ℕ → Range
range_at ranges piece = slice_index_or ranges piece (record { from = 0; to = 0 })

-- Its places, cut to those of the column.
abbrev pub within : List Value → Range → Range
within cells r = let from : ℕ = min r.from (length cells) in record { from = from; to = max (min r.to (length cells)) from }

unfoldable pub ranged : Finds → Option ℕ → List Value → Range → Ranged
ranged find group cells r =
    let places : Range = within cells r in
    record { range = places; answers = map (answer_to find group) (slice_range cells places.from places.to) }

-- The answers to a range.
pub record IsRanged (find : Finds) (group : Option ℕ) (cells : List Value) (r : Ranged) : Type 0 where
  pub order : r.range.from ≤ r.range.to
  pub inside : r.range.to ≤ length cells
  pub values : AreAnswers (Some find) group (slice_range cells r.range.from r.range.to) r.answers
  pub fits : FitAnswers group (slice_range cells r.range.from r.range.to) r.answers
