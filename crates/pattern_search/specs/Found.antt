-- What a pattern finds in a text: no match, or the span of each group, that of the match first.
use Rattle.std.specs.Prelude.{ℕ, ◌≤◌, List, length, Option, Some, None, slice_index_or, IsCharBoundary}
use Rattle.pattern_search.specs.declared.span.Span.{Span}

-- the span of a group, if there is a match and such a group, and it took part
abbrev pub group_in : Option (List (Option Span)) → ℕ → Option Span
group_in None number = None
group_in (Some spans) number = slice_index_or spans number None

-- the span lies in the text, and both its ends between characters
abbrev pub IsSpanOf : List ℕ → Span → Type 0
IsSpanOf text s = (s.from ≤ s.to) × (s.to ≤ length text) × IsCharBoundary text s.from × IsCharBoundary text s.to
