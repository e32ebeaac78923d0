-- What regular expressions find, by the definitions of `regex`: the grammar reads the pattern, and the leftmost match has its groups.
use Rattle.std.specs.Prelude.{ℕ, ◌-◌, ◌≤◌, List, ◌∷◌, map, length, chars, Option, Some, option_map, option_and_then, IsSomeAnd}
use Rattle.std.specs.List.{range_with_len}
use Rattle.regex_syntax.specs.Grammar.{read}
use Rattle.regex.specs.Patterns.{Re, Match, find_str, span, default_config}
use Rattle.regex.specs.Writes.{group_of}
use Rattle.pattern_search.specs.declared.span.Span.{Span}

abbrev pub span_of : ℕ × ℕ → Span
span_of s = record { from = s.0; to = s.1 }

-- the span of a group of a match, if it took part
abbrev pub match_group : Match → ℕ → Option Span
match_group m n = option_map span_of (group_of m n)

-- the spans of so many groups of a match, that of the match first
abbrev pub match_groups : ℕ → Match → List (Option Span)
match_groups count m = Some (span_of (span m)) ∷ map (match_group m) (range_with_len 1 (count - 1))

-- what an expression with so many groups finds
abbrev pub finds_by : Re → ℕ → List ℕ → Option (List (Option Span))
finds_by re count text = option_map (match_groups count) (find_str re text 0)

-- what the pattern of a text finds, under the default options; a text that is no pattern finds nothing
unfoldable pub regex_found : List ℕ → List ℕ → Option (List (Option Span))
regex_found pattern text =
    option_and_then (λ it. finds_by it.0.value (length it.1) text) (read default_config (chars pattern))

-- the grammar reads the text, and it nests no deeper than the default options allow
unfoldable pub IsExpression : List ℕ → Type 0
IsExpression text = IsSomeAnd (read default_config (chars text)) (λ (re, _). re.depth ≤ default_config.nest_limit)
