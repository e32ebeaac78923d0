-- From what a matcher finds to what the text of its pattern finds.
use Rattle.std.proofs.Common.{◌≡◌, ℕ, ◌+◌, ◌-◌, ◌*◌, ◌<◌, ◌≤◌, List, ◌∷◌, map, length, get_or, Option, None, Some, IsSomeAnd, is_some, true, option_map, option_and_then, refl, sym, ap, ap₂, ◌∙◌, subst}
use Rattle.std.specs.Str.{chars}
use Rattle.std.proofs.lemmas.Option.{none-some, same_Some}
use Rattle.std.specs.List.{range_with_len}
use Rattle.regex_hir.specs.Meaning.{meaning}
use Rattle.regex_hir.specs.declared.hir.Hir.{Hir}
use Rattle.regex_syntax.specs.Brackets.{Nested}
use Rattle.regex_syntax.specs.Grammar.{Names, read, group_count}
use Rattle.regex.specs.Patterns.{Re, Match, SameCaptures, Config, find_str, span, slot_of, default_config, Reads}
use Rattle.regex.specs.Writes.{both}
use Rattle.regex.specs.Strings.{regex_source, regex_config, regex_pattern, regex_names, IsReadFromSource}
use Rattle.regex.specs.declared.string.regex.Regex.{Regex}
use Rattle.regex.proofs.ForCallers.{span_alike, found_alike}
use Rattle.pattern_search.specs.declared.span.Span.{Span}
use Rattle.regex.specs.Strings.{captures_names, captures_span, IsCapturesOf}
use Rattle.regex.specs.declared.string.captures.Captures.{Captures}
use Rattle.pattern_search.specs.Found.{group_in}
use Rattle.pattern_search.specs.Regexes.{span_of, match_groups, finds_by, regex_found, IsExpression}
use Rattle.pattern_search.proofs.Groups.{is_found_of, whole_of, none_of, group_of_match}

abbrev groups_by : ℕ → ℕ × ℕ → (ℕ → Option ℕ) → List (Option Span)
groups_by count whole slots =
    Some (span_of whole) ∷ map (λ k. option_map span_of (both (slots (2 * k)) (slots (2 * k + 1)))) (range_with_len 1 (count - 1))

alike : (x y : Option Match) (count : ℕ) → option_map span x ≡ option_map span y →
    ((m : Match) → x ≡ Some m → (n : Match) × (y ≡ Some n) × (slot_of n ≡ slot_of m)) → option_map (match_groups count) x ≡ option_map (match_groups count) y
alike None None count e f = refl
alike None (Some n) count e f = absurd (none-some (span n) e)
alike (Some m) y count e f =
    let g = f m refl in
    let spans : span m ≡ span g.0 = same_Some _ _ (e ∙ ap (option_map span) g.1) in
    ap Some (ap₂ (groups_by count) spans (sym g.2)) ∙ sym (ap (option_map (match_groups count)) g.1)

finds_alike : {a b : Re} (same : SameCaptures a b) (hay : List ℕ) (bytes : (k : ℕ) → get_or hay k 0 < 256) (count : ℕ) → finds_by a count hay ≡ finds_by b count hay
finds_alike same hay bytes count = alike _ _ count (span_alike same hay bytes true 0) (found_alike same hay bytes true 0)

by_read : (o : Option (Nested Re × Names)) (config : Config) (hir : Hir) (names : Names) (text : List ℕ) → ((k : ℕ) → get_or text k 0 < 256) →
    IsSomeAnd o (λ (re, found). (re.depth ≤ config.nest_limit) × SameCaptures (meaning hir) re.value × (names ≡ found) × (group_count (meaning hir) ≤ length names)) →
    option_and_then (λ it. finds_by it.0.value (length it.1) text) o ≡ finds_by (meaning hir) (length names) text
by_read None config hir names text bytes h = absurd h
by_read (Some (re, found)) config hir names text bytes h =
    sym (finds_alike h.1 text bytes (length names) ∙ ap (λ (ns : Names). finds_by re.value (length ns) text) h.2)

found_as_read : (hir : Hir) (pattern : List ℕ) (names : Names) (text : List ℕ) → ((k : ℕ) → get_or text k 0 < 256) → Reads default_config pattern hir names →
    regex_found pattern text ≡ finds_by (meaning hir) (length names) text
unfolding Reads regex_found
found_as_read hir pattern names text bytes reads = by_read (read default_config (chars pattern)) default_config hir names text bytes reads

-- what a regex finds, which was read under the default options
pub regex_finds : (r : Regex) (pattern text : List ℕ) → ((k : ℕ) → get_or text k 0 < 256) → (regex_config r ≡ default_config) × IsReadFromSource r →
    regex_source r ≡ pattern → finds_by (regex_pattern r) (length (regex_names r)) text ≡ regex_found pattern text
regex_finds r pattern text bytes read is =
    sym (found_as_read r.pattern.program.hir (regex_source r) (regex_names r) text bytes
    (subst (λ (config : Config). Reads config (regex_source r) r.pattern.program.hir (regex_names r)) read.0 read.1))
    ∙ ap (λ (p : List ℕ). regex_found p text) is

module _ (r : Regex) (re : Re) (pattern text : List ℕ) (bytes : (k : ℕ) → get_or text k 0 < 256) (read : (regex_config r ≡ default_config) × IsReadFromSource r)
    (is : regex_source r ≡ pattern) (same : re ≡ regex_pattern r) where
  finds : (names : List (Option (List ℕ))) → names ≡ regex_names r → finds_by re (length names) text ≡ regex_found pattern text
  finds names e = ap₂ (λ (x : Re) (ns : List (Option (List ℕ))). finds_by x (length ns) text) same e ∙ regex_finds r pattern text bytes read is

  pub is_found_as : is_some (find_str re text 0) ≡ is_some (regex_found pattern text)
  is_found_as = is_found_of (find_str re text 0) (length (regex_names r)) ∙ ap is_some (finds (regex_names r) refl)

  pub whole_as : (o : Option (ℕ × ℕ)) (number : ℕ) → number ≡ 0 → o ≡ option_map span (find_str re text 0) → option_map span_of o ≡ group_in (regex_found pattern text) number
  whole_as o number e whole =
      ap (option_map span_of) whole ∙ whole_of (find_str re text 0) (length (regex_names r))
      ∙ ap₂ group_in (finds (regex_names r) refl) (sym e)

  pub none_as : (number : ℕ) → find_str re text 0 ≡ None → None ≡ group_in (regex_found pattern text) number
  none_as number e = none_of (find_str re text 0) (length (regex_names r)) number e ∙ ap (λ (f : Option (List (Option Span))). group_in f number) (finds (regex_names r) refl)

  pub group_as : (c : Captures) (number : ℕ) (o : Option Span) → captures_names c ≡ regex_names r → 1 ≤ number →
      (m : Match) × (find_str re text 0 ≡ Some m) × IsCapturesOf text m c →
      (length (captures_names c) ≤ number → o ≡ None) → (number < length (captures_names c) → o ≡ option_map span_of (captures_span c number)) →
      o ≡ group_in (regex_found pattern text) number
  group_as c number o names above (m, e, shown) past within =
      group_of_match (find_str re text 0) m (length (captures_names c)) number o (captures_span c number) e above (shown.2 number above) past within
      ∙ ap (λ (f : Option (List (Option Span))). group_in f number) (finds (captures_names c) names)

-- what was read under the default options is an expression
depth_of : (o : Option (Nested Re × Names)) (config : Config) (hir : Hir) (names : Names) →
    IsSomeAnd o (λ (re, found). (re.depth ≤ config.nest_limit) × SameCaptures (meaning hir) re.value × (names ≡ found) × (group_count (meaning hir) ≤ length names)) →
    IsSomeAnd o (λ (re, _). re.depth ≤ config.nest_limit)
depth_of None config hir names h = h
depth_of (Some (re, found)) config hir names h = h.0

read_by_default : (hir : Hir) (pattern : List ℕ) (names : Names) → Reads default_config pattern hir names → IsExpression pattern
unfolding Reads IsExpression
read_by_default hir pattern names reads = depth_of (read default_config (chars pattern)) default_config hir names reads

pub is_expression : (r : Regex) (text : List ℕ) → regex_config r ≡ default_config → IsReadFromSource r → regex_source r ≡ text → IsExpression text
is_expression r text config read is =
    subst IsExpression is (read_by_default r.pattern.program.hir (regex_source r) (regex_names r)
    (subst (λ (config : Config). Reads config (regex_source r) r.pattern.program.hir (regex_names r)) config read))
