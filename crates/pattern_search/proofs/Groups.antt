-- The span of one group, from a match or from none.
use Rattle.std.proofs.Common.{◌≡◌, ℕ, zero, suc, ◌-◌, ◌<◌, ◌≤◌, map, get_or, Option, None, Some, is_some, option_map, refl, sym, ap, ◌∙◌, ⊎_elim, arith}
use Rattle.std.proofs.lemmas.Bool.{cases_lt}
use Rattle.std.proofs.lemmas.List.{get_or_past}
use Rattle.std.proofs.lemmas.List.FromFn.{get_or-map-range_with_len, length-map-range_with_len}
use Rattle.std.specs.List.{range_with_len}
use Rattle.regex.specs.Patterns.{Match, span}
use Rattle.regex.specs.Writes.{group_of}
use Rattle.pattern_search.specs.declared.span.Span.{Span}
use Rattle.pattern_search.specs.Found.{group_in}
use Rattle.pattern_search.specs.Regexes.{span_of, match_group, match_groups}

-- whether a match is there
pub is_found_of : (o : Option Match) (count : ℕ) → is_some o ≡ is_some (option_map (match_groups count) o)
is_found_of None count = refl
is_found_of (Some m) count = refl

-- group 0 is the match
pub whole_of : (o : Option Match) (count : ℕ) → option_map span_of (option_map span o) ≡ group_in (option_map (match_groups count) o) 0
whole_of None count = refl
whole_of (Some m) count = refl

-- without a match there is no group
pub none_of : (o : Option Match) (count number : ℕ) → o ≡ None → None ≡ group_in (option_map (match_groups count) o) number
none_of o count number e = sym (ap (λ (p : Option Match). group_in (option_map (match_groups count) p) number) e)

in_range : (m : Match) (count number : ℕ) → 1 ≤ number → number < count → match_group m number ≡ get_or (match_groups count m) number None
in_range m count zero above within = absurd (omega arith)
in_range m count (suc k) above within =
    sym (get_or-map-range_with_len (match_group m) 1 (count - 1) k (suc k) None (omega arith) (omega arith))

past_range : (m : Match) (count number : ℕ) → 1 ≤ number → count ≤ number → None ≡ get_or (match_groups count m) number None
past_range m count zero above past = absurd (omega arith)
past_range m count (suc k) above past =
    sym (get_or_past (map (match_group m) (range_with_len 1 (count - 1))) k None (omega (arith, length-map-range_with_len (match_group m) 1 (count - 1))))

-- a group of a match, which is none past the last
pub group_of_match : (o : Option Match) (m : Match) (count number : ℕ) (r : Option Span) (s : Option (ℕ × ℕ)) → o ≡ Some m → 1 ≤ number →
    s ≡ group_of m number → (count ≤ number → r ≡ None) → (number < count → r ≡ option_map span_of s) →
    r ≡ group_in (option_map (match_groups count) o) number
group_of_match o m count number r s e above is past within =
    ⊎_elim (λ lt. within lt ∙ ap (option_map span_of) is ∙ in_range m count number above lt) (λ le. past le ∙ past_range m count number above le)
    (cases_lt number count) ∙ sym (ap (λ (p : Option Match). group_in (option_map (match_groups count) p) number) e)
