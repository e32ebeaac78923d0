-- How a search for the least of some numbers stands.
use Rattle.std.proofs.Common.{◌∙◌, map, ℕ, List, Option, Some, None, refl, subst, ◌≡◌, ◌≤◌, ◌<◌, ◌+◌, length, slice_index, sym, ap, arith}
use Rattle.std.proofs.lemmas.List.{get_or_default}
use Rattle.std.proofs.lemmas.List.Elements.{AllWithin-more}
use Rattle.std.specs.Prelude.{MatchOption}
use Rattle.std.specs.Char.{to_ascii_lowercase}
use Rattle.std.specs.Str.{chars}
use Rattle.strsim.specs.Edits.{osa_table}
use Rattle.kql_near.specs.Nearest.{edits}
use Rattle.std.specs.List.{AllWithin, HoldsAt}

-- what was found is the first at the limit, which is few; nothing was found where it is more
abbrev pub IsHeld : ℕ → List ℕ → ℕ → ℕ → Option ℕ → Type 0
IsHeld top es i limit found = MatchOption found (limit ≡ top + 1) (λ at. (at < i) × (slice_index es at ≡ limit) × (limit ≤ top) × AllWithin (λ e. limit < e) es 0 at)

-- of the numbers before a place none is below the limit, and what was found is the first at the limit
pub record Standing (top : ℕ) (es : List ℕ) (i limit : ℕ) (found : Option ℕ) : Type 0 where
  pub most : limit ≤ top + 1
  pub rest : AllWithin (λ e. limit ≤ e) es 0 i
  pub held : IsHeld top es i limit found

-- what holds of a number holds at its place
pub at-place : (P : ℕ → Type 0) (es : List ℕ) (i : ℕ) → i < length es → P (slice_index es i) → HoldsAt P es i
at-place P es i lt p d = subst P (get_or_default es i 0 d lt) p

-- one place on, what was found is before it too
held-on : (top : ℕ) (es : List ℕ) (i limit : ℕ) (found : Option ℕ) → IsHeld top es i limit found → IsHeld top es (i + 1) limit found
held-on top es i limit None h = h
held-on top es i limit (Some at) h = ((let x = h.0 in omega arith), h.1, h.2, h.3)

-- a number that is not below the limit changes nothing
pub same : (top : ℕ) (es : List ℕ) (i limit : ℕ) (found : Option ℕ) → i < length es → limit ≤ slice_index es i → Standing top es i limit found → Standing top es (i + 1) limit found
same top es i limit found lt le s = record {
  most = s.most;
  rest = AllWithin-more (λ e. limit ≤ e) es 0 i s.rest (at-place (λ e. limit ≤ e) es i lt le);
  held = held-on top es i limit found s.held;
}

-- a number below the limit is the new one
pub less : (top : ℕ) (es : List ℕ) (i limit : ℕ) (found : Option ℕ) → i < length es → slice_index es i < limit → Standing top es i limit found → Standing top es (i + 1) (slice_index es i) (Some i)
less top es i limit found lt below s =
    let e = slice_index es i in
    record {
      most = (let m = s.most in omega arith);
      rest = AllWithin-more (λ x. e ≤ x) es 0 i (λ k d l h. let r = s.rest k d l h in omega arith) (at-place (λ x. e ≤ x) es i lt (omega arith));
      held = ((omega arith), refl, (let m = s.most in omega arith), (λ k d l h. let r = s.rest k d l h in omega arith));
    }

-- where the limit and what was found stay
pub kept-on : (top : ℕ) (es : List ℕ) (i e limit limit' : ℕ) (found found' : Option ℕ) → i < length es → e ≡ slice_index es i → limit ≤ e → limit' ≡ limit → found' ≡ found
    → Standing top es i limit found → Standing top es (i + 1) limit' found'
kept-on top es i e limit limit' found found' lt e-is le limit-is found-is s =
    subst (λ l. Standing top es (i + 1) l found') (sym limit-is)
    (subst (λ f. Standing top es (i + 1) limit f) (sym found-is) (same top es i limit found lt (subst (λ x. limit ≤ x) e-is le) s))

-- where a number below the limit is found
pub taken-on : (top : ℕ) (es : List ℕ) (i e limit limit' : ℕ) (found found' : Option ℕ) → i < length es → e ≡ slice_index es i → e < limit → limit' ≡ e → found' ≡ Some i
    → Standing top es i limit found → Standing top es (i + 1) limit' found'
taken-on top es i e limit limit' found found' lt e-is below limit-is found-is s =
    subst (λ l. Standing top es (i + 1) l found') (sym (limit-is ∙ e-is))
    (subst (λ f. Standing top es (i + 1) (slice_index es i) f) (sym found-is) (less top es i limit found lt (subst (λ x. x < limit) e-is below) s))

-- the edits between two texts in lower case are those between the texts
pub edits-are : (a b x y : List ℕ) (e : ℕ) → a ≡ map to_ascii_lowercase x → b ≡ map to_ascii_lowercase y → e ≡ (osa_table (chars a) (chars b)).last_row (length (chars b)) → e ≡ edits x y
edits-are a b x y e p q h =
    h ∙ (ap (λ xs. (osa_table (chars xs) (chars b)).last_row (length (chars b))) p
    ∙ ap (λ ys. (osa_table (chars (map to_ascii_lowercase x)) (chars ys)).last_row (length (chars ys))) q)
