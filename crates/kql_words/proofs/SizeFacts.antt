-- What stands before the last letters of a word.
use Rattle.std.proofs.Common.{◌≡◌, ◌≤◌, ◌+◌, ◌-◌, ◌∙◌, ℕ, true, false, List, length, take, sym, ap, subst, arith, Bor}
use Rattle.std.specs.Prelude.{Option, Some, None, MatchOption, eqb}
use Rattle.std.specs.List.{ends_with}
use Rattle.std.specs.Str.{IsCharBoundary}
use Rattle.std.specs.Str.Pattern.{FindsTextSuffix, StripsSuffix}
use Rattle.std.proofs.lemmas.Str.Pattern.{ends_text}
use Rattle.kql_words.specs.Sizes.{before_letters}

pub front-of : (s n : List ℕ) (r : Option (Bor (List ℕ))) → MatchOption r (FindsTextSuffix n s None) (λ x. StripsSuffix (FindsTextSuffix n) s x.now)
    → MatchOption r (ends_with eqb s n ≡ false) (λ x. (ends_with eqb s n ≡ true) × (x.now ≡ before_letters n s))
front-of s n None h = sym (ends_text false n s h)
front-of s n (Some x) h =
    let within : h.0 ≤ length s = omega (arith, h.3) in
    let boundary : IsCharBoundary s (length s - h.0) = subst (λ k. IsCharBoundary s (length s - k)) (sym h.1.0) h.1.2 in
    (sym (ends_text true n s (h.0, h.1, within, boundary)), h.2 ∙ ap (λ k. take (length s - k) s) h.1.0)
