-- One more name that is left, or not.
use Rattle.std.proofs.Common.{◌≡◌, ◌<◌, ◌+◌, ◌++◌, ℕ, Bool, true, false, not, List, [], ◌∷◌, filter, take, get_or, length, append-nil, refl, sym, ap, ◌∙◌}
use Rattle.std.specs.Prelude.{cond}
use Rattle.std.proofs.lemmas.List.Elements.{filter_more}
use Rattle.pattern_lift.specs.Calls.{is_among}
use Rattle.pattern_lift.specs.Steps.{with_left}

left-as : (kept : List (List ℕ)) (n : List ℕ) (b : Bool) → with_left kept n b ≡ kept ++ cond (not b) (n ∷ []) []
left-as kept n true = sym (append-nil kept)
left-as kept n false = refl

pub left-turn : (set : List (List ℕ)) (names : List (List ℕ)) (i : ℕ) (d : List ℕ) (kept next : List (List ℕ)) → i < length names → kept ≡ filter (λ (n : List ℕ). not (is_among set n)) (take i names) → next ≡ with_left kept (get_or names i d) (is_among set (get_or names i d)) → next ≡ filter (λ (n : List ℕ). not (is_among set n)) (take (i + 1) names)
left-turn set names i d kept next l is made =
    made
    ∙ (left-as kept (get_or names i d) (is_among set (get_or names i d))
    ∙ (ap (λ (ns : List (List ℕ)). ns ++ cond (not (is_among set (get_or names i d))) (get_or names i d ∷ []) []) is
    ∙ sym (filter_more (λ (n : List ℕ). not (is_among set n)) names i d l)))

pub ruleset left_steps = (left-turn)
