-- Borders in a text.
use Rattle.std.proofs.Common.{◌≡◌, ◌↔◌, ◌≤◌, ◌<◌, ◌-◌, ◌+◌, ℕ, Bool, true, false, not, IsTrue, List, [], ◌∷◌, ◌++◌, length, take, drop, get_or, refl, sym, ap, ap₂, subst, ◌∙◌, arith}
use Rattle.std.proofs.lemmas.Bool.{false≢true}
use Rattle.std.proofs.lemmas.List.{get_or-drop, take_more, take_at, take-append-drop, length-take-le, append_assoc, length-append}
use Rattle.std.proofs.lemmas.List.Sums.{fold-append}
use Rattle.std.specs.Str.Pattern.{LacksTextAt}
use Rattle.kql_texts.specs.Terms.{HasTerm, IsBorder, are_joined, first_of, last_of}
use Rattle.kql_texts.proofs.PlaceFacts.{lacks-Holds}

last_of-take : (xs : List ℕ) (i : ℕ) → 0 < i → i ≤ length xs → last_of (take i xs) ≡ get_or xs (i - 1) 0
last_of-take xs i some within =
    let before : i ≡ i - 1 + 1 = omega arith in
    ap (λ n. last_of (take n xs)) before ∙ ap last_of (take_more xs (i - 1) 0 (omega arith)) ∙ fold-append (λ _ x. x) 0 (take (i - 1) xs) (get_or xs (i - 1) 0 ∷ [])

first_of-drop : (xs : List ℕ) (i : ℕ) → first_of (drop i xs) ≡ get_or xs i 0
first_of-drop xs i = get_or-drop i xs 0 0 ∙ ap (λ n. get_or xs n 0) (omega arith)

not_joined : (r : Bool) → IsTrue (not r) ↔ (r ≡ false)
not_joined true = (λ h. absurd (false≢true h), λ e. absurd (false≢true (sym e)))
not_joined false = (λ _. refl, λ _. refl)

pub IsBorder-at : (xs : List ℕ) (i : ℕ) (r : Bool) → 0 < i → i ≤ length xs → r ≡ are_joined (get_or xs (i - 1) 0) (get_or xs i 0) → IsTrue (not r) ↔ IsBorder (take i xs) (drop i xs)
IsBorder-at xs i r some within joined =
    let here : r ≡ are_joined (last_of (take i xs)) (first_of (drop i xs)) = joined ∙ sym (ap₂ are_joined (last_of-take xs i some within) (first_of-drop xs i)) in
    let test = not_joined r in
    (λ h. sym here ∙ test.0 h, λ e. test.1 (here ∙ e))

-- a text that does not hold another has it as no term
pub lacks-HasTerm : (s p : List ℕ) → ((i : ℕ) → i ≤ length s → LacksTextAt p s i) → ¬ (HasTerm s p)
lacks-HasTerm s p lacks term = lacks-Holds s p lacks (term.0, term.1, term.2)

-- a match with a border on both sides
pub HasTerm-at : (s p : List ℕ) (i j k : ℕ) → drop i s ≡ p ++ drop j s → i ≤ length s → j ≡ i + length p → j ≡ k → IsBorder (take i s) (drop i s) → IsBorder (take k s) (drop k s) → HasTerm s p
HasTerm-at s p i j k split within ends same start end =
    let before = take i s in
    let after = drop j s in
    let parts : s ≡ before ++ (p ++ after) = sym (take-append-drop i s) ∙ ap (λ l. before ++ l) split in
    let size : length (before ++ p) ≡ j = omega (arith, length-append before p, length-take-le i s within) in
    let through : take j s ≡ before ++ p = ap (take j) (parts ∙ sym (append_assoc before p after)) ∙ take_at (before ++ p) after j size in
    let last : IsBorder (take j s) after = subst (λ n. IsBorder (take n s) (drop n s)) (sym same) end in
    (before, after, parts, subst (IsBorder before) split start, subst (λ l. IsBorder l after) through last)
