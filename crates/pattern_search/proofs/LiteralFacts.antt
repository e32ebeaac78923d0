-- The first place of a text in another.
use Rattle.std.proofs.Common.{◌≡◌, ℕ, zero, suc, ◌+◌, ◌<◌, ◌≤◌, Bool, true, false, cond, List, [], ◌∷◌, ◌++◌, length, take, drop, Option, None, Some, is_some, option_map, refl, sym, ap, ap₂, ◌∙◌, ⊎_elim, arith}
use Rattle.std.proofs.lemmas.Bool.{cases_lt}
use Rattle.std.specs.List.{find, range_with_len}
use Rattle.std.specs.Str.Pattern.{LacksTextAt, HasTextAt}
use Rattle.std.proofs.Math.Seq.{take-append_seam}
use Rattle.std.proofs.lemmas.List.{take-append-drop}
use Rattle.std.proofs.lemmas.Slice.Eq.{bytes_eq-Decides}
use Rattle.pattern_search.specs.Found.{group_in}
use Rattle.pattern_search.specs.Literals.{stands_at, first_place, span_from, literal_found}

passed : (b : Bool) {X : Type 0} (x y : X) → b ≡ true → cond b x y ≡ x
passed b x y e = ap (λ (t : Bool). cond t x y) e

failed : (b : Bool) {X : Type 0} (x y : X) → b ≡ false → cond b x y ≡ y
failed b x y e = ap (λ (t : Bool). cond t x y) e

find_first : (f : ℕ → Bool) (n a i : ℕ) → a ≤ i → i < a + n → f i ≡ true → ((k : ℕ) → a ≤ k → k < i → f k ≡ false) → find f (range_with_len a n) ≡ Some i
find_first f zero a i from within here before = absurd (omega arith)
find_first f (suc n) a i from within here before =
    ⊎_elim (λ lt. failed (f a) _ _ (before a (omega arith) lt) ∙ find_first f n (a + 1) i (omega arith) (omega arith) here (λ k le l. before k (omega arith) l))
    (λ ge. let e : a ≡ i = omega arith in passed (f a) _ _ (ap f e ∙ here) ∙ ap (λ (k : ℕ). Some k) e) (cases_lt a i)

find_none : (f : ℕ → Bool) (n a : ℕ) → ((k : ℕ) → a ≤ k → k < a + n → f k ≡ false) → find f (range_with_len a n) ≡ None
find_none f zero a before = refl
find_none f (suc n) a before = failed (f a) _ _ (before a (omega arith) (omega arith)) ∙ find_none f n (a + 1) (λ k le lt. before k (omega arith) (omega arith))

decided : (b : Bool) {P : Type 0} → (b ≡ true → P) → (P → ⊥) → b ≡ false
decided true holds fails = absurd (fails (holds refl))
decided false holds fails = refl

lacks : (pattern text : List ℕ) (i : ℕ) → LacksTextAt pattern text i → stands_at pattern text i ≡ false
lacks pattern text i not_there = decided (stands_at pattern text i) (bytes_eq-Decides (take (length pattern) (drop i text)) pattern).0
    (λ e. not_there (drop (length pattern) (drop i text)) (sym (take-append-drop (length pattern) (drop i text)) ∙ ap (λ (front : List ℕ). front ++ drop (length pattern) (drop i text)) e))

has : (pattern text : List ℕ) (i j : ℕ) → HasTextAt pattern text i j → stands_at pattern text i ≡ true
has pattern text i j at = (bytes_eq-Decides (take (length pattern) (drop i text)) pattern).1
    (ap (take (length pattern)) at.split ∙ take-append_seam pattern (drop j text))

pub place_first : (pattern text : List ℕ) (i j : ℕ) → ((k : ℕ) → k < i → LacksTextAt pattern text k) → HasTextAt pattern text i j → i ≤ length text →
    first_place pattern text ≡ Some i
unfolding first_place
place_first pattern text i j earlier at within =
    find_first (stands_at pattern text) (length text + 1) 0 i (omega arith) (omega arith) (has pattern text i j at) (λ k le lt. lacks pattern text k (earlier k lt))

pub place_none : (pattern text : List ℕ) → ((k : ℕ) → k ≤ length text → LacksTextAt pattern text k) → first_place pattern text ≡ None
unfolding first_place
place_none pattern text not_there = find_none (stands_at pattern text) (length text + 1) 0 (λ k le lt. lacks pattern text k (not_there k (omega arith)))

found_of : (pattern : List ℕ) (o : Option ℕ) → is_some o ≡ is_some (option_map (λ i. Some (span_from pattern i) ∷ []) o)
found_of pattern None = refl
found_of pattern (Some i) = refl

pub literal_is_found : (pattern text : List ℕ) (o : Option ℕ) → o ≡ first_place pattern text → is_some o ≡ is_some (literal_found pattern text)
literal_is_found pattern text o e = found_of pattern o ∙ ap (λ (p : Option ℕ). is_some (option_map (λ i. Some (span_from pattern i) ∷ []) p)) e

past_of : (pattern : List ℕ) (o : Option ℕ) (number : ℕ) → 0 < number → None ≡ group_in (option_map (λ i. Some (span_from pattern i) ∷ []) o) number
past_of pattern None number above = refl
past_of pattern (Some i) zero above = absurd (omega arith)
past_of pattern (Some i) (suc k) above = refl

pub literal_past : (pattern text : List ℕ) (number : ℕ) → 0 < number → None ≡ group_in (literal_found pattern text) number
literal_past pattern text number above = past_of pattern (first_place pattern text) number above

whole_of : (pattern : List ℕ) (o : Option ℕ) → option_map (span_from pattern) o ≡ group_in (option_map (λ i. Some (span_from pattern i) ∷ []) o) 0
whole_of pattern None = refl
whole_of pattern (Some i) = refl

pub literal_whole : (pattern text : List ℕ) (o : Option ℕ) (number : ℕ) → number ≡ 0 → o ≡ first_place pattern text → option_map (span_from pattern) o ≡ group_in (literal_found pattern text) number
literal_whole pattern text o number zero_is e =
    whole_of pattern o ∙ ap₂ (λ (p : Option ℕ) (n : ℕ). group_in (option_map (λ i. Some (span_from pattern i) ∷ []) p) n) e (sym zero_is)
