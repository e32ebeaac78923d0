-- Pairs of places, row by row.
use Rattle.std.proofs.Common.{◌≡◌, ◌<◌, ◌+◌, ℕ, List, [], ◌∷◌, ◌++◌, map, flat_map, length, get_or, take, refl, ap, ap₂, sym, ◌∙◌, arith}
use Rattle.std.specs.Prelude.{Option, Some}
use Rattle.std.specs.List.{range_with_len}
use Rattle.std.proofs.lemmas.List.{append-nil, map-append, map-id, take_more}
use Rattle.std.proofs.lemmas.List.Concat.{flat_map-append}
use Rattle.std.proofs.lemmas.List.FromFn.{map-range_with_len_more}
use Rattle.join_op.specs.Pairs.{given, pairs_by}
use Rattle.join_op.specs.declared.pairs.RowRule.{RowRule}
use Rattle.join_op.specs.declared.pairs.RowRule.TheVariants as rule

pub range-more : (n : ℕ) → range_with_len 0 (n + 1) ≡ range_with_len 0 n ++ n ∷ []
range-more n = sym (map-id (range_with_len 0 (n + 1))) ∙ (map-range_with_len_more (λ (x : ℕ). x) 0 n n (omega arith) ∙ ap (λ xs. xs ++ n ∷ []) (map-id (range_with_len 0 n)))

pub row-added : (n : ℕ) (old new : List ℕ) → old ≡ range_with_len 0 n → new ≡ old ++ n ∷ [] → new ≡ range_with_len 0 (n + 1)
row-added n old new before added = added ∙ (ap (λ xs. xs ++ n ∷ []) before ∙ sym (range-more n))

pub ruleset row_steps = (row-added)

-- One row more.

abbrev pub one_row : RowRule → (ℕ → List ℕ) → ℕ → List (ℕ × Option ℕ)
one_row r m i = map (λ (o : Option ℕ). (i, o)) (given r (m i))

pub pairs-none : (r : RowRule) (m : ℕ → List ℕ) → pairs_by r m [] ≡ []
unfolding pairs_by
pairs-none r m = refl

pub pairs-more : (r : RowRule) (m : ℕ → List ℕ) (leads : List ℕ) (k i : ℕ) → k < length leads → i ≡ get_or leads k 0 → pairs_by r m (take (k + 1) leads) ≡ pairs_by r m (take k leads) ++ one_row r m i
unfolding pairs_by
pairs-more r m leads k i lt is =
    let more : take (k + 1) leads ≡ take k leads ++ i ∷ [] = take_more leads k 0 lt ∙ ap (λ x. take k leads ++ x ∷ []) (sym is) in
    ap (flat_map (one_row r m)) more ∙ (flat_map-append (one_row r m) (take k leads) (i ∷ []) ∙ ap (λ l. flat_map (one_row r m) (take k leads) ++ l) (append-nil (one_row r m i)))

firsts-of : (i : ℕ) (os : List (Option ℕ)) → map (λ (p : ℕ × Option ℕ). p.0) (map (λ (o : Option ℕ). (i, o)) os) ≡ map (λ (o : Option ℕ). i) os
firsts-of i [] = refl
firsts-of i (o ∷ os) = ap (λ l. i ∷ l) (firsts-of i os)

seconds-of : (i : ℕ) (os : List (Option ℕ)) → map (λ (p : ℕ × Option ℕ). p.1) (map (λ (o : Option ℕ). (i, o)) os) ≡ os
seconds-of i [] = refl
seconds-of i (o ∷ os) = ap (λ l. o ∷ l) (seconds-of i os)

pub leads-more : (r : RowRule) (m : ℕ → List ℕ) (leads : List ℕ) (k i : ℕ) (found old new : List ℕ) → k < length leads → i ≡ get_or leads k 0 → found ≡ m i
    → old ≡ map (λ q. q.0) (pairs_by r m (take k leads)) → new ≡ old ++ map (λ o. i) (given r found) → new ≡ map (λ q. q.0) (pairs_by r m (take (k + 1) leads))
leads-more r m leads k i found old new lt is ef before added =
    let f = λ (p : ℕ × Option ℕ). p.0 in
    added ∙ (ap₂ (λ (xs : List ℕ) (js : List ℕ). xs ++ map (λ (o : Option ℕ). i) (given r js)) before ef
    ∙ (ap (λ l. map f (pairs_by r m (take k leads)) ++ l) (sym (firsts-of i (given r (m i))))
    ∙ sym (ap (map f) (pairs-more r m leads k i lt is) ∙ map-append f (pairs_by r m (take k leads)) (one_row r m i))))

pub others-more : (r : RowRule) (m : ℕ → List ℕ) (leads : List ℕ) (k i : ℕ) (found : List ℕ) (old new : List (Option ℕ)) → k < length leads → i ≡ get_or leads k 0 → found ≡ m i
    → old ≡ map (λ q. q.1) (pairs_by r m (take k leads)) → new ≡ old ++ given r found → new ≡ map (λ q. q.1) (pairs_by r m (take (k + 1) leads))
others-more r m leads k i found old new lt is ef before added =
    let f = λ (p : ℕ × Option ℕ). p.1 in
    added ∙ (ap₂ (λ (xs : List (Option ℕ)) (js : List ℕ). xs ++ given r js) before ef
    ∙ (ap (λ l. map f (pairs_by r m (take k leads)) ++ l) (sym (seconds-of i (given r (m i))))
    ∙ sym (ap (map f) (pairs-more r m leads k i lt is) ∙ map-append f (pairs_by r m (take k leads)) (one_row r m i))))

-- The row that leads stands beside each of its matches.

some-leads : (i : ℕ) (js : List ℕ) → map (λ (o : Option ℕ). i) (map (λ j. Some j) js) ≡ map (λ (j : ℕ). i) js
some-leads i [] = refl
some-leads i (j ∷ js) = ap (λ l. i ∷ l) (some-leads i js)

pub given-each : (r : RowRule) (i : ℕ) (js : List ℕ) → r ≡ rule.EachMatch → map (λ (o : Option ℕ). i) (given r js) ≡ map (λ (j : ℕ). i) js
unfolding given
given-each r i js e = ap (λ q. map (λ (o : Option ℕ). i) (given q js)) e ∙ some-leads i js

pub given-some : (r : RowRule) (i : ℕ) (js : List ℕ) → r ≡ rule.EachMatchOrAlone → 0 < length js → map (λ (o : Option ℕ). i) (given r js) ≡ map (λ (j : ℕ). i) js
unfolding given
given-some r i [] e lt = absurd (omega (arith, lt))
given-some r i (j ∷ js) e lt = ap (λ q. map (λ (o : Option ℕ). i) (given q (j ∷ js))) e ∙ some-leads i (j ∷ js)
