-- The place of the next byte, and how far a place can be.
use Rattle.std.proofs.Common.{◌≡◌, ◌≤◌, ◌<◌, ◌+◌, ℕ, Bool, true, false, List, [], ◌∷◌, ◌++◌, length, get_or, take, reverse, cond, eqb, refl, sym, ap, ◌∙◌, arith, count_by}
use Rattle.std.proofs.lemmas.List.{take_more, reverse-append, length-take, length-reverse}
use Rattle.std.proofs.lemmas.List.Sums.{count_by-le-length, sum_by_push}
use Rattle.kql_lexer.specs.Places.{place_at, place_after, chars_back, starts_char}
use Rattle.kql_lexer.specs.declared.place.Place.{Place}

pub place_start : (text : List ℕ) → record { line = 1; column = 1; byte = 0 } ≡ place_at text 0
unfolding place_at chars_back
place_start text = refl

chars_back_le : (xs : List ℕ) → chars_back xs ≤ length xs
unfolding chars_back
chars_back_le [] = omega arith
chars_back_le (b ∷ bs) =
    let h : chars_back bs ≤ length bs = chars_back_le bs in
    elim (eqb b 10) as (λ v. cond v 0 (cond (starts_char b) (1 + chars_back bs) (chars_back bs)) ≤ length (b ∷ bs)) [
      | true ↦ omega arith
      | false ↦ elim (starts_char b) as (λ v. cond v (1 + chars_back bs) (chars_back bs) ≤ length (b ∷ bs)) [ true ↦ omega arith | false ↦ omega arith ]
    ]

-- no line and no column is more than one above the byte
pub place_line_le : (text : List ℕ) (n : ℕ) → (place_at text n).line ≤ 1 + n
unfolding place_at
place_line_le text n = omega (arith, count_by-le-length (λ b. eqb b 10) (take n text), length-take n text)

pub place_column_le : (text : List ℕ) (n : ℕ) → (place_at text n).column ≤ 1 + n
unfolding place_at
place_column_le text n = omega (arith, chars_back_le (reverse (take n text)), length-reverse (take n text), length-take n text)

pub place_byte : (text : List ℕ) (n : ℕ) → (place_at text n).byte ≡ n
unfolding place_at
place_byte text n = refl

count_push : (xs : List ℕ) (b : ℕ) → count_by (λ x. eqb x 10) (xs ++ b ∷ []) ≡ count_by (λ x. eqb x 10) xs + cond (eqb b 10) 1 0
count_push xs b = sum_by_push (λ x. cond (eqb x 10) 1 0) xs b

back_push : (xs : List ℕ) (b : ℕ) → chars_back (reverse (xs ++ b ∷ [])) ≡ cond (eqb b 10) 0 (cond (starts_char b) (1 + chars_back (reverse xs)) (chars_back (reverse xs)))
unfolding chars_back
back_push xs b = ap chars_back (reverse-append xs (b ∷ []))

place_same : (a c b e n : ℕ) → a ≡ c → b ≡ e → let P : Place = record { line = a; column = b; byte = n } in P ≡ record { line = c; column = e; byte = n }
place_same a c b e n p q =
    ap (λ (x : ℕ). let P : Place = record { line = x; column = b; byte = n } in P) p ∙ ap (λ (y : ℕ). let P : Place = record { line = c; column = y; byte = n } in P) q

-- the two choices of a step, as choices of numbers
join : (v s : Bool) (line back n : ℕ)
    → cond {A = Place} v (record { line = 1 + line + 1; column = 1; byte = n + 1 })
    (cond s (record { line = 1 + line; column = 1 + back + 1; byte = n + 1 }) (record { line = 1 + line; column = 1 + back; byte = n + 1 }))
    ≡ record { line = 1 + (line + cond v 1 0); column = 1 + cond v 0 (cond s (1 + back) back); byte = n + 1 }
join true s line back n = place_same _ _ _ _ (n + 1) (omega arith) (omega arith)
join false true line back n = place_same _ _ _ _ (n + 1) (omega arith) (omega arith)
join false false line back n = place_same _ _ _ _ (n + 1) (omega arith) (omega arith)

-- the place behind the bytes xs, if they are n - 1
behind : List ℕ → ℕ → Place
behind xs n = record { line = 1 + count_by (λ x. eqb x 10) xs; column = 1 + chars_back (reverse xs); byte = n }

pub place_more : (text : List ℕ) (n d : ℕ) → n < length text → place_after (place_at text n) (get_or text n d) ≡ place_at text (n + 1)
unfolding place_at place_after behind
place_more text n d h =
    let b = get_or text n d in
    join (eqb b 10) (starts_char b) (count_by (λ x. eqb x 10) (take n text)) (chars_back (reverse (take n text))) n
    ∙ sym (place_same _ _ _ _ (n + 1) (ap (λ k. 1 + k) (count_push (take n text) b)) (ap (λ k. 1 + k) (back_push (take n text) b)))
    ∙ sym (ap (λ xs. behind xs (n + 1)) (take_more text n d h))

pub ruleset place_steps = (place_start, place_line_le, place_column_le, place_byte, place_more)
