-- The longest number.
use Rattle.std.proofs.Common.{◌≡◌, ◌≤◌, ◌<◌, ◌+◌, ◌-◌, ℕ, Bool, true, false, ◌&&◌, ◌||◌, List, [], ◌∷◌, length, get_or, take, drop, cond, eqb, Some, None, refl, sym, ap, ◌∙◌, inl, inr, arith}
use Rattle.std.specs.List.{prefix_len, list_all}
use Rattle.std.specs.Str.{IsAscii}
use Rattle.std.proofs.lemmas.List.{get_or-take, get_or-drop, get_or_past, length-take, length-take-le, length-drop, drop-take}
use Rattle.std.proofs.lemmas.List.Folds.{list_all_at}
use Rattle.std.proofs.lemmas.List.Sums.{prefix_len-le-length, prefix_len_passes}
use Rattle.std.proofs.lemmas.Bool.{cases_Bool, cases_lt}
use Rattle.std.proofs.lemmas.Bool.Decides.{nat_tests}
use Rattle.kql_lexer.specs.Bytes.{class_of, is_digit, is_word_char, is_word_start}
use Rattle.kql_lexer.specs.Lexing.{IsLongest}
use Rattle.kql_lexer.specs.Numbers.{has_fraction, is_fraction, number_form, number_len}
use Rattle.kql_lexer.specs.Pieces.{number_piece, or_flaw}
use Rattle.kql_lexer.specs.Shapes.{IsFront, Fits, piece_as}
use Rattle.kql_lexer.specs.declared.classes.Class.TheVariants as class
use Rattle.kql_lexer.specs.declared.token.Shape.{Shape}
use Rattle.kql_lexer.proofs.Runs.{class_means, digit_char, in_run, past_run, piece_at, run_some, run_take}

pub char_ascii : (b : ℕ) → is_word_char b ≡ true → b < 128
unfolding is_word_char is_word_start is_digit
char_ascii b h = grind (arith, nat_tests)

digit_ascii : (b : ℕ) → is_digit b ≡ true → b < 128
unfolding is_digit
digit_ascii b h = grind (arith, nat_tests)

point_no_char : is_word_char 46 ≡ false
unfolding is_word_char is_word_start is_digit
point_no_char = refl

nul : is_digit 0 ≡ false
unfolding is_digit
nul = refl

and_both : (v w : Bool) → (v && w) ≡ true → (v ≡ true) × (w ≡ true)
and_both true w h = (refl, h)
and_both false w h = absurd cc

-- a point and a digit
fraction_parts : (xs : List ℕ) (n : ℕ) → has_fraction xs n ≡ true → (get_or xs n 0 ≡ 46) × (is_digit (get_or xs (n + 1) 0) ≡ true)
unfolding has_fraction
fraction_parts xs n h =
    let both = and_both (eqb (get_or xs n 0) 46) (is_digit (get_or xs (n + 1) 0)) h in
    (point (get_or xs n 0) both.0, both.1) where
      point : (b : ℕ) → eqb b 46 ≡ true → b ≡ 46
      point b e = grind (arith, nat_tests)

fraction_within : (xs : List ℕ) (n : ℕ) → has_fraction xs n ≡ true → n + 1 < length xs
fraction_within xs n h = elim (cases_lt (n + 1) (length xs)) [
  | inl lt ↦ lt
  | inr ge ↦
      let past : get_or xs (n + 1) 0 ≡ 0 = get_or_past xs (n + 1) 0 ge in
      let holds : is_digit (get_or xs (n + 1) 0) ≡ true = (fraction_parts xs n h).1 in
      let fails : is_digit (get_or xs (n + 1) 0) ≡ false = rw past nul in
      absurd cc
]

-- a front has its point and digit where the bytes have them
fraction_take : (xs : List ℕ) (n m : ℕ) → n + 1 < m → has_fraction (take m xs) n ≡ has_fraction xs n
unfolding has_fraction
fraction_take xs n m h = rw (get_or-take m xs n 0 (omega arith), get_or-take m xs (n + 1) 0 h) refl

fraction_cut : (xs : List ℕ) (n m : ℕ) → m ≤ n + 1 → has_fraction (take m xs) n ≡ false
unfolding has_fraction
fraction_cut xs n m h =
    rw (get_or_past (take m xs) (n + 1) 0 (omega (arith, length-take m xs)), nul) (no_and (eqb (get_or (take m xs) n 0) 46)) where
      no_and : (v : Bool) → (v && false) ≡ false
      no_and true = refl
      no_and false = refl

digits_in_word : (xs : List ℕ) → prefix_len is_digit xs ≤ prefix_len is_word_char xs
digits_in_word [] = omega arith
digits_in_word (x ∷ xs) =
    let rest : prefix_len is_digit xs ≤ prefix_len is_word_char xs = digits_in_word xs in
    elim (is_digit x) as (λ v. is_digit x ≡ v → cond v (1 + prefix_len is_digit xs) 0 ≤ cond (is_word_char x) (1 + prefix_len is_word_char xs) 0) [
      | true ↦ λ h. rw (digit_char x h) (omega arith)
      | false ↦ λ h. omega arith
    ] refl

or_false : (v w : Bool) → v ≡ false → w ≡ false → (v || w) ≡ false
or_false v w h k = rw (h, k) refl

or_true : (v w : Bool) → w ≡ true → (v || w) ≡ true
or_true true w h = refl
or_true false w h = h

-- what a number piece is
yes_piece : (xs : List ℕ) → (list_all is_word_char xs || is_fraction xs) ≡ true → number_piece xs ≡ Some (or_flaw 103 (number_form xs))
unfolding number_piece
yes_piece xs h = rw h refl

no_piece : (xs : List ℕ) → list_all is_word_char xs ≡ false → is_fraction xs ≡ false → number_piece xs ≡ None
unfolding number_piece
no_piece xs h k = rw (h, k) refl

and_no : (v w : Bool) → w ≡ false → (v && w) ≡ false
and_no true w h = h
and_no false w h = refl

-- a number with a point
with_point : (rest : List ℕ) (n m : ℕ) → n ≡ prefix_len is_digit rest → has_fraction rest n ≡ true → n + 1 < m
    → is_fraction (take m rest) ≡ list_all is_word_char (take (m - (n + 1)) (drop (n + 1) rest))
unfolding is_fraction
with_point rest n m e f h =
    let same : prefix_len is_digit (take m rest) ≡ n = run_take is_digit rest m (omega arith) ∙ sym e in
    let holds : has_fraction (take m rest) n ≡ true = fraction_take rest n m h ∙ f in
    let parts : m ≡ (n + 1) + (m - (n + 1)) = omega arith in
    let rests : drop (n + 1) (take m rest) ≡ take (m - (n + 1)) (drop (n + 1) rest) = ap (λ j. drop (n + 1) (take j rest)) parts ∙ drop-take (n + 1) (m - (n + 1)) rest in
    rw (same, holds, rests) refl

no_point : (rest : List ℕ) (m : ℕ) → has_fraction rest (prefix_len is_digit rest) ≡ false → prefix_len is_digit rest < m → is_fraction (take m rest) ≡ false
unfolding is_fraction
no_point rest m f h =
    let n = prefix_len is_digit rest in
    let same : prefix_len is_digit (take m rest) ≡ prefix_len is_digit rest = run_take is_digit rest m h in
    let fails : has_fraction (take m rest) (prefix_len is_digit rest) ≡ false =
    elim (cases_lt (n + 1) m) [
      | inl lt ↦ fraction_take rest n m lt ∙ f
      | inr ge ↦ fraction_cut rest n m ge
    ] in
    rw (same, fails) refl

-- its bytes are ASCII
run_ascii : (p : ℕ → Bool) → ((b : ℕ) → p b ≡ true → b < 128) → (xs : List ℕ) (i : ℕ) → i < prefix_len p xs → get_or xs i 0 < 128
run_ascii p a xs i h = a (get_or xs i 0) (prefix_len_passes p xs i 0 h)

pub number_ascii : (rest : List ℕ) (n : ℕ) → n ≡ number_len rest → IsAscii (take n rest)
unfolding number_len
number_ascii rest n e i =
    elim (cases_lt i n) [
      | inl h ↦ rw (get_or-take n rest i 0 h) (inside i h)
      | inr h ↦ rw (get_or_past (take n rest) i 0 (omega (arith, length-take n rest))) (omega arith)
    ] where
      inside : (i : ℕ) → i < n → get_or rest i 0 < 128
      inside i h = elim (cases_Bool (has_fraction rest (prefix_len is_digit rest))) [
        | inl holds ↦
            let size : n ≡ prefix_len is_digit rest + 1 + prefix_len is_word_char (drop (prefix_len is_digit rest + 1) rest) = e ∙ rw holds refl in
            elim (cases_lt i (prefix_len is_digit rest)) [
              | inl lt ↦ run_ascii is_digit digit_ascii rest i lt
              | inr ge ↦ elim (cases_lt (prefix_len is_digit rest) i) [
                | inl gt ↦
                    let at : i ≡ (prefix_len is_digit rest + 1) + (i - (prefix_len is_digit rest + 1)) = omega arith in
                    let far : get_or (drop (prefix_len is_digit rest + 1) rest) (i - (prefix_len is_digit rest + 1)) 0 < 128 =
                    run_ascii is_word_char char_ascii (drop (prefix_len is_digit rest + 1) rest) (i - (prefix_len is_digit rest + 1)) (omega arith) in
                    rw at (rw (get_or-drop (prefix_len is_digit rest + 1) rest (i - (prefix_len is_digit rest + 1)) 0) at far)
                | inr le ↦
                    let at : i ≡ prefix_len is_digit rest = omega arith in
                    rw (at, (fraction_parts rest (prefix_len is_digit rest) holds).0) (omega arith)
              ]
            ]
        | inr fails ↦
            let size : n ≡ prefix_len is_word_char rest = e ∙ rw fails refl in
            run_ascii is_word_char char_ascii rest i (omega arith)
      ]

number_longest : (rest : List ℕ) (n : ℕ) → n ≡ number_len rest → 0 < length rest → class_of (get_or rest 0 0) ≡ class.Digit
    → IsLongest rest n (or_flaw 103 (number_form (take n rest)))
unfolding number_len
number_longest rest n e q c = elim (cases_Bool (has_fraction rest (prefix_len is_digit rest))) [
  | inl holds ↦
      let size : n ≡ prefix_len is_digit rest + 1 + prefix_len is_word_char (drop (prefix_len is_digit rest + 1) rest) = e ∙ rw holds refl in
      let room : prefix_len is_digit rest + 1 < length rest = fraction_within rest (prefix_len is_digit rest) holds in
      let long : length (drop (prefix_len is_digit rest + 1) rest) ≡ length rest - (prefix_len is_digit rest + 1) = length-drop (prefix_len is_digit rest + 1) rest in
      let next : is_digit (get_or (drop (prefix_len is_digit rest + 1) rest) 0 0) ≡ true =
      rw (get_or-drop (prefix_len is_digit rest + 1) rest 0 0) (ap (λ j. is_digit (get_or rest j 0)) (omega arith) ∙ (fraction_parts rest (prefix_len is_digit rest) holds).1) in
      let some : 0 < prefix_len is_word_char (drop (prefix_len is_digit rest + 1) rest) =
      run_some is_word_char (drop (prefix_len is_digit rest + 1) rest) (omega arith) (digit_char _ next) in
      let w : n - (prefix_len is_digit rest + 1) ≡ prefix_len is_word_char (drop (prefix_len is_digit rest + 1) rest) = omega arith in
      let fraction : is_fraction (take n rest) ≡ true =
      with_point rest (prefix_len is_digit rest) n refl holds (omega arith) ∙ rw w (in_run is_word_char (drop (prefix_len is_digit rest + 1) rest)) in
      record {
        some = omega arith;
        within = omega (arith, prefix_len-le-length is_word_char (drop (prefix_len is_digit rest + 1) rest));
        is = piece_at rest n class.Digit (omega arith) q c ∙ yes_piece (take n rest) (or_true _ _ fraction);
        longest = λ m h k.
            piece_at rest m class.Digit (omega arith) q c
            ∙ no_piece (take m rest)
            (list_all_at is_word_char (take m rest) (prefix_len is_digit rest) 0 (omega (arith, length-take-le m rest k))
            (ap is_word_char (get_or-take m rest (prefix_len is_digit rest) 0 (omega arith) ∙ (fraction_parts rest (prefix_len is_digit rest) holds).0) ∙ point_no_char))
            (with_point rest (prefix_len is_digit rest) m refl holds (omega arith)
            ∙ past_run is_word_char (drop (prefix_len is_digit rest + 1) rest) (m - (prefix_len is_digit rest + 1)) (omega arith) (omega arith));
      }
  | inr fails ↦
      let size : n ≡ prefix_len is_word_char rest = e ∙ rw fails refl in
      let some : 0 < n = omega (arith, run_some is_word_char rest q (digit_char _ (class_means (get_or rest 0 0) class.Digit c))) in
      let fewer : prefix_len is_digit rest ≤ prefix_len is_word_char rest = digits_in_word rest in
      let whole : list_all is_word_char (take n rest) ≡ true = rw size (in_run is_word_char rest) in
      record {
        some = some;
        within = omega (arith, prefix_len-le-length is_word_char rest);
        is = piece_at rest n class.Digit some q c ∙ yes_piece (take n rest) (rw whole refl);
        longest = λ m h k.
            piece_at rest m class.Digit (omega arith) q c
            ∙ no_piece (take m rest) (past_run is_word_char rest m (omega arith) k) (no_point rest m fails (omega arith));
      }
]

pub number_is : (rest : List ℕ) (n : ℕ) (s : Shape) → n ≡ number_len rest → 0 < length rest → class_of (get_or rest 0 0) ≡ class.Digit
    → piece_as s (take n rest) ≡ or_flaw 103 (number_form (take n rest)) → Fits s (take n rest)
    → IsFront rest (record { size = n; shape = s })
number_is rest n s e q c p f = record { longest = rw p (number_longest rest n e q c); fits = f }

pub number_within : (rest : List ℕ) → number_len rest ≤ length rest
unfolding number_len
number_within rest = elim (cases_Bool (has_fraction rest (prefix_len is_digit rest))) [
  | inl holds ↦
      let room : prefix_len is_digit rest + 1 < length rest = fraction_within rest (prefix_len is_digit rest) holds in
      let tail : prefix_len is_word_char (drop (prefix_len is_digit rest + 1) rest) ≤ length (drop (prefix_len is_digit rest + 1) rest) =
      prefix_len-le-length is_word_char (drop (prefix_len is_digit rest + 1) rest) in
      rw holds (omega (arith, length-drop (prefix_len is_digit rest + 1) rest))
  | inr fails ↦ rw fails (prefix_len-le-length is_word_char rest)
]

pub ruleset number_fronts = (number_is, number_ascii, number_within)
