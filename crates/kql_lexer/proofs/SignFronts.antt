-- The longest sign, the words that begin with `$`, and what begins with `!`.
use Rattle.std.proofs.Common.{◌≡◌, ◌≤◌, ◌<◌, ◌+◌, ◌-◌, ℕ, suc, zero, Bool, true, false, List, [], ◌∷◌, length, get_or, take, drop, cond, eqb, Some, None, option_map, refl, ap, ◌∙◌, ◌⊎◌, inl, inr, arith}
use Rattle.std.specs.Str.{IsAscii}
use Rattle.std.proofs.lemmas.Bool.Decides.{nat_tests}
use Rattle.kql_lexer.specs.Bytes.{class_of}
use Rattle.kql_lexer.specs.Lexing.{IsLongest}
use Rattle.kql_lexer.specs.Pieces.{Piece, bang_piece, bang_sign, dollar_piece, flaw, or_flaw, sign, sign_piece, token}
use Rattle.kql_lexer.specs.Shapes.{IsFront, bang_before, double_front}
use Rattle.kql_lexer.specs.Words.{keyword_text, negated_words, side_words, word_before, word_in}
use Rattle.kql_lexer.specs.declared.classes.Class.TheVariants as class
use Rattle.kql_lexer.specs.declared.keyword.Keyword.{Keyword}
use Rattle.kql_lexer.specs.declared.token.Shape.TheVariants as shape
use Rattle.kql_lexer.specs.declared.token.TokenForm.{TokenForm}
use Rattle.kql_lexer.specs.declared.token.TokenForm.TheVariants as form
use Rattle.kql_lexer.proofs.Runs.{piece_at}
use Rattle.kql_lexer.proofs.WordLists.{ascii_from, before_has, before_in, before_none, before_past, before_text, before_within, is_ascii_word, is_long_word, long_word, negated_falls, negated_long, negated_sign, side_ascii, side_falls, side_long}

-- a sign
short_sign : (rest : List ℕ) (m : ℕ) → 2 < m → m ≤ length rest → sign_piece (take m rest) ≡ None
unfolding sign_piece
short_sign [] m h k = absurd (omega arith)
short_sign (b ∷ []) m h k = absurd (omega arith)
short_sign (b ∷ c ∷ []) m h k = absurd (omega arith)
short_sign (b ∷ c ∷ d ∷ ds) zero h k = absurd (omega arith)
short_sign (b ∷ c ∷ d ∷ ds) (suc zero) h k = absurd (omega arith)
short_sign (b ∷ c ∷ d ∷ ds) (suc (suc zero)) h k = absurd (omega arith)
short_sign (b ∷ c ∷ d ∷ ds) (suc (suc (suc m))) h k = refl

double_piece : (rest : List ℕ) → 2 ≤ length rest → sign_piece (take 2 rest) ≡ option_map token (double_front rest)
unfolding sign_piece double_front
double_piece [] h = absurd (omega arith)
double_piece (b ∷ []) h = absurd (omega arith)
double_piece (b ∷ c ∷ cs) h = refl

double_len : (rest : List ℕ) (t : TokenForm) → double_front rest ≡ Some t → 2 ≤ length rest
unfolding double_front
double_len [] t h = absurd cc
double_len (b ∷ []) t h = absurd cc
double_len (b ∷ c ∷ cs) t h = omega arith

single_piece : (rest : List ℕ) → 0 < length rest → sign_piece (take 1 rest) ≡ Some (or_flaw 101 (sign (get_or rest 0 0)))
unfolding sign_piece
single_piece [] h = absurd (omega arith)
single_piece (b ∷ bs) h = refl

pub double_is : (rest : List ℕ) (t : TokenForm) → double_front rest ≡ Some t → 0 < length rest → class_of (get_or rest 0 0) ≡ class.Other
    → IsFront rest (record { size = 2; shape = shape.Plain t })
double_is rest t e q c =
    let two : 2 ≤ length rest = double_len rest t e in
    record {
      longest = record {
        some = omega arith;
        within = two;
        is = piece_at rest 2 class.Other (omega arith) q c ∙ double_piece rest two ∙ ap (option_map token) e;
        longest = λ m h k. piece_at rest m class.Other (omega arith) q c ∙ short_sign rest m h k;
      };
      fits = tt;
    }

longer : (rest : List ℕ) (m : ℕ) → double_front rest ≡ None → 1 < m → m ≤ length rest → sign_piece (take m rest) ≡ None
longer rest zero e h k = absurd (omega arith)
longer rest (suc zero) e h k = absurd (omega arith)
longer rest (suc (suc zero)) e h k = double_piece rest k ∙ ap (option_map token) e
longer rest (suc (suc (suc m))) e h k = short_sign rest (suc (suc (suc m))) (omega arith) k

single_longest : (rest : List ℕ) (p : Piece) → double_front rest ≡ None → 0 < length rest → class_of (get_or rest 0 0) ≡ class.Other
    → or_flaw 101 (sign (get_or rest 0 0)) ≡ p → IsLongest rest 1 p
single_longest rest p e q c o = record {
  some = omega arith;
  within = q;
  is = piece_at rest 1 class.Other (omega arith) q c ∙ single_piece rest q ∙ ap Some o;
  longest = λ m h k. piece_at rest m class.Other (omega arith) q c ∙ longer rest m e h k;
}

pub sign_is : (rest : List ℕ) (t : TokenForm) → double_front rest ≡ None → 0 < length rest → class_of (get_or rest 0 0) ≡ class.Other
    → sign (get_or rest 0 0) ≡ Some t → IsFront rest (record { size = 1; shape = shape.Plain t })
sign_is rest t e q c s = record { longest = single_longest rest (token t) e q c (ap (or_flaw 101) s); fits = tt }

pub no_sign_is : (rest : List ℕ) → double_front rest ≡ None → 0 < length rest → class_of (get_or rest 0 0) ≡ class.Other
    → sign (get_or rest 0 0) ≡ None → IsFront rest (record { size = 1; shape = shape.Flaw 101 })
no_sign_is rest e q c s = record { longest = single_longest rest (flaw 101) e q c (ap (or_flaw 101) s); fits = tt }

-- `$`
dollar_word : (rest : List ℕ) (m : ℕ) → 2 ≤ m → m ≤ length rest → dollar_piece (take m rest) ≡ option_map (λ k. token (form.Word k (take m rest))) (word_in side_words (take m rest))
unfolding dollar_piece
dollar_word [] m h k = absurd (omega arith)
dollar_word (a ∷ []) m h k = absurd (omega arith)
dollar_word (a ∷ b ∷ bs) zero h k = absurd (omega arith)
dollar_word (a ∷ b ∷ bs) (suc zero) h k = absurd (omega arith)
dollar_word (a ∷ b ∷ bs) (suc (suc m)) h k = refl

dollar_alone : (rest : List ℕ) → 0 < length rest → dollar_piece (take 1 rest) ≡ Some (flaw 101)
unfolding dollar_piece
dollar_alone [] h = absurd (omega arith)
dollar_alone (b ∷ bs) h = refl

word_token : (xs : List ℕ) → Keyword → Piece
word_token xs k = token (form.Word k xs)

pub side_is : (rest t : List ℕ) (k : Keyword) → word_before side_words rest ≡ Some k → t ≡ keyword_text k → 0 < length rest → class_of (get_or rest 0 0) ≡ class.Dollar
    → IsFront rest (record { size = length t; shape = shape.Word k })
side_is rest t k e s q c =
    let size : length t ≡ length (keyword_text k) = ap length s in
    let two : 2 ≤ length (keyword_text k) = long_word k (before_has is_long_word side_words rest k side_long e) in
    let within : length (keyword_text k) ≤ length rest = before_within side_words rest k e in
    let ascii : IsAscii (keyword_text k) = ascii_from (keyword_text k) (before_has is_ascii_word side_words rest k side_ascii e) in
    rw size (record {
      longest = record {
        some = omega arith;
        within = within;
        is = piece_at rest (length (keyword_text k)) class.Dollar (omega arith) q c ∙ dollar_word rest (length (keyword_text k)) two within
            ∙ ap (option_map (λ j. token (form.Word j (take (length (keyword_text k)) rest)))) (before_in side_words rest k e);
        longest = λ m h l. piece_at rest m class.Dollar (omega arith) q c ∙ dollar_word rest m (omega arith) l
            ∙ ap (option_map (λ j. token (form.Word j (take m rest)))) (before_past side_words rest k m side_falls e h l);
      };
      fits = rw (← (before_text side_words rest k e)) ascii;
    })

pub dollar_is : (rest : List ℕ) → word_before side_words rest ≡ None → 0 < length rest → class_of (get_or rest 0 0) ≡ class.Dollar
    → IsFront rest (record { size = 1; shape = shape.Flaw 101 })
dollar_is rest e q c = record {
  longest = record {
    some = omega arith;
    within = q;
    is = piece_at rest 1 class.Dollar (omega arith) q c ∙ dollar_alone rest q;
    longest = λ m h l. piece_at rest m class.Dollar (omega arith) q c ∙ dollar_word rest m (omega arith) l
        ∙ ap (option_map (λ j. token (form.Word j (take m rest)))) (before_none side_words rest m e);
  };
  fits = tt;
}

-- `!`
negated : Keyword → Piece
negated k = token (form.Negated k)

bang_two : (rest : List ℕ) → 2 ≤ length rest → bang_piece (take 2 rest) ≡ option_map token (bang_before rest)
unfolding bang_piece bang_before
bang_two [] h = absurd (omega arith)
bang_two (a ∷ []) h = absurd (omega arith)
bang_two (a ∷ b ∷ bs) h = refl

bang_more : (rest : List ℕ) (m : ℕ) → 3 ≤ m → m ≤ length rest → bang_piece (take m rest) ≡ option_map (λ k. token (form.Negated k)) (word_in negated_words (take (m - 1) (drop 1 rest)))
unfolding bang_piece
bang_more [] m h k = absurd (omega arith)
bang_more (a ∷ []) m h k = absurd (omega arith)
bang_more (a ∷ b ∷ []) m h k = absurd (omega arith)
bang_more (a ∷ b ∷ c ∷ cs) zero h k = absurd (omega arith)
bang_more (a ∷ b ∷ c ∷ cs) (suc zero) h k = absurd (omega arith)
bang_more (a ∷ b ∷ c ∷ cs) (suc (suc zero)) h k = absurd (omega arith)
bang_more (a ∷ b ∷ c ∷ cs) (suc (suc (suc m))) h k =
    let n : suc (suc (suc m)) - 1 ≡ suc (suc m) = omega arith in
    rw n refl

bang_alone : (rest : List ℕ) → 0 < length rest → bang_piece (take 1 rest) ≡ Some (flaw 101)
unfolding bang_piece
bang_alone [] h = absurd (omega arith)
bang_alone (b ∷ bs) h = refl

bang_len : (rest : List ℕ) (t : TokenForm) → bang_before rest ≡ Some t → 2 ≤ length rest
unfolding bang_before
bang_len [] t h = absurd cc
bang_len (b ∷ []) t h = absurd cc
bang_len (b ∷ c ∷ cs) t h = omega arith

bang_byte : (b : ℕ) (t : TokenForm) → bang_sign b ≡ Some t → (b ≡ 61) ⊎ (b ≡ 126)
bang_byte b t h = go (eqb b 61) (eqb b 126) refl refl h where
  go : (v w : Bool) → eqb b 61 ≡ v → eqb b 126 ≡ w → cond v (Some form.NotEqual) (cond w (Some form.NotAlike) None) ≡ Some t → (b ≡ 61) ⊎ (b ≡ 126)
  go true w e f h = inl (grind (arith, nat_tests))
  go false true e f h = inr (grind (arith, nat_tests))
  go false false e f h = absurd cc

no_negated : (b : ℕ) (bs : List ℕ) → (b ≡ 61) ⊎ (b ≡ 126) → word_in negated_words (b ∷ bs) ≡ None
no_negated b bs (inl e) = ap (λ x. word_in negated_words (x ∷ bs)) e ∙ (negated_sign bs).0
no_negated b bs (inr e) = ap (λ x. word_in negated_words (x ∷ bs)) e ∙ (negated_sign bs).1

bang_no_word : (rest : List ℕ) (t : TokenForm) (m : ℕ) → bang_before rest ≡ Some t → 3 ≤ m → word_in negated_words (take (m - 1) (drop 1 rest)) ≡ None
unfolding bang_before
bang_no_word [] t m h k = absurd cc
bang_no_word (a ∷ []) t m h k = absurd cc
bang_no_word (a ∷ b ∷ bs) t zero h k = absurd (omega arith)
bang_no_word (a ∷ b ∷ bs) t (suc zero) h k = absurd (omega arith)
bang_no_word (a ∷ b ∷ bs) t (suc (suc m)) h k =
    let n : suc (suc m) - 1 ≡ suc m = omega arith in
    rw n (no_negated b (take m bs) (bang_byte b t h))

pub bang_sign_is : (rest : List ℕ) (t : TokenForm) → bang_before rest ≡ Some t → 0 < length rest → class_of (get_or rest 0 0) ≡ class.Bang
    → IsFront rest (record { size = 2; shape = shape.Plain t })
bang_sign_is rest t e q c =
    let two : 2 ≤ length rest = bang_len rest t e in
    record {
      longest = record {
        some = omega arith;
        within = two;
        is = piece_at rest 2 class.Bang (omega arith) q c ∙ bang_two rest two ∙ ap (option_map token) e;
        longest = λ m h k. piece_at rest m class.Bang (omega arith) q c ∙ bang_more rest m (omega arith) k
            ∙ ap (option_map (λ j. token (form.Negated j))) (bang_no_word rest t m e (omega arith));
      };
      fits = tt;
    }

pub negated_is : (rest t : List ℕ) (k : Keyword) → bang_before rest ≡ None → word_before negated_words (drop 1 rest) ≡ Some k → t ≡ keyword_text k → 0 < length rest
    → class_of (get_or rest 0 0) ≡ class.Bang → IsFront rest (record { size = 1 + length t; shape = shape.Plain (form.Negated k) })
negated_is [] t k n e s q c = absurd (omega arith)
negated_is (b ∷ bs) t k n e s q c =
    let size : length t ≡ length (keyword_text k) = ap length s in
    let two : 2 ≤ length (keyword_text k) = long_word k (before_has is_long_word negated_words bs k negated_long e) in
    let within : length (keyword_text k) ≤ length bs = before_within negated_words bs k e in
    let less : (1 + length (keyword_text k)) - 1 ≡ length (keyword_text k) = omega arith in
    rw size (record {
      longest = record {
        some = omega arith;
        within = omega arith;
        is = piece_at (b ∷ bs) (1 + length (keyword_text k)) class.Bang (omega arith) q c ∙ bang_more (b ∷ bs) (1 + length (keyword_text k)) (omega arith) (omega arith)
            ∙ ap (option_map (λ j. token (form.Negated j))) (ap (λ j. word_in negated_words (take j bs)) less ∙ before_in negated_words bs k e);
        longest = λ m h l. piece_at (b ∷ bs) m class.Bang (omega arith) q c ∙ bang_more (b ∷ bs) m (omega arith) l
            ∙ ap (option_map (λ j. token (form.Negated j))) (before_past negated_words bs k (m - 1) negated_falls e (omega arith) (omega arith));
      };
      fits = tt;
    })

no_bang : (rest : List ℕ) (m : ℕ) → bang_before rest ≡ None → word_before negated_words (drop 1 rest) ≡ None → 1 < m → m ≤ length rest → bang_piece (take m rest) ≡ None
no_bang rest zero e f h l = absurd (omega arith)
no_bang rest (suc zero) e f h l = absurd (omega arith)
no_bang rest (suc (suc zero)) e f h l = bang_two rest l ∙ ap (option_map token) e
no_bang rest (suc (suc (suc m))) e f h l =
    bang_more rest (suc (suc (suc m))) (omega arith) l ∙ ap (option_map (λ j. token (form.Negated j))) (before_none negated_words (drop 1 rest) (suc (suc (suc m)) - 1) f)

pub bang_is : (rest : List ℕ) → bang_before rest ≡ None → word_before negated_words (drop 1 rest) ≡ None → 0 < length rest → class_of (get_or rest 0 0) ≡ class.Bang
    → IsFront rest (record { size = 1; shape = shape.Flaw 101 })
bang_is rest e f q c = record {
  longest = record {
    some = omega arith;
    within = q;
    is = piece_at rest 1 class.Bang (omega arith) q c ∙ bang_alone rest q;
    longest = λ m h l. piece_at rest m class.Bang (omega arith) q c ∙ no_bang rest m e f h l;
  };
  fits = tt;
}

pub ruleset sign_fronts = (double_is, sign_is, no_sign_is)

pub ruleset bang_fronts = (bang_sign_is)
