-- The longest word or typed literal.
use Rattle.std.proofs.Common.{◌≡◌, ◌≤◌, ◌<◌, ◌+◌, ◌-◌, ℕ, suc, zero, Bool, true, false, ◌&&◌, ◌||◌, List, [], ◌∷◌, length, get_or, take, drop, cond, eqb, Some, None, option_map, refl, sym, ap, ◌∙◌, subst, inl, inr, arith}
use Rattle.std.specs.Option.{option_or}
use Rattle.std.specs.List.{prefix_len, list_all}
use Rattle.std.specs.Str.{IsAscii}
use Rattle.std.proofs.lemmas.List.{drop-drop, drop-take, take_rest, get_or-drop, get_or-take, get_or_past, length-drop, length-take, length-take-le, take-take, take_all}
use Rattle.std.proofs.lemmas.List.Sums.{prefix_len-le-length, prefix_len_passes, prefix_len_stops}
use Rattle.std.proofs.lemmas.Bool.{cases_Bool, cases_lt}
use Rattle.std.proofs.lemmas.Bool.Decides.{nat_tests}
use Rattle.kql_lexer.specs.Bytes.{class_of, is_blank, is_word_char, is_word_start}
use Rattle.kql_lexer.specs.Literals.{gap_len, literal_keyword, literal_open, opens_literal, raw_len}
use Rattle.kql_lexer.specs.Pieces.{flaw, literal_piece, raw_piece, token, word_piece}
use Rattle.kql_lexer.specs.Shapes.{IsFront, IsPlain}
use Rattle.kql_lexer.specs.Strings.{between}
use Rattle.kql_lexer.specs.Words.{is_literal_keyword, is_word, joined_words, keyword_of, keyword_text, word_before, word_in}
use Rattle.kql_lexer.specs.declared.classes.Class.TheVariants as class
use Rattle.kql_lexer.specs.declared.keyword.Keyword.{Keyword}
use Rattle.kql_lexer.specs.declared.token.Shape.TheVariants as shape
use Rattle.kql_lexer.specs.declared.token.TokenForm.TheVariants as form
use Rattle.kql_lexer.proofs.FrontFacts.{plain_drop}
use Rattle.kql_lexer.proofs.LiteralFacts.{gap_take, gap_whole, raw_at, raw_le, raw_take}
use Rattle.kql_lexer.proofs.NumberFronts.{char_ascii}
use Rattle.kql_lexer.proofs.Runs.{between_take, class_means, fails_past, in_run, past_run, piece_at, run_some, run_take, word_char}
use Rattle.kql_lexer.proofs.WordLists.{ascii_from, before_has, before_in, before_none, before_past, before_text, before_within, is_ascii_word, is_joined, is_long_word, joined_ascii, joined_falls, joined_joined, joined_long, joined_parts, long_word}

-- words
word_as_run : (rest : List ℕ) (m : ℕ) → 0 < m → 0 < length rest → is_word_start (get_or rest 0 0) ≡ true → is_word (take m rest) ≡ list_all is_word_char (take m rest)
unfolding is_word is_word_char
word_as_run [] m p q hw = absurd (omega arith)
word_as_run (b ∷ bs) zero p q hw = absurd (omega arith)
word_as_run (b ∷ bs) (suc m) p q hw = rw hw refl

pub run_ascii : (rest : List ℕ) (n : ℕ) → n ≡ prefix_len is_word_char rest → IsAscii (take n rest)
run_ascii rest n e i =
    let short : prefix_len is_word_char rest ≤ length rest = prefix_len-le-length is_word_char rest in
    elim (cases_lt i n) [
      | inl h ↦ rw (get_or-take n rest i 0 h) (char_ascii _ (prefix_len_passes is_word_char rest i 0 (omega arith)))
      | inr h ↦ rw (get_or_past (take n rest) i 0 (omega (arith, length-take n rest))) (omega arith)
    ]

-- what is no word is a joined word or a literal
not_word : (xs : List ℕ) → is_word xs ≡ false → word_piece xs ≡ option_or (option_map (λ k. token (form.Word k xs)) (word_in joined_words xs)) (literal_piece xs)
unfolding word_piece
not_word xs h = rw h refl

only_literal : (xs : List ℕ) → is_word xs ≡ false → word_in joined_words xs ≡ None → word_piece xs ≡ literal_piece xs
only_literal xs h e = not_word xs h ∙ ap (λ o. option_or (option_map (λ k. token (form.Word k xs)) o) (literal_piece xs)) e

no_literal : (xs : List ℕ) → opens_literal xs ≡ false → literal_piece xs ≡ None
unfolding literal_piece
no_literal xs h = rw h refl

-- where a literal opens in a front, and in all
and_both : (v w : Bool) → (v && w) ≡ true → (v ≡ true) × (w ≡ true)
and_both true w h = (refl, h)
and_both false w h = absurd cc

is_byte : (b n : ℕ) → eqb b n ≡ true → b ≡ n
is_byte b n h = grind (arith, nat_tests)

keyword_take : (rest : List ℕ) (m : ℕ) → prefix_len is_word_char rest < m → literal_keyword (take m rest) ≡ literal_keyword rest
unfolding literal_keyword
keyword_take rest m h =
    ap (λ n. keyword_of (take n (take m rest))) (run_take is_word_char rest m h) ∙ ap keyword_of (take-take (prefix_len is_word_char rest) m rest (omega arith))

rest_take : (rest : List ℕ) (m : ℕ) → prefix_len is_word_char rest < m
    → drop (prefix_len is_word_char rest) (take m rest) ≡ take (m - prefix_len is_word_char rest) (drop (prefix_len is_word_char rest) rest)
rest_take rest m h =
    let e : m ≡ prefix_len is_word_char rest + (m - prefix_len is_word_char rest) = omega arith in
    ap (λ j. drop (prefix_len is_word_char rest) (take j rest)) e ∙ drop-take (prefix_len is_word_char rest) (m - prefix_len is_word_char rest) rest

pub opens_parts : (xs : List ℕ) → opens_literal xs ≡ true → (is_literal_keyword (literal_keyword xs) ≡ true) × (get_or xs (literal_open xs) 0 ≡ 40)
unfolding opens_literal
opens_parts xs h =
    let both = and_both (is_literal_keyword (literal_keyword xs)) (eqb (get_or xs (literal_open xs) 0) 40) h in
    (both.0, is_byte (get_or xs (literal_open xs) 0) 40 both.1)

pub opens_from : (xs : List ℕ) → is_literal_keyword (literal_keyword xs) ≡ true → get_or xs (literal_open xs) 0 ≡ 40 → opens_literal xs ≡ true
unfolding opens_literal
opens_from xs k e = rw (k, e) refl

open_len : (rest : List ℕ) (m : ℕ) → prefix_len is_word_char rest < m
    → literal_open (take m rest) ≡ prefix_len is_word_char rest + gap_len false (take (m - prefix_len is_word_char rest) (drop (prefix_len is_word_char rest) rest))
unfolding literal_open
open_len rest m h =
    ap (λ n. n + gap_len false (drop n (take m rest))) (run_take is_word_char rest m h) ∙ ap (λ ys. prefix_len is_word_char rest + gap_len false ys) (rest_take rest m h)

open_whole : (rest : List ℕ) → literal_open rest ≡ prefix_len is_word_char rest + gap_len false (drop (prefix_len is_word_char rest) rest)
unfolding literal_open
open_whole rest = refl

-- a front that opens a literal is of bytes that do
opens_cut : (rest : List ℕ) (m : ℕ) → prefix_len is_word_char rest < m → m ≤ length rest → opens_literal (take m rest) ≡ true → opens_literal rest ≡ true
opens_cut rest m h l o =
    let r = prefix_len is_word_char rest in
    let parts = opens_parts (take m rest) o in
    let front = take (m - prefix_len is_word_char rest) (drop (prefix_len is_word_char rest) rest) in
    let at : literal_open (take m rest) ≡ prefix_len is_word_char rest + gap_len false front = open_len rest m h in
    let byte : get_or front (gap_len false front) 0 ≡ 40 =
    ap (λ ys. get_or ys (gap_len false front) 0) (sym (rest_take rest m h)) ∙ get_or-drop (prefix_len is_word_char rest) (take m rest) (gap_len false front) 0
    ∙ ap (λ j. get_or (take m rest) j 0) (sym at) ∙ parts.1 in
    let same : gap_len false (drop (prefix_len is_word_char rest) rest) ≡ gap_len false front = gap_take false (drop (prefix_len is_word_char rest) rest) (m - prefix_len is_word_char rest) byte in
    let place : literal_open rest ≡ literal_open (take m rest) = open_whole rest ∙ ap (λ n. prefix_len is_word_char rest + n) same ∙ sym at in
    let inside : literal_open (take m rest) < m = within (literal_open (take m rest)) parts.1 in
    opens_from rest (sym (ap is_literal_keyword (keyword_take rest m h)) ∙ parts.0)
    (ap (λ j. get_or rest j 0) place ∙ sym (get_or-take m rest (literal_open (take m rest)) 0 inside) ∙ parts.1) where
      within : (n : ℕ) → get_or (take m rest) n 0 ≡ 40 → n < m
      within n e = elim (cases_lt n m) [
        | inl lt ↦ lt
        | inr ge ↦ let past : get_or (take m rest) n 0 ≡ 0 = get_or_past (take m rest) n 0 (omega (arith, length-take m rest)) in absurd (omega arith)
      ]

no_opens_cut : (rest : List ℕ) (m : ℕ) → prefix_len is_word_char rest < m → m ≤ length rest → opens_literal rest ≡ false → opens_literal (take m rest) ≡ false
no_opens_cut rest m h l n = elim (cases_Bool (opens_literal (take m rest))) [
  | inl o ↦ let so : opens_literal rest ≡ true = opens_cut rest m h l o in absurd cc
  | inr o ↦ o
]

-- bytes that open a literal do so in each front that holds the `(`
open_past : (rest : List ℕ) → prefix_len is_word_char rest ≤ literal_open rest
open_past rest = omega (arith, open_whole rest)

open_take : (rest : List ℕ) (m : ℕ) → opens_literal rest ≡ true → literal_open rest < m → literal_open (take m rest) ≡ literal_open rest
open_take rest m o h =
    let past : prefix_len is_word_char rest ≤ literal_open rest = open_past rest in
    let byte : get_or (drop (prefix_len is_word_char rest) rest) (gap_len false (drop (prefix_len is_word_char rest) rest)) 0 ≡ 40 =
    get_or-drop (prefix_len is_word_char rest) rest (gap_len false (drop (prefix_len is_word_char rest) rest)) 0
    ∙ ap (λ j. get_or rest j 0) (sym (open_whole rest)) ∙ (opens_parts rest o).1 in
    open_len rest m (omega arith)
    ∙ ap (λ n. prefix_len is_word_char rest + n) (gap_whole false (drop (prefix_len is_word_char rest) rest) (m - prefix_len is_word_char rest) byte (omega (arith, open_whole rest)))
    ∙ sym (open_whole rest)

opens_take : (rest : List ℕ) (m : ℕ) → opens_literal rest ≡ true → literal_open rest < m → opens_literal (take m rest) ≡ true
opens_take rest m o h =
    let past : prefix_len is_word_char rest ≤ literal_open rest = open_past rest in
    let parts = opens_parts rest o in
    opens_from (take m rest) (ap is_literal_keyword (keyword_take rest m (omega arith)) ∙ parts.0)
    (ap (λ j. get_or (take m rest) j 0) (open_take rest m o h) ∙ get_or-take m rest (literal_open rest) 0 h ∙ parts.1)

-- a front past the `(` is a literal by its raw text
literal_front : (rest : List ℕ) (m : ℕ) → opens_literal rest ≡ true → literal_open rest < m
    → literal_piece (take m rest) ≡ raw_piece (literal_keyword rest) (take (m - (literal_open rest + 1)) (drop (literal_open rest + 1) rest))
unfolding literal_piece
literal_front rest m o h =
    let past : prefix_len is_word_char rest ≤ literal_open rest = open_past rest in
    let e : m ≡ (literal_open rest + 1) + (m - (literal_open rest + 1)) = omega arith in
    rw (opens_take rest m o h, keyword_take rest m (omega arith), open_take rest m o h)
    (ap (raw_piece (literal_keyword rest))
    (ap (λ j. drop (literal_open rest + 1) (take j rest)) e ∙ drop-take (literal_open rest + 1) (m - (literal_open rest + 1)) rest))

-- a word
pub word_is : (rest : List ℕ) (n : ℕ) (k : Keyword) → n ≡ prefix_len is_word_char rest → 0 < length rest → class_of (get_or rest 0 0) ≡ class.Letter
    → word_before joined_words rest ≡ None → opens_literal rest ≡ false → k ≡ keyword_of (take n rest)
    → IsFront rest (record { size = n; shape = shape.Word k })
unfolding word_piece
word_is rest n k e q c j o ek =
    let hw : is_word_start (get_or rest 0 0) ≡ true = class_means (get_or rest 0 0) class.Letter c in
    let some : 0 < n = omega (arith, run_some is_word_char rest q (word_char _ hw)) in
    let whole : list_all is_word_char (take n rest) ≡ true = rw e (in_run is_word_char rest) in
    let is : is_word (take n rest) ≡ true = word_as_run rest n some q hw ∙ whole in
    record {
      longest = record {
        some = some;
        within = omega (arith, prefix_len-le-length is_word_char rest);
        is = piece_at rest n class.Letter some q c ∙ rw is (ap (λ w. Some (token (form.Word w (take n rest)))) (sym ek));
        longest = λ m h l.
            let past : is_word (take m rest) ≡ false = word_as_run rest m (omega arith) q hw ∙ past_run is_word_char rest m (omega arith) l in
            piece_at rest m class.Letter (omega arith) q c ∙ only_literal (take m rest) past (before_none joined_words rest m j)
            ∙ no_literal (take m rest) (no_opens_cut rest m (omega arith) l o);
      };
      fits = run_ascii rest n e;
    }

-- a joined word
no_gap : (b : ℕ) (bs : List ℕ) → (eqb b 45 || eqb b 126) ≡ true → gap_len false (b ∷ bs) ≡ 0
unfolding gap_len is_blank
no_gap b bs h = elim (cases_Bool (eqb b 45)) [
  | inl e ↦ let d : b ≡ 45 = is_byte b 45 e in rw d refl
  | inr e ↦ let f : eqb b 126 ≡ true = rw e at h in let d : b ≡ 126 = is_byte b 126 f in rw d refl
]

no_open : (b : ℕ) → (eqb b 45 || eqb b 126) ≡ true → eqb b 40 ≡ false
no_open b h = elim (cases_Bool (eqb b 45)) [
  | inl e ↦ let d : b ≡ 45 = is_byte b 45 e in rw d refl
  | inr e ↦ let f : eqb b 126 ≡ true = rw e at h in let d : b ≡ 126 = is_byte b 126 f in rw d refl
]

and_no : (v w : Bool) → w ≡ false → (v && w) ≡ false
and_no true w h = h
and_no false w h = refl

dash_gap : (xs : List ℕ) → (eqb (get_or xs 0 0) 45 || eqb (get_or xs 0 0) 126) ≡ true → gap_len false xs ≡ 0
dash_gap [] h = absurd cc
dash_gap (b ∷ bs) h = no_gap b bs h

joined_no_literal : (xs : List ℕ) → (eqb (get_or xs (prefix_len is_word_char xs) 0) 45 || eqb (get_or xs (prefix_len is_word_char xs) 0) 126) ≡ true → opens_literal xs ≡ false
unfolding opens_literal
joined_no_literal xs h =
    let head : get_or (drop (prefix_len is_word_char xs) xs) 0 0 ≡ get_or xs (prefix_len is_word_char xs) 0 =
    get_or-drop (prefix_len is_word_char xs) xs 0 0 ∙ ap (λ j. get_or xs j 0) (omega arith) in
    let none : gap_len false (drop (prefix_len is_word_char xs) xs) ≡ 0 = dash_gap (drop (prefix_len is_word_char xs) xs) (rw head h) in
    let at : literal_open xs ≡ prefix_len is_word_char xs = open_whole xs ∙ ap (λ n. prefix_len is_word_char xs + n) none ∙ omega arith in
    and_no (is_literal_keyword (literal_keyword xs)) (eqb (get_or xs (literal_open xs) 0) 40)
    (ap (λ j. eqb (get_or xs j 0) 40) at ∙ no_open (get_or xs (prefix_len is_word_char xs) 0) h)

pub joined_is : (rest t : List ℕ) (k : Keyword) → word_before joined_words rest ≡ Some k → t ≡ keyword_text k → 0 < length rest → class_of (get_or rest 0 0) ≡ class.Letter
    → IsFront rest (record { size = length t; shape = shape.Word k })
joined_is rest t k e s q c =
    let size : length t ≡ length (keyword_text k) = ap length s in
    let n = length (keyword_text k) in
    let hw : is_word_start (get_or rest 0 0) ≡ true = class_means (get_or rest 0 0) class.Letter c in
    let two : 2 ≤ length (keyword_text k) = long_word k (before_has is_long_word joined_words rest k joined_long e) in
    let within : length (keyword_text k) ≤ length rest = before_within joined_words rest k e in
    let text : keyword_text k ≡ take (length (keyword_text k)) rest = before_text joined_words rest k e in
    let ascii : IsAscii (keyword_text k) = ascii_from (keyword_text k) (before_has is_ascii_word joined_words rest k joined_ascii e) in
    let parts = joined_parts k (before_has is_joined joined_words rest k joined_joined e) in
    let run : prefix_len is_word_char rest < length (keyword_text k) = shorter_run k rest text within parts.1 in
    let not_all : list_all is_word_char (take (length (keyword_text k)) rest) ≡ false = past_run is_word_char rest (length (keyword_text k)) run within in
    let same_run : prefix_len is_word_char (keyword_text k) ≡ prefix_len is_word_char rest = ap (prefix_len is_word_char) text ∙ run_take is_word_char rest (length (keyword_text k)) run in
    let dash : (eqb (get_or rest (prefix_len is_word_char rest) 0) 45 || eqb (get_or rest (prefix_len is_word_char rest) 0) 126) ≡ true =
    let byte : parts.0.0 ≡ get_or rest (prefix_len is_word_char rest) 0 =
    parts.0.1 ∙ ap (λ j. get_or (keyword_text k) j 0) same_run ∙ ap (λ ys. get_or ys (prefix_len is_word_char rest) 0) text
    ∙ get_or-take (length (keyword_text k)) rest (prefix_len is_word_char rest) 0 run in
    rw byte at parts.0.2 in
    let past = λ (m : ℕ) (h : length (keyword_text k) < m).
    word_as_run rest m (omega arith) q hw ∙ fails_past is_word_char rest (length (keyword_text k)) m not_all (omega arith) in
    let closed = λ (m : ℕ) (h : length (keyword_text k) < m).
    joined_no_literal (take m rest)
    (rw (run_take is_word_char rest m (omega arith), get_or-take m rest (prefix_len is_word_char rest) 0 (omega arith)) dash) in
    let here : is_word (take (length (keyword_text k)) rest) ≡ false = word_as_run rest (length (keyword_text k)) (omega arith) q hw ∙ not_all in
    rw size (record {
      longest = record {
        some = omega arith;
        within = within;
        is = piece_at rest (length (keyword_text k)) class.Letter (omega arith) q c ∙ not_word (take (length (keyword_text k)) rest) here
            ∙ ap (λ o. option_or (option_map (λ j. token (form.Word j (take (length (keyword_text k)) rest))) o) (literal_piece (take (length (keyword_text k)) rest))) (before_in joined_words rest k e);
        longest = λ m h l. piece_at rest m class.Letter (omega arith) q c ∙ only_literal (take m rest) (past m h) (before_past joined_words rest k m joined_falls e h l)
            ∙ no_literal (take m rest) (closed m h);
      };
      fits = rw (← text) ascii;
    }) where
      shorter_run : (k : Keyword) (rest : List ℕ) → keyword_text k ≡ take (length (keyword_text k)) rest → length (keyword_text k) ≤ length rest
          → prefix_len is_word_char (keyword_text k) < length (keyword_text k) → prefix_len is_word_char rest < length (keyword_text k)
      shorter_run k rest text within h = elim (cases_lt (prefix_len is_word_char rest) (length (keyword_text k))) [
        | inl lt ↦ lt
        | inr ge ↦
            let byte : get_or (keyword_text k) (prefix_len is_word_char (keyword_text k)) 0 ≡ get_or rest (prefix_len is_word_char (keyword_text k)) 0 =
            ap (λ ys. get_or ys (prefix_len is_word_char (keyword_text k)) 0) text ∙ get_or-take (length (keyword_text k)) rest (prefix_len is_word_char (keyword_text k)) 0 h in
            let stops : is_word_char (get_or (keyword_text k) (prefix_len is_word_char (keyword_text k)) 0) ≡ false = prefix_len_stops is_word_char (keyword_text k) 0 h in
            let passes : is_word_char (get_or rest (prefix_len is_word_char (keyword_text k)) 0) ≡ true = prefix_len_passes is_word_char rest (prefix_len is_word_char (keyword_text k)) 0 (omega arith) in
            let both : is_word_char (get_or (keyword_text k) (prefix_len is_word_char (keyword_text k)) 0) ≡ true = ap is_word_char byte ∙ passes in
            absurd cc
      ]

-- a typed literal
sizes_differ : (n m : ℕ) → n < m → eqb n m ≡ false
sizes_differ n m h = grind (arith, nat_tests)

sizes_same : (n m : ℕ) → n ≡ m → eqb n m ≡ true
sizes_same n m h = grind (arith, nat_tests)

raw_closed : (k : Keyword) (ys : List ℕ) (j : ℕ) → j ≡ raw_len 0 ys + 1 → j ≤ length ys → raw_piece k (take j ys) ≡ Some (token (form.Typed k (take (raw_len 0 ys) ys)))
unfolding raw_piece
raw_closed k ys j e l =
    rw (raw_take 0 ys j (omega arith), length-take-le j ys l, sizes_differ (raw_len 0 ys) j (omega arith), sizes_same (raw_len 0 ys + 1) j (omega arith))
    (ap (λ t. Some (token (form.Typed k t))) (take-take (raw_len 0 ys) j ys (omega arith)))

raw_long : (k : Keyword) (ys : List ℕ) (j : ℕ) → raw_len 0 ys + 1 < j → j ≤ length ys → raw_piece k (take j ys) ≡ None
unfolding raw_piece
raw_long k ys j h l =
    rw (raw_take 0 ys j (omega arith), length-take-le j ys l, sizes_differ (raw_len 0 ys) j (omega arith), sizes_differ (raw_len 0 ys + 1) j h) refl

raw_open : (k : Keyword) (ys : List ℕ) (j : ℕ) → raw_len 0 ys ≡ length ys → j ≡ length ys → raw_piece k (take j ys) ≡ Some (flaw 102)
unfolding raw_piece
raw_open k ys j h e = rw (take_all j ys (omega arith), sizes_same (raw_len 0 ys) (length ys) h) refl

literal_past : (rest : List ℕ) (m : ℕ) → 0 < length rest → class_of (get_or rest 0 0) ≡ class.Letter → word_before joined_words rest ≡ None → opens_literal rest ≡ true
    → literal_open rest < m → m ≤ length rest → word_piece (take m rest) ≡ raw_piece (literal_keyword rest) (take (m - (literal_open rest + 1)) (drop (literal_open rest + 1) rest))
literal_past rest m q c j o h l =
    let hw : is_word_start (get_or rest 0 0) ≡ true = class_means (get_or rest 0 0) class.Letter c in
    let run : prefix_len is_word_char rest ≤ literal_open rest = open_past rest in
    let past : is_word (take m rest) ≡ false = word_as_run rest m (omega arith) q hw ∙ past_run is_word_char rest m (omega arith) l in
    only_literal (take m rest) past (before_none joined_words rest m j) ∙ literal_front rest m o h

closed_at : (rest : List ℕ) (len : ℕ) → 0 < length rest → class_of (get_or rest 0 0) ≡ class.Letter → word_before joined_words rest ≡ None → opens_literal rest ≡ true
    → len ≡ raw_len 0 (drop (literal_open rest + 1) rest) → literal_open rest + 1 + len < length rest
    → IsFront rest (record { size = literal_open rest + 1 + len + 1; shape = shape.Typed (literal_keyword rest) (literal_open rest) })
closed_at rest len q c j o e h =
    let hw : is_word_start (get_or rest 0 0) ≡ true = class_means (get_or rest 0 0) class.Letter c in
    let size : length (drop (literal_open rest + 1) rest) ≡ length rest - (literal_open rest + 1) = length-drop (literal_open rest + 1) rest in
    let less : literal_open rest + 1 + len + 1 - (literal_open rest + 1) ≡ raw_len 0 (drop (literal_open rest + 1) rest) + 1 = omega arith in
    let whole : length (take (literal_open rest + 1 + len + 1) rest) ≡ literal_open rest + 1 + len + 1 = length-take-le (literal_open rest + 1 + len + 1) rest (omega arith) in
    let inner : take (raw_len 0 (drop (literal_open rest + 1) rest)) (drop (literal_open rest + 1) rest) ≡ between (literal_open rest) (take (literal_open rest + 1 + len + 1) rest) =
    sym (between_take (literal_open rest) (literal_open rest + 1 + len + 1) rest (omega arith) (omega arith) ∙ ap (λ i. take i (drop (literal_open rest + 1) rest)) (omega arith)) in
    let ending : get_or (take (literal_open rest + 1 + len + 1) rest) (length (take (literal_open rest + 1 + len + 1) rest) - 1) 0 ≡ 41 =
    ap (λ i. get_or (take (literal_open rest + 1 + len + 1) rest) i 0) (ap (λ i. i - 1) whole ∙ omega arith)
    ∙ get_or-take (literal_open rest + 1 + len + 1) rest (literal_open rest + 1 + len) 0 (omega arith)
    ∙ sym (get_or-drop (literal_open rest + 1) rest len 0)
    ∙ ap (λ i. get_or (drop (literal_open rest + 1) rest) i 0) e
    ∙ raw_at 0 (drop (literal_open rest + 1) rest) (omega arith) in
    record {
      longest = record {
        some = omega arith;
        within = omega arith;
        is = piece_at rest (literal_open rest + 1 + len + 1) class.Letter (omega arith) q c
            ∙ literal_past rest (literal_open rest + 1 + len + 1) q c j o (omega arith) (omega arith)
            ∙ raw_closed (literal_keyword rest) (drop (literal_open rest + 1) rest) (literal_open rest + 1 + len + 1 - (literal_open rest + 1)) less (omega arith)
            ∙ ap (λ t. Some (token (form.Typed (literal_keyword rest) t))) inner;
        longest = λ m h' l. piece_at rest m class.Letter (omega arith) q c ∙ literal_past rest m q c j o (omega arith) l
            ∙ raw_long (literal_keyword rest) (drop (literal_open rest + 1) rest) (m - (literal_open rest + 1)) (omega arith) (omega arith);
      };
      fits = record {
        first = rw (get_or-take (literal_open rest + 1 + len + 1) rest 0 0 (omega arith)) (char_ascii (get_or rest 0 0) (word_char (get_or rest 0 0) hw));
        before = rw (get_or-take (literal_open rest + 1 + len + 1) rest (literal_open rest) 0 (omega arith)) (rw (opens_parts rest o).1 (omega arith));
        last = rw ending (omega arith);
        room = omega (arith, whole);
      };
    }

pub closed_literal_is : (rest : List ℕ) (at len : ℕ) (k : Keyword) → 0 < length rest → class_of (get_or rest 0 0) ≡ class.Letter → word_before joined_words rest ≡ None → opens_literal rest ≡ true
    → at ≡ literal_open rest → k ≡ literal_keyword rest → len ≡ raw_len 0 (drop (at + 1) rest) → at + 1 + len < length rest
    → IsFront rest (record { size = at + 1 + len + 1; shape = shape.Typed k at })
closed_literal_is rest at len k q c j o e f r h =
    let len' : len ≡ raw_len 0 (drop (literal_open rest + 1) rest) = r ∙ ap (λ a. raw_len 0 (drop (a + 1) rest)) e in
    let core = closed_at rest len q c j o len' (omega arith) in
    subst (λ a. IsFront rest (record { size = a + 1 + len + 1; shape = shape.Typed k a })) (sym e)
    (subst (λ w. IsFront rest (record { size = literal_open rest + 1 + len + 1; shape = shape.Typed w (literal_open rest) })) (sym f) core)

open_at : (rest : List ℕ) (len : ℕ) → 0 < length rest → class_of (get_or rest 0 0) ≡ class.Letter → word_before joined_words rest ≡ None → opens_literal rest ≡ true
    → len ≡ raw_len 0 (drop (literal_open rest + 1) rest) → literal_open rest < length rest → length rest ≤ literal_open rest + 1 + len
    → IsFront rest (record { size = literal_open rest + 1 + len; shape = shape.Flaw 102 })
open_at rest len q c j o e r h =
    let size : length (drop (literal_open rest + 1) rest) ≡ length rest - (literal_open rest + 1) = length-drop (literal_open rest + 1) rest in
    let most : raw_len 0 (drop (literal_open rest + 1) rest) ≤ length (drop (literal_open rest + 1) rest) = raw_le 0 (drop (literal_open rest + 1) rest) in
    record {
      longest = record {
        some = omega arith;
        within = omega arith;
        is = piece_at rest (literal_open rest + 1 + len) class.Letter (omega arith) q c
            ∙ literal_past rest (literal_open rest + 1 + len) q c j o (omega arith) (omega arith)
            ∙ raw_open (literal_keyword rest) (drop (literal_open rest + 1) rest) (literal_open rest + 1 + len - (literal_open rest + 1)) (omega arith) (omega arith);
        longest = λ m h' l. absurd (omega arith);
      };
      fits = tt;
    }

pub open_literal_is : (rest : List ℕ) (at len : ℕ) → 0 < length rest → class_of (get_or rest 0 0) ≡ class.Letter → word_before joined_words rest ≡ None → opens_literal rest ≡ true
    → at ≡ literal_open rest → len ≡ raw_len 0 (drop (at + 1) rest) → at < length rest → length rest ≤ at + 1 + len
    → IsFront rest (record { size = at + 1 + len; shape = shape.Flaw 102 })
open_literal_is rest at len q c j o e r w h =
    let len' : len ≡ raw_len 0 (drop (literal_open rest + 1) rest) = r ∙ ap (λ a. raw_len 0 (drop (a + 1) rest)) e in
    let core = open_at rest len q c j o len' (omega arith) (omega arith) in
    subst (λ a. IsFront rest (record { size = a + 1 + len; shape = shape.Flaw 102 })) (sym e) core

pub plain_raw : (rest : List ℕ) (at len : ℕ) (known : Bool) → IsPlain known (drop len (take (length rest - (at + 1)) (drop (at + 1) rest))) → IsPlain known (drop (at + 1 + len) rest)
plain_raw rest at len known p =
    subst (IsPlain known) (ap (drop len) (take_rest rest (at + 1)) ∙ drop-drop len (at + 1) rest) p

pub plain_closed : (rest : List ℕ) (at len : ℕ) (known : Bool) → IsPlain known (drop len (take (length rest - (at + 1)) (drop (at + 1) rest))) → IsPlain known (drop (at + 1 + len + 1) rest)
plain_closed rest at len known p =
    subst (IsPlain known) (drop-drop 1 (at + 1 + len) rest) (plain_drop known (drop (at + 1 + len) rest) 1 (plain_raw rest at len known p))

-- where a literal opens, by the word and the byte behind it
if_opens : (v : Bool) (n : ℕ) → v ≡ true → Some n ≡ cond v (Some n) None
if_opens v n h = rw h refl

unless_opens : (v : Bool) (n : ℕ) → v ≡ false → None ≡ cond v (Some n) None
unless_opens v n h = rw h refl

pub no_literal_at : (rest : List ℕ) (k : Keyword) → k ≡ literal_keyword rest → is_literal_keyword k ≡ false → None ≡ cond (opens_literal rest) (Some (literal_open rest)) None
unfolding opens_literal
no_literal_at rest k e h = let no_word : is_literal_keyword (literal_keyword rest) ≡ false = rw e at h in rw no_word refl

pub yes_literal_at : (rest : List ℕ) (n g : ℕ) (k : Keyword) → k ≡ literal_keyword rest → is_literal_keyword k ≡ true → n ≡ prefix_len is_word_char rest
    → g ≡ gap_len false (drop n rest) → get_or rest (n + g) 0 ≡ 40 → Some (n + g) ≡ cond (opens_literal rest) (Some (literal_open rest)) None
yes_literal_at rest n g k e h en eg b =
    let at : literal_open rest ≡ n + g = open_whole rest ∙ ap (λ i. i + gap_len false (drop i rest)) (sym en) ∙ ap (λ i. n + i) (sym eg) in
    let word : is_literal_keyword (literal_keyword rest) ≡ true = rw e at h in
    let opens : opens_literal rest ≡ true = opens_from rest word (ap (λ i. get_or rest i 0) at ∙ b) in
    rw opens (ap Some (sym at))

pub not_literal_at : (rest : List ℕ) (n g : ℕ) → n ≡ prefix_len is_word_char rest
    → g ≡ gap_len false (drop n rest) → (get_or rest (n + g) 0 ≡ 40 → ⊥) → None ≡ cond (opens_literal rest) (Some (literal_open rest)) None
not_literal_at rest n g en eg b =
    let at : literal_open rest ≡ n + g = open_whole rest ∙ ap (λ i. i + gap_len false (drop i rest)) (sym en) ∙ ap (λ i. n + i) (sym eg) in
    elim (cases_Bool (opens_literal rest)) [
      | inl o ↦ absurd (b (ap (λ i. get_or rest i 0) (sym at) ∙ (opens_parts rest o).1))
      | inr o ↦ rw o refl
    ]

pub some_literal_at : (rest : List ℕ) (at : ℕ) → Some at ≡ cond (opens_literal rest) (Some (literal_open rest)) None → (opens_literal rest ≡ true) × (at ≡ literal_open rest) × (at < length rest)
some_literal_at rest at h = elim (cases_Bool (opens_literal rest)) [
  | inl o ↦
      let h' : Some at ≡ Some (literal_open rest) = rw o at h in
      let same : at ≡ literal_open rest = cc in
      (o, same, within at (ap (λ i. get_or rest i 0) same ∙ (opens_parts rest o).1))
  | inr o ↦ let h' : Some at ≡ None = rw o at h in absurd cc
] where
  within : (n : ℕ) → get_or rest n 0 ≡ 40 → n < length rest
  within n e = elim (cases_lt n (length rest)) [
    | inl lt ↦ lt
    | inr ge ↦ let past : get_or rest n 0 ≡ 0 = get_or_past rest n 0 ge in absurd (omega arith)
  ]

pub none_literal_at : (rest : List ℕ) → None ≡ cond (opens_literal rest) (Some (literal_open rest)) None → opens_literal rest ≡ false
none_literal_at rest h = elim (cases_Bool (opens_literal rest)) [
  | inl o ↦ let h' : None ≡ Some (literal_open rest) = rw o at h in absurd cc
  | inr o ↦ o
]

pub keyword_is : (rest w : List ℕ) (n : ℕ) (k : Keyword) → n ≡ prefix_len is_word_char rest → w ≡ take n rest → k ≡ keyword_of w → k ≡ literal_keyword rest
unfolding literal_keyword
keyword_is rest w n k e f g = g ∙ ap keyword_of (f ∙ ap (λ i. take i rest) e)

pub word_within : (rest : List ℕ) → prefix_len is_word_char rest ≤ length rest
word_within rest = prefix_len-le-length is_word_char rest

pub ruleset at_steps = (no_literal_at)

pub ruleset word_steps = (run_ascii, word_within)
