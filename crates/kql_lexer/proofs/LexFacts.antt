-- How far a text is read: the tokens so far, and those of what is left; and where the first fault is.
use Rattle.std.proofs.Common.{◌≡◌, ◌≤◌, ◌<◌, ◌+◌, ◌-◌, ℕ, suc, zero, Bool, true, false, List, [], ◌∷◌, ◌++◌, length, get_or, take, drop, map, cond, eqb, ltb, Option, Some, None, Ok, Err, option_map, option_to_list, refl, sym, ap, ◌∙◌, subst, inl, inr, arith, append_assoc, append-nil}
use Rattle.std.specs.Prelude.{is_some, IfOk, IfErr, Result}
use Rattle.std.specs.List.{cons_option}
use Rattle.std.specs.Str.{IsUtf8}
use Rattle.std.specs.Str.Lossy.{utf8_valid_len}
use Rattle.std.proofs.lemmas.List.{drop-drop, drop_all, drop_at, drop-take, length-append, length-drop, length-take-le, get_or-drop, get_or-take, take-take}
use Rattle.std.proofs.lemmas.Bool.{cases_Bool, cases_lt}
use Rattle.std.proofs.lemmas.Bool.Decides.{nat_tests}
use Rattle.std.proofs.lemmas.Str.{IsUtf8-from_ascii, IsUtf8-between, IsCharBoundary-after_ascii, IsCharBoundary-before_ascii, utf8_valid_len-IsUtf8, utf8_valid_len_le}
use Rattle.kql_lexer.specs.Answers.{IsFaultAt, IsFirstFault}
use Rattle.kql_lexer.specs.Lexing.{Fault, IsLongest, IsReading, answer, bad_bytes, crowd, cut_from, end_mark, fault_at, flaw_as, flaws_in, leftmost, lexed, longest_within, pieces, token_as, tokens_in, told_by}
use Rattle.kql_lexer.specs.Pieces.{Piece, gap, token, flaw, or_flaw}
use Rattle.kql_lexer.specs.Places.{place_at}
use Rattle.kql_lexer.specs.Shapes.{Fits, HasEnds, IsPlain, Reads, halted, halted_as, piece_as, token_halt}
use Rattle.kql_lexer.specs.Strings.{between, unescaped}
use Rattle.kql_lexer.specs.declared.lexer.LexFault.{LexFault}
use Rattle.kql_lexer.specs.declared.lexer.LexFault.TheVariants.{Refused, OutOfMemory}
use Rattle.kql_lexer.specs.declared.place.Place.{Place}
use Rattle.kql_lexer.specs.declared.token.Shape.{Shape}
use Rattle.kql_lexer.specs.declared.token.Shape.TheVariants as shape
use Rattle.kql_lexer.specs.declared.token.Token.{Token}
use Rattle.kql_lexer.specs.declared.token.TokenForm.{TokenForm}
use Rattle.kql_lexer.specs.declared.token.TokenForm.TheVariants as form
use Rattle.kql_lexer.proofs.PlaceFacts.{place_byte}
use Rattle.kql_lexer.proofs.ReadingFacts.{cut_more, has_reading, one_way}

pub valid_whole : (xs t : List ℕ) → t ≡ xs → IsUtf8 xs → length t ≡ utf8_valid_len xs
valid_whole xs t e u = ap length e ∙ sym (utf8_valid_len-IsUtf8 xs u)

pub ruleset valid_steps = (valid_whole)

-- faults that stand at a byte or behind it
abbrev Above : ℕ → List (ℕ × ℕ) → Type 0
Above n [] = Unit {0}
Above n (f ∷ fs) = (n ≤ f.0) × Above n fs

above_less : (n m : ℕ) (fs : List (ℕ × ℕ)) → m ≤ n → Above n fs → Above m fs
above_less n m [] h a = tt
above_less n m (f ∷ fs) h a = (omega (arith, a.0), above_less n m fs h a.1)

above_append : (n : ℕ) (xs ys : List (ℕ × ℕ)) → Above n xs → Above n ys → Above n (xs ++ ys)
above_append n [] ys a b = b
above_append n (x ∷ xs) ys a b = (a.0, above_append n xs ys a.1 b)

not_less : (n m : ℕ) → m ≤ n → ltb n m ≡ false
not_less n m h = grind (arith, nat_tests)

is_less : (n m : ℕ) → n < m → ltb n m ≡ true
is_less n m h = grind (arith, nat_tests)

leftmost_stays : (f : ℕ × ℕ) (gs : List (ℕ × ℕ)) → Above f.0 gs → leftmost f gs ≡ f
unfolding leftmost
leftmost_stays f [] a = refl
leftmost_stays f (g ∷ gs) a = rw (not_less g.0 f.0 a.0) (leftmost_stays f gs a.1)

leftmost_finds : (g f : ℕ × ℕ) (xs ys : List (ℕ × ℕ)) → f.0 < g.0 → Above (f.0 + 1) xs → Above f.0 ys → leftmost g (xs ++ f ∷ ys) ≡ f
unfolding leftmost
leftmost_finds g f [] ys h a b = ap (λ v. leftmost (cond v f g) ys) (is_less f.0 g.0 h) ∙ leftmost_stays f ys b
leftmost_finds g f (x ∷ xs) ys h a b =
    elim (ltb x.0 g.0) as (λ v. leftmost (cond v x g) (xs ++ f ∷ ys) ≡ f) [
      | true ↦ leftmost_finds x f xs ys (omega (arith, a.0)) a.1 b
      | false ↦ leftmost_finds g f xs ys h a.1 b
    ]

-- the answer where one fault stands before all others
pub answer_is : (text : List ℕ) (f : ℕ × ℕ) (xs ys : List (ℕ × ℕ)) (tokens : List Token) → Above (f.0 + 1) xs → Above f.0 ys → answer text (xs ++ f ∷ ys) tokens ≡ Err (fault_at text f)
answer_is text f [] ys tokens a b = ap (λ g. Err (fault_at text g)) (leftmost_stays f ys b)
answer_is text f (x ∷ xs) ys tokens a b = ap (λ g. Err (fault_at text g)) (leftmost_finds x f xs ys (omega (arith, a.0)) a.1 b)

-- flaws and tokens of what is left of a text
above_flaw : (n at : ℕ) (p : Piece) (fs : List (ℕ × ℕ)) → n ≤ at → Above n fs → Above n (cons_option (flaw_as at p) fs)
above_flaw n at gap fs h a = a
above_flaw n at (token t) fs h a = a
above_flaw n at (flaw c) fs h a = (h, a)

flaws_above : (xs : List ℕ) (k at : ℕ) → Above at (flaws_in (cut_from at k xs))
unfolding cut_from
flaws_above [] k at = tt
flaws_above (b ∷ bs) zero at =
    let front = longest_within (b ∷ bs) (length (b ∷ bs)) in
    above_flaw at at front.piece (flaws_in (cut_from (suc at) (front.size - 1) bs)) (omega arith)
    (above_less (suc at) at (flaws_in (cut_from (suc at) (front.size - 1) bs)) (omega arith) (flaws_above bs (front.size - 1) (suc at)))
flaws_above (b ∷ bs) (suc k) at = above_less (suc at) at (flaws_in (cut_from (suc at) k bs)) (omega arith) (flaws_above bs k (suc at))

-- tokens that stand at a byte or behind it
abbrev Later : ℕ → List Token → Type 0
Later n [] = Unit {0}
Later n (t ∷ ts) = (n ≤ t.place.byte) × Later n ts

later_less : (n m : ℕ) (ts : List Token) → m ≤ n → Later n ts → Later m ts
later_less n m [] h a = tt
later_less n m (t ∷ ts) h a = (omega (arith, a.0), later_less n m ts h a.1)

later_token : (text : List ℕ) (n at : ℕ) (p : Piece) (ts : List Token) → n ≤ at → Later n ts → Later n (cons_option (token_as (place_at text at) p) ts)
later_token text n at gap ts h a = a
later_token text n at (flaw c) ts h a = a
later_token text n at (token t) ts h a = (rw (place_byte text at) h, a)

tokens_later : (text xs : List ℕ) (k at : ℕ) → Later at (tokens_in text (cut_from at k xs))
unfolding cut_from
tokens_later text [] k at = tt
tokens_later text (b ∷ bs) zero at =
    let front = longest_within (b ∷ bs) (length (b ∷ bs)) in
    later_token text at at front.piece (tokens_in text (cut_from (suc at) (front.size - 1) bs)) (omega arith)
    (later_less (suc at) at (tokens_in text (cut_from (suc at) (front.size - 1) bs)) (omega arith) (tokens_later text bs (front.size - 1) (suc at)))
tokens_later text (b ∷ bs) (suc k) at = later_less (suc at) at (tokens_in text (cut_from (suc at) k bs)) (omega arith) (tokens_later text bs k (suc at))

abbrev crowded : Token → ℕ × ℕ
crowded t = (t.place.byte, 105)

later_drop : (n k : ℕ) (ts : List Token) → Later n ts → Later n (drop k ts)
later_drop n zero ts a = a
later_drop n (suc k) [] a = tt
later_drop n (suc k) (t ∷ ts) a = later_drop n k ts a.1

later_crowd : (n : ℕ) (ts : List Token) → Later n ts → Above n (map crowded (take 1 ts))
later_crowd n [] a = tt
later_crowd n (t ∷ ts) a = (a.0, tt)

drop_over : (xs ys : List Token) (n : ℕ) → length xs ≤ n → drop n (xs ++ ys) ≡ drop (n - length xs) ys
drop_over xs ys n h =
    let e : n ≡ length xs + (n - length xs) = omega arith in
    ap (λ k. drop k (xs ++ ys)) e ∙ sym (drop-drop (n - length xs) (length xs) (xs ++ ys)) ∙ ap (drop (n - length xs)) (drop_at xs ys (length xs) refl)

crowd_above : (n limit : ℕ) (xs ys : List Token) → length xs ≤ limit → Later n ys → Above n (map crowded (take 1 (drop limit (xs ++ ys))))
crowd_above n limit xs ys h a =
    subst (λ ts. Above n (map crowded (take 1 ts))) (sym (drop_over xs ys limit h)) (later_crowd n (drop (limit - length xs) ys) (later_drop n (limit - length xs) ys a))

crowd_first : (limit : ℕ) (xs ys : List Token) (t : Token) → length xs ≡ limit → map crowded (take 1 (drop limit (xs ++ t ∷ ys))) ≡ (t.place.byte, 105) ∷ []
crowd_first limit xs ys t h = ap (λ ts. map crowded (take 1 ts)) (drop_at xs (t ∷ ys) limit h)

crowd_none : (limit : ℕ) (xs : List Token) → length xs ≤ limit → map crowded (take 1 (drop limit xs)) ≡ []
crowd_none limit xs h = ap (λ ts. map crowded (take 1 ts)) (drop_all limit xs h)

-- bytes that are not UTF-8
bad_some : (text : List ℕ) → utf8_valid_len text < length text → bad_bytes text ≡ (utf8_valid_len text, 101) ∷ []
bad_some text h = let no : eqb (utf8_valid_len text) (length text) ≡ false = differ (utf8_valid_len text) (length text) h in rw no refl where
  differ : (n m : ℕ) → n < m → eqb n m ≡ false
  differ n m h = grind (arith, nat_tests)

bad_none : (text : List ℕ) → length text ≤ utf8_valid_len text → bad_bytes text ≡ []
bad_none text h =
    let same : utf8_valid_len text ≡ length text = omega (arith, utf8_valid_len_le text) in
    let yes : eqb (utf8_valid_len text) (length text) ≡ true = equal (utf8_valid_len text) (length text) same in
    rw yes refl where
      equal : (n m : ℕ) → n ≡ m → eqb n m ≡ true
      equal n m h = grind (arith, nat_tests)

bad_above : (text : List ℕ) (n : ℕ) → n ≤ utf8_valid_len text → Above n (bad_bytes text)
bad_above text n h = elim (cases_lt (utf8_valid_len text) (length text)) [
  | inl lt ↦ subst (Above n) (sym (bad_some text lt)) (h, tt)
  | inr ge ↦ subst (Above n) (sym (bad_none text ge)) tt
]

-- the text is read up to a byte
pub record Reading (text : List ℕ) (tokens : List Token) (at : ℕ) (place : Place) (known : Bool) : Type 0 where
  pub short : length text ≤ 262144
  pub within : at ≤ length text
  pub here : place ≡ place_at text at
  pub told : tokens ++ tokens_in text (cut_from at 0 (drop at text)) ≡ tokens_in text (pieces text)
  pub sound : flaws_in (cut_from at 0 (drop at text)) ≡ flaws_in (pieces text)
  pub few : length tokens ≤ 65536
  pub plain : IsPlain known (drop at text)

pub reading_start : (text : List ℕ) (tokens : List Token) (place : Place) → length text ≤ 262144 → tokens ≡ [] → place ≡ place_at text 0 → Reading text tokens 0 place false
unfolding pieces
reading_start text tokens place h e p = record {
  short = h;
  within = omega arith;
  here = p;
  told = rw e refl;
  sound = refl;
  few = omega (arith, ap length e);
  plain = λ k. absurd cc;
}

cons_list : {X : Type 0} (o : Option X) (xs : List X) → option_to_list o ++ xs ≡ cons_option o xs
cons_list None xs = refl
cons_list (Some x) xs = refl

no_flaw : (valid count at n : ℕ) (p : Piece) → halted valid count at n p ≡ None → flaw_as at p ≡ None
no_flaw valid count at n gap h = refl
no_flaw valid count at n (token t) h = refl
no_flaw valid count at n (flaw c) h = absurd cc

differs : (n m : ℕ) → eqb n m ≡ false → n ≤ m → n + 1 ≤ m
differs n m h l = grind (arith, nat_tests)

halts : (f : ℕ × ℕ) → Some f ≡ None → ⊥
halts f h = cc

room : (valid at n : ℕ) (tokens more : List Token) (place : Place) (p : Piece) → halted valid (length tokens) at n p ≡ None → length tokens ≤ 65536
    → more ≡ tokens ++ option_to_list (token_as place p) → length more ≤ 65536
room valid at n tokens more place gap h l e = omega (arith, ap length e, length-append tokens [])
room valid at n tokens more place (flaw c) h l e = absurd cc
room valid at n tokens more place (token t) h l e =
    let size : length more ≡ length tokens + 1 = ap length e ∙ length-append tokens (record { place = place; form = t } ∷ []) in
    elim (cases_Bool (eqb (length tokens) 65536)) [
      | inl full ↦ absurd (halts (at, 105) (rw full at h))
      | inr free ↦ omega (arith, differs (length tokens) 65536 free l)
    ]

pub reading_more : (text : List ℕ) (tokens more : List Token) (valid at n : ℕ) (place next : Place) (known later : Bool) (p : Piece) → Reading text tokens at place known → IsLongest (drop at text) n p
    → more ≡ tokens ++ option_to_list (token_as place p) → halted valid (length tokens) at n p ≡ None → next ≡ place_at text (at + n) → IsPlain later (drop n (drop at text))
    → Reading text more (at + n) next later
reading_more text tokens more valid at n place next known later p r l e f q k =
    let parts : List (ℕ × Piece) = cut_from (at + n) 0 (drop (at + n) text) in
    let step : cut_from at 0 (drop at text) ≡ (at, p) ∷ parts = cut_more text at n p l in
    let ts = tokens_in text parts in
    let fs = flaws_in parts in
    record {
      short = r.short;
      within = omega (arith, l.within, length-drop at text, r.within);
      here = q;
      told = ap (λ xs. xs ++ ts) e ∙ append_assoc tokens (option_to_list (token_as place p)) ts
          ∙ ap (λ xs. tokens ++ xs) (ap (λ h. option_to_list (token_as h p) ++ ts) r.here ∙ cons_list (token_as (place_at text at) p) ts ∙ sym (ap (tokens_in text) step))
          ∙ r.told;
      sound = sym (ap (λ o. cons_option o fs) (no_flaw valid (length tokens) at n p f)) ∙ sym (ap flaws_in step) ∙ r.sound;
      few = room valid at n tokens more place p f r.few e;
      plain = subst (IsPlain later) (drop-drop n at text) k;
    }

not_long : (text : List ℕ) → length text ≤ 262144 → lexed text ≡ told_by text (pieces text)
unfolding lexed
not_long text h = let no : ltb 262144 (length text) ≡ false = not_less 262144 (length text) h in rw no refl

pub long_refused : (text : List ℕ) (place : Place) → 262144 < length text → place ≡ place_at text 0 → lexed text ≡ Err (record { code = 104; place = place })
unfolding lexed
long_refused text place h e = rw (is_less 262144 (length text) h) (ap (λ q. Err (record { code = 104; place = q })) (sym e))

-- the leftmost fault where a piece halts the reading
flaw_first : (text : List ℕ) (tokens : List Token) (at n c : ℕ) (place : Place) (known : Bool) → Reading text tokens at place known → IsLongest (drop at text) n (flaw c)
    → at < utf8_valid_len text → lexed text ≡ Err (fault_at text (at, c))
flaw_first text tokens at n c place known r l v =
    let parts : List (ℕ × Piece) = cut_from (at + n) 0 (drop (at + n) text) in
    let step : cut_from at 0 (drop at text) ≡ (at, flaw c) ∷ parts = cut_more text at n (flaw c) l in
    let all : flaws_in (pieces text) ≡ (at, c) ∷ flaws_in parts = sym r.sound ∙ ap flaws_in step in
    let told : tokens_in text (pieces text) ≡ tokens ++ tokens_in text parts = sym r.told ∙ ap (λ ps. tokens ++ tokens_in text ps) step in
    let left : Above at (flaws_in parts) = above_less (at + n) at (flaws_in parts) (omega arith) (flaws_above (drop (at + n) text) 0 (at + n)) in
    let last : Above at (crowd (tokens ++ tokens_in text parts)) =
    crowd_above at 65536 tokens (tokens_in text parts) r.few (later_less (at + n) at (tokens_in text parts) (omega arith) (tokens_later text (drop (at + n) text) 0 (at + n))) in
    not_long text r.short
    ∙ ap (λ fs. answer text (bad_bytes text ++ (fs ++ crowd (tokens_in text (pieces text)))) (tokens_in text (pieces text) ++ end_mark text ∷ [])) all
    ∙ ap (λ ts. answer text (bad_bytes text ++ ((at, c) ∷ (flaws_in parts ++ crowd ts))) (tokens_in text (pieces text) ++ end_mark text ∷ [])) told
    ∙ answer_is text (at, c) (bad_bytes text) (flaws_in parts ++ crowd (tokens ++ tokens_in text parts)) (tokens_in text (pieces text) ++ end_mark text ∷ [])
    (bad_above text (at + 1) (omega arith)) (above_append at (flaws_in parts) (crowd (tokens ++ tokens_in text parts)) left last)

crowd_is_first : (text : List ℕ) (tokens : List Token) (at n : ℕ) (t : TokenForm) (place : Place) (known : Bool) → Reading text tokens at place known → IsLongest (drop at text) n (token t)
    → at < utf8_valid_len text → length tokens ≡ 65536 → lexed text ≡ Err (fault_at text (at, 105))
crowd_is_first text tokens at n t place known r l v e =
    let parts : List (ℕ × Piece) = cut_from (at + n) 0 (drop (at + n) text) in
    let step : cut_from at 0 (drop at text) ≡ (at, token t) ∷ parts = cut_more text at n (token t) l in
    let all : flaws_in (pieces text) ≡ flaws_in parts = sym r.sound ∙ ap flaws_in step in
    let this : Token = record { place = place_at text at; form = t } in
    let told : tokens_in text (pieces text) ≡ tokens ++ this ∷ tokens_in text parts = sym r.told ∙ ap (λ ps. tokens ++ tokens_in text ps) step in
    let one : crowd (tokens_in text (pieces text)) ≡ (at, 105) ∷ [] =
    ap crowd told ∙ crowd_first 65536 tokens (tokens_in text parts) this e ∙ ap (λ b. (b, 105) ∷ []) (place_byte text at) in
    let left : Above (at + 1) (flaws_in parts) = above_less (at + n) (at + 1) (flaws_in parts) (omega (arith, l.some)) (flaws_above (drop (at + n) text) 0 (at + n)) in
    not_long text r.short
    ∙ ap (λ fs. answer text (bad_bytes text ++ (fs ++ crowd (tokens_in text (pieces text)))) (tokens_in text (pieces text) ++ end_mark text ∷ [])) all
    ∙ ap (λ cs. answer text (bad_bytes text ++ (flaws_in parts ++ cs)) (tokens_in text (pieces text) ++ end_mark text ∷ [])) one
    ∙ ap (λ fs. answer text fs (tokens_in text (pieces text) ++ end_mark text ∷ [])) (sym (append_assoc (bad_bytes text) (flaws_in parts) ((at, 105) ∷ [])))
    ∙ answer_is text (at, 105) (bad_bytes text ++ flaws_in parts) [] (tokens_in text (pieces text) ++ end_mark text ∷ [])
    (above_append (at + 1) (bad_bytes text) (flaws_in parts) (bad_above text (at + 1) (omega arith)) left) tt

-- the valid front ends before any other fault
bad_is_first : (text : List ℕ) (fs : List (ℕ × ℕ)) (ts : List Token) → length text ≤ 262144 → utf8_valid_len text < length text → flaws_in (pieces text) ≡ fs → tokens_in text (pieces text) ≡ ts
    → Above (utf8_valid_len text) fs → Above (utf8_valid_len text) (crowd ts) → lexed text ≡ Err (fault_at text (utf8_valid_len text, 101))
bad_is_first text fs ts s h e t a b =
    not_long text s
    ∙ ap (λ gs. answer text (bad_bytes text ++ (gs ++ crowd (tokens_in text (pieces text)))) (tokens_in text (pieces text) ++ end_mark text ∷ [])) e
    ∙ ap (λ us. answer text (bad_bytes text ++ (fs ++ crowd us)) (tokens_in text (pieces text) ++ end_mark text ∷ [])) t
    ∙ ap (λ gs. answer text (gs ++ (fs ++ crowd ts)) (tokens_in text (pieces text) ++ end_mark text ∷ [])) (bad_some text h)
    ∙ answer_is text (utf8_valid_len text, 101) [] (fs ++ crowd ts) (tokens_in text (pieces text) ++ end_mark text ∷ []) tt (above_append (utf8_valid_len text) fs (crowd ts) a b)

pub bad_behind : (text : List ℕ) (tokens : List Token) (at : ℕ) (place : Place) (known : Bool) → Reading text tokens at place known → utf8_valid_len text ≤ at → utf8_valid_len text < length text
    → lexed text ≡ Err (fault_at text (utf8_valid_len text, 101))
bad_behind text tokens at place known r v h =
    let parts : List (ℕ × Piece) = cut_from at 0 (drop at text) in
    bad_is_first text (flaws_in parts) (tokens ++ tokens_in text parts) r.short h (sym r.sound) (sym r.told)
    (above_less at (utf8_valid_len text) (flaws_in parts) v (flaws_above (drop at text) 0 at))
    (crowd_above (utf8_valid_len text) 65536 tokens (tokens_in text parts) r.few (later_less at (utf8_valid_len text) (tokens_in text parts) v (tokens_later text (drop at text) 0 at)))

bad_inside : (text : List ℕ) (tokens : List Token) (at n : ℕ) (t : TokenForm) (place : Place) (known : Bool) → Reading text tokens at place known → IsLongest (drop at text) n (token t)
    → utf8_valid_len text < at + n → length tokens + 1 ≤ 65536 → lexed text ≡ Err (fault_at text (utf8_valid_len text, 101))
bad_inside text tokens at n t place known r l v few =
    let parts : List (ℕ × Piece) = cut_from (at + n) 0 (drop (at + n) text) in
    let step : cut_from at 0 (drop at text) ≡ (at, token t) ∷ parts = cut_more text at n (token t) l in
    let all : flaws_in (pieces text) ≡ flaws_in parts = sym r.sound ∙ ap flaws_in step in
    let this : Token = record { place = place_at text at; form = t } in
    let told : tokens_in text (pieces text) ≡ (tokens ++ this ∷ []) ++ tokens_in text parts =
    sym r.told ∙ ap (λ ps. tokens ++ tokens_in text ps) step ∙ sym (append_assoc tokens (this ∷ []) (tokens_in text parts)) in
    bad_is_first text (flaws_in parts) ((tokens ++ this ∷ []) ++ tokens_in text parts) r.short (omega (arith, l.within, length-drop at text, r.within)) all told
    (above_less (at + n) (utf8_valid_len text) (flaws_in parts) (omega arith) (flaws_above (drop (at + n) text) 0 (at + n)))
    (crowd_above (utf8_valid_len text) 65536 (tokens ++ this ∷ []) (tokens_in text parts) (omega (arith, length-append tokens (this ∷ [])))
    (later_less (at + n) (utf8_valid_len text) (tokens_in text parts) (omega arith) (tokens_later text (drop (at + n) text) 0 (at + n))))

is_equal : (n m : ℕ) → eqb n m ≡ true → n ≡ m
is_equal n m h = grind (arith, nat_tests)

less_of : (n m : ℕ) → ltb n m ≡ true → n < m
less_of n m h = grind (arith, nat_tests)

pub halted_first : (text : List ℕ) (tokens : List Token) (at n : ℕ) (place : Place) (known : Bool) (p : Piece) (f : ℕ × ℕ) → Reading text tokens at place known → IsLongest (drop at text) n p
    → at < utf8_valid_len text → halted (utf8_valid_len text) (length tokens) at n p ≡ Some f → lexed text ≡ Err (fault_at text f)
halted_first text tokens at n place known gap f r l v h = absurd cc
halted_first text tokens at n place known (flaw c) f r l v h =
    let same : (at, c) ≡ f = cc in
    flaw_first text tokens at n c place known r l v ∙ ap (λ g. Err (fault_at text g)) same
halted_first text tokens at n place known (token t) f r l v h =
    elim (cases_Bool (eqb (length tokens) 65536)) [
      | inl full ↦
          let h' : Some (at, 105) ≡ Some f = rw full at h in
          let same : (at, 105) ≡ f = cc in
          crowd_is_first text tokens at n t place known r l v (is_equal (length tokens) 65536 full) ∙ ap (λ g. Err (fault_at text g)) same
      | inr free ↦ elim (cases_Bool (ltb (utf8_valid_len text) (at + n))) [
        | inl cut ↦
            let h' : Some (utf8_valid_len text, 101) ≡ Some f = rw (free, cut) at h in
            let same : (utf8_valid_len text, 101) ≡ f = cc in
            bad_inside text tokens at n t place known r l (less_of _ _ cut) (differs (length tokens) 65536 free r.few) ∙ ap (λ g. Err (fault_at text g)) same
        | inr whole ↦ let h' : None ≡ Some f = rw (free, whole) at h in absurd cc
      ]
    ]

pub reading_end : (text : List ℕ) (tokens more : List Token) (at : ℕ) (place : Place) (known : Bool) → Reading text tokens at place known → length text ≤ at → length text ≤ utf8_valid_len text
    → more ≡ tokens ++ record { place = place; form = form.End } ∷ [] → lexed text ≡ Ok more
unfolding cut_from
reading_end text tokens more at place known r h v e =
    let none : drop at text ≡ [] = drop_all at text h in
    let last : at ≡ length text = omega (arith, r.within) in
    let sound : flaws_in (pieces text) ≡ [] = sym r.sound ∙ ap (λ xs. flaws_in (cut_from at 0 xs)) none in
    let told : tokens_in text (pieces text) ≡ tokens = sym r.told ∙ ap (λ xs. tokens ++ tokens_in text (cut_from at 0 xs)) none ∙ append-nil tokens in
    let free : crowd tokens ≡ [] = crowd_none 65536 tokens r.few in
    not_long text r.short
    ∙ ap (λ gs. answer text (gs ++ (flaws_in (pieces text) ++ crowd (tokens_in text (pieces text)))) (tokens_in text (pieces text) ++ end_mark text ∷ [])) (bad_none text v)
    ∙ ap (λ gs. answer text (gs ++ crowd (tokens_in text (pieces text))) (tokens_in text (pieces text) ++ end_mark text ∷ [])) sound
    ∙ ap (λ ts. answer text (crowd ts) (ts ++ end_mark text ∷ [])) told
    ∙ ap (λ gs. answer text gs (tokens ++ end_mark text ∷ [])) free
    ∙ ap Ok (ap (λ q. tokens ++ record { place = q; form = form.End } ∷ []) (ap (place_at text) (sym last) ∙ sym r.here) ∙ sym e)

-- how an error of the loop's turn tells the first fault
pub add_fault : (text : List ℕ) (tokens : List Token) (at n : ℕ) (place : Place) (known : Bool) (p : Piece) (e : LexFault) → Reading text tokens at place known → IsLongest (drop at text) n p
    → at < utf8_valid_len text → IsFaultAt text e (halted (utf8_valid_len text) (length tokens) at n p) → IsFirstFault e (lexed text)
add_fault text tokens at n place known p OutOfMemory r l v f = tt
add_fault text tokens at n place known p (Refused code where_) r l v f =
    go (halted (utf8_valid_len text) (length tokens) at n p) (λ g h. halted_first text tokens at n place known p g r l v h) f where
      go : (o : Option (ℕ × ℕ)) → ((g : ℕ × ℕ) → o ≡ Some g → lexed text ≡ Err (fault_at text g)) → option_map (fault_at text) o ≡ Some (record { code = code; place = where_ })
          → lexed text ≡ Err (record { code = code; place = where_ })
      go None k h = absurd cc
      go (Some g) k h = let same : fault_at text g ≡ record { code = code; place = where_ } = cc in k g refl ∙ ap Err same

pub bad_fault : (text : List ℕ) (tokens : List Token) (at valid : ℕ) (place : Place) (known : Bool) (e : LexFault) → Reading text tokens at place known → valid ≡ utf8_valid_len text → valid ≤ at
    → valid < length text → e ≡ Refused 101 (place_at text valid) → IsFirstFault e (lexed text)
bad_fault text tokens at valid place known e r v h l k =
    rw k (bad_behind text tokens at place known r (omega arith) (omega arith) ∙ ap (λ n. Err (fault_at text (n, 101))) (sym v))

-- shapes
pub halted_same : (valid count at n : ℕ) (s : Shape) (bytes : List ℕ) → Fits s bytes → halted_as valid count at n s ≡ halted valid count at n (piece_as s bytes)
halted_same valid count at n shape.Gap bytes f = refl
halted_same valid count at n (shape.Flaw c) bytes f = refl
halted_same valid count at n (shape.Plain t) bytes f = refl
halted_same valid count at n (shape.Word k) bytes f = refl
halted_same valid count at n shape.Quoted bytes f = go (unescaped false (between 0 bytes)) f.1 where
  go : (o : Option (List ℕ)) → is_some o ≡ true → token_halt valid count at n ≡ halted valid count at n (or_flaw 103 (option_map form.Text o))
  go None h = absurd cc
  go (Some t) h = refl
halted_same valid count at n shape.Verbatim bytes f = refl
halted_same valid count at n (shape.Typed k m) bytes f = refl

-- a piece within the valid front of a text
piece_utf8 : (text : List ℕ) (valid at n k : ℕ) → IsUtf8 (take valid text) → valid ≤ length text → at + n ≤ valid → n ≤ length (drop at text) → HasEnds k (take n (drop at text)) → IsUtf8 (take n (drop at text))
piece_utf8 text valid at n k u v h l e =
    let size : length (take n (drop at text)) ≡ n = length-take-le n (drop at text) l in
    let some : 1 < n = omega (arith, e.room) in
    let front : length (take valid text) ≡ valid = length-take-le valid text v in
    let first : get_or (take valid text) at 0 < 128 =
    rw (get_or-take valid text at 0 (omega arith)) (subst (λ b. b < 128) (get_or-take n (drop at text) 0 0 (omega arith) ∙ get_or-drop at text 0 0 ∙ ap (λ j. get_or text j 0) (omega arith)) e.first) in
    let last : get_or (take valid text) (at + n - 1) 0 < 128 =
    rw (get_or-take valid text (at + n - 1) 0 (omega arith))
    (subst (λ b. b < 128)
    (ap (λ j. get_or (take n (drop at text)) (j - 1) 0) size ∙ get_or-take n (drop at text) (n - 1) 0 (omega arith) ∙ get_or-drop at text (n - 1) 0 ∙ ap (λ j. get_or text j 0) (omega arith)) e.last) in
    let begins = IsCharBoundary-before_ascii (take valid text) at (omega arith) first in
    let ends = IsCharBoundary-after_ascii (take valid text) (at + n - 1) u (omega arith) last in
    let whole : IsUtf8 (take (at + n - 1 + 1 - at) (drop at (take valid text))) = IsUtf8-between (take valid text) at (at + n - 1 + 1) u (omega arith) begins ends in
    let parts : valid ≡ at + (valid - at) = omega arith in
    let same : take (at + n - 1 + 1 - at) (drop at (take valid text)) ≡ take n (drop at text) =
    ap (λ j. take j (drop at (take valid text))) (omega arith) ∙ ap (λ j. take n (drop at (take j text))) parts ∙ ap (take n) (drop-take at (valid - at) text)
    ∙ take-take n (valid - at) (drop at text) (omega arith) in
    subst IsUtf8 same whole

within_valid : (valid count at n : ℕ) → token_halt valid count at n ≡ None → at + n ≤ valid
within_valid valid count at n h = elim (cases_Bool (eqb count 65536)) [
  | inl full ↦ absurd (halts (at, 105) (rw full at h))
  | inr free ↦ elim (cases_Bool (ltb valid (at + n))) [
    | inl cut ↦ absurd (halts (valid, 101) (rw (free, cut) at h))
    | inr whole ↦ at_most valid (at + n) whole
  ]
] where
  at_most : (n m : ℕ) → ltb n m ≡ false → m ≤ n
  at_most n m h = grind (arith, nat_tests)

pub reads : (text : List ℕ) (valid count at n : ℕ) (s : Shape) → IsUtf8 (take valid text) → valid ≤ length text → n ≤ length (drop at text) → Fits s (take n (drop at text))
    → halted_as valid count at n s ≡ None → Reads s (take n (drop at text))
reads text valid count at n shape.Gap u v l f h = tt
reads text valid count at n (shape.Flaw c) u v l f h = tt
reads text valid count at n (shape.Plain t) u v l f h = tt
reads text valid count at n (shape.Word k) u v l f h = IsUtf8-from_ascii (take n (drop at text)) f
reads text valid count at n shape.Quoted u v l f h = piece_utf8 text valid at n 0 u v (within_valid valid count at n h) l f.0
reads text valid count at n shape.Verbatim u v l f h = piece_utf8 text valid at n 1 u v (within_valid valid count at n h) l f
reads text valid count at n (shape.Typed k m) u v l f h = piece_utf8 text valid at n m u v (within_valid valid count at n h) l f

pub ruleset reading_steps = (reading_start, long_refused)

-- any reading tells the answer
told_parts : (text : List ℕ) (parts : List (ℕ × Piece)) → IsReading 0 text parts → length text ≤ 262144 → lexed text ≡ told_by text parts
told_parts text parts r h = not_long text h ∙ ap (told_by text) (one_way (pieces text) parts 0 text (has_reading text) r)

pub told_tokens : (text : List ℕ) (r : Result (List Token) LexFault) → IfOk r (λ tokens. lexed text ≡ Ok tokens) → (parts : List (ℕ × Piece)) → IsReading 0 text parts → length text ≤ 262144
    → IfOk r (λ tokens. told_by text parts ≡ Ok tokens)
told_tokens text (Ok tokens) h parts r l = sym (told_parts text parts r l) ∙ h
told_tokens text (Err e) h parts r l = tt

first_along : (e : LexFault) (a b : Result (List Token) Fault) → a ≡ b → IsFirstFault e a → IsFirstFault e b
first_along OutOfMemory a b p h = tt
first_along (Refused code place) a b p h = sym p ∙ h

pub told_fault : (text : List ℕ) (r : Result (List Token) LexFault) → IfErr r (λ e. IsFirstFault e (lexed text)) → (parts : List (ℕ × Piece)) → IsReading 0 text parts → length text ≤ 262144
    → IfErr r (λ e. IsFirstFault e (told_by text parts))
told_fault text (Ok tokens) h parts r l = tt
told_fault text (Err e) h parts r l = first_along e (lexed text) (told_by text parts) (told_parts text parts r l) h
