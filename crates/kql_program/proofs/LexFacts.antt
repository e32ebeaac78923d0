-- The code of a fault of tokens, which is never that of a pattern.
use Rattle.std.proofs.Common.{◌≡◌, ◌⊎◌, ◌+◌, ◌-◌, ◌==◌, ℕ, suc, zero, Bool, true, false, List, [], ◌∷◌, ◌++◌, arith, length, take, drop, map, inl, inr, refl, subst, sym}
use Rattle.std.specs.Prelude.{◌||◌, ◌&&◌, IfSome, Option, Some, None, Result, Err, nat_lt, option_map, if◌then◌else◌}
use Rattle.std.specs.List.{cons_option, list_all}
use Rattle.std.specs.Option.{option_and_then, option_map_or, option_or}
use Rattle.std.specs.Str.Lossy.{utf8_valid_len}
use Rattle.kql_lexer.specs.Bytes.{class_of, is_blank, is_digit, is_inline, is_quote, is_word_char, is_word_start}
use Rattle.kql_lexer.specs.Lexing.{Cut, Fault, answer, bad_bytes, crowd, cut_from, fault_at, flaw_as, flaws_in, leftmost, lexed, longest_within, pieces, tokens_in}
use Rattle.kql_lexer.specs.Literals.{literal_keyword, literal_open, opens_literal, raw_len}
use Rattle.kql_lexer.specs.Numbers.{is_fraction, number_form}
use Rattle.kql_lexer.specs.Pieces.{Piece, at_piece, bang_piece, bang_sign, blank_piece, dollar_piece, double_sign, flaw, gap, literal_piece, number_piece, or_flaw, piece_in, piece_of, raw_piece, sign, sign_piece, slash_piece, string_as, string_piece, token, verbatim_as, word_piece}
use Rattle.kql_lexer.specs.Strings.{between, in_string, in_verbatim, leaves, unescaped}
use Rattle.kql_lexer.specs.Words.{is_word, joined_words, keyword_of, negated_words, side_words, word_in}
use Rattle.kql_lexer.specs.declared.keyword.Keyword.{Keyword}
use Rattle.kql_lexer.specs.declared.token.Token.{Token}
use Rattle.kql_lexer.specs.declared.token.TokenForm.{TokenForm}
use Rattle.kql_lexer.specs.declared.token.TokenForm.TheVariants as form
use Rattle.kql_program.specs.Files.{lexed_as, query_tokens}
use Rattle.kql_program.specs.Refusals.{bad_pattern_code}
use Rattle.kql_program.proofs.PatternFacts.{NoPattern, by-code, value-pattern}

-- Pieces.

abbrev IsOther : ℕ → Type 0
IsOther code = code ≡ bad_pattern_code → ⊥

abbrev Tame : Piece → Type 0
Tame gap = Unit {0}
Tame (token t) = Unit {0}
Tame (flaw code) = IsOther code

abbrev TameIf : Option Piece → Type 0
TameIf None = Unit {0}
TameIf (Some piece) = Tame piece

flaw-101 : IsOther 101
flaw-101 e = absurd (omega (arith, e))

flaw-102 : IsOther 102
flaw-102 e = absurd (omega (arith, e))

flaw-103 : IsOther 103
flaw-103 e = absurd (omega (arith, e))

flaw-104 : IsOther 104
flaw-104 e = absurd (omega (arith, e))

flaw-105 : IsOther 105
flaw-105 e = absurd (omega (arith, e))

if-tame : (t : Bool) (a b : Option Piece) → TameIf a → TameIf b → TameIf (if t then a else b)
if-tame true a b h k = h
if-tame false a b h k = k

or-tame : (code : ℕ) (o : Option TokenForm) → IsOther code → Tame (or_flaw code o)
or-tame code None h = h
or-tame code (Some t) h = tt

map-tame : {X : Type 0} (f : X → TokenForm) (o : Option X) → TameIf (option_map (λ x. token (f x)) o)
map-tame f None = tt
map-tame f (Some x) = tt

token-tame : (o : Option TokenForm) → TameIf (option_map token o)
token-tame None = tt
token-tame (Some t) = tt

either-tame : (a b : Option Piece) → TameIf a → TameIf b → TameIf (option_or a b)
either-tame None b h k = k
either-tame (Some p) b h k = h

blank-tame : (bytes : List ℕ) → TameIf (blank_piece bytes)
unfolding blank_piece
blank-tame bytes = if-tame (list_all is_blank bytes) (Some gap) None tt tt

raw-tame : (k : Keyword) (raw : List ℕ) → TameIf (raw_piece k raw)
unfolding raw_piece
raw-tame k raw = if-tame (raw_len 0 raw == length raw) (Some (flaw 102)) _ flaw-102 (if-tame (raw_len 0 raw + 1 == length raw) (Some (token (form.Typed k (take (raw_len 0 raw) raw)))) None tt tt)

literal-tame : (bytes : List ℕ) → TameIf (literal_piece bytes)
unfolding literal_piece
literal-tame bytes = if-tame (opens_literal bytes) (raw_piece (literal_keyword bytes) (drop (literal_open bytes + 1) bytes)) None (raw-tame (literal_keyword bytes) (drop (literal_open bytes + 1) bytes)) tt

word-tame : (bytes : List ℕ) → TameIf (word_piece bytes)
unfolding word_piece
word-tame bytes =
    if-tame (is_word bytes) (Some (token (form.Word (keyword_of bytes) bytes))) _ tt (either-tame (option_map (λ k. token (form.Word k bytes)) (word_in joined_words bytes)) (literal_piece bytes) (map-tame (λ k. form.Word k bytes) (word_in joined_words bytes)) (literal-tame bytes))

number-tame : (bytes : List ℕ) → TameIf (number_piece bytes)
unfolding number_piece
number-tame bytes = if-tame (list_all is_word_char bytes || is_fraction bytes) (Some (or_flaw 103 (number_form bytes))) None (or-tame 103 (number_form bytes) flaw-103) tt

-- What bytes leave of a string is one of three, and of a verbatim string one of two.

abbrev domain_of : {X Y : Type 0} → (X → Y) → Type 0
domain_of {X} f = X

abbrev In : Type 0
In = domain_of (in_string 0)

abbrev OneOf : In → In → In → In → Type 0
OneOf o k c s = (s ≡ o) ⊎ ((s ≡ k) ⊎ (s ≡ c))

then-some : (P : In → Type 0) (f : In → Option In) (o : Option In) → IfSome o P → ((n : In) → P n → IfSome (f n) P) → IfSome (option_and_then f o) P
then-some P f None h g = tt
then-some P f (Some n) h g = g n h

leaves-all : (step : In → ℕ → Option In) (P : In → Type 0) → ((s : In) → P s → (b : ℕ) → IfSome (step s b) P) → (s : In) → P s → (bs : List ℕ) → IfSome (leaves step s bs) P
unfolding leaves
leaves-all step P next s p [] = p
leaves-all step P next s p (b ∷ bs) = then-some P (λ n. leaves step n bs) (step s b) (next s p b) (λ n q. leaves-all step P next n q bs)

some-if : (P : In → Type 0) (t : Bool) (a b : Option In) → IfSome a P → IfSome b P → IfSome (if t then a else b) P
some-if P true a b h k = h
some-if P false a b h k = k

abbrev OpenStep : ℕ → In → In → In → ℕ → Type 0
OpenStep sign o k c b = in_string sign o b ≡ (if b == 10 then None else (if b == 92 then Some k else (if b == sign then Some c else Some o)))

abbrev KeptStep : ℕ → In → In → ℕ → Type 0
KeptStep sign o k b = in_string sign k b ≡ (if b == 10 then None else Some o)

string-next : (sign : ℕ) (o k c : In) → ((b : ℕ) → OpenStep sign o k c b) → ((b : ℕ) → KeptStep sign o k b) → ((b : ℕ) → in_string sign c b ≡ None) → (s : In) → OneOf o k c s → (b : ℕ) → IfSome (in_string sign s b) (OneOf o k c)
string-next sign o k c f g h s (inl e) b =
    subst (λ (x : In). IfSome (in_string sign x b) (OneOf o k c)) (sym e)
    (subst (λ (x : Option In). IfSome x (OneOf o k c)) (sym (f b))
    (some-if (OneOf o k c) (b == 10) None _ tt (some-if (OneOf o k c) (b == 92) (Some k) _ (inr (inl refl)) (some-if (OneOf o k c) (b == sign) (Some c) (Some o) (inr (inr refl)) (inl refl)))))
string-next sign o k c f g h s (inr (inl e)) b =
    subst (λ (x : In). IfSome (in_string sign x b) (OneOf o k c)) (sym e)
    (subst (λ (x : Option In). IfSome x (OneOf o k c)) (sym (g b)) (some-if (OneOf o k c) (b == 10) None (Some o) tt (inl refl)))
string-next sign o k c f g h s (inr (inr e)) b = subst (λ (x : In). IfSome (in_string sign x b) (OneOf o k c)) (sym e) (subst (λ (x : Option In). IfSome x (OneOf o k c)) (sym (h b)) tt)

string-is : (bytes : List ℕ) (sign : ℕ) (o k c : In) (bs : List ℕ) → ((b : ℕ) → OpenStep sign o k c b) → ((b : ℕ) → KeptStep sign o k b) → ((b : ℕ) → in_string sign c b ≡ None)
    → TameIf (string_as bytes (Some o)) → TameIf (string_as bytes (Some k)) → TameIf (string_as bytes (Some c)) → TameIf (string_as bytes None) → TameIf (string_as bytes (leaves (in_string sign) o bs))
string-is bytes sign o k c bs f g h p q r n = among (leaves (in_string sign) o bs) (leaves-all (in_string sign) (OneOf o k c) (string-next sign o k c f g h) o (inl refl) bs)
  where
    among : (x : Option In) → IfSome x (OneOf o k c) → TameIf (string_as bytes x)
    among None i = n
    among (Some s) (inl e) = subst (λ (y : In). TameIf (string_as bytes (Some y))) (sym e) p
    among (Some s) (inr (inl e)) = subst (λ (y : In). TameIf (string_as bytes (Some y))) (sym e) q
    among (Some s) (inr (inr e)) = subst (λ (y : In). TameIf (string_as bytes (Some y))) (sym e) r

string-tame : (bytes : List ℕ) → TameIf (string_piece bytes)
unfolding string_piece in_string
string-tame [] = tt
string-tame (b ∷ bs) = string-is (b ∷ bs) b _ _ _ bs (λ x. refl) (λ x. refl) (λ x. refl) flaw-102 flaw-102 (or-tame 103 (option_map form.Text (unescaped false (between 0 (b ∷ bs)))) flaw-103) tt

verbatim-next : (sign : ℕ) (o c : In) → ((b : ℕ) → in_verbatim sign o b ≡ (if b == 10 then None else (if b == sign then Some c else Some o))) → ((b : ℕ) → in_verbatim sign c b ≡ (if b == sign then Some o else None))
    → (s : In) → OneOf o c c s → (b : ℕ) → IfSome (in_verbatim sign s b) (OneOf o c c)
verbatim-next sign o c f g s (inl e) b =
    subst (λ (x : In). IfSome (in_verbatim sign x b) (OneOf o c c)) (sym e)
    (subst (λ (x : Option In). IfSome x (OneOf o c c)) (sym (f b)) (some-if (OneOf o c c) (b == 10) None _ tt (some-if (OneOf o c c) (b == sign) (Some c) (Some o) (inr (inl refl)) (inl refl))))
verbatim-next sign o c f g s (inr e) b =
    subst (λ (x : In). IfSome (in_verbatim sign x b) (OneOf o c c)) (sym (either e)) (subst (λ (x : Option In). IfSome x (OneOf o c c)) (sym (g b)) (some-if (OneOf o c c) (b == sign) (Some o) None (inl refl) tt))
  where
    either : ((s ≡ c) ⊎ (s ≡ c)) → s ≡ c
    either (inl x) = x
    either (inr x) = x

verbatim-is : (bytes : List ℕ) (sign : ℕ) (o c : In) (bs : List ℕ) → ((b : ℕ) → in_verbatim sign o b ≡ (if b == 10 then None else (if b == sign then Some c else Some o))) → ((b : ℕ) → in_verbatim sign c b ≡ (if b == sign then Some o else None))
    → TameIf (verbatim_as bytes (Some o)) → TameIf (verbatim_as bytes (Some c)) → TameIf (verbatim_as bytes None) → TameIf (verbatim_as bytes (leaves (in_verbatim sign) o bs))
verbatim-is bytes sign o c bs f g p q n = among (leaves (in_verbatim sign) o bs) (leaves-all (in_verbatim sign) (OneOf o c c) (verbatim-next sign o c f g) o (inl refl) bs)
  where
    among : (x : Option In) → IfSome x (OneOf o c c) → TameIf (verbatim_as bytes x)
    among None i = n
    among (Some s) (inl e) = subst (λ (y : In). TameIf (verbatim_as bytes (Some y))) (sym e) p
    among (Some s) (inr (inl e)) = subst (λ (y : In). TameIf (verbatim_as bytes (Some y))) (sym e) q
    among (Some s) (inr (inr e)) = subst (λ (y : In). TameIf (verbatim_as bytes (Some y))) (sym e) q

at-tame : (bytes : List ℕ) → TameIf (at_piece bytes)
unfolding at_piece in_verbatim
at-tame [] = tt
at-tame (a ∷ []) = flaw-101
at-tame (a ∷ b ∷ bs) = if-tame (is_quote b) _ None (verbatim-is (a ∷ b ∷ bs) b _ _ bs (λ x. refl) (λ x. refl) flaw-102 tt tt) tt

dollar-tame : (bytes : List ℕ) → TameIf (dollar_piece bytes)
unfolding dollar_piece
dollar-tame [] = tt
dollar-tame (a ∷ []) = flaw-101
dollar-tame (a ∷ b ∷ bs) = map-tame (λ k. form.Word k (a ∷ b ∷ bs)) (word_in side_words (a ∷ b ∷ bs))

bang-tame : (bytes : List ℕ) → TameIf (bang_piece bytes)
unfolding bang_piece
bang-tame [] = tt
bang-tame (a ∷ []) = flaw-101
bang-tame (a ∷ b ∷ []) = token-tame (bang_sign b)
bang-tame (a ∷ b ∷ c ∷ cs) = map-tame (λ k. form.Negated k) (word_in negated_words (b ∷ c ∷ cs))

slash-tame : (bytes : List ℕ) → TameIf (slash_piece bytes)
unfolding slash_piece
slash-tame [] = tt
slash-tame (a ∷ []) = tt
slash-tame (a ∷ b ∷ bs) = if-tame (b == 47 && list_all is_inline bs) (Some gap) None tt tt

sign-tame : (bytes : List ℕ) → TameIf (sign_piece bytes)
unfolding sign_piece
sign-tame [] = tt
sign-tame (b ∷ []) = or-tame 101 (sign b) flaw-101
sign-tame (b ∷ c ∷ []) = token-tame (double_sign b c)
sign-tame (b ∷ c ∷ d ∷ ds) = tt

abbrev type_of : {X : Type 0} → X → Type 0
type_of {X} x = X

abbrev Cl : Type 0
Cl = type_of (class_of 0)

class-tame : (t : Bool) (x y : Cl) (bytes : List ℕ) → TameIf (piece_in x bytes) → TameIf (piece_in y bytes) → TameIf (piece_in (if t then x else y) bytes)
class-tame true x y bytes h k = h
class-tame false x y bytes h k = k

piece-tame : (bytes : List ℕ) → TameIf (piece_of bytes)
unfolding piece_of class_of
piece-tame [] = tt
piece-tame (b ∷ bs) =
    class-tame (is_blank b) _ _ (b ∷ bs) (blank-tame (b ∷ bs)) (class-tame (is_word_start b) _ _ (b ∷ bs) (word-tame (b ∷ bs)) (class-tame (is_digit b) _ _ (b ∷ bs) (number-tame (b ∷ bs)) (class-tame (is_quote b) _ _ (b ∷ bs) (string-tame (b ∷ bs))
    (class-tame (b == 64) _ _ (b ∷ bs) (at-tame (b ∷ bs)) (class-tame (b == 36) _ _ (b ∷ bs) (dollar-tame (b ∷ bs)) (class-tame (b == 33) _ _ (b ∷ bs) (bang-tame (b ∷ bs)) (class-tame (b == 47) _ _ (b ∷ bs) (slash-tame (b ∷ bs)) (sign-tame (b ∷ bs)))))))))

-- Texts.

cut-tame : (n : ℕ) (o : Option Piece) (before : Cut) → TameIf o → Tame before.piece → Tame (option_map_or (λ (piece : Piece). record { size = n; piece = piece }) o before).piece
cut-tame n None before h k = k
cut-tame n (Some piece) before h k = h

longest-tame : (rest : List ℕ) (n : ℕ) → Tame (longest_within rest n).piece
unfolding longest_within
longest-tame rest zero = flaw-101
longest-tame rest (suc n) = cut-tame (suc n) (piece_of (take (suc n) rest)) (longest_within rest n) (piece-tame (take (suc n) rest)) (longest-tame rest n)

-- faults by their byte and code
abbrev AreOthers : List (ℕ × ℕ) → Type 0
AreOthers [] = Unit {0}
AreOthers (f ∷ fs) = IsOther f.1 × AreOthers fs

others-both : (xs ys : List (ℕ × ℕ)) → AreOthers xs → AreOthers ys → AreOthers (xs ++ ys)
others-both [] ys h k = k
others-both (x ∷ xs) ys h k = (h.0, others-both xs ys h.1 k)

flaw-others : (at : ℕ) (p : Piece) (fs : List (ℕ × ℕ)) → Tame p → AreOthers fs → AreOthers (cons_option (flaw_as at p) fs)
flaw-others at gap fs t h = h
flaw-others at (token form) fs t h = h
flaw-others at (flaw code) fs t h = (t, h)

cut-others : (bytes : List ℕ) (k at : ℕ) → AreOthers (flaws_in (cut_from at k bytes))
unfolding cut_from
cut-others [] k at = tt
cut-others (b ∷ bs) zero at =
    let front = longest_within (b ∷ bs) (length (b ∷ bs)) in
    flaw-others at front.piece (flaws_in (cut_from (suc at) (front.size - 1) bs)) (longest-tame (b ∷ bs) (length (b ∷ bs))) (cut-others bs (front.size - 1) (suc at))
cut-others (b ∷ bs) (suc k) at = cut-others bs k (suc at)

crowd-others : (tokens : List Token) → AreOthers (map (λ (t : Token). (t.place.byte, 105)) tokens)
crowd-others [] = tt
crowd-others (t ∷ ts) = (flaw-105, crowd-others ts)

bytes-others : (t : Bool) (at : ℕ) → AreOthers (if t then [] else (at, 101) ∷ [])
bytes-others true at = tt
bytes-others false at = (flaw-101, tt)

first-other : (t : Bool) (f g : ℕ × ℕ) → IsOther f.1 → IsOther g.1 → IsOther (if t then g else f).1
first-other true f g h k = k
first-other false f g h k = h

leftmost-other : (f : ℕ × ℕ) (fs : List (ℕ × ℕ)) → IsOther f.1 → AreOthers fs → IsOther (leftmost f fs).1
unfolding leftmost
leftmost-other f [] h k = h
leftmost-other f (g ∷ gs) h k = leftmost-other (if nat_lt g.0 f.0 then g else f) gs (first-other (nat_lt g.0 f.0) f g h k.0) k.1

fault-pattern : (f : Fault) → IsOther f.code → NoPattern (lexed_as (Err f))
fault-pattern f h b = h (by-code f.code f.place b)

answer-pattern : (text : List ℕ) (fs : List (ℕ × ℕ)) (tokens : List Token) → AreOthers fs → NoPattern (lexed_as (answer text fs tokens))
answer-pattern text [] tokens h = value-pattern tokens
answer-pattern text (f ∷ fs) tokens h = fault-pattern (fault_at text (leftmost f fs)) (leftmost-other f fs h.0 h.1)

either-pattern : (t : Bool) (a b : Result (List Token) Fault) → NoPattern (lexed_as a) → NoPattern (lexed_as b) → NoPattern (lexed_as (if t then a else b))
either-pattern true a b n m = n
either-pattern false a b n m = m

lexed-pattern : (text : List ℕ) → NoPattern (lexed_as (lexed text))
unfolding lexed pieces
lexed-pattern text =
    let parts = cut_from 0 0 text in
    let others = others-both (bad_bytes text) _ (bytes-others (utf8_valid_len text == length text) (utf8_valid_len text))
    (others-both (flaws_in parts) (crowd (tokens_in text parts)) (cut-others text 0 0) (crowd-others (take 1 (drop 65536 (tokens_in text parts))))) in
    either-pattern (nat_lt 262144 (length text)) (Err (fault_at text (0, 104))) _ (fault-pattern (fault_at text (0, 104)) flaw-104) (answer-pattern text _ _ others)

-- No token is refused as a pattern.
pub tokens-no_pattern : (bytes : List ℕ) → NoPattern (query_tokens bytes)
unfolding query_tokens
tokens-no_pattern bytes = lexed-pattern bytes
