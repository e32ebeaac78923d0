-- The texts of strings: what each byte adds, and that they are UTF-8.
use Rattle.std.proofs.Common.{◌≡◌, ◌≤◌, ◌<◌, ◌+◌, ◌-◌, ℕ, suc, zero, Bool, true, false, ◌&&◌, ◌||◌, List, [], ◌∷◌, ◌++◌, length, get_or, take, drop, cond, eqb, Option, Some, None, option_map, refl, sym, ap, ◌∙◌, subst, inl, inr, arith, append_assoc, append-nil}
use Rattle.std.specs.Prelude.{is_some, option_and_then}
use Rattle.std.specs.Str.{IsUtf8}
use Rattle.std.proofs.lemmas.List.{drop_more, drop_all}
use Rattle.std.proofs.lemmas.Str.{IsUtf8-nil, IsUtf8-append, IsUtf8-from_ascii, IsUtf8-between, IsCharBoundary-after_ascii, IsCharBoundary-before_ascii, encode_ascii, inside_one, length-encode, len_utf8_bounds}
use Rattle.std.proofs.lemmas.Bool.{cases_lt}
use Rattle.std.proofs.lemmas.Bool.Decides.{nat_tests}
use lib.Utf8.{scalar, scalars, encode, encodes}
use Rattle.kql_lexer.specs.Shapes.{AddsByte, AddsHalf, HasEnds, kept_after}
use Rattle.kql_lexer.specs.Strings.{between, escape, halved, unescaped}

-- one byte of a string, and its end
pub known_next : (kept next : Bool) (xs : List ℕ) (i d : ℕ) → i < length xs → kept_after kept (get_or xs i d) ≡ Some next
    → is_some (unescaped kept (drop i xs)) ≡ is_some (unescaped next (drop (i + 1) xs))
unfolding unescaped kept_after
known_next kept next xs i d h e = ap (λ ys. is_some (unescaped kept ys)) (drop_more xs i d h) ∙ go kept (get_or xs i d) (drop (i + 1) xs) e where
  mapped : (c : ℕ) (o : Option (List ℕ)) → is_some (option_map (λ t. c ∷ t) o) ≡ is_some o
  mapped c None = refl
  mapped c (Some t) = refl

  go : (kept : Bool) (b : ℕ) (bs : List ℕ) → kept_after kept b ≡ Some next → is_some (unescaped kept (b ∷ bs)) ≡ is_some (unescaped next bs)
  go true b bs e =
      elim (escape b) as (λ o. option_map (λ c. false) o ≡ Some next → is_some (option_and_then (λ c. option_map (λ t. c ∷ t) (unescaped false bs)) o) ≡ is_some (unescaped next bs)) [
        | None ↦ λ e'. absurd cc
        | Some c ↦ λ e'. let same : false ≡ next = cc in mapped c (unescaped false bs) ∙ ap (λ v. is_some (unescaped v bs)) same
      ] e
  go false b bs e =
      elim (eqb b 92) as (λ v. Some v ≡ Some next → is_some (cond v (unescaped true bs) (option_map (λ t. b ∷ t) (unescaped false bs))) ≡ is_some (unescaped next bs)) [
        | true ↦ λ e'. let same : true ≡ next = cc in ap (λ v. is_some (unescaped v bs)) same
        | false ↦ λ e'. let same : false ≡ next = cc in mapped b (unescaped false bs) ∙ ap (λ v. is_some (unescaped v bs)) same
      ] e

pub known_stop : (kept : Bool) (xs : List ℕ) (i d : ℕ) → i < length xs → kept_after kept (get_or xs i d) ≡ None → is_some (unescaped kept (drop i xs)) ≡ false
unfolding unescaped kept_after
known_stop kept xs i d h e = ap (λ ys. is_some (unescaped kept ys)) (drop_more xs i d h) ∙ go kept (get_or xs i d) (drop (i + 1) xs) e where
  go : (kept : Bool) (b : ℕ) (bs : List ℕ) → kept_after kept b ≡ None → is_some (unescaped kept (b ∷ bs)) ≡ false
  go true b bs e =
      elim (escape b) as (λ o. option_map (λ c. false) o ≡ None → is_some (option_and_then (λ c. option_map (λ t. c ∷ t) (unescaped false bs)) o) ≡ false) [
        | None ↦ λ e'. refl
        | Some c ↦ λ e'. absurd cc
      ] e
  go false b bs e = absurd cc

pub known_end : (kept : Bool) (xs : List ℕ) (i : ℕ) → length xs ≤ i → is_some (unescaped kept (drop i xs)) ≡ cond kept false true
unfolding unescaped
known_end kept xs i h = ap (λ ys. is_some (unescaped kept ys)) (drop_all i xs h) ∙ go kept where
  go : (kept : Bool) → is_some (unescaped kept []) ≡ cond kept false true
  go true = refl
  go false = refl

pub ruleset known_steps = (known_next, known_stop, known_end)

-- a character that is not ASCII has no byte that is
wide : (c k : ℕ) → 128 ≤ c → k < length (encode c) → 128 ≤ get_or (encode c) k 0
wide c k h l = elim (cases_lt (get_or (encode c) k 0) 128) [
  | inl less ↦
      let same : c ≡ get_or (encode c) k 0 = inside_one c [] (encode c) k (sym (append-nil (encode c))) l less in
      absurd (omega arith)
  | inr most ↦ most
]

one_char : (c : ℕ) → scalar c ≡ true → IsUtf8 (encode c)
one_char c h = (c ∷ [], (ap (λ v. v && true) h, append-nil (encode c)))

not_byte : (b n : ℕ) → 128 ≤ b → n < 128 → eqb b n ≡ false
not_byte b n h k = grind (arith, nat_tests)

no_escape : (b : ℕ) → 128 ≤ b → escape b ≡ None
unfolding escape
no_escape b h = rw (not_byte b 92 h (omega arith), not_byte b 34 h (omega arith), not_byte b 39 h (omega arith), not_byte b 110 h (omega arith), not_byte b 114 h (omega arith), not_byte b 116 h (omega arith)) refl

append_map : (b : ℕ) (bs : List ℕ) (o : Option (List ℕ)) → option_map (λ t. b ∷ t) (option_map (λ t. bs ++ t) o) ≡ option_map (λ t. (b ∷ bs) ++ t) o
append_map b bs None = refl
append_map b bs (Some t) = refl

nil_map : (o : Option (List ℕ)) → o ≡ option_map (λ t. [] ++ t) o
nil_map None = refl
nil_map (Some t) = refl

pass_open : (xs rest : List ℕ) → ((k : ℕ) → k < length xs → 128 ≤ get_or xs k 0) → unescaped false (xs ++ rest) ≡ option_map (λ t. xs ++ t) (unescaped false rest)
unfolding unescaped
pass_open [] rest w = nil_map (unescaped false rest)
pass_open (b ∷ bs) rest w =
    let high : 128 ≤ b = w 0 (omega arith) in
    rw (not_byte b 92 high (omega arith))
    (ap (option_map (λ t. b ∷ t)) (pass_open bs rest (λ k l. w (suc k) (omega arith))) ∙ append_map b bs (unescaped false rest))

pass_kept : (xs rest : List ℕ) → 0 < length xs → 128 ≤ get_or xs 0 0 → unescaped true (xs ++ rest) ≡ None
unfolding unescaped
pass_kept [] rest h w = absurd (omega arith)
pass_kept (b ∷ bs) rest h w = rw (no_escape b w) refl

some_bytes : (c : ℕ) → 0 < length (encode c)
some_bytes c = omega (arith, length-encode c, (len_utf8_bounds c).0)

ascii_one : (c : ℕ) → c < 128 → IsUtf8 (c ∷ [])
ascii_one c h = IsUtf8-from_ascii (c ∷ []) (all c h) where
  all : (c : ℕ) → c < 128 → (i : ℕ) → get_or (c ∷ []) i 0 < 128
  all c h zero = h
  all c h (suc i) = omega arith

low_escape : (b c : ℕ) → escape b ≡ Some c → c < 128
unfolding escape
low_escape b c h = go (eqb b 92) (eqb b 34) (eqb b 39) (eqb b 110) (eqb b 114) (eqb b 116) refl refl refl h where
  low : (n : ℕ) → eqb b n ≡ true → n < 128 → b < 128
  low n e l = grind (arith, nat_tests)

  go : (v1 v2 v3 v4 v5 v6 : Bool) → eqb b 92 ≡ v1 → eqb b 34 ≡ v2 → eqb b 39 ≡ v3
      → cond (v1 || v2 || v3) (Some b) (cond v4 (Some 10) (cond v5 (Some 13) (cond v6 (Some 9) None))) ≡ Some c → c < 128
  go true v2 v3 v4 v5 v6 e1 e2 e3 h = let same : b ≡ c = cc in let l = low 92 e1 (omega arith) in omega arith
  go false true v3 v4 v5 v6 e1 e2 e3 h = let same : b ≡ c = cc in let l = low 34 e2 (omega arith) in omega arith
  go false false true v4 v5 v6 e1 e2 e3 h = let same : b ≡ c = cc in let l = low 39 e3 (omega arith) in omega arith
  go false false false true v5 v6 e1 e2 e3 h = let same : 10 ≡ c = cc in omega arith
  go false false false false true v6 e1 e2 e3 h = let same : 13 ≡ c = cc in omega arith
  go false false false false false true e1 e2 e3 h = let same : 9 ≡ c = cc in omega arith
  go false false false false false false e1 e2 e3 h = absurd cc

-- a front before a text that is UTF-8
front_utf8 : (xs : List ℕ) (o : Option (List ℕ)) (t : List ℕ) → IsUtf8 xs → ((u : List ℕ) → o ≡ Some u → IsUtf8 u) → option_map (λ u. xs ++ u) o ≡ Some t → IsUtf8 t
front_utf8 xs None t h k e = absurd cc
front_utf8 xs (Some u) t h k e = let same : xs ++ u ≡ t = cc in subst IsUtf8 same (IsUtf8-append xs u h (k u refl))

and_both : (v w : Bool) → (v && w) ≡ true → (v ≡ true) × (w ≡ true)
and_both true w h = (refl, h)
and_both false w h = absurd cc

kept_utf8 : (o : Option ℕ) (r : Option (List ℕ)) (t : List ℕ) → ((d : ℕ) → o ≡ Some d → d < 128) → ((u : List ℕ) → r ≡ Some u → IsUtf8 u)
    → option_and_then (λ d. option_map (λ u. d ∷ u) r) o ≡ Some t → IsUtf8 t
kept_utf8 None r t l k h = absurd cc
kept_utf8 (Some d) r t l k h = front_utf8 (d ∷ []) r t (ascii_one d (l d refl)) k h

-- the text of a string whose bytes are UTF-8 is UTF-8
unescaped_low : (c : ℕ) (r t : List ℕ) (kept : Bool) → c < 128 → ((kept : Bool) (u : List ℕ) → unescaped kept r ≡ Some u → IsUtf8 u) → unescaped kept (c ∷ r) ≡ Some t → IsUtf8 t
unfolding unescaped
unescaped_low c r t true l rest e = kept_utf8 (escape c) (unescaped false r) t (low_escape c) (rest false) e
unescaped_low c r t false l rest e =
    elim (eqb c 92) as (λ v. cond v (unescaped true r) (option_map (λ u. c ∷ u) (unescaped false r)) ≡ Some t → IsUtf8 t) [
      | true ↦ λ e'. rest true t e'
      | false ↦ λ e'. front_utf8 (c ∷ []) (unescaped false r) t (ascii_one c l) (rest false) e'
    ] e

unescaped_high : (c : ℕ) (r t : List ℕ) (kept : Bool) → 128 ≤ c → scalar c ≡ true → ((kept : Bool) (u : List ℕ) → unescaped kept r ≡ Some u → IsUtf8 u)
    → unescaped kept (encode c ++ r) ≡ Some t → IsUtf8 t
unescaped_high c r t true l s rest e =
    let none : unescaped true (encode c ++ r) ≡ None = pass_kept (encode c) r (some_bytes c) (wide c 0 l (some_bytes c)) in
    absurd cc
unescaped_high c r t false l s rest e =
    front_utf8 (encode c) (unescaped false r) t (one_char c s) (rest false) (sym (pass_open (encode c) r (λ k. wide c k l)) ∙ e)

unescaped_char : (c : ℕ) (r t : List ℕ) (kept : Bool) → scalar c ≡ true → ((kept : Bool) (u : List ℕ) → unescaped kept r ≡ Some u → IsUtf8 u)
    → unescaped kept (encode c ++ r) ≡ Some t → IsUtf8 t
unescaped_char c r t kept s rest e = elim (cases_lt c 128) [
  | inl l ↦ unescaped_low c r t kept l rest (ap (λ xs. unescaped kept (xs ++ r)) (sym (encode_ascii c l)) ∙ e)
  | inr l ↦ unescaped_high c r t kept l s rest e
]

unescaped_chars : (cs : List ℕ) (kept : Bool) (t : List ℕ) → scalars cs ≡ true → unescaped kept (encodes cs) ≡ Some t → IsUtf8 t
unfolding unescaped
unescaped_chars [] true t s h = absurd cc
unescaped_chars [] false t s h = let same : [] ≡ t = cc in subst IsUtf8 same IsUtf8-nil
unescaped_chars (c ∷ cs) kept t s h =
    let both = and_both (scalar c) (scalars cs) s in
    unescaped_char c (encodes cs) t kept both.0 (λ k u e. unescaped_chars cs k u both.1 e) h

pub unescaped_utf8 : (bytes t : List ℕ) → IsUtf8 bytes → unescaped false bytes ≡ Some t → IsUtf8 t
unescaped_utf8 bytes t u h = unescaped_chars u.0 false t u.1.0 (ap (unescaped false) u.1.1 ∙ h)

-- the same of a verbatim string
pass_half : (sign : ℕ) (xs rest : List ℕ) → sign < 128 → ((k : ℕ) → k < length xs → 128 ≤ get_or xs k 0) → halved sign false (xs ++ rest) ≡ xs ++ halved sign false rest
unfolding halved
pass_half sign [] rest a w = refl
pass_half sign (b ∷ bs) rest a w =
    rw (not_byte b sign (w 0 (omega arith)) a) (ap (λ t. b ∷ t) (pass_half sign bs rest a (λ k l. w (suc k) (omega arith))))

pass_half_on : (sign : ℕ) (xs rest : List ℕ) → sign < 128 → 0 < length xs → ((k : ℕ) → k < length xs → 128 ≤ get_or xs k 0) → halved sign true (xs ++ rest) ≡ xs ++ halved sign false rest
unfolding halved
pass_half_on sign [] rest a h w = absurd (omega arith)
pass_half_on sign (b ∷ bs) rest a h w =
    rw (not_byte b sign (w 0 (omega arith)) a) (ap (λ t. b ∷ t) (pass_half sign bs rest a (λ k l. w (suc k) (omega arith))))

halved_low : (c sign : ℕ) (r : List ℕ) (half : Bool) → c < 128 → ((half : Bool) → IsUtf8 (halved sign half r)) → IsUtf8 (halved sign half (c ∷ r))
unfolding halved
halved_low c sign r true l rest =
    elim (eqb c sign) as (λ v. IsUtf8 (cond v (halved sign false r) (c ∷ halved sign false r))) [
      | true ↦ rest false
      | false ↦ IsUtf8-append (c ∷ []) (halved sign false r) (ascii_one c l) (rest false)
    ]
halved_low c sign r false l rest = IsUtf8-append (c ∷ []) (halved sign (eqb c sign) r) (ascii_one c l) (rest (eqb c sign))

halved_high : (c sign : ℕ) (r : List ℕ) (half : Bool) → sign < 128 → 128 ≤ c → scalar c ≡ true → ((half : Bool) → IsUtf8 (halved sign half r)) → IsUtf8 (halved sign half (encode c ++ r))
halved_high c sign r true a l s rest =
    subst IsUtf8 (sym (pass_half_on sign (encode c) r a (some_bytes c) (λ k. wide c k l))) (IsUtf8-append (encode c) (halved sign false r) (one_char c s) (rest false))
halved_high c sign r false a l s rest =
    subst IsUtf8 (sym (pass_half sign (encode c) r a (λ k. wide c k l))) (IsUtf8-append (encode c) (halved sign false r) (one_char c s) (rest false))

halved_char : (c sign : ℕ) (r : List ℕ) (half : Bool) → sign < 128 → scalar c ≡ true → ((half : Bool) → IsUtf8 (halved sign half r)) → IsUtf8 (halved sign half (encode c ++ r))
halved_char c sign r half a s rest = elim (cases_lt c 128) [
  | inl l ↦ subst (λ xs. IsUtf8 (halved sign half (xs ++ r))) (sym (encode_ascii c l)) (halved_low c sign r half l rest)
  | inr l ↦ halved_high c sign r half a l s rest
]

halved_chars : (cs : List ℕ) (sign : ℕ) (half : Bool) → sign < 128 → scalars cs ≡ true → IsUtf8 (halved sign half (encodes cs))
unfolding halved
halved_chars [] sign half a s = IsUtf8-nil
halved_chars (c ∷ cs) sign half a s =
    let both = and_both (scalar c) (scalars cs) s in
    halved_char c sign (encodes cs) half a both.0 (λ h. halved_chars cs sign h a both.1)

pub halved_utf8 : (sign : ℕ) (bytes : List ℕ) → sign < 128 → IsUtf8 bytes → IsUtf8 (halved sign false bytes)
halved_utf8 sign bytes a u = subst (λ xs. IsUtf8 (halved sign false xs)) u.1.1 (halved_chars u.0 sign false a u.1.0)

-- what is between two ASCII bytes is UTF-8
pub between_utf8 : (k : ℕ) (bytes : List ℕ) → IsUtf8 bytes → HasEnds k bytes → IsUtf8 (between k bytes)
between_utf8 k bytes u e =
    let first = IsCharBoundary-after_ascii bytes k u (omega (arith, e.room)) e.before in
    let last = IsCharBoundary-before_ascii bytes (length bytes - 1) (omega (arith, e.room)) e.last in
    let whole : IsUtf8 (take (length bytes - 1 - (k + 1)) (drop (k + 1) bytes)) = IsUtf8-between bytes (k + 1) (length bytes - 1) u (omega (arith, e.room)) first last in
    let size : length bytes - 1 - (k + 1) ≡ length bytes - (k + 2) = omega arith in
    subst (λ j. IsUtf8 (take j (drop (k + 1) bytes))) size whole

-- what each byte adds to a text
mapped_twice : (before : List ℕ) (c : ℕ) (o : Option (List ℕ)) → option_map (λ t. (before ++ c ∷ []) ++ t) o ≡ option_map (λ t. before ++ t) (option_map (λ t. c ∷ t) o)
mapped_twice before c None = refl
mapped_twice before c (Some t) = ap Some (append_assoc before (c ∷ []) t)

pub adds_kept : (before after : List ℕ) (b c : ℕ) → escape b ≡ Some c → after ≡ before ++ c ∷ [] → AddsByte before after true b false
unfolding unescaped
adds_kept before after b c e a rest s =
    ap (λ xs. option_map (λ t. xs ++ t) (unescaped false rest)) a ∙ mapped_twice before c (unescaped false rest)
    ∙ sym (ap (λ o. option_map (λ t. before ++ t) (option_and_then (λ d. option_map (λ t. d ∷ t) (unescaped false rest)) o)) e)

pub adds_unknown : (before : List ℕ) (b : ℕ) → escape b ≡ None → AddsByte before before true b false
unfolding unescaped
adds_unknown before b e rest s =
    let none : is_some (option_and_then (λ d. option_map (λ t. d ∷ t) (unescaped false rest)) (escape b)) ≡ false = ap (λ o. is_some (option_and_then (λ d. option_map (λ t. d ∷ t) (unescaped false rest)) o)) e in
    absurd cc

pub adds_slash : (before : List ℕ) (b : ℕ) → b ≡ 92 → AddsByte before before false b true
unfolding unescaped
adds_slash before b e rest s = sym (ap (λ c. option_map (λ t. before ++ t) (cond (eqb c 92) (unescaped true rest) (option_map (λ t. c ∷ t) (unescaped false rest)))) e)

unlike : (b n : ℕ) → (b ≡ n → ⊥) → eqb b n ≡ false
unlike b n h = grind (arith, nat_tests)

like : (b n : ℕ) → b ≡ n → eqb b n ≡ true
like b n h = grind (arith, nat_tests)

pub adds_plain : (before after : List ℕ) (b : ℕ) → (b ≡ 92 → ⊥) → after ≡ before ++ b ∷ [] → AddsByte before after false b false
unfolding unescaped
adds_plain before after b n a rest s =
    ap (λ xs. option_map (λ t. xs ++ t) (unescaped false rest)) a ∙ mapped_twice before b (unescaped false rest)
    ∙ sym (ap (λ v. option_map (λ t. before ++ t) (cond v (unescaped true rest) (option_map (λ t. b ∷ t) (unescaped false rest)))) (unlike b 92 n))

pub ruleset adds_byte = (adds_kept, adds_unknown, adds_slash, adds_plain)

pub half_second : (before : List ℕ) (sign b : ℕ) → b ≡ sign → AddsHalf before before sign true b false
unfolding halved
half_second before sign b e rest = ap (λ v. before ++ cond v (halved sign false rest) (b ∷ halved sign false rest)) (sym (like b sign e))

pub half_other : (before after : List ℕ) (sign b : ℕ) → (b ≡ sign → ⊥) → after ≡ before ++ b ∷ [] → AddsHalf before after sign true b false
unfolding halved
half_other before after sign b n a rest =
    ap (λ xs. xs ++ halved sign false rest) a ∙ append_assoc before (b ∷ []) (halved sign false rest)
    ∙ sym (ap (λ v. before ++ cond v (halved sign false rest) (b ∷ halved sign false rest)) (unlike b sign n))

pub half_first : (before after : List ℕ) (sign b : ℕ) (next : Bool) → next ≡ eqb b sign → after ≡ before ++ b ∷ [] → AddsHalf before after sign false b next
unfolding halved
half_first before after sign b next e a rest =
    ap (λ xs. xs ++ halved sign next rest) a ∙ append_assoc before (b ∷ []) (halved sign next rest) ∙ ap (λ v. before ++ (b ∷ halved sign v rest)) e

pub ruleset adds_half = (half_second, half_other, half_first)

-- the loops
some_mapped : (before : List ℕ) (o : Option (List ℕ)) → is_some (option_map (λ t. before ++ t) o) ≡ is_some o
some_mapped before None = refl
some_mapped before (Some t) = refl

pub unescape_next : (xs before after : List ℕ) (i d : ℕ) (kept next : Bool) → i < length xs → option_map (λ t. before ++ t) (unescaped kept (drop i xs)) ≡ unescaped false xs
    → is_some (unescaped false xs) ≡ true → AddsByte before after kept (get_or xs i d) next
    → option_map (λ t. after ++ t) (unescaped next (drop (i + 1) xs)) ≡ unescaped false xs
unescape_next xs before after i d kept next h inv known adds =
    let front : drop i xs ≡ get_or xs i d ∷ drop (i + 1) xs = drop_more xs i d h in
    let some : is_some (unescaped kept (get_or xs i d ∷ drop (i + 1) xs)) ≡ true =
    ap (λ ys. is_some (unescaped kept ys)) (sym front) ∙ sym (some_mapped before (unescaped kept (drop i xs))) ∙ ap is_some inv ∙ known in
    adds (drop (i + 1) xs) some ∙ ap (λ ys. option_map (λ t. before ++ t) (unescaped kept ys)) (sym front) ∙ inv

pub unescape_end : (xs text : List ℕ) (i : ℕ) (kept : Bool) → length xs ≤ i → option_map (λ t. text ++ t) (unescaped kept (drop i xs)) ≡ unescaped false xs
    → is_some (unescaped false xs) ≡ true → unescaped false xs ≡ Some text
unfolding unescaped
unescape_end xs text i kept h inv known = go kept (ap (λ ys. option_map (λ t. text ++ t) (unescaped kept ys)) (sym (drop_all i xs h)) ∙ inv) where
  go : (kept : Bool) → option_map (λ t. text ++ t) (unescaped kept []) ≡ unescaped false xs → unescaped false xs ≡ Some text
  go true e = let none : is_some (unescaped false xs) ≡ false = ap is_some (sym e) in absurd cc
  go false e = sym e ∙ ap Some (append-nil text)

pub halve_next : (xs before after : List ℕ) (sign i d : ℕ) (half next : Bool) → i < length xs → before ++ halved sign half (drop i xs) ≡ halved sign false xs
    → AddsHalf before after sign half (get_or xs i d) next → after ++ halved sign next (drop (i + 1) xs) ≡ halved sign false xs
halve_next xs before after sign i d half next h inv adds =
    adds (drop (i + 1) xs) ∙ ap (λ ys. before ++ halved sign half ys) (sym (drop_more xs i d h)) ∙ inv

pub halve_end : (xs text : List ℕ) (sign i : ℕ) (half : Bool) → length xs ≤ i → text ++ halved sign half (drop i xs) ≡ halved sign false xs → text ≡ halved sign false xs
unfolding halved
halve_end xs text sign i half h inv = sym (append-nil text) ∙ ap (λ ys. text ++ halved sign half ys) (sym (drop_all i xs h)) ∙ inv
