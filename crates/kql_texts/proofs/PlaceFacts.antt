-- Places of characters, from places of bytes.
use Rattle.std.proofs.Common.{◌≡◌, ◌≤◌, ◌<◌, ℕ, ℤ, pos, List, ◌++◌, length, take, drop, refl, sym, ap, subst, ◌∙◌, arith, IsUtf8, length-append, take-append-drop, true, ⊎_elim}
use Rattle.std.proofs.lemmas.Bool.{cases_lt}
use Rattle.std.specs.Str.{IsCharBoundary, chars, encode_utf8_all, all_scalars}
use Rattle.std.specs.Str.Pattern.{LacksTextAt}
use Rattle.std.proofs.lemmas.List.{drop_at, take-append-le}
use Rattle.std.proofs.lemmas.Str.{IsCharBoundary-from_take, IsUtf8-drop, IsUtf8-take, chars-append, chars-encodes, encodes-append, encodes-chars, scalars-chars}
use Rattle.kql_texts.specs.Places.{IsFirstPlace, IsIndexOf}
use Rattle.kql_texts.specs.Stands.{Holds}
use Rattle.kql_texts.proofs.CharFacts.{scalars-front}

-- where a text lacks another at each byte, it does not hold it
pub lacks-Holds : (s p : List ℕ) → ((i : ℕ) → i ≤ length s → LacksTextAt p s i) → ¬ (Holds s p)
lacks-Holds s p lacks held =
    let before = held.0 in
    let after = held.1 in
    let place : length before ≤ length s = omega (arith, ap length held.2, length-append before (p ++ after)) in
    lacks (length before) place after (ap (drop (length before)) held.2 ∙ drop_at before (p ++ after) (length before) refl)

-- the bytes of a text that is cut at characters
module _ (s p before after : List ℕ) (s_utf8 : IsUtf8 s) (p_utf8 : IsUtf8 p) (cut : chars s ≡ before ++ (chars p ++ after)) where
  pub bytes_of_cut : s ≡ encode_utf8_all before ++ (p ++ encode_utf8_all after)
  bytes_of_cut =
      sym (encodes-chars s s_utf8) ∙ ap encode_utf8_all cut ∙ encodes-append before (chars p ++ after)
      ∙ ap (λ l. encode_utf8_all before ++ l) (encodes-append (chars p) after ∙ ap (λ l. l ++ encode_utf8_all after) (encodes-chars p p_utf8))

  -- a text that stands here as well, at an earlier byte, does not come after more characters
  pub fewer_before : (at : ℕ) → IsUtf8 (take at s) → at ≤ length (encode_utf8_all before) → length (chars (take at s)) ≤ length before
  fewer_before at front_utf8 below =
      let front = encode_utf8_all before in
      let scalars : all_scalars before ≡ true = scalars-front before (chars p ++ after) (rw (← cut) (scalars-chars s s_utf8)) in
      let utf8 : IsUtf8 front = (before, (scalars, refl)) in
      let same : take at s ≡ take at front = ap (take at) bytes_of_cut ∙ take-append-le at front _ below in
      let inside : IsUtf8 (take at front) = subst IsUtf8 same front_utf8 in
      let behind : IsUtf8 (drop at front) = IsUtf8-drop front at utf8 (IsCharBoundary-from_take front at utf8 below inside) in
      let parts : before ≡ chars (take at front) ++ chars (drop at front) = sym (chars-encodes before scalars) ∙ ap chars (sym (take-append-drop at front)) ∙ chars-append (take at front) (drop at front) inside in
      omega (arith, ap (λ l. length (chars l)) same, ap length parts, length-append (chars (take at front)) (chars (drop at front)))

-- a text that holds characters holds their bytes
pub Holds-from_chars : (s p : List ℕ) → IsUtf8 s → IsUtf8 p → Holds (chars s) (chars p) → Holds s p
Holds-from_chars s p s_utf8 p_utf8 held =
    (encode_utf8_all held.0, encode_utf8_all held.1, bytes_of_cut s p held.0 held.1 s_utf8 p_utf8 held.2)

-- the first byte at which a text stands, counted in characters
pub first_place : (s p : List ℕ) (at to : ℕ) → IsUtf8 s → IsUtf8 p → IsCharBoundary s at → drop at s ≡ p ++ drop to s
    → ((i : ℕ) → i < at → LacksTextAt p s i) → IsFirstPlace (chars s) (chars p) (length (chars (take at s)))
first_place s p at to s_utf8 p_utf8 boundary split earlier =
    let front_utf8 = IsUtf8-take s at s_utf8 boundary in
    let cut : chars s ≡ chars (take at s) ++ (chars p ++ chars (drop to s)) = ap chars (sym (take-append-drop at s)) ∙ chars-append (take at s) (drop at s) front_utf8
    ∙ ap (λ l. chars (take at s) ++ l) (ap chars split ∙ chars-append p (drop to s) p_utf8) in
    record {
      stands = (chars (take at s), chars (drop to s), cut, refl);
      earliest = λ j here.
          let before = here.0 in
          let bytes = bytes_of_cut s p before here.1 s_utf8 p_utf8 here.2 in
          let front = encode_utf8_all before in
          let stands : drop (length front) s ≡ p ++ encode_utf8_all here.1 = ap (drop (length front)) bytes ∙ drop_at front _ (length front) refl in
          let below : at ≤ length front = ⊎_elim (λ lt. absurd (earlier (length front) lt _ stands)) (λ le. le) (cases_lt (length front) at) in
          omega (arith, fewer_before s p before here.1 s_utf8 p_utf8 here.2 at front_utf8 below, here.3);
    }

-- a text is the text before a match, the match, and the text behind it
pub Holds-at : (s p : List ℕ) (at to : ℕ) → drop at s ≡ p ++ drop to s → Holds s p
Holds-at s p at to split = (take at s, drop to s, sym (take-append-drop at s) ∙ ap (λ l. take at s ++ l) split)

pub IsIndexOf-first : (xs ys : List ℕ) (z : ℤ) (n k : ℕ) → z ≡ pos n → n ≡ k → IsFirstPlace xs ys k → IsIndexOf xs ys z
IsIndexOf-first xs ys z n k signed count first = rw (signed, count) first
