-- Texts and their characters.
use Rattle.std.proofs.Common.{◌≡◌, ◌≤◌, ◌+◌, ℕ, true, ◌&&◌, List, [], ◌∷◌, ◌++◌, length, take, drop, reverse, refl, sym, ap, subst, ◌∙◌, ap₂, arith, min, ◌-◌, IsUtf8, append-nil, append_assoc, length-append, take-append-drop}
use Rattle.std.specs.Iterator.{DrainsIf, Yields}
use Rattle.std.specs.Iterator.Adapters.{rev_source, rev_steps}
use Rattle.std.specs.Str.{IsCharBoundary, chars, encode_utf8_all, all_scalars}
use Rattle.std.specs.Str.Iter.{chars_rest, chars_steps_back}
use Rattle.std.specs.Char.{encode_utf8}
use Rattle.std.specs.declared.iter.Rev.{Rev}
use Rattle.std.specs.declared.str.Chars.{Chars}
use Rattle.std.proofs.lemmas.Bool.{and_parts}
use Rattle.std.proofs.lemmas.List.{drop-drop, drop_all, length-drop, length-take, nil_from_length, take_at, reverse-append, reverse-reverse}
use Rattle.std.proofs.lemmas.Str.{IsCharBoundary-at_seam, chars_from_encodes, chars-encodes, cons_from_encodes, encodes-append, encodes-chars, length-le-encodes, scalars-chars}

-- the front of a list of characters, and its end
pub scalars-front : (cs ds : List ℕ) → all_scalars (cs ++ ds) ≡ true → all_scalars cs ≡ true
scalars-front [] ds h = refl
scalars-front (c ∷ cs) ds h =
    let parts = and_parts _ _ h in
    ap₂ ◌&&◌ parts.0 (scalars-front cs ds parts.1)

pub scalars-back : (cs ds : List ℕ) → all_scalars (cs ++ ds) ≡ true → all_scalars ds ≡ true
scalars-back [] ds h = h
scalars-back (c ∷ cs) ds h = scalars-back cs ds (and_parts _ _ h).1

pub scalars-take : (n : ℕ) (cs : List ℕ) → all_scalars cs ≡ true → all_scalars (take n cs) ≡ true
scalars-take n cs h = scalars-front (take n cs) (drop n cs) (rw take-append-drop h)

pub scalars-drop : (n : ℕ) (cs : List ℕ) → all_scalars cs ≡ true → all_scalars (drop n cs) ≡ true
scalars-drop n cs h = scalars-back (take n cs) (drop n cs) (rw take-append-drop h)

-- what `chars().rev()` gives
spelt_back : (cs : List ℕ) (s t : Rev Chars) → Yields (rev_steps chars_steps_back) s cs t → chars_rest (rev_source s) ≡ chars_rest (rev_source t) ++ encode_utf8_all (reverse cs)
spelt_back [] s t y = ap (λ (r : Rev Chars). chars_rest (rev_source r)) y ∙ sym (append-nil _)
spelt_back (c ∷ cs) s t y =
    y.1 ∙ ap (λ l. l ++ encode_utf8 c) (spelt_back cs y.0 t y.2) ∙ append_assoc (chars_rest (rev_source t)) (encode_utf8_all (reverse cs)) (encode_utf8 c)
    ∙ ap (λ l. chars_rest (rev_source t) ++ l) (sym (ap encode_utf8_all (reverse-append (c ∷ []) cs) ∙ encodes-append (reverse cs) (c ∷ []) ∙ ap (λ l. encode_utf8_all (reverse cs) ++ l) (append-nil (encode_utf8 c))))

pub reversed_chars : (bs xs : List ℕ) (s : Rev Chars) → IsUtf8 bs → chars_rest (rev_source s) ≡ bs → DrainsIf (rev_steps chars_steps_back) (Unit {0}) s xs → encode_utf8_all xs ≡ encode_utf8_all (reverse (chars bs))
reversed_chars bs xs s utf8 start run =
    let rest = chars_rest (rev_source run.0) in
    let nothing : rest ≡ [] = nil_from_length rest (run.2 tt).1.0 in
    let spelt : encode_utf8_all (reverse xs) ≡ bs = ap (λ l. l ++ encode_utf8_all (reverse xs)) (sym nothing) ∙ sym (spelt_back xs s run.0 run.1) ∙ start in
    ap encode_utf8_all (sym (reverse-reverse xs) ∙ ap reverse (chars_from_encodes (reverse xs) bs utf8 spelt))

-- one character passed
pub drop_next : (cs bs rest : List ℕ) (i c : ℕ) → bs ≡ encode_utf8_all (drop i cs) → bs ≡ encode_utf8 c ++ rest → rest ≡ encode_utf8_all (drop (i + 1) cs)
drop_next cs bs rest i c left next =
    let first = cons_from_encodes (drop i cs) rest c (sym left ∙ next) in
    sym first.2 ∙ ap encode_utf8_all (sym (ap (drop 1) first.1) ∙ drop-drop 1 i cs)

-- no character left
pub drop_past : (cs bs : List ℕ) (i n : ℕ) → bs ≡ encode_utf8_all (drop i cs) → length bs ≡ 0 → i ≤ n → [] ≡ encode_utf8_all (drop n cs)
drop_past cs bs i n left none below =
    sym (ap encode_utf8_all (drop_all n cs (omega (arith, ap length left, length-le-encodes (drop i cs), length-drop i cs))))

-- what stands before the rest of a text
module _ (bs rest : List ℕ) (n : ℕ) (utf8 : IsUtf8 bs) (left : rest ≡ encode_utf8_all (drop n (chars bs))) where
  front : List ℕ
  front = encode_utf8_all (take n (chars bs))

  seam : bs ≡ front ++ rest
  unfolding front
  seam =
      sym (encodes-chars bs utf8) ∙ ap encode_utf8_all (sym (take-append-drop n (chars bs)))
      ∙ encodes-append (take n (chars bs)) (drop n (chars bs)) ∙ ap (λ l. encode_utf8_all (take n (chars bs)) ++ l) (sym left)

  length-front : length front ≡ length bs - length rest
  length-front = omega (arith, ap length seam, length-append front rest)

  pub rest_fits : length rest ≤ length bs
  rest_fits = omega (arith, ap length seam, length-append front rest)

  pub front_boundary : IsUtf8 rest → IsCharBoundary bs (length bs - length rest)
  front_boundary rest_utf8 = subst (IsCharBoundary bs) length-front (IsCharBoundary-at_seam bs front rest seam rest_utf8)

  pub front_bytes : take (length bs - length rest) bs ≡ encode_utf8_all (take n (chars bs))
  unfolding front
  front_bytes = ap (take (length bs - length rest)) seam ∙ take_at front rest _ length-front

-- some characters out of the middle
module _ (bs rest part : List ℕ) (k n : ℕ) (utf8 : IsUtf8 bs) (left : rest ≡ encode_utf8_all (drop k (chars bs))) (first : part ≡ encode_utf8_all (take n (chars rest))) where
  middle_scalars : all_scalars (drop k (chars bs)) ≡ true
  middle_scalars = scalars-drop k (chars bs) (scalars-chars bs utf8)

  pub middle_bytes : part ≡ encode_utf8_all (take n (drop k (chars bs)))
  middle_bytes = first ∙ ap (λ l. encode_utf8_all (take n l)) (ap chars left ∙ chars-encodes (drop k (chars bs)) middle_scalars)

  pub middle_count : length (chars part) ≡ min n (length (chars bs) - k)
  middle_count =
      ap (λ l. length (chars l)) middle_bytes ∙ ap length (chars-encodes (take n (drop k (chars bs))) (scalars-take n (drop k (chars bs)) middle_scalars))
      ∙ length-take n (drop k (chars bs)) ∙ ap (min n) (length-drop k (chars bs))
