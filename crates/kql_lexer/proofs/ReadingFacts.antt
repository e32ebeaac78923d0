-- A text has one reading, which the search for longest pieces finds.
use Rattle.std.proofs.Common.{◌≡◌, ◌≤◌, ◌<◌, ◌+◌, ◌-◌, ℕ, suc, zero, Bool, true, false, ◌||◌, List, [], ◌∷◌, length, drop, take, Some, None, refl, sym, ap, ◌∙◌, subst, inl, inr, arith, add-zero}
use Rattle.std.specs.Prelude.{is_some}
use Rattle.std.specs.Option.{option_map_or}
use Rattle.std.proofs.lemmas.List.{drop-drop, length-drop}
use Rattle.std.proofs.lemmas.Bool.{cases_lt}
use Rattle.kql_lexer.specs.Bytes.{class_of}
use Rattle.kql_lexer.specs.Lexing.{Cut, IsLongest, IsReading, cut_from, longest_within, pieces}
use Rattle.kql_lexer.specs.Pieces.{Piece, at_piece, bang_piece, blank_piece, dollar_piece, number_piece, piece_in, piece_of, sign_piece, slash_piece, string_piece, word_piece}
use Rattle.kql_lexer.specs.Strings.{leaves}
use Rattle.kql_lexer.specs.Words.{is_word}
use Rattle.kql_lexer.specs.declared.classes.Class.{Class}
use Rattle.kql_lexer.specs.declared.classes.Class.TheVariants as class
use Rattle.kql_lexer.proofs.Runs.{Means, class_means, digit_char}

-- the search finds the longest piece
longest_is : (rest : List ℕ) (n : ℕ) (p : Piece) → IsLongest rest n p → (m : ℕ) → n ≤ m → m ≤ length rest → longest_within rest m ≡ record { size = n; piece = p }
unfolding longest_within
longest_is rest n p l zero h k = absurd (omega (arith, l.some))
longest_is rest n p l (suc m) h k =
    elim (cases_lt n (suc m)) [
      | inl less ↦ ap (λ o. option_map_or (λ q. record { size = suc m; piece = q }) o (longest_within rest m)) (l.longest (suc m) less k)
          ∙ longest_is rest n p l m (omega arith) (omega arith)
      | inr most ↦
          let same : n ≡ suc m = omega arith in
          ap (λ o. option_map_or (λ q. record { size = suc m; piece = q }) o (longest_within rest m)) (rw same at l.is)
          ∙ rw same refl
    ]

cut_skip : (k at : ℕ) (xs : List ℕ) → cut_from at k xs ≡ cut_from (at + k) 0 (drop k xs)
unfolding cut_from
cut_skip zero at xs = ap (λ n. cut_from n 0 xs) (sym (add-zero at))
cut_skip (suc k) at [] = refl
cut_skip (suc k) at (b ∷ bs) = cut_skip k (suc at) bs ∙ ap (λ n. cut_from n 0 (drop k bs)) (omega arith)

pub cut_front : (at n : ℕ) (rest : List ℕ) (p : Piece) → IsLongest rest n p → cut_from at 0 rest ≡ (at, p) ∷ cut_from (at + n) 0 (drop n rest)
unfolding cut_from
cut_front at n [] p l = absurd (omega (arith, l.some, l.within))
cut_front at zero (b ∷ bs) p l = absurd (omega (arith, l.some))
cut_front at (suc n) (b ∷ bs) p l =
    ap (λ (f : Cut). (at, f.piece) ∷ cut_from (suc at) (f.size - 1) bs) (longest_is (b ∷ bs) (suc n) p l (length (b ∷ bs)) l.within (omega arith))
    ∙ ap (λ k. (at, p) ∷ cut_from (suc at) k bs) (omega arith)
    ∙ ap (λ ps. (at, p) ∷ ps) (cut_skip n (suc at) bs ∙ ap (λ k. cut_from k 0 (drop n bs)) (omega arith))

-- one piece further in a text
pub cut_more : (text : List ℕ) (at n : ℕ) (p : Piece) → IsLongest (drop at text) n p → cut_from at 0 (drop at text) ≡ (at, p) ∷ cut_from (at + n) 0 (drop (at + n) text)
cut_more text at n p l = cut_front at n (drop at text) p l ∙ ap (λ xs. (at, p) ∷ cut_from (at + n) 0 xs) (drop-drop n at text)

-- each byte begins a piece
or_left : (v w : Bool) → v ≡ true → (v || w) ≡ true
or_left v w h = rw h refl

one_in : (k : Class) (b : ℕ) → Means k b → is_some (piece_in k (b ∷ [])) ≡ true
unfolding at_piece bang_piece blank_piece dollar_piece is_word leaves number_piece sign_piece slash_piece string_piece word_piece
one_in class.Blank b m = rw m refl
one_in class.Letter b m = rw m refl
one_in class.Digit b m = rw (digit_char b m) refl
one_in class.Quote b m = refl
one_in class.At b m = refl
one_in class.Dollar b m = refl
one_in class.Bang b m = refl
one_in class.Slash b m = refl
one_in class.Other b m = refl

one_piece : (rest : List ℕ) → 0 < length rest → is_some (piece_of (take 1 rest)) ≡ true
unfolding piece_of
one_piece [] h = absurd (omega arith)
one_piece (b ∷ bs) h = one_in (class_of b) b (class_means b (class_of b) refl)

-- the longest piece of at most m bytes
record IsBest (rest : List ℕ) (m : ℕ) (c : Cut) : Type 0 where
  some : 0 < c.size
  within : c.size ≤ m
  is : piece_of (take c.size rest) ≡ Some c.piece
  longest : (j : ℕ) → c.size < j → j ≤ m → piece_of (take j rest) ≡ None

best : (rest : List ℕ) (m : ℕ) → 0 < m → 0 < length rest → IsBest rest m (longest_within rest m)
unfolding longest_within
best rest zero h q = absurd (omega arith)
best rest (suc m) h q =
    elim (piece_of (take (suc m) rest)) as (λ o. piece_of (take (suc m) rest) ≡ o → IsBest rest (suc m) (option_map_or (λ p. record { size = suc m; piece = p }) o (longest_within rest m))) [
      | Some p ↦ λ e. record { some = omega arith; within = omega arith; is = e; longest = λ j l k. absurd (omega arith) }
      | None ↦ λ e. elim (cases_lt 0 m) [
        | inl more ↦
            let b = best rest m more q in
            record {
              some = b.some;
              within = omega (arith, b.within);
              is = b.is;
              longest = λ j l k. elim (cases_lt j (suc m)) [
                | inl less ↦ b.longest j l (omega arith)
                | inr most ↦ let same : j ≡ suc m = omega arith in rw same e
              ];
            }
        | inr none ↦
            let one : suc m ≡ 1 = omega arith in
            let fails : is_some (piece_of (take 1 rest)) ≡ false = ap (λ n. is_some (piece_of (take n rest))) (sym one) ∙ ap is_some e in
            let holds : is_some (piece_of (take 1 rest)) ≡ true = one_piece rest q in
            absurd cc
      ]
    ] refl

pub longest_found : (rest : List ℕ) → 0 < length rest → IsLongest rest (longest_within rest (length rest)).size (longest_within rest (length rest)).piece
longest_found rest q =
    let b = best rest (length rest) q q in
    record { some = b.some; within = b.within; is = b.is; longest = b.longest }

cut_nil : (at : ℕ) → cut_from at 0 [] ≡ []
unfolding cut_from
cut_nil at = refl

-- the pieces that are found are a reading
reading_of : (fuel at : ℕ) (rest : List ℕ) → length rest ≤ fuel → IsReading at rest (cut_from at 0 rest)
unfolding IsReading
reading_of fuel at [] h = subst (IsReading at []) (sym (cut_nil at)) refl
reading_of zero at (b ∷ bs) h = absurd (omega arith)
reading_of (suc fuel) at (b ∷ bs) h =
    let l = longest_found (b ∷ bs) (omega arith) in
    let n = (longest_within (b ∷ bs) (length (b ∷ bs))).size in
    let p = (longest_within (b ∷ bs) (length (b ∷ bs))).piece in
    let rest : IsReading (at + n) (drop n (b ∷ bs)) (cut_from (at + n) 0 (drop n (b ∷ bs))) = reading_of fuel (at + n) (drop n (b ∷ bs)) (omega (arith, length-drop n (b ∷ bs), l.some)) in
    subst (IsReading at (b ∷ bs)) (sym (cut_front at n (b ∷ bs) p l)) (n, refl, l, rest)

pub has_reading : (text : List ℕ) → IsReading 0 text (pieces text)
unfolding pieces
has_reading text = reading_of (length text) 0 text (omega arith)

-- there is no other
same_size : (rest : List ℕ) (n m : ℕ) (p q : Piece) → IsLongest rest n p → IsLongest rest m q → m ≤ n
same_size rest n m p q l k = elim (cases_lt n m) [
  | inl less ↦
      let none : piece_of (take m rest) ≡ None = l.longest m less k.within in
      let some : piece_of (take m rest) ≡ Some q = k.is in
      absurd cc
  | inr most ↦ most
]

same_part : (x y : ℕ × Piece) → x.0 ≡ y.0 → x.1 ≡ y.1 → x ≡ y
same_part x y e f = let g : ℕ → ℕ × Piece = λ a. (a, x.1) in let h : Piece → ℕ × Piece = λ p. (y.0, p) in ap g e ∙ ap h f

pub one_way : (xs ys : List (ℕ × Piece)) (at : ℕ) (rest : List ℕ) → IsReading at rest xs → IsReading at rest ys → xs ≡ ys
unfolding IsReading
one_way [] [] at rest r s = refl
one_way [] (y ∷ ys) at rest r s = let none : length rest ≡ 0 = ap length r in absurd (omega (arith, s.2.some, s.2.within))
one_way (x ∷ xs) [] at rest r s = let none : length rest ≡ 0 = ap length s in absurd (omega (arith, r.2.some, r.2.within))
one_way (x ∷ xs) (y ∷ ys) at rest r s =
    let size : s.0 ≡ r.0 = omega (arith, same_size rest r.0 s.0 x.1 y.1 r.2 s.2, same_size rest s.0 r.0 y.1 x.1 s.2 r.2) in
    let piece : Some x.1 ≡ Some y.1 = sym r.2.is ∙ ap (λ n. piece_of (take n rest)) (sym size) ∙ s.2.is in
    let same : x.1 ≡ y.1 = cc in
    let others : IsReading (at + r.0) (drop r.0 rest) ys = subst (λ n. IsReading (at + n) (drop n rest) ys) size s.3 in
    ap (λ z. z ∷ xs) (same_part x y (r.1 ∙ sym s.1) same) ∙ ap (λ zs. y ∷ zs) (one_way xs ys (at + r.0) (drop r.0 rest) r.3 others)
