-- The longest string, with escapes or verbatim.
use Rattle.std.proofs.Common.{◌≡◌, ◌≤◌, ◌<◌, ◌+◌, ◌-◌, ℕ, suc, zero, Bool, true, false, ◌||◌, List, [], ◌∷◌, length, get_or, take, drop, cond, eqb, Option, Some, None, option_map, refl, sym, ap, ◌∙◌, subst, arith}
use Rattle.std.specs.Prelude.{is_some}
use Rattle.std.proofs.lemmas.List.{get_or-take, get_or-drop, length-take-le, length-drop}
use Rattle.std.proofs.lemmas.Bool.Decides.{nat_tests}
use Rattle.kql_lexer.specs.Bytes.{class_of, is_quote}
use Rattle.kql_lexer.specs.Lexing.{IsLongest}
use Rattle.kql_lexer.specs.Pieces.{Piece, at_piece, flaw, or_flaw, string_as, string_piece, token, verbatim_as}
use Rattle.kql_lexer.specs.Shapes.{HasEnds, IsFront}
use Rattle.kql_lexer.specs.Strings.{between, halved, in_either, leaves, unescaped}
use Rattle.kql_lexer.specs.declared.classes.Class.TheVariants as class
use Rattle.kql_lexer.specs.declared.strings.Inside.{Inside}
use Rattle.kql_lexer.specs.declared.strings.Inside.TheVariants.{Open, Kept, Closed}
use Rattle.kql_lexer.specs.declared.token.Shape.TheVariants as shape
use Rattle.kql_lexer.specs.declared.token.TokenForm.TheVariants as form
use Rattle.kql_lexer.proofs.Runs.{between_take, class_means, piece_at}
use Rattle.kql_lexer.proofs.StringFacts.{closed_last, leaves_past}

pub quote_ascii : (b : ℕ) → is_quote b ≡ true → b < 128
unfolding is_quote
quote_ascii b h = go (eqb b 34) (eqb b 39) refl refl h where
  go : (v w : Bool) → eqb b 34 ≡ v → eqb b 39 ≡ w → (v || w) ≡ true → b < 128
  go true w e f h = grind (arith, nat_tests)
  go false true e f h = grind (arith, nat_tests)
  go false false e f h = absurd cc

-- a string that was read up to n bytes behind its first sign
pub record IsRun (v : Bool) (sign : ℕ) (bytes : List ℕ) (n : ℕ) (inside : Inside) : Type 0 where
  pub within : n ≤ length bytes
  pub ran : leaves (in_either v sign) Open (take n bytes) ≡ Some inside
  pub stopped : n < length bytes → in_either v sign inside (get_or bytes n 0) ≡ None

-- a run that was read over the same bytes
pub run_along : (v : Bool) (sign : ℕ) (xs ys : List ℕ) (n : ℕ) (s t : Inside) → xs ≡ ys → s ≡ t → n ≤ length xs → leaves (in_either v sign) Open (take n xs) ≡ Some s
    → (n < length xs → in_either v sign s (get_or xs n 0) ≡ None) → IsRun v sign ys n t
run_along v sign xs ys n s t e f w r x =
    let run : IsRun v sign xs n s = record { within = w; ran = r; stopped = x } in
    subst (λ zs. IsRun v sign zs n t) e (subst (λ u. IsRun v sign xs n u) f run)

run_past : (v : Bool) (sign : ℕ) (bytes : List ℕ) (n m : ℕ) (inside : Inside) → IsRun v sign bytes n inside → n < m → m ≤ length bytes
    → leaves (in_either v sign) Open (take m bytes) ≡ None
run_past v sign bytes n m inside r h k = leaves_past (in_either v sign) Open inside bytes n m r.ran (r.stopped (omega arith)) (omega arith) h

-- the piece that a string is
string_take : (rest : List ℕ) (m : ℕ) → 0 < m → 0 < length rest
    → string_piece (take m rest) ≡ string_as (take m rest) (leaves (in_either false (get_or rest 0 0)) Open (take (m - 1) (drop 1 rest)))
unfolding string_piece
string_take [] m p q = absurd (omega arith)
string_take (b ∷ bs) zero p q = absurd (omega arith)
string_take (b ∷ bs) (suc m) p q = let n : suc m - 1 ≡ m = omega arith in rw n refl

string_longest : (rest : List ℕ) (n : ℕ) (inside : Inside) (p : Piece) → 0 < length rest → class_of (get_or rest 0 0) ≡ class.Quote
    → IsRun false (get_or rest 0 0) (drop 1 rest) n inside → string_as (take (1 + n) rest) (Some inside) ≡ Some p → IsLongest rest (1 + n) p
string_longest rest n inside p q c r e =
    let len : length (drop 1 rest) ≡ length rest - 1 = length-drop 1 rest in
    let less : (1 + n) - 1 ≡ n = omega arith in
    record {
      some = omega arith;
      within = omega (arith, r.within);
      is = piece_at rest (1 + n) class.Quote (omega arith) q c ∙ string_take rest (1 + n) (omega arith) q
          ∙ ap (string_as (take (1 + n) rest)) (ap (λ j. leaves (in_either false (get_or rest 0 0)) Open (take j (drop 1 rest))) less ∙ r.ran) ∙ e;
      longest = λ m h k. piece_at rest m class.Quote (omega arith) q c ∙ string_take rest m (omega arith) q
          ∙ ap (string_as (take m rest)) (run_past false (get_or rest 0 0) (drop 1 rest) n (m - 1) inside r (omega arith) (omega arith));
    }

-- the ends of a closed string of which k + 1 bytes stand before its text
string_ends : (v : Bool) (sign k n : ℕ) (rest : List ℕ) → sign < 128 → get_or rest k 0 ≡ sign → get_or rest 0 0 < 128 → k < length rest
    → IsRun v sign (drop (k + 1) rest) n Closed → HasEnds k (take (k + 1 + n) rest)
string_ends v sign k n rest a e f l r =
    let len : length (drop (k + 1) rest) ≡ length rest - (k + 1) = length-drop (k + 1) rest in
    let inner : length (take n (drop (k + 1) rest)) ≡ n = length-take-le n (drop (k + 1) rest) r.within in
    let last = closed_last v sign (take n (drop (k + 1) rest)) r.ran in
    let some : 0 < n = omega (arith, last.0) in
    let whole : length (take (k + 1 + n) rest) ≡ k + 1 + n = length-take-le (k + 1 + n) rest (omega (arith, r.within)) in
    let ending : get_or (take (k + 1 + n) rest) (length (take (k + 1 + n) rest) - 1) 0 ≡ sign =
    ap (λ j. get_or (take (k + 1 + n) rest) j 0) (ap (λ j. j - 1) whole)
    ∙ get_or-take (k + 1 + n) rest (k + 1 + n - 1) 0 (omega arith)
    ∙ ap (λ j. get_or rest j 0) (omega arith)
    ∙ sym (get_or-drop (k + 1) rest (n - 1) 0)
    ∙ sym (get_or-take n (drop (k + 1) rest) (n - 1) 0 (omega arith))
    ∙ ap (λ j. get_or (take n (drop (k + 1) rest)) (j - 1) 0) (sym inner)
    ∙ last.1 in
    record {
      first = rw (get_or-take (k + 1 + n) rest 0 0 (omega arith)) f;
      before = rw (get_or-take (k + 1 + n) rest k 0 (omega arith)) (rw e a);
      last = rw ending a;
      room = omega (arith, whole);
    }

-- a string whose escapes are known
pub quoted_is : (rest : List ℕ) (n : ℕ) (body : List ℕ) → 0 < length rest → class_of (get_or rest 0 0) ≡ class.Quote
    → IsRun false (get_or rest 0 0) (drop 1 rest) n Closed → body ≡ between 0 (take (1 + n) rest) → is_some (unescaped false body) ≡ true
    → IsFront rest (record { size = 1 + n; shape = shape.Quoted })
quoted_is rest n body q c r e s =
    let ascii : get_or rest 0 0 < 128 = quote_ascii (get_or rest 0 0) (class_means (get_or rest 0 0) class.Quote c) in
    record {
      longest = string_longest rest n Closed (or_flaw 103 (option_map form.Text (unescaped false (between 0 (take (1 + n) rest))))) q c r refl;
      fits = (string_ends false (get_or rest 0 0) 0 n rest ascii refl ascii q r, rw e at s);
    }

none_of : {X : Type 0} (o : Option X) → is_some o ≡ false → o ≡ None
none_of None h = refl
none_of (Some x) h = absurd cc

pub unknown_is : (rest : List ℕ) (n : ℕ) (body : List ℕ) → 0 < length rest → class_of (get_or rest 0 0) ≡ class.Quote
    → IsRun false (get_or rest 0 0) (drop 1 rest) n Closed → body ≡ between 0 (take (1 + n) rest) → is_some (unescaped false body) ≡ false
    → IsFront rest (record { size = 1 + n; shape = shape.Flaw 103 })
unknown_is rest n body q c r e s =
    let none : unescaped false (between 0 (take (1 + n) rest)) ≡ None = none_of (unescaped false (between 0 (take (1 + n) rest))) (rw e at s) in
    record { longest = string_longest rest n Closed (flaw 103) q c r (ap (λ o. Some (or_flaw 103 (option_map form.Text o))) none); fits = tt }

open_as : (bytes : List ℕ) (inside : Inside) → (inside ≡ Closed → ⊥) → string_as bytes (Some inside) ≡ Some (flaw 102)
open_as bytes Open n = refl
open_as bytes Kept n = refl
open_as bytes Closed n = absurd (n refl)

pub open_is : (rest : List ℕ) (n : ℕ) (inside : Inside) → 0 < length rest → class_of (get_or rest 0 0) ≡ class.Quote
    → IsRun false (get_or rest 0 0) (drop 1 rest) n inside → (inside ≡ Closed → ⊥)
    → IsFront rest (record { size = 1 + n; shape = shape.Flaw 102 })
open_is rest n inside q c r o = record { longest = string_longest rest n inside (flaw 102) q c r (open_as (take (1 + n) rest) inside o); fits = tt }

pub closed_some : (sign : ℕ) (bytes : List ℕ) (n : ℕ) → IsRun false sign bytes n Closed → 0 < n
closed_some sign bytes n r = omega (arith, (closed_last false sign (take n bytes) r.ran).0, length-take-le n bytes r.within)

-- `@`
at_take : (rest : List ℕ) (m : ℕ) → 1 < m → 1 < length rest
    → at_piece (take m rest) ≡ cond (is_quote (get_or rest 1 0)) (verbatim_as (take m rest) (leaves (in_either true (get_or rest 1 0)) Open (take (m - 2) (drop 2 rest)))) None
unfolding at_piece
at_take [] m p q = absurd (omega arith)
at_take (a ∷ []) m p q = absurd (omega arith)
at_take (a ∷ b ∷ bs) zero p q = absurd (omega arith)
at_take (a ∷ b ∷ bs) (suc zero) p q = absurd (omega arith)
at_take (a ∷ b ∷ bs) (suc (suc m)) p q = let n : suc (suc m) - 2 ≡ m = omega arith in rw n refl

at_alone : (rest : List ℕ) → 0 < length rest → at_piece (take 1 rest) ≡ Some (flaw 101)
unfolding at_piece
at_alone [] h = absurd (omega arith)
at_alone (b ∷ bs) h = refl

pub at_is : (rest : List ℕ) → 0 < length rest → class_of (get_or rest 0 0) ≡ class.At → (1 < length rest → is_quote (get_or rest 1 0) ≡ false)
    → IsFront rest (record { size = 1; shape = shape.Flaw 101 })
at_is rest q c n = record {
  longest = record {
    some = omega arith;
    within = q;
    is = piece_at rest 1 class.At (omega arith) q c ∙ at_alone rest q;
    longest = λ m h k. piece_at rest m class.At (omega arith) q c ∙ at_take rest m h (omega arith)
        ∙ ap (λ v. cond v (verbatim_as (take m rest) (leaves (in_either true (get_or rest 1 0)) Open (take (m - 2) (drop 2 rest)))) None) (n (omega arith));
  };
  fits = tt;
}

verbatim_longest : (rest : List ℕ) (n : ℕ) (inside : Inside) (p : Piece) → 1 < length rest → class_of (get_or rest 0 0) ≡ class.At → is_quote (get_or rest 1 0) ≡ true
    → IsRun true (get_or rest 1 0) (drop 2 rest) n inside → verbatim_as (take (2 + n) rest) (Some inside) ≡ Some p → IsLongest rest (2 + n) p
verbatim_longest rest n inside p q c s r e =
    let len : length (drop 2 rest) ≡ length rest - 2 = length-drop 2 rest in
    let less : (2 + n) - 2 ≡ n = omega arith in
    record {
      some = omega arith;
      within = omega (arith, r.within);
      is = piece_at rest (2 + n) class.At (omega arith) (omega arith) c ∙ at_take rest (2 + n) (omega arith) q
          ∙ rw s (ap (verbatim_as (take (2 + n) rest)) (ap (λ j. leaves (in_either true (get_or rest 1 0)) Open (take j (drop 2 rest))) less ∙ r.ran) ∙ e);
      longest = λ m h k. piece_at rest m class.At (omega arith) (omega arith) c ∙ at_take rest m (omega arith) q
          ∙ rw s (ap (verbatim_as (take m rest)) (run_past true (get_or rest 1 0) (drop 2 rest) n (m - 2) inside r (omega arith) (omega arith)));
    }

pub verbatim_is : (rest : List ℕ) (n : ℕ) → 1 < length rest → class_of (get_or rest 0 0) ≡ class.At → is_quote (get_or rest 1 0) ≡ true
    → IsRun true (get_or rest 1 0) (drop 2 rest) n Closed → IsFront rest (record { size = 2 + n; shape = shape.Verbatim })
verbatim_is rest n q c s r =
    let first : get_or rest 0 0 < 128 = omega (arith, class_means (get_or rest 0 0) class.At c) in
    let sign : get_or (take (2 + n) rest) 1 0 ≡ get_or rest 1 0 = get_or-take (2 + n) rest 1 0 (omega arith) in
    record {
      longest = verbatim_longest rest n Closed (token (form.Text (halved (get_or (take (2 + n) rest) 1 0) false (between 1 (take (2 + n) rest))))) q c s r refl;
      fits = string_ends true (get_or rest 1 0) 1 n rest (quote_ascii (get_or rest 1 0) s) refl first q r;
    }

open_verbatim_as : (bytes : List ℕ) (inside : Inside) → (inside ≡ Closed → ⊥) → verbatim_as bytes (Some inside) ≡ Some (flaw 102)
open_verbatim_as bytes Open n = refl
open_verbatim_as bytes Kept n = refl
open_verbatim_as bytes Closed n = absurd (n refl)

pub open_verbatim_is : (rest : List ℕ) (n : ℕ) (inside : Inside) → 1 < length rest → class_of (get_or rest 0 0) ≡ class.At → is_quote (get_or rest 1 0) ≡ true
    → IsRun true (get_or rest 1 0) (drop 2 rest) n inside → (inside ≡ Closed → ⊥) → IsFront rest (record { size = 2 + n; shape = shape.Flaw 102 })
open_verbatim_is rest n inside q c s r o = record { longest = verbatim_longest rest n inside (flaw 102) q c s r (open_verbatim_as (take (2 + n) rest) inside o); fits = tt }

pub body_is : (rest : List ℕ) (n j : ℕ) → 0 < n → n ≤ length (drop 1 rest) → j ≡ n - 1 → take j (drop 1 rest) ≡ between 0 (take (1 + n) rest)
body_is rest n j h k e =
    let len : length (drop 1 rest) ≡ length rest - 1 = length-drop 1 rest in
    sym (between_take 0 (1 + n) rest (omega arith) (omega arith) ∙ ap (λ i. take i (drop 1 rest)) (omega arith))
