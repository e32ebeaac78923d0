-- Blanks and comments, and a byte alone.
use Rattle.std.proofs.Common.{◌≡◌, ◌≤◌, ◌<◌, ◌+◌, ℕ, suc, zero, Bool, true, false, List, [], ◌∷◌, length, get_or, take, drop, cond, eqb, Some, None, refl, sym, ap, ◌∙◌, arith}
use Rattle.std.specs.List.{prefix_len, list_all}
use Rattle.std.proofs.lemmas.Str.{IsUtf8-from_ascii}
use Rattle.std.proofs.lemmas.List.{get_or-drop, drop-drop}
use Rattle.std.proofs.lemmas.List.Sums.{prefix_len-le-length}
use Rattle.std.proofs.lemmas.Bool.Decides.{nat_tests}
use Rattle.kql_lexer.specs.Bytes.{class_of, is_blank, is_inline}
use Rattle.kql_lexer.specs.Literals.{quote_end}
use Rattle.kql_lexer.specs.Pieces.{blank_piece, gap, slash_piece, token}
use Rattle.kql_lexer.specs.Shapes.{IsFront, IsPlain}
use Rattle.kql_lexer.specs.declared.classes.Class.TheVariants as class
use Rattle.kql_lexer.specs.declared.token.Shape.TheVariants as shape
use Rattle.kql_lexer.specs.declared.token.TokenForm.TheVariants as form
use Rattle.kql_lexer.proofs.Runs.{class_means, in_run, past_run, piece_at, run_some}

pub ruleset ascii_text = (IsUtf8-from_ascii)

-- blanks
pub blank_is : (rest : List ℕ) (n : ℕ) → n ≡ prefix_len is_blank rest → 0 < length rest → class_of (get_or rest 0 0) ≡ class.Blank
    → IsFront rest (record { size = n; shape = shape.Gap })
unfolding blank_piece
blank_is rest n e q c =
    let hb : is_blank (get_or rest 0 0) ≡ true = class_means (get_or rest 0 0) class.Blank c in
    let some : 0 < n = omega (arith, run_some is_blank rest q hb) in
    let whole : list_all is_blank (take n rest) ≡ true = rw e (in_run is_blank rest) in
    record {
      longest = record {
        some = some;
        within = omega (arith, prefix_len-le-length is_blank rest);
        is = piece_at rest n class.Blank some q c ∙ rw whole refl;
        longest = λ m h k. piece_at rest m class.Blank (omega arith) q c ∙ rw (past_run is_blank rest m (omega arith) k) refl;
      };
      fits = tt;
    }

pub ruleset gap_fronts = (blank_is)

-- a comment
slash_inline : is_inline 47 ≡ true
unfolding is_inline
slash_inline = refl

comment_run : (cs : List ℕ) → prefix_len is_inline (47 ∷ 47 ∷ cs) ≡ suc (suc (prefix_len is_inline cs))
comment_run cs = rw (slash_inline) (omega arith)

as_comment : (rest : List ℕ) (m : ℕ) → 2 ≤ m → 2 ≤ length rest → get_or rest 0 0 ≡ 47 → get_or rest 1 0 ≡ 47
    → slash_piece (take m rest) ≡ cond (list_all is_inline (take m rest)) (Some gap) None
unfolding slash_piece
as_comment [] m h k a b = absurd (omega arith)
as_comment (x ∷ []) m h k a b = absurd (omega arith)
as_comment (x ∷ y ∷ ys) zero h k a b = absurd (omega arith)
as_comment (x ∷ y ∷ ys) (suc zero) h k a b = absurd (omega arith)
as_comment (x ∷ y ∷ ys) (suc (suc m)) h k a b = rw (a, b, slash_inline) refl

pub comment_is : (rest : List ℕ) (n : ℕ) → n ≡ prefix_len is_inline rest → 1 < length rest → class_of (get_or rest 0 0) ≡ class.Slash → get_or rest 1 0 ≡ 47
    → IsFront rest (record { size = n; shape = shape.Gap })
comment_is rest n e q c s =
    let first : get_or rest 0 0 ≡ 47 = class_means (get_or rest 0 0) class.Slash c in
    let two : 2 ≤ n = long rest n e q first s in
    let whole : list_all is_inline (take n rest) ≡ true = rw e (in_run is_inline rest) in
    record {
      longest = record {
        some = omega arith;
        within = omega (arith, prefix_len-le-length is_inline rest);
        is = piece_at rest n class.Slash (omega arith) (omega arith) c ∙ as_comment rest n two q first s ∙ rw whole refl;
        longest = λ m h k.
            piece_at rest m class.Slash (omega arith) (omega arith) c ∙ as_comment rest m (omega arith) q first s
            ∙ rw (past_run is_inline rest m (omega arith) k) refl;
      };
      fits = tt;
    } where
      long : (rest : List ℕ) (n : ℕ) → n ≡ prefix_len is_inline rest → 1 < length rest → get_or rest 0 0 ≡ 47 → get_or rest 1 0 ≡ 47 → 2 ≤ n
      long [] n e q a b = absurd (omega arith)
      long (x ∷ []) n e q a b = absurd (omega arith)
      long (x ∷ y ∷ ys) n e q a b =
          let two : prefix_len is_inline (x ∷ y ∷ ys) ≡ suc (suc (prefix_len is_inline ys)) = rw (a, b) (comment_run ys) in
          omega (arith, two)

-- `/` alone
no_comment : (rest : List ℕ) (m : ℕ) → 1 < m → m ≤ length rest → (1 < length rest → get_or rest 1 0 ≡ 47 → ⊥) → slash_piece (take m rest) ≡ None
unfolding slash_piece
no_comment [] m h k n = absurd (omega arith)
no_comment (x ∷ []) m h k n = absurd (omega arith)
no_comment (x ∷ y ∷ ys) zero h k n = absurd (omega arith)
no_comment (x ∷ y ∷ ys) (suc zero) h k n = absurd (omega arith)
no_comment (x ∷ y ∷ ys) (suc (suc m)) h k n = rw (other y (n (omega arith))) refl where
  other : (b : ℕ) → (b ≡ 47 → ⊥) → eqb b 47 ≡ false
  other b n = grind (arith, nat_tests)

single_slash : (rest : List ℕ) → 0 < length rest → slash_piece (take 1 rest) ≡ Some (token form.Slash)
unfolding slash_piece
single_slash [] h = absurd (omega arith)
single_slash (b ∷ bs) h = refl

pub slash_is : (rest : List ℕ) → 0 < length rest → class_of (get_or rest 0 0) ≡ class.Slash → (1 < length rest → get_or rest 1 0 ≡ 47 → ⊥)
    → IsFront rest (record { size = 1; shape = shape.Plain form.Slash })
slash_is rest q c n = record {
  longest = record {
    some = omega arith;
    within = q;
    is = piece_at rest 1 class.Slash (omega arith) q c ∙ single_slash rest q;
    longest = λ m h k. piece_at rest m class.Slash (omega arith) q c ∙ no_comment rest m h k n;
  };
  fits = tt;
}

pub ruleset slash_fronts = (comment_is, slash_is)

-- what is known of double quotes stays known behind a piece
pub plain_drop : (known : Bool) (bytes : List ℕ) (n : ℕ) → IsPlain known bytes → IsPlain known (drop n bytes)
plain_drop known bytes n h k i e =
    ap (quote_end false) (drop-drop (i + 1) n bytes ∙ ap (λ j. drop j bytes) (omega arith))
    ∙ h k (n + i) (sym (get_or-drop n bytes i 0) ∙ e)

pub ruleset plain_steps = (plain_drop)
