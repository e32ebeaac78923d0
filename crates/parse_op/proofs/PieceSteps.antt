-- Which pieces items allow.
use Rattle.std.proofs.Common.{◌≡◌, ◌<◌, ◌≤◌, ◌+◌, ◌-◌, ℕ, zero, suc, Bool, true, false, List, [], ◌∷◌, length, drop, refl, sym, ap, ◌∙◌, arith, inl, inr, subst, length-drop, length-take-le}
use Rattle.std.specs.Prelude.{is_some, slice_range}
use Rattle.std.specs.Char.{is_ascii_digit}
use Rattle.std.specs.List.{prefix_len}
use Rattle.std.proofs.lemmas.Bool.{cases_Bool}
use Rattle.kql_cells.specs.declared.value.Kind.{Kind}
use Rattle.kql_cells.specs.declared.value.Kind.TheVariants as kind
use Rattle.kql_bound.specs.declared.parts.PatItem.{PatItem}
use Rattle.kql_bound.specs.declared.parts.PatItem.TheVariants as item
use Rattle.kql_meaning.specs.Cuts.{behind_dash, digits_length, filled_piece_read, is_allowed, is_number_before_star, piece_read}
use Rattle.parse_op.specs.Search.{TakesAny}
use Rattle.parse_op.proofs.CutSteps.{place-within}

-- Items that take any piece.

pub star-any : (relaxed : Bool) (p : PatItem) (ps : List PatItem) (t : List ℕ) (start : ℕ) → p ≡ item.Star → TakesAny relaxed p ps t start start
unfolding TakesAny is_allowed
star-any relaxed p ps t start is = rw is (omega arith, λ end low high. refl)

pub relaxed-any : (relaxed : Bool) (p : PatItem) (name : List ℕ) (k : Kind) (ps : List PatItem) (t : List ℕ) (start : ℕ) (b : Bool) → p ≡ item.Column name k → relaxed ≡ true → b ≡ is_number_before_star k ps → b ≡ false → TakesAny relaxed p ps t start start
unfolding TakesAny is_allowed
relaxed-any relaxed p name k ps t start b is all test other =
    let off : is_number_before_star k ps ≡ false = sym test ∙ other in
    rw (is, all) (omega arith, λ end low high. rw off refl)

simple-text : (relaxed : Bool) (name : List ℕ) (ps : List PatItem) (t : List ℕ) (start : ℕ) → TakesAny relaxed (item.Column name kind.Text) ps t start start
unfolding TakesAny is_allowed piece_read is_number_before_star
simple-text true name ps t start = (omega arith, λ end low high. refl)
simple-text false name ps t start = (omega arith, λ end low high. refl)

pub text-any : (relaxed : Bool) (p : PatItem) (name : List ℕ) (k : Kind) (ps : List PatItem) (t : List ℕ) (start : ℕ) → p ≡ item.Column name k → k ≡ kind.Text → TakesAny relaxed p ps t start start
text-any relaxed p name k ps t start is of = subst (λ q. TakesAny relaxed q ps t start start) (sym (is ∙ ap (λ (x : Kind). item.Column name x) of)) (simple-text relaxed name ps t start)

filled : (piece : List ℕ) → 0 < length piece → is_some (piece_read kind.Dynamic piece) ≡ true
unfolding piece_read filled_piece_read
filled [] lt = absurd (omega arith)
filled (b ∷ bs) lt = refl

piece-filled : (t : List ℕ) (start end : ℕ) → start + 1 ≤ end → end ≤ length t → 0 < length (slice_range t start end)
piece-filled t start end low high =
    let rest = length-drop start t in
    omega (arith, length-take-le (end - start) (drop start t) (omega (arith, rest)), rest)

simple-dynamic : (relaxed : Bool) (name : List ℕ) (ps : List PatItem) (t : List ℕ) (start : ℕ) → TakesAny relaxed (item.Column name kind.Dynamic) ps t start (start + 1)
unfolding TakesAny is_allowed is_number_before_star
simple-dynamic true name ps t start = (omega arith, λ end low high. refl)
simple-dynamic false name ps t start = (omega arith, λ end low high. rw (filled (slice_range t start end) (piece-filled t start end low high)) refl)

pub dynamic-any : (relaxed : Bool) (p : PatItem) (name : List ℕ) (k : Kind) (ps : List PatItem) (t : List ℕ) (start : ℕ) → p ≡ item.Column name k → k ≡ kind.Dynamic → TakesAny relaxed p ps t start (start + 1)
dynamic-any relaxed p name k ps t start is of = subst (λ q. TakesAny relaxed q ps t start (start + 1)) (sym (is ∙ ap (λ (x : Kind). item.Column name x) of)) (simple-dynamic relaxed name ps t start)

pub ruleset piece_steps = (star-any, relaxed-any, text-any, dynamic-any, place-within)

-- Numbers.

prefix-short : (p : ℕ → Bool) (xs : List ℕ) → prefix_len p xs ≤ length xs
prefix-short p [] = omega arith
prefix-short p (x ∷ xs) = elim (cases_Bool (p x)) [
  | inl t ↦ rw t (omega (arith, prefix-short p xs))
  | inr n ↦ rw n (omega arith)
]

pub digits-short : (t : List ℕ) → digits_length t ≤ length t
unfolding digits_length
digits-short t = prefix-short is_ascii_digit t

pub dash-some : (n : ℕ) → (n ≡ 0 → ⊥) → n + 1 ≡ behind_dash n
unfolding behind_dash
dash-some zero h = absurd (h refl)
dash-some (suc n) h = omega arith

pub ruleset number_steps = (digits-short, dash-some)
