-- How far a string goes.
use Rattle.std.proofs.Common.{◌≡◌, ◌<◌, ◌+◌, ◌-◌, ℕ, suc, zero, Bool, true, false, List, [], ◌∷◌, ◌++◌, length, get_or, take, cond, eqb, Option, Some, None, refl, sym, ap, ◌∙◌, arith}
use Rattle.std.specs.Prelude.{option_and_then}
use Rattle.std.proofs.lemmas.List.{take_more}
use Rattle.std.proofs.lemmas.Bool.Decides.{nat_tests}
use Rattle.kql_lexer.specs.Strings.{in_either, in_string, in_verbatim, leaves}
use Rattle.kql_lexer.specs.declared.strings.Inside.{Inside}
use Rattle.kql_lexer.specs.declared.strings.Inside.TheVariants.{Open, Kept, Closed}

pub leaves_none : (step : Inside → ℕ → Option Inside) (s : Inside) → leaves step s [] ≡ Some s
unfolding leaves
leaves_none step s = refl

leaves_only : (step : Inside → ℕ → Option Inside) (o : Option Inside) → option_and_then (λ next. leaves step next []) o ≡ o
unfolding leaves
leaves_only step None = refl
leaves_only step (Some n) = refl

leaves_push : (step : Inside → ℕ → Option Inside) (s t : Inside) (xs : List ℕ) (b : ℕ) → leaves step s xs ≡ Some t → leaves step s (xs ++ b ∷ []) ≡ step t b
unfolding leaves
leaves_push step s t [] b h =
    let same : s ≡ t = cc in
    ap (λ u. option_and_then (λ next. leaves step next []) (step u b)) same ∙ leaves_only step (step t b)
leaves_push step s t (x ∷ xs) b h =
    elim (step s x) as (λ o. option_and_then (λ next. leaves step next xs) o ≡ Some t → option_and_then (λ next. leaves step next (xs ++ b ∷ [])) o ≡ step t b) [
      | None ↦ λ h'. absurd cc
      | Some next ↦ λ h'. leaves_push step next t xs b h'
    ] h

-- one byte more
pub leaves_more : (step : Inside → ℕ → Option Inside) (s t u : Inside) (xs : List ℕ) (i d : ℕ) → i < length xs → leaves step s (take i xs) ≡ Some t → step t (get_or xs i d) ≡ Some u
    → leaves step s (take (i + 1) xs) ≡ Some u
leaves_more step s t u xs i d h e f = ap (leaves step s) (take_more xs i d h) ∙ leaves_push step s t (take i xs) (get_or xs i d) e ∙ f

-- no longer front goes on where one stopped
pub leaves_past : (step : Inside → ℕ → Option Inside) (s t : Inside) (xs : List ℕ) (n m : ℕ) → leaves step s (take n xs) ≡ Some t → step t (get_or xs n 0) ≡ None → n < length xs → n < m
    → leaves step s (take m xs) ≡ None
unfolding leaves
leaves_past step s t [] n m h e k l = absurd (omega arith)
leaves_past step s t (b ∷ bs) n zero h e k l = absurd (omega arith)
leaves_past step s t (b ∷ bs) zero (suc m) h e k l =
    let same : s ≡ t = cc in
    ap (option_and_then (λ next. leaves step next (take m bs))) (ap (λ u. step u b) same ∙ e)
leaves_past step s t (b ∷ bs) (suc n) (suc m) h e k l =
    elim (step s b) as (λ o. option_and_then (λ next. leaves step next (take n bs)) o ≡ Some t → option_and_then (λ next. leaves step next (take m bs)) o ≡ None) [
      | None ↦ λ h'. absurd cc
      | Some next ↦ λ h'. leaves_past step next t bs n m h' e (omega arith) (omega arith)
    ] h

-- what closes a string is its sign
closes : (v : Bool) (sign : ℕ) (s : Inside) (b : ℕ) → in_either v sign s b ≡ Some Closed → b ≡ sign
unfolding in_string in_verbatim
closes false sign Open b h = opened (eqb b 10) (eqb b 92) (eqb b sign) refl h where
  opened : (v1 v2 v3 : Bool) → eqb b sign ≡ v3 → cond v1 None (cond v2 (Some Kept) (cond v3 (Some Closed) (Some Open))) ≡ Some Closed → b ≡ sign
  opened true v2 v3 e h = absurd cc
  opened false true v3 e h = absurd cc
  opened false false true e h = grind (arith, nat_tests)
  opened false false false e h = absurd cc
closes false sign Kept b h = kept (eqb b 10) h where
  kept : (v : Bool) → cond v None (Some Open) ≡ Some Closed → b ≡ sign
  kept true h = absurd cc
  kept false h = absurd cc
closes false sign Closed b h = absurd cc
closes true sign Open b h = opened (eqb b 10) (eqb b sign) refl h where
  opened : (v1 v3 : Bool) → eqb b sign ≡ v3 → cond v1 None (cond v3 (Some Closed) (Some Open)) ≡ Some Closed → b ≡ sign
  opened true v3 e h = absurd cc
  opened false true e h = grind (arith, nat_tests)
  opened false false e h = absurd cc
closes true sign Kept b h = absurd cc
closes true sign Closed b h = closed (eqb b sign) h where
  closed : (v : Bool) → cond v (Some Open) None ≡ Some Closed → b ≡ sign
  closed true h = absurd cc
  closed false h = absurd cc

last_closes : (v : Bool) (sign : ℕ) (s : Inside) (b : ℕ) (bs : List ℕ) → leaves (in_either v sign) s (b ∷ bs) ≡ Some Closed → get_or (b ∷ bs) (length bs) 0 ≡ sign
unfolding leaves
last_closes v sign s b [] h = closes v sign s b (sym (leaves_only (in_either v sign) (in_either v sign s b)) ∙ h)
last_closes v sign s b (c ∷ cs) h =
    elim (in_either v sign s b) as (λ o. option_and_then (λ next. leaves (in_either v sign) next (c ∷ cs)) o ≡ Some Closed → get_or (c ∷ cs) (length cs) 0 ≡ sign) [
      | None ↦ λ h'. absurd cc
      | Some next ↦ λ h'. last_closes v sign next c cs h'
    ] h

-- the last byte of a closed string is its sign, and there is one
pub closed_last : (v : Bool) (sign : ℕ) (xs : List ℕ) → leaves (in_either v sign) Open xs ≡ Some Closed → (0 < length xs) × (get_or xs (length xs - 1) 0 ≡ sign)
closed_last v sign [] h = let none : Some Open ≡ Some Closed = sym (leaves_none (in_either v sign) Open) ∙ h in absurd cc
closed_last v sign (b ∷ bs) h = (omega arith, ap (λ n. get_or (b ∷ bs) n 0) (omega arith) ∙ last_closes v sign Open b bs h)

pub ruleset run_steps = (leaves_none, leaves_more)
