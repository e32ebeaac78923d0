use Rattle.std.proofs.Common.{◌≡◌, ◌≢◌, ℕ, ◌+◌, ◌<◌, Bool, true, cond, eqb, List, [], ◌∷◌, count_by, sym, ap, ◌∙◌, subst, arith, ⊎_elim, suc, zero, Contains}
use Rattle.std.specs.List.{filter, range_with_len, All}
use Rattle.std.specs.List.Sorted.{IsStrictlyIncreasing}
use Rattle.std.proofs.lemmas.List.FromFn.{length-range_with_len, get_or-range_with_len}
use Rattle.std.proofs.lemmas.List.Sums.{sum_by-cons}
use Rattle.std.proofs.lemmas.Bool.{cases_eq, cases_Bool, eq-eqb, ne_eqb}
use Rattle.board_core.specs.declared.events.Claim.{Claim}
use Rattle.board_core.specs.Replay.{named_worker}

-- how often a piece is named
abbrev pub times_named : List Claim → ℕ → ℕ
times_named claims piece = count_by (λ (c : Claim). eqb c.piece piece) claims

times_named-cons : (c : Claim) (claims : List Claim) (piece : ℕ) → times_named (c ∷ claims) piece ≡ cond (eqb c.piece piece) 1 0 + times_named claims piece
times_named-cons c claims piece = sum_by-cons (λ (x : Claim). cond (eqb x.piece piece) 1 0) c claims

times_named_same : (c : Claim) (claims : List Claim) (piece : ℕ) → c.piece ≡ piece → times_named (c ∷ claims) piece ≡ 1 + times_named claims piece
times_named_same c claims piece h = times_named-cons c claims piece ∙ ap {B = ℕ} (λ b. cond b 1 0 + times_named claims piece) (eq-eqb c.piece piece h)

times_named_other : (c : Claim) (claims : List Claim) (piece : ℕ) → c.piece ≢ piece → times_named (c ∷ claims) piece ≡ times_named claims piece
times_named_other c claims piece h = times_named-cons c claims piece ∙ (ap {B = ℕ} (λ b. cond b 1 0 + times_named claims piece) (ne_eqb c.piece piece h) ∙ omega arith)

named_worker_same : (c : Claim) (claims : List Claim) (piece : ℕ) → c.piece ≡ piece → named_worker (c ∷ claims) piece ≡ c.worker
named_worker_same c claims piece h = rw (eq-eqb c.piece piece h)

named_worker_other : (c : Claim) (claims : List Claim) (piece : ℕ) → c.piece ≢ piece → named_worker (c ∷ claims) piece ≡ named_worker claims piece
named_worker_other c claims piece h = rw (ne_eqb c.piece piece h)

Contains-tail : {X : Type 0} (x y : X) (xs : List X) → Contains xs y → Contains (x ∷ xs) y
Contains-tail x y xs h = (suc h.0, omega (arith, h.1), h.2)

-- a piece that is named is named with its worker
pub named : (claims : List Claim) (piece : ℕ) → 0 < times_named claims piece → Contains claims (record { piece = piece; worker = named_worker claims piece })
named [] piece h = absurd (omega (arith, h))
named (c ∷ claims) piece h =
    ⊎_elim
    (λ e. (
      0,
      omega arith,
      ap {B = Claim} (λ p. record { piece = p; worker = c.worker }) e ∙ ap {B = Claim} (λ w. record { piece = piece; worker = w }) (sym (named_worker_same c claims piece e)),
    ))
    (λ ne. subst (λ w. Contains (c ∷ claims) (record { piece = piece; worker = w })) (sym (named_worker_other c claims piece ne))
    (Contains-tail c _ claims (named claims piece (omega (arith, h, times_named_other c claims piece ne)))))
    (cases_eq c.piece piece)

-- what is among the claims is counted
counted : (claims : List Claim) (c : Claim) → Contains claims c → 0 < times_named claims c.piece
counted [] c h = absurd (omega (arith, h.1))
counted (x ∷ claims) c (zero, l, e) = omega (arith, times_named_same x claims c.piece (ap (λ (y : Claim). y.piece) e))
counted (x ∷ claims) c (suc k, l, e) =
    ⊎_elim
    (λ same. omega (arith, times_named_same x claims c.piece same))
    (λ ne. omega (arith, times_named_other x claims c.piece ne, counted claims c (k, omega (arith, l), e)))
    (cases_eq x.piece c.piece)

-- of a piece that is named once, what is among the claims has the named worker
pub named_alone : (claims : List Claim) (c : Claim) → Contains claims c → times_named claims c.piece ≡ 1 → named_worker claims c.piece ≡ c.worker
named_alone [] c h once = absurd (omega (arith, h.1))
named_alone (x ∷ claims) c (zero, l, e) once = named_worker_same x claims c.piece (ap (λ (y : Claim). y.piece) e) ∙ ap (λ (y : Claim). y.worker) e
named_alone (x ∷ claims) c (suc k, l, e) once =
    ⊎_elim
    (λ same. absurd (omega (arith, once, times_named_same x claims c.piece same, counted claims c (k, omega (arith, l), e))))
    (λ ne. named_worker_other x claims c.piece ne ∙ named_alone claims c (k, omega (arith, l), e) (sym (times_named_other x claims c.piece ne) ∙ once))
    (cases_eq x.piece c.piece)

-- what a filter keeps
pub Contains-filter : (p : ℕ → Bool) (xs : List ℕ) (x : ℕ) → Contains xs x → p x ≡ true → Contains (filter p xs) x
Contains-filter p [] x h pass = absurd (omega (arith, h.1))
Contains-filter p (y ∷ ys) x (zero, l, e) pass = subst (λ b. Contains (cond b (y ∷ filter p ys) (filter p ys)) x) (sym (ap p e ∙ pass)) (0, omega arith, e)
Contains-filter p (y ∷ ys) x (suc k, l, e) pass =
    let below = Contains-filter p ys x (k, omega (arith, l), e) pass in
    ⊎_elim
    (λ t. subst (λ b. Contains (cond b (y ∷ filter p ys) (filter p ys)) x) (sym t) (Contains-tail y x (filter p ys) below))
    (λ f. subst (λ b. Contains (cond b (y ∷ filter p ys) (filter p ys)) x) (sym f) below)
    (cases_Bool (p y))

pub Contains-range : (n x : ℕ) → x < n → Contains (range_with_len 0 n) x
Contains-range n x h = (x, omega (arith, h, length-range_with_len 0 n), get_or-range_with_len 0 n x x h ∙ omega arith)

pub range_below : (n : ℕ) → All (λ x. x < n) (range_with_len 0 n)
range_below n k d h =
    let below : k < n = omega (arith, h, length-range_with_len 0 n) in
    omega (arith, get_or-range_with_len 0 n k d below)

pub range_rises : (n : ℕ) → IsStrictlyIncreasing (range_with_len 0 n)
range_rises n k h =
    let below : k + 1 < n = omega (arith, h, length-range_with_len 0 n) in
    omega (arith, get_or-range_with_len 0 n k 0 (omega arith), get_or-range_with_len 0 n (k + 1) 0 below)
