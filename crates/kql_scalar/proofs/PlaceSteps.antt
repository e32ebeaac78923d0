-- What is left of places without some of them.
use Rattle.std.proofs.Common.{◌≡◌, ◌<◌, ◌≤◌, ◌+◌, ◌-◌, ℕ, Bool, true, false, cond, List, [], ◌∷◌, ◌++◌, length, take, drop, get_or, filter, refl, ap, ap₂, subst, sym, ◌∙◌, arith, inl, inr, eq-eqb}
use Rattle.std.specs.Prelude.{not, nat_eq, slice_index_or, if◌then◌else◌}
use Rattle.std.proofs.lemmas.Bool.{cases_Bool, eqb-true}
use Rattle.std.proofs.lemmas.List.{drop_more, drop_all, append-nil, append_assoc, take_all}
use Rattle.kql_scalar.specs.Places.{behind, is_first, without}

-- The first of these.

pub first-none : (x : ℕ) (ys : List ℕ) → length ys < 1 → false ≡ is_first x ys
unfolding is_first
first-none x [] l = refl
first-none x (y ∷ ys) l = absurd (omega arith)

pub first-some : (x : ℕ) (ys : List ℕ) → 1 ≤ length ys → nat_eq (slice_index_or ys 0 0) x ≡ is_first x ys
unfolding is_first
first-some x [] l = absurd (omega arith)
first-some x (y ∷ ys) l = refl

pub behind-none : (x : ℕ) (ys : List ℕ) → length ys < 1 → ys ≡ behind x ys
unfolding behind
behind-none x [] l = refl
behind-none x (y ∷ ys) l = absurd (omega arith)

pub behind-first : (x : ℕ) (ys : List ℕ) → 1 ≤ length ys → nat_eq (slice_index_or ys 0 0) x ≡ true → take (length ys - 1) (drop 1 ys) ≡ behind x ys
unfolding behind
behind-first x [] l e = absurd (omega arith)
behind-first x (y ∷ ys) l e = rw e (take_all (length (y ∷ ys) - 1) ys (omega arith))

pub behind-other : (x : ℕ) (ys : List ℕ) → 1 ≤ length ys → nat_eq (slice_index_or ys 0 0) x ≡ false → ys ≡ behind x ys
unfolding behind
behind-other x [] l e = absurd (omega arith)
behind-other x (y ∷ ys) l e = rw e refl

pub ruleset first_steps = (first-none, first-some)

pub ruleset behind_steps = (behind-none, behind-first, behind-other)

-- One place more.

without-more : (xs : List ℕ) (k d : ℕ) (rest : List ℕ) → k < length xs → without (drop k xs) rest ≡ cond (not (is_first (get_or xs k d) rest)) (get_or xs k d ∷ []) [] ++ without (drop (k + 1) xs) (behind (get_or xs k d) rest)
unfolding without
without-more xs k d rest l = ap (λ ys. without ys rest) (drop_more xs k d l)

without-none : (ys : List ℕ) → without [] ys ≡ []
unfolding without
without-none ys = refl

pub without-turn : (xs ys rest next before after : List ℕ) (k d : ℕ) (test : Bool) → k < length xs → without xs ys ≡ before ++ without (drop k xs) rest → test ≡ is_first (get_or xs k d) rest → after ≡ before ++ cond (not test) (get_or xs k d ∷ []) [] → next ≡ behind (get_or xs k d) rest → without xs ys ≡ after ++ without (drop (k + 1) xs) next
without-turn xs ys rest next before after k d test l made first added moved =
    made
    ∙ (ap (λ zs. before ++ zs) (without-more xs k d rest l)
    ∙ (sym (append_assoc before (cond (not (is_first (get_or xs k d) rest)) (get_or xs k d ∷ []) []) (without (drop (k + 1) xs) (behind (get_or xs k d) rest)))
    ∙ (ap (λ b. before ++ cond (not b) (get_or xs k d ∷ []) [] ++ without (drop (k + 1) xs) (behind (get_or xs k d) rest)) (sym first)
    ∙ ap₂ (λ zs r. zs ++ without (drop (k + 1) xs) r) (sym added) (sym moved))))

pub without-end : (xs ys rest left : List ℕ) (k : ℕ) → length xs ≤ k → without xs ys ≡ left ++ without (drop k xs) rest → left ≡ without xs ys
without-end xs ys rest left k l made = sym (made ∙ (ap (λ zs. left ++ without zs rest) (drop_all k xs l) ∙ (ap (λ zs. left ++ zs) (without-none rest) ∙ append-nil left)))

pub ruleset without_steps = (without-turn, without-end)

-- Without those that pass a test, those are left that do not.

eq-self : (x : ℕ) → nat_eq x x ≡ true
eq-self x = eq-eqb x x refl

without-nothing : (xs : List ℕ) → without xs [] ≡ xs
unfolding without is_first behind
without-nothing [] = refl
without-nothing (x ∷ xs) = ap (λ ys. x ∷ ys) (without-nothing xs)

first-passes : (p : ℕ → Bool) (xs : List ℕ) (z : ℕ) (zs : List ℕ) → filter p xs ≡ z ∷ zs → p z ≡ true
first-passes p [] z zs e = cc
first-passes p (x ∷ xs) z zs e = elim (cases_Bool (p x)) [
  | inl h ↦ let g : x ∷ filter p xs ≡ z ∷ zs = subst (λ b. (if b then x ∷ filter p xs else filter p xs) ≡ z ∷ zs) h e in cc
  | inr h ↦ first-passes p xs z zs (subst (λ b. (if b then x ∷ filter p xs else filter p xs) ≡ z ∷ zs) h e)
]

apart : (p : ℕ → Bool) (z x : ℕ) → p z ≡ true → p x ≡ false → nat_eq z x ≡ false
apart p z x t f = elim (cases_Bool (nat_eq z x)) [
  | inl e ↦ let same : z ≡ x = eqb-true z x e in let g : true ≡ false = sym t ∙ (ap p same ∙ f) in cc
  | inr e ↦ e
]

stays : (p : ℕ → Bool) (x : ℕ) (xs ys : List ℕ) → p x ≡ false → ys ≡ filter p xs → without (x ∷ xs) ys ≡ x ∷ without xs ys
unfolding without is_first behind
stays p x xs [] f e = refl
stays p x xs (z ∷ zs) f e = rw (apart p z x (first-passes p xs z zs (sym e)) f) refl

goes : (x : ℕ) (xs ys : List ℕ) → without (x ∷ xs) (x ∷ ys) ≡ without xs ys
unfolding without is_first behind
goes x xs ys = rw (eq-self x) refl

pub without-kept : (p : ℕ → Bool) (xs : List ℕ) → without xs (filter p xs) ≡ filter (λ i. not (p i)) xs
without-kept p [] = without-none []
without-kept p (x ∷ xs) = elim (cases_Bool (p x)) [
  | inl h ↦ rw (h, goes x xs (filter p xs), without-kept p xs) refl
  | inr h ↦ rw (h, stays p x xs (filter p xs) h refl, without-kept p xs) refl
]
