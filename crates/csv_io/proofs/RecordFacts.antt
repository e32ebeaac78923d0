-- The records of a text, one after another.
use Rattle.std.proofs.Common.{◌≡◌, ◌⊎◌, ◌+◌, ◌-◌, ◌≤◌, ◌∷◌, ◌∙◌, ℕ, zero, suc, List, [], length, refl, sym, ap, subst, inl, inr, arith, add-one}
use Rattle.std.specs.Prelude.{Option, Some, None, ⊤}
use Rattle.std.proofs.lemmas.Bool.{cases_Bool}
use Rattle.csv.specs.Machine.{Read, next_record, step, is_end, fields_after, field_after, ends_at_end}
use Rattle.csv.specs.Reading.{default_config, records_from}
use Rattle.csv.specs.declared.parser.Config.{Config}
use Rattle.csv.specs.declared.parser.State.{State}

abbrev rest_of : Option Read → List ℕ
rest_of None = []
rest_of (Some p) = p.2

-- a record takes at least a byte, if there is one
shrinks : (cfg : Config) (s : State) (fs : List (List ℕ)) (f xs : List ℕ) (p : Read) → next_record cfg s fs f xs ≡ Some p → length p.2 ≤ length xs - 1
unfolding next_record
shrinks cfg s fs f [] p e = elim (cases_Bool (ends_at_end s)) [
  | inl t ↦ let q = ap (λ o. length (rest_of o)) (rw t at e) in omega arith
  | inr n ↦ cc (rw n at e)
]
shrinks cfg s fs f (c ∷ rest) p e = elim (cases_Bool (is_end (step cfg s c).1)) [
  | inl t ↦ let q = ap (λ o. length (rest_of o)) (rw t at e) in omega arith
  | inr n ↦ let q = shrinks cfg (step cfg s c).0 (fields_after (step cfg s c).1 fs f) (field_after (step cfg s c).1 c f) rest p (rw n at e) in omega arith
]

abbrev EndsAfter : Config → Option Read → Type 0
EndsAfter cfg None = ⊤
EndsAfter cfg (Some p) = next_record cfg p.1 [] [] p.2 ≡ None

-- the end of the text ends one record at most
after-empty : (cfg : Config) (s : State) (fs : List (List ℕ)) (f : List ℕ) (p : Read) → next_record cfg s fs f [] ≡ Some p → next_record cfg p.1 [] [] p.2 ≡ None
unfolding next_record
after-empty cfg s fs f p e = elim (cases_Bool (ends_at_end s)) [
  | inl t ↦ subst (EndsAfter cfg) (rw t at e) refl
  | inr n ↦ cc (rw n at e)
]

-- so many turns read all records
abbrev Enough : Config → ℕ → State → List ℕ → Type 0
Enough cfg n s xs = (length xs + 1 ≤ n) ⊎ (next_record cfg s [] [] xs ≡ None)

enough-next : (cfg : Config) (n : ℕ) (s : State) (xs : List ℕ) (p : Read) → Enough cfg (suc n) s xs → next_record cfg s [] [] xs ≡ Some p → Enough cfg n p.1 p.2
enough-next cfg n s xs p (inr none) e = cc
enough-next cfg n s [] p (inl le) e = inr (after-empty cfg s [] [] p e)
enough-next cfg n s (c ∷ rest) p (inl le) e = inl (omega (arith, shrinks cfg s [] [] (c ∷ rest) p e))

records-none : (cfg : Config) (n : ℕ) (s : State) (xs : List ℕ) → next_record cfg s [] [] xs ≡ None → records_from cfg n s xs ≡ []
unfolding records_from
records-none cfg zero s xs e = refl
records-none cfg (suc n) s xs e = rw e refl

records-some : (cfg : Config) (n : ℕ) (s : State) (xs : List ℕ) (p : Read) → next_record cfg s [] [] xs ≡ Some p → records_from cfg (suc n) s xs ≡ p.0 ∷ records_from cfg n p.1 p.2
unfolding records_from
records-some cfg n s xs p e = rw e refl

fuel-by : (cfg : Config) (n m : ℕ) (s : State) (xs : List ℕ) (o : Option Read) → next_record cfg s [] [] xs ≡ o → Enough cfg (suc n) s xs → Enough cfg (suc m) s xs
    → ((t : State) (ys : List ℕ) → Enough cfg n t ys → Enough cfg m t ys → records_from cfg n t ys ≡ records_from cfg m t ys)
    → records_from cfg (suc n) s xs ≡ records_from cfg (suc m) s xs
fuel-by cfg n m s xs None e a b less = records-none cfg (suc n) s xs e ∙ sym (records-none cfg (suc m) s xs e)
fuel-by cfg n m s xs (Some p) e a b less =
    records-some cfg n s xs p e
    ∙ (ap (λ l. p.0 ∷ l) (less p.1 p.2 (enough-next cfg n s xs p a e) (enough-next cfg m s xs p b e))
    ∙ sym (records-some cfg m s xs p e))

-- more turns than enough read no more
pub fuel : (cfg : Config) (n m : ℕ) (s : State) (xs : List ℕ) → Enough cfg n s xs → Enough cfg m s xs → records_from cfg n s xs ≡ records_from cfg m s xs
fuel cfg zero m s xs (inl a) b = absurd (omega arith)
fuel cfg zero m s xs (inr a) b = records-none cfg zero s xs a ∙ sym (records-none cfg m s xs a)
fuel cfg (suc n) zero s xs a (inl b) = absurd (omega arith)
fuel cfg (suc n) zero s xs a (inr b) = records-none cfg (suc n) s xs b ∙ sym (records-none cfg zero s xs b)
fuel cfg (suc n) (suc m) s xs a b = fuel-by cfg n m s xs (next_record cfg s [] [] xs) refl a b (λ t ys c d. fuel cfg n m t ys c d)

-- the records of a text from a state
abbrev pub left : State → List ℕ → List (List (List ℕ))
left s xs = records_from default_config (length xs + 1) s xs

pub left-some : (s : State) (xs : List ℕ) (p : Read) → next_record default_config s [] [] xs ≡ Some p → left s xs ≡ p.0 ∷ left p.1 p.2
left-some s xs p e =
    rw (add-one (length xs)) (records-some default_config (length xs) s xs p e
    ∙ ap (λ l. p.0 ∷ l) (fuel default_config (length xs) (length p.2 + 1) p.1 p.2
    (enough-next default_config (length xs) s xs p (inl (omega arith)) e) (inl (omega arith))))

-- no record is left where nothing is
pub left-none : (s : State) (xs : List ℕ) → next_record default_config s [] [] xs ≡ None → left s xs ≡ []
left-none s xs e = records-none default_config (length xs + 1) s xs e
