-- Answers: what is computed from words and files, or the first refusal.
use Rattle.std.specs.Prelude.{List, [], ◌∷◌, Result, Ok, Err}
use Rattle.kql_words.specs.declared.refusal.Refusal.{Refusal}

-- a value, or why there is none
abbrev pub Answer : Type 0 → Type 0
Answer X = Result X Refusal

infixl 10 ◌>>=◌
-- what follows where nothing is refused so far
abbrev pub ◌>>=◌ : {X Y : Type 0} → Answer X → (X → Answer Y) → Answer Y
Ok x >>= f = f x
Err refusal >>= f = Err refusal

-- the first of these faults, or the value where there is none
abbrev pub unless : {X : Type 0} → List Refusal → X → Answer X
unless [] x = Ok x
unless (refusal ∷ refusals) x = Err refusal
