-- What binding gives: a value, or the first fault.
use Rattle.std.specs.Prelude.{◌≡◌, Result, Ok, Err, ⊤}
use Rattle.bind_expr.specs.declared.fault.BindFault.{BindFault}
use Rattle.bind_expr.specs.declared.fault.BindFault.TheVariants as fault

abbrev pub Outcome : Type 0 → Type 0
Outcome X = Result X BindFault

infixl 10 ◌>>=◌
abbrev pub ◌>>=◌ : {X Y : Type 0} → Outcome X → (X → Outcome Y) → Outcome Y
Ok x >>= f = f x
Err e >>= f = Err e

-- An answer is the definition's, but for want of memory.
abbrev pub answers : {X : Type 0} → Outcome X → Outcome X → Type 0
answers (Ok x) d = d ≡ Ok x
answers (Err (fault.Refused code place)) d = d ≡ Err (fault.Refused code place)
answers (Err fault.OutOfMemory) d = ⊤

pub record Answers {X : Type 0} (r : Outcome X) (d : Outcome X) : Type 0 where
  pub holds : answers r d
