-- Faults as a list. What an operator asks of itself, once its parts are bound, is a list of faults in their order: window rows that are not
-- serialised (407), what may not stand in a subquery (416), columns of one name (411), names of one step or let (417), steps (413), types that clash
-- (415), ranges and counts (414), too many columns (412), and none (419).
use Rattle.std.specs.Prelude.{ℕ, Bool, List, [], ◌∷◌, ◌++◌, Ok, Err, fold, if◌then◌else◌}
use Rattle.kql_lexer.specs.declared.place.Place.{Place}
use Rattle.bind_expr.specs.Outcome.{Outcome, ◌>>=◌}
use Rattle.bind_expr.specs.declared.fault.BindFault.{BindFault}
use Rattle.bind_expr.specs.declared.fault.BindFault.TheVariants as fault

-- A code at a place, where it is one.
unfoldable pub fault_if : Bool → ℕ → Place → List BindFault
fault_if wrong code place = if wrong then fault.Refused code place ∷ [] else []

-- The first of these faults, or the value.
unfoldable pub unless : {X : Type 0} → List BindFault → X → Outcome X
unless [] x = Ok x
unless (f ∷ fs) x = Err f

-- What parts are bound to, from left to right: the first that is refused decides.
abbrev pub with_next : {X : Type 0} → Outcome (List X) → Outcome X → Outcome (List X)
with_next before next = do
  xs ← before
  x ← next
  Ok (xs ++ x ∷ [])

unfoldable pub each_bound : {X Y : Type 0} → (X → Outcome Y) → List X → Outcome (List Y)
each_bound bind parts = fold (λ before part. with_next before (bind part)) (Ok []) parts
