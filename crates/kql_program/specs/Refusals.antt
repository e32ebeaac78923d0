-- How calls give answers: what is computed from words and files, or the first refusal.
use Rattle.std.specs.Prelude.{◌≡◌, ◌==◌, ℕ, List, ◌∷◌, ◌++◌, Option, Some, None, IsSome, Result, Ok, Err, if◌then◌else◌}
use Rattle.kql_lexer.specs.declared.place.Place.{Place}
use Rattle.kql_words.specs.Refusals.{Answer, ◌>>=◌}
use Rattle.kql_words.specs.declared.refusal.Refusal.{Refusal}
use Rattle.kql_words.specs.declared.refusal.Refusal.TheVariants as refusal
use Rattle.kql_program.specs.declared.refusal.Stop.{Stop}
use Rattle.kql_program.specs.declared.refusal.Stop.TheVariants as stop

-- a value in front of those that follow
abbrev pub with_first : {X : Type 0} → X → Answer (List X) → Answer (List X)
with_first x rest = rest >>= λ xs. Ok (x ∷ xs)

-- these values, and then those that follow
abbrev pub after : {X : Type 0} → List X → Answer (List X) → Answer (List X)
after xs rest = rest >>= λ more. Ok (xs ++ more)

-- the code of a pattern that the maker refused
abbrev pub bad_pattern_code : ℕ
bad_pattern_code = 501

-- the literal of the pattern that the maker refused, where a refusal tells that
abbrev pub bad_pattern_of : Refusal → Option Place
bad_pattern_of (refusal.Query code place) = if code == bad_pattern_code then Some place else None
bad_pattern_of (refusal.Usage word code) = None
bad_pattern_of (refusal.Data file code row column) = None

-- the same of an answer
abbrev pub bad_pattern_in : {X : Type 0} → Answer X → Option Place
bad_pattern_in (Ok x) = None
bad_pattern_in (Err r) = bad_pattern_of r

-- the answer is that the maker refused a pattern
abbrev pub IsBadPattern : {X : Type 0} → Answer X → Type 0
IsBadPattern a = IsSome (bad_pattern_in a)

-- a call gave what the answer is; want of memory alone may stand in its place
abbrev pub Gives : {X : Type 0} → Answer X → Result X Stop → Type 0
Gives answer (Ok x) = answer ≡ Ok x
Gives answer (Err (stop.Refused refusal)) = answer ≡ Err refusal
Gives answer (Err stop.ReadFault) = ⊥
Gives answer (Err stop.OutOfMemory) = Unit {0}

-- the same of a call that reads files, where a fault of the shelf may stand in its place too
abbrev pub Computes : {X : Type 0} → Answer X → Result X Stop → Type 0
Computes answer (Err stop.ReadFault) = Unit {0}
Computes answer result = Gives answer result

-- a call gave an answer of these; want of memory alone may stand in its place
abbrev pub Finds : {X : Type 0} → (Answer X → Type 0) → Result X Stop → Type 0
Finds Is (Ok x) = Is (Ok x)
Finds Is (Err (stop.Refused refusal)) = Is (Err refusal)
Finds Is (Err stop.ReadFault) = ⊥
Finds Is (Err stop.OutOfMemory) = Unit {0}

-- a call that reads files gave an answer of these; want of memory or a fault of the shelf may stand in its place
abbrev pub Reaches : {X : Type 0} → (Answer X → Type 0) → Result X Stop → Type 0
Reaches Is (Ok x) = Is (Ok x)
Reaches Is (Err (stop.Refused refusal)) = Is (Err refusal)
Reaches Is (Err stop.ReadFault) = Unit {0}
Reaches Is (Err stop.OutOfMemory) = Unit {0}
