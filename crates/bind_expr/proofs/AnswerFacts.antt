-- Answers, made and passed on.
use Rattle.std.proofs.Common.{◌≡◌, ℕ, refl, sym, ◌∙◌, subst}
use Rattle.std.specs.Prelude.{Result, Ok, Err}
use Rattle.kql_lexer.specs.declared.place.Place.{Place}
use Rattle.bind_expr.specs.Outcome.{Answers, Outcome, answers, ◌>>=◌}
use Rattle.bind_expr.specs.declared.fault.BindFault.{BindFault}
use Rattle.bind_expr.specs.declared.fault.BindFault.TheVariants as fault

pub answers-ok : {X : Type 0} (d : Outcome X) (x : X) → d ≡ Ok x → Answers (Ok x) d
answers-ok d x e = record { holds = e }

pub answers-refused : {X : Type 0} (d : Outcome X) (code : ℕ) (place : Place) → d ≡ Err (fault.Refused code place) → Answers (Err (fault.Refused code place)) d
answers-refused d code place e = record { holds = e }

pub answers-lost : {X : Type 0} (d : Outcome X) → Answers (Err fault.OutOfMemory) d
answers-lost d = record { holds = tt }

-- What is the definition's value is an answer.
pub answers-same : {X : Type 0} (r d : Outcome X) → r ≡ d → Answers r d
answers-same (Ok x) d e = record { holds = sym e }
answers-same (Err (fault.Refused code place)) d e = record { holds = sym e }
answers-same (Err fault.OutOfMemory) d e = record { holds = tt }

-- A fault passes on.
pub answers-fault : {X Y : Type 0} (f : BindFault) (d : Outcome X) (k : X → Outcome Y) → Answers {X = X} (Err f) d → Answers {X = Y} (Err f) (d >>= k)
answers-fault (fault.Refused code place) d k a = record { holds = rw (a.holds) refl }
answers-fault fault.OutOfMemory d k a = record { holds = tt }

-- What answers want of memory is want of memory, which answers all.
pub lost-all : {X : Type 0} (r d : Outcome X) → Answers r (Err fault.OutOfMemory) → Answers r d
lost-all (Ok y) d h = let e : Err fault.OutOfMemory ≡ Ok y = h.holds in cc
lost-all (Err (fault.Refused code place)) d h = let e : Err fault.OutOfMemory ≡ Err (fault.Refused code place) = h.holds in cc
lost-all (Err fault.OutOfMemory) d h = record { holds = tt }

-- A step over what was answered is a step over the definition.
pub goes_on : {X Y : Type 0} (r d : Outcome X) (k : X → Outcome Y) (result : Outcome Y) → Answers r d → Answers result (r >>= k) → Answers result (d >>= k)
goes_on (Ok x) d k result a h = rw (a.holds) h
goes_on (Err (fault.Refused code place)) d k result a h = rw (a.holds) h
goes_on (Err fault.OutOfMemory) d k result a h = lost-all result (d >>= k) h

-- The same under a function that passes want of memory on, and behind another step.
pub goes_along : {X Y : Type 0} (f : Outcome X → Outcome Y) → f (Err fault.OutOfMemory) ≡ Err fault.OutOfMemory → (r d : Outcome X) (result : Outcome Y) → Answers r d → Answers result (f r) → Answers result (f d)
goes_along f s (Ok x) d result a h = rw (a.holds) h
goes_along f s (Err (fault.Refused code place)) d result a h = rw (a.holds) h
goes_along f s (Err fault.OutOfMemory) d result a h = lost-all result (f d) (subst (λ x. Answers result x) s h)

pub goes_under : {W X Y : Type 0} (first : Outcome W) (r d : Outcome X) (k : W → X → Outcome Y) (result : Outcome Y) → Answers r d → Answers result (first >>= λ w. r >>= λ x. k w x) → Answers result (first >>= λ w. d >>= λ x. k w x)
goes_under (Ok w) r d k result a h = goes_on r d (k w) result a h
goes_under (Err e) r d k result a h = h

pub goes_under_two : {V W X Y : Type 0} (first : Outcome V) (second : Outcome W) (r d : Outcome X) (k : V → W → X → Outcome Y) (result : Outcome Y) → Answers r d → Answers result (first >>= λ v. second >>= λ w. r >>= λ x. k v w x) → Answers result (first >>= λ v. second >>= λ w. d >>= λ x. k v w x)
goes_under_two (Ok v) second r d k result a h = goes_under second r d (k v) result a h
goes_under_two (Err e) second r d k result a h = h

pub answers-along : {X : Type 0} (r d e : Outcome X) → Answers r d → d ≡ e → Answers r e
answers-along r d e a same = subst (λ x. Answers r x) same a

pub ruleset answer_steps = (answers-ok, answers-refused, answers-lost)
