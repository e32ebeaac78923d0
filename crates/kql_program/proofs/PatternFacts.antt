-- No pattern is refused but by the maker.
use Rattle.std.proofs.Common.{◌≡◌, ◌∙◌, ◌==◌, ℕ, true, List, ap, arith, inl, inr, refl, subst, sym}
use Rattle.std.specs.Prelude.{Option, Some, None, IsSome, Result, Ok, Err, IsErrAnd}
use Rattle.std.proofs.lemmas.Bool.{cases_Bool}
use Rattle.std.proofs.lemmas.Bool.Decides.{nat_tests}
use Rattle.bind_expr.specs.Outcome.{Outcome}
use Rattle.bind_expr.specs.declared.fault.BindFault.{BindFault}
use Rattle.bind_expr.specs.declared.fault.BindFault.TheVariants as bind
use Rattle.bind_query.specs.Laws.{is_query_code}
use Rattle.kql_lexer.specs.declared.place.Place.{Place}
use Rattle.kql_lexer.specs.declared.token.Token.{Token}
use Rattle.kql_outside.specs.Causes.{Rose}
use Rattle.kql_parser.specs.Parsing.{Parses, Refuses}
use Rattle.kql_syntax.specs.declared.parse.SyntaxFault.{SyntaxFault}
use Rattle.kql_syntax.specs.declared.parse.SyntaxFault.TheVariants as syntax
use Rattle.kql_words.specs.Refusals.{Answer, ◌>>=◌}
use Rattle.kql_words.specs.declared.refusal.Refusal.{Refusal}
use Rattle.kql_words.specs.declared.refusal.Refusal.TheVariants as refusal
use Rattle.pattern_run.specs.Patterned.{faults_after}
use Rattle.pattern_run.specs.declared.fault.PatternFault.{PatternFault}
use Rattle.pattern_run.specs.declared.fault.PatternFault.TheVariants as pattern
use Rattle.kql_program.specs.Outcomes.{IfBadPattern, RefusesNoPattern}
use Rattle.kql_program.specs.Refusals.{Gives, IsBadPattern, bad_pattern_code, bad_pattern_in, bad_pattern_of}
use Rattle.kql_program.specs.Stops.{bind_stop, pattern_stop, syntax_stop}
use Rattle.kql_program.specs.declared.refusal.Stop.{Stop}
use Rattle.kql_program.specs.declared.refusal.Stop.TheVariants as stop

-- a stop tells of a refused pattern only where this holds
abbrev pub Blames : Type 0 → Stop → Type 0
Blames Cause s = (place : Place) → s ≡ stop.Refused (refusal.Query bad_pattern_code place) → Cause

abbrev halted : {X : Type 0} → Stop → Result X Stop
halted s = Err s

stop-same : {X : Type 0} (s t : Stop) → halted {X = X} s ≡ halted t → s ≡ t
stop-same s t e = cc

pub refusal-same : (q r : Refusal) → stop.Refused q ≡ stop.Refused r → q ≡ r
refusal-same q r e = cc

code-same : (c d : ℕ) (p q : Place) → refusal.Query c p ≡ refusal.Query d q → c ≡ d
code-same c d p q e = cc

-- Refusals of a pattern.

pub bad-pattern : (place : Place) → IsSome (bad_pattern_of (refusal.Query bad_pattern_code place))
bad-pattern place = refl

pub by-code : (code : ℕ) (place : Place) → IsSome (bad_pattern_of (refusal.Query code place)) → code ≡ bad_pattern_code
by-code code place h = elim (cases_Bool (code == bad_pattern_code)) [
  | inl t ↦ grind (arith, nat_tests)
  | inr f ↦ let no = rw f at h in cc no
]

-- a refusal that tells of a pattern
pub bad-is : (r : Refusal) → IsSome (bad_pattern_of r) → (place : Place) × (r ≡ refusal.Query bad_pattern_code place)
bad-is (refusal.Query code place) h = (place, ap (λ (c : ℕ). refusal.Query c place) (by-code code place h))
bad-is (refusal.Usage word code) h = cc h
bad-is (refusal.Data file code row column) h = cc h

-- an answer that tells of none
abbrev pub NoPattern : {X : Type 0} → Answer X → Type 0
NoPattern a = IsBadPattern a → ⊥

pub value-pattern : {X : Type 0} (x : X) → NoPattern {X = X} (Ok x)
value-pattern x h = cc h

not-some : (o : Option Place) → (IsSome o → ⊥) → o ≡ None
not-some None n = refl
not-some (Some place) n = absurd (n refl)

pub none-bad : {X : Type 0} (a : Answer X) → NoPattern a → bad_pattern_in a ≡ None
none-bad a n = not-some (bad_pattern_in a) n

pub then-pattern : {X Y : Type 0} (a : Answer X) (f : X → Answer Y) → NoPattern a → ((x : X) → NoPattern (f x)) → NoPattern (a >>= f)
then-pattern (Ok x) f n m h = m x h
then-pattern (Err q) f n m h = n h

-- Calls.

-- an error that `?` passed on
pub raised-pattern : {X : Type 0} (Cause : Type 0) (r : Result X Stop) (s : Stop) → IsErrAnd r (λ e. e ≡ s) → Blames Cause s → IfBadPattern Cause r
raised-pattern Cause (Ok x) s i k place e = absurd i
raised-pattern {X = X} Cause (Err t) s i k place e = k place (sym i ∙ stop-same {X = X} t (stop.Refused (refusal.Query bad_pattern_code place)) e)

-- the stop that a call answered
pub stopped-pattern : {X : Type 0} (Cause : Type 0) (s : Stop) → IfBadPattern {X = X} Cause (Err s) → Blames Cause s
stopped-pattern Cause s n place e = n place (ap Err e)

-- what tells of no pattern tells of none for any cause
pub never-blames : (Cause : Type 0) (s : Stop) → Blames ⊥ s → Blames Cause s
never-blames Cause s n place e = absurd (n place e)

pub gives-pattern : {X : Type 0} (a : Answer X) (r : Result X Stop) → NoPattern a → Gives a r → RefusesNoPattern r
gives-pattern a (Ok x) n g place e = cc e
gives-pattern {X = X} a (Err (stop.Refused q)) n g place e =
    let same : q ≡ refusal.Query bad_pattern_code place = refusal-same q _ (stop-same {X = X} (stop.Refused q) (stop.Refused (refusal.Query bad_pattern_code place)) e) in
    n (subst (λ (b : Answer X). IsBadPattern b) (sym (g ∙ ap Err same)) (bad-pattern place))
gives-pattern a (Err stop.ReadFault) n g place e = absurd g
gives-pattern a (Err stop.OutOfMemory) n g place e = cc e

-- the syntax
syntax-code : (tokens : List Token) (code : ℕ) (place : Place) → Refuses tokens code place → code ≡ bad_pattern_code → ⊥
syntax-code tokens code place h e = elim h.cause [
  | inl (c, x) ↦ absurd (omega (arith, c, e))
  | inr (inl (c, x)) ↦ absurd (omega (arith, c, e))
  | inr (inr (c, x)) ↦ absurd (omega (arith, c, e))
]

pub syntax-pattern : (tokens : List Token) (fault : SyntaxFault) → Parses tokens (Err fault) → Blames ⊥ (syntax_stop fault)
syntax-pattern tokens (syntax.Refused code p) h place e = syntax-code tokens code p h (code-same code bad_pattern_code p place (refusal-same (refusal.Query code p) (refusal.Query bad_pattern_code place) e))
syntax-pattern tokens syntax.OutOfMemory h place e = cc e

-- binding
abbrev unbound : {X : Type 0} → BindFault → Outcome X
unbound fault = Err fault

no-query-code : is_query_code bad_pattern_code ≡ true → ⊥
unfolding is_query_code
no-query-code e = cc e

pub bind-pattern : {X : Type 0} (fault : BindFault) → ((code : ℕ) (place : Place) → unbound {X = X} fault ≡ unbound (bind.Refused code place) → is_query_code code ≡ true) → Blames ⊥ (bind_stop fault)
bind-pattern (bind.Refused code p) codes place e =
    let same : code ≡ bad_pattern_code = code-same code bad_pattern_code p place (refusal-same (refusal.Query code p) (refusal.Query bad_pattern_code place) e) in
    no-query-code (subst (λ (c : ℕ). is_query_code c ≡ true) same (codes code p refl))
bind-pattern bind.OutOfMemory codes place e = cc e

-- a pattern call that may not stand, and the maker
here-code : 420 ≡ bad_pattern_code → ⊥
here-code e = absurd (omega (arith, e))

pub called-pattern : (word : Place) → Blames ⊥ (stop.Refused (refusal.Query 420 word))
called-pattern word place e = here-code (code-same 420 bad_pattern_code word place (refusal-same (refusal.Query 420 word) (refusal.Query bad_pattern_code place) e))

pub made-pattern : (X : Type 0) (fault : PatternFault) (b n : ℕ) → n ≡ faults_after {T = X} (Err fault) b → Blames (Rose b n) (pattern_stop fault)
made-pattern X (pattern.PatternHere word) b n c place e = absurd (called-pattern word place e)
made-pattern X (pattern.BadPattern literal) b n c place e = omega (arith, c)
made-pattern X pattern.OutOfMemory b n c place e = cc e
