-- What a query is bound to: it fits the tables, and its pattern calls are refused, or answered.
use Rattle.std.proofs.Common.{◌≡◌, ◌<◌, ◌≤◌, ◌+◌, ℕ, List, get_or, length, take, inl, inr, refl, subst, sym}
use Rattle.std.specs.Prelude.{All, ℤ, true, None, Option, Some, Result, Ok, Err, IfSome, IsErrAnd, IsTrue}
use Rattle.std.proofs.lemmas.List.{take_all, take_more}
use Rattle.std.proofs.lemmas.List.Elements.{All-push}
use Rattle.kql_bound.specs.declared.plan.Program.{Program}
use Rattle.kql_cells.specs.Values.{IsMoment}
use Rattle.kql_cells.specs.declared.schemas.NamedSchema.{NamedSchema}
use Rattle.kql_meaning.specs.Fits.{fits}
use Rattle.kql_parser_laws.specs.Patterns.{has_patterns}
use Rattle.kql_syntax.specs.declared.query.Query.{Query}
use Rattle.bind_expr.specs.Outcome.{Answers, Outcome}
use Rattle.bind_query.specs.Bound.{bound}
use Rattle.bind_query_laws.specs.Laws.{BoundFits}
use Rattle.bind_query_laws.specs.Sound.{AreColumns}
use Rattle.kql_cells.specs.Catalogues.{Named}
use Rattle.kql_lexer.specs.declared.place.Place.{Place}
use Rattle.kql_lexer.specs.declared.token.Token.{Token}
use Rattle.kql_words.specs.declared.refusal.Refusal.TheVariants as refusal
use Rattle.pattern_run.specs.Patterned.{Found, IsPatterned, first_call}
use Rattle.pattern_run.specs.declared.fault.PatternFault.{PatternFault}
use Rattle.pattern_run.specs.declared.fault.PatternFault.TheVariants as pattern
use Rattle.pattern_run.specs.declared.lifted.Lifted.{Lifted}
use Rattle.kql_program.specs.Queries.{IsBoundOver, bound_over, bound_program_of, over, program_of}
use Rattle.kql_program.specs.Refusals.{Finds, Gives}
use Rattle.kql_program.specs.Stops.{pattern_stop}
use Rattle.kql_program.specs.declared.bound.BoundQuery.{BoundQuery}
use Rattle.kql_program.specs.declared.refusal.Stop.{Stop}
use Rattle.kql_program.specs.declared.refusal.Stop.TheVariants as stop
use Rattle.kql_program.proofs.AnswerFacts.{raised-finds, raised-gives}

-- No two columns of a schema more have one name, and so of all.
abbrev pub Differ : NamedSchema → Type 0
Differ s = AreColumns s.schema

pub differ-more : (xs : List NamedSchema) (i : ℕ) (x : NamedSchema) → i < length xs → x ≡ get_or xs i x → Differ x → All Differ (take i xs) → All Differ (take (i + 1) xs)
differ-more xs i x lt is h before =
    let last : Differ (get_or xs i x) = subst Differ is h in
    subst (λ (ys : List NamedSchema). All Differ ys) (sym (take_more xs i x lt)) (All-push Differ (take i xs) (get_or xs i x) before last)

pub differ-all : (xs : List NamedSchema) (i : ℕ) → length xs ≤ i → All Differ (take i xs) → All Differ xs
differ-all xs i le h = subst (λ (ys : List NamedSchema). All Differ ys) (take_all i xs le) h

pub bound-fits : (law : BoundFits) (q : Query) (schemas seen : List NamedSchema) (moment : Option ℤ) (r : Outcome Program) (p : Program) → has_patterns q ≡ true → All (λ (s : NamedSchema). AreColumns s.schema) seen → seen ≡ schemas → IfSome moment IsMoment → r ≡ Ok p → Answers r (bound q schemas moment) → IsTrue (fits p schemas)
bound-fits law q schemas seen moment r p patterns columns same in_range is a =
    let there : Answers (Ok p) (bound q schemas moment) = subst (λ (x : Outcome Program). Answers x (bound q schemas moment)) is a in
    law q schemas moment p patterns (subst (λ (ss : List NamedSchema). All (λ (s : NamedSchema). AreColumns s.schema) ss) same columns) in_range there.holds

pub ruleset bound_facts = (bound-fits)

-- Where no pattern call may stand.

stops-program : (query : Query) (moment : Option ℤ) (tables : List Named) (s : Stop) → Gives (bound_program_of query moment tables) (Err s) → Gives {X = Program} (program_of query moment tables) (Err s)
unfolding program_of
stops-program query moment tables (stop.Refused q) h = rw h refl
stops-program query moment tables stop.ReadFault h = h
stops-program query moment tables stop.OutOfMemory h = tt

-- binding's refusal
pub program-stop : (query : Query) (moment : Option ℤ) (tables : List Named) (r : Result Program Stop) (s : Stop) → IsErrAnd r (λ e. e ≡ s) → Gives (bound_program_of query moment tables) (Err s) → Gives (program_of query moment tables) r
program-stop query moment tables r s i h = raised-gives (program_of query moment tables) r s i (stops-program query moment tables s h)

-- there is none
pub uncalled-program : (query : Query) (moment : Option ℤ) (tables : List Named) (p seen : Program) (first : Option Place) → bound_program_of query moment tables ≡ Ok p → seen ≡ p → first ≡ first_call seen → first ≡ None
    → program_of query moment tables ≡ Ok p
unfolding program_of
uncalled-program query moment tables p seen first h s e n = rw (h, ← s, ← e, n) refl

-- the first is refused
pub called-program : (query : Query) (moment : Option ℤ) (tables : List Named) (p seen : Program) (first : Option Place) (word : Place) → bound_program_of query moment tables ≡ Ok p → seen ≡ p → first ≡ first_call seen → first ≡ Some word
    → program_of query moment tables ≡ Err (refusal.Query 420 word)
unfolding program_of
called-program query moment tables p seen first word h s e n = rw (h, ← s, ← e, n) refl

-- Where they are answered.

stops-over : (found : Found) (tokens : List Token) (query : Query) (moment : Option ℤ) (tables : List Named) (s : Stop) → Gives (bound_program_of query moment tables) (Err s) → Finds (IsBoundOver found tokens query moment tables) (Err s)
unfolding bound_over
stops-over found tokens query moment tables (stop.Refused q) h = rw h refl
stops-over found tokens query moment tables stop.ReadFault h = h
stops-over found tokens query moment tables stop.OutOfMemory h = tt

-- binding's refusal
pub over-stop : (found : Found) (tokens : List Token) (query : Query) (moment : Option ℤ) (tables : List Named) (r : Result BoundQuery Stop) (s : Stop) → IsErrAnd r (λ e. e ≡ s) → Gives (bound_program_of query moment tables) (Err s)
    → Finds (IsBoundOver found tokens query moment tables) r
over-stop found tokens query moment tables r s i h = raised-finds (IsBoundOver found tokens query moment tables) r s i (stops-over found tokens query moment tables s h)

fault-over : (found : Found) (tokens : List Token) (query : Query) (moment : Option ℤ) (tables : List Named) (p : Program) (fault : PatternFault) → bound_program_of query moment tables ≡ Ok p → IsPatterned found tokens p tables (Err fault)
    → Finds (IsBoundOver found tokens query moment tables) (Err (pattern_stop fault))
unfolding bound_over
fault-over found tokens query moment tables p (pattern.PatternHere word) h (inl e) = rw (h, ← e) refl
fault-over found tokens query moment tables p (pattern.PatternHere word) h (inr e) = cc e
fault-over found tokens query moment tables p (pattern.BadPattern literal) h (inl e) = rw (h, ← e) refl
fault-over found tokens query moment tables p (pattern.BadPattern literal) h (inr e) = cc e
fault-over found tokens query moment tables p pattern.OutOfMemory h e = tt

-- a call's refusal, or its pattern's
pub over-fault : (found : Found) (tokens : List Token) (query : Query) (moment : Option ℤ) (tables : List Named) (p : Program) (r : Result BoundQuery Stop) (fault : PatternFault) → IsErrAnd r (λ e. e ≡ pattern_stop fault) → bound_program_of query moment tables ≡ Ok p
    → IsPatterned found tokens p tables (Err fault) → Finds (IsBoundOver found tokens query moment tables) r
over-fault found tokens query moment tables p r fault i h e = raised-finds (IsBoundOver found tokens query moment tables) r (pattern_stop fault) i (fault-over found tokens query moment tables p fault h e)

-- what they become
pub lifted-over : (found : Found) (tokens : List Token) (query : Query) (moment : Option ℤ) (tables : List Named) (p : Program) (l : Lifted) → bound_program_of query moment tables ≡ Ok p → IsPatterned found tokens p tables (Ok l)
    → IsBoundOver found tokens query moment tables (Ok (over l.program l.catalogue))
unfolding bound_over
lifted-over found tokens query moment tables p l h (inl e) = rw (h, ← e) refl
lifted-over found tokens query moment tables p l h (inr e) = cc e
