-- What a command makes of a query that is bound.
use Rattle.std.proofs.Common.{◌≡◌, ℕ, List, refl, ap, subst, sym}
use Rattle.std.specs.Prelude.{Option, Some, None, IfSome, IsErrAnd, Result, Ok, Err}
use Rattle.kql_bound.specs.declared.plan.Program.{Program}
use Rattle.kql_meaning.specs.Plans.{means}
use Rattle.kql_words.specs.Refusals.{Answer}
use Rattle.kql_words.specs.declared.command.Asked.{Asked}
use Rattle.kql_words.specs.declared.command.Command.TheVariants as command
use Rattle.kql_words.specs.declared.trial.Trial.{Trial}
use Rattle.kql_program.specs.Answer.{AnswersCommand}
use Rattle.catalogue_tables.specs.Files.{Files}
use Rattle.pattern_run.specs.Patterned.{Found}
use Rattle.kql_program.specs.Endings.{EndsAs}
use Rattle.kql_program.specs.Outcomes.{IsDone, IsPlanFor, text_in}
use Rattle.kql_program.specs.Plans.{AnswersExplain, IsExplainedBy, IsPlanOf, IsRunBy}
use Rattle.kql_program.specs.Queries.{AnswersQuery, IsBoundAsked, text_as}
use Rattle.kql_program.specs.Refusals.{Finds, Reaches}
use Rattle.kql_program.specs.Trials.{AnswersTrial}
use Rattle.kql_program.specs.declared.bound.BoundQuery.{BoundQuery}
use Rattle.kql_program.specs.declared.bound.Done.{Done}
use Rattle.kql_program.specs.declared.ended.Ended.{Ended}
use Rattle.kql_program.specs.declared.ended.Ended.TheVariants as ended
use Rattle.kql_program.specs.declared.refusal.Stop.{Stop}
use Rattle.kql_program.specs.declared.refusal.Stop.TheVariants as stop
use Rattle.kql_program.proofs.AnswerFacts.{reached}

-- an error that `?` passed on, of a call that makes a text and an ending
raised-text : (Is : Answer (List ℕ) → Type 0) (r : Result Done Stop) (s : Stop) → IsErrAnd r (λ e. e ≡ s) → Reaches Is (Err s) → Reaches Is (text_in r)
raised-text Is (Ok x) s i h = absurd i
raised-text Is (Err e) s i h = rw i h

-- the query is refused
text-refused : (found : Found) (words : List (List ℕ)) (files : Files) (asked : Asked) (s : Stop) → Reaches (IsBoundAsked found words files asked) (Err s) → Reaches (AnswersQuery found words files asked) (Err s)
text-refused found words files asked (stop.Refused q) h = record { rows = Err q; are = record { bound = Err q; is_bound = h; is = refl }; is = refl }
text-refused found words files asked stop.ReadFault h = tt
text-refused found words files asked stop.OutOfMemory h = tt

pub text-stop : (told : Option Files) (found : Found) (words : List (List ℕ)) (asked : Asked) (r : Result Done Stop) (s : Stop) → IfSome told (λ files. Reaches (IsBoundAsked found words files asked) (Err s)) → IsErrAnd r (λ e. e ≡ s)
    → IfSome told (λ files. Reaches (AnswersQuery found words files asked) (text_in r))
text-stop None found words asked r s h i = tt
text-stop (Some files) found words asked r s h i = raised-text (AnswersQuery found words files asked) r s i (text-refused found words files asked s h)

explain-refused : (found : Found) (words : List (List ℕ)) (files : Files) (asked : Asked) (s : Stop) → Reaches (IsBoundAsked found words files asked) (Err s) → Reaches (AnswersExplain found words files asked) (Err s)
explain-refused found words files asked (stop.Refused q) h = record { bound = Err q; is_bound = h; is = refl }
explain-refused found words files asked stop.ReadFault h = tt
explain-refused found words files asked stop.OutOfMemory h = tt

pub explain-stop : (told : Option Files) (found : Found) (words : List (List ℕ)) (asked : Asked) (r : Result Done Stop) (s : Stop) → IfSome told (λ files. Reaches (IsBoundAsked found words files asked) (Err s)) → IsErrAnd r (λ e. e ≡ s)
    → IfSome told (λ files. Reaches (AnswersExplain found words files asked) (text_in r))
explain-stop None found words asked r s h i = tt
explain-stop (Some files) found words asked r s h i = raised-text (AnswersExplain found words files asked) r s i (explain-refused found words files asked s h)

-- the text of its rows
pub text-ok : (told : Option Files) (found : Found) (words : List (List ℕ)) (asked : Asked) (bound : BoundQuery) (text : List ℕ) → IfSome told (λ files. IsBoundAsked found words files asked (Ok bound)) → text ≡ text_as asked.options.types (means bound.program bound.catalogue)
    → IfSome told (λ files. AnswersQuery found words files asked (Ok text))
text-ok None found words asked bound text h e = tt
text-ok (Some files) found words asked bound text h e = record { rows = Ok (means bound.program bound.catalogue); are = record { bound = Ok bound; is_bound = h; is = refl }; is = ap Ok e }

-- a plan of it
planned : (told : Option Files) (found : Found) (words : List (List ℕ)) (asked : Asked) (bound : BoundQuery) (plan : Program) → IfSome told (λ files. IsBoundAsked found words files asked (Ok bound)) → IsPlanOf bound.program plan
    → IsPlanFor found words told (Ok (command.Run asked)) plan
planned None found words asked bound plan h i = i.is_settled
planned (Some files) found words asked bound plan h i = record { bound = bound; is_bound = h; is = i }

pub run-done : (told : Option Files) (found : Found) (words : List (List ℕ)) (asked : Asked) (bound : BoundQuery) (text : List ℕ) (e : Ended) → IfSome told (λ files. IsBoundAsked found words files asked (Ok bound))
    → IsRunBy asked.options.types bound.program bound.catalogue text e → IsDone found words told (command.Run asked) text e
run-done told found words asked bound text (ended.Table plan report) h i = record { ends = tt; plan = planned told found words asked bound plan h i.0; explained = tt }
run-done told found words asked bound text _ h i = absurd i

pub plain-done : (told : Option Files) (found : Found) (words : List (List ℕ)) (asked : Asked) (text : List ℕ) (e : Ended) → e ≡ ended.PlainTable → IsDone found words told (command.Plain asked) text e
plain-done told found words asked text e q = subst (λ (x : Ended). IsDone found words told (command.Plain asked) text x) (sym q) (record { ends = tt; plan = tt; explained = tt })

planned-text : (told : Option Files) (found : Found) (words : List (List ℕ)) (asked : Asked) (bound : BoundQuery) (plan : Program) → IfSome told (λ files. IsBoundAsked found words files asked (Ok bound)) → IsPlanOf bound.program plan
    → IsPlanFor found words told (Ok (command.Explain asked)) plan
planned-text None found words asked bound plan h i = i.is_settled
planned-text (Some files) found words asked bound plan h i = record { bound = bound; is_bound = h; is = i }

pub explained-done : (told : Option Files) (found : Found) (words : List (List ℕ)) (asked : Asked) (bound : BoundQuery) (text : List ℕ) (e : Ended) → IfSome told (λ files. IsBoundAsked found words files asked (Ok bound)) → IsExplainedBy bound.program text e
    → IsDone found words told (command.Explain asked) text e
explained-done told found words asked bound text (ended.Explained plan) h i = record { ends = tt; plan = planned-text told found words asked bound plan h i.0; explained = i.1 }
explained-done told found words asked bound text _ h i = absurd i

explains : (found : Found) (words : List (List ℕ)) (files : Files) (asked : Asked) (bound : BoundQuery) (text : List ℕ) (e : Ended) → IsBoundAsked found words files asked (Ok bound) → IsExplainedBy bound.program text e → AnswersExplain found words files asked (Ok text)
explains found words files asked bound text (ended.Explained plan) h i = record { bound = Ok bound; is_bound = h; is = (plan, i.0, ap Ok i.1) }
explains found words files asked bound text _ h i = absurd i

pub explain-ok : (told : Option Files) (found : Found) (words : List (List ℕ)) (asked : Asked) (bound : BoundQuery) (text : List ℕ) (e : Ended) → IfSome told (λ files. IsBoundAsked found words files asked (Ok bound)) → IsExplainedBy bound.program text e
    → IfSome told (λ files. AnswersExplain found words files asked (Ok text))
explain-ok None found words asked bound text e h i = tt
explain-ok (Some files) found words asked bound text e h i = explains found words files asked bound text e h i

-- a trial is answered whatever the files are
pub trial-told : (told : Option Files) (found : Found) (words : List (List ℕ)) (trial : Trial) (r : Result (List ℕ) Stop) → Finds (AnswersTrial trial) r → IfSome told (λ files. Reaches (AnswersCommand found words files (Ok (command.Trial trial))) r)
trial-told None found words trial r h = tt
trial-told (Some files) found words trial r h = reached (AnswersTrial trial) r h

pub trial-done : (told : Option Files) (found : Found) (words : List (List ℕ)) (trial : Trial) (text : List ℕ) (e : Ended) → EndsAs (command.Trial trial) e → IsDone found words told (command.Trial trial) text e
trial-done told found words trial text (ended.Trial reports) q = record { ends = tt; plan = tt; explained = tt }
trial-done told found words trial text (ended.Table plan report) q = absurd q
trial-done told found words trial text ended.PlainTable q = absurd q
trial-done told found words trial text (ended.Explained plan) q = absurd q
trial-done told found words trial text (ended.QueryRefused code place) q = absurd q
trial-done told found words trial text (ended.Usage word code) q = absurd q
trial-done told found words trial text (ended.DataRefused file code row column) q = absurd q
trial-done told found words trial text ended.ReadFault q = absurd q
trial-done told found words trial text ended.WriteFault q = absurd q
trial-done told found words trial text ended.OutOfMemory q = absurd q
