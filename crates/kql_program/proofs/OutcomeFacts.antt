-- What an ending says, and what follows from it.
use Rattle.std.proofs.Common.{◌≡◌, ◌⊎◌, ◌∙◌, ℕ, List, refl, ap, subst, sym, inl, inr}
use Rattle.std.specs.Prelude.{Option, Some, None, IfSome, IsSome, Result, Ok, Err}
use Rattle.kql_outside.specs.Causes.{Rose}
use Rattle.kql_outside.specs.Told.{appended}
use Rattle.kql_bound.specs.declared.plan.Program.{Program}
use Rattle.kql_plan_text.specs.Plans.{plan_text}
use Rattle.kql_words.specs.Command.{command_of}
use Rattle.kql_words.specs.Refusals.{Answer}
use Rattle.kql_words.specs.declared.command.Asked.{Asked}
use Rattle.kql_words.specs.declared.command.Command.{Command}
use Rattle.kql_words.specs.declared.command.Command.TheVariants as command
use Rattle.kql_words.specs.declared.refusal.Refusal.{Refusal}
use Rattle.kql_words.specs.declared.refusal.Refusal.TheVariants as refusal
use Rattle.kql_words.specs.declared.trial.Trial.{Trial}
use Rattle.kql_program.specs.Answer.{AnswersCommand}
use Rattle.kql_program.specs.Endings.{EndsAs, EndsAsAsked, IfExplained, IfPlan, IsEndingOf, IsQuiet, refused_as}
use Rattle.catalogue_tables.specs.Files.{Files}
use Rattle.kql_lexer.specs.declared.place.Place.{Place}
use Rattle.pattern_run.specs.Patterned.{Found}
use Rattle.kql_program.specs.Lines.{line_of, memory_line}
use Rattle.kql_program.specs.Outcomes.{Adds, Ends, EndsAsAnswered, FailsToRead, IsCaused, IsDone, IsErrorLine, HasOutcome, IsAnswer, IsFaultless, IsLineOf, IsPlanFor, IsPlanText, IsSame, IsText, IsUnfinished, OfAnswers, Outside, ReadsFiles, ReadsFor, RefusesNoWord, SinkNow, TriesFor, Writes, WritesStop, asked_in}
use Rattle.kql_program.specs.Refusals.{Finds, IsBadPattern, Reaches, bad_pattern_code}
use Rattle.kql_program.specs.Trials.{AnswersTrial}
use Rattle.kql_program.specs.declared.bound.Done.{Done}
use Rattle.kql_program.specs.declared.ended.Ended.{Ended}
use Rattle.kql_program.specs.declared.ended.Ended.TheVariants as ended
use Rattle.kql_program.specs.declared.refusal.Stop.{Stop}
use Rattle.kql_program.specs.declared.refusal.Stop.TheVariants as stop
use Rattle.kql_program.proofs.PatternFacts.{Blames, bad-is, bad-pattern, value-pattern}

ends-read : (words : List (List ℕ)) (Is : OfAnswers) (b n : Outside) (e : Ended) → Ends words Is b n e → e ≡ ended.ReadFault → Rose b.shelf_faults n.shelf_faults
ends-read words Is b n ended.ReadFault h q = h.fails.cause
ends-read words Is b n (ended.Table plan report) h q = cc q
ends-read words Is b n ended.PlainTable h q = cc q
ends-read words Is b n (ended.Explained plan) h q = cc q
ends-read words Is b n (ended.Trial reports) h q = cc q
ends-read words Is b n (ended.QueryRefused code place) h q = cc q
ends-read words Is b n (ended.Usage word code) h q = cc q
ends-read words Is b n (ended.DataRefused file code row column) h q = cc q
ends-read words Is b n ended.WriteFault h q = cc q
ends-read words Is b n ended.OutOfMemory h q = cc q

ends-turn : (words : List (List ℕ)) (Is : OfAnswers) (b n : Outside) (e : Ended) → Ends words Is b n e → e ≡ ended.ReadFault → ReadsFiles words
ends-turn words Is b n ended.ReadFault h q = h.fails.turn
ends-turn words Is b n (ended.Table plan report) h q = cc q
ends-turn words Is b n ended.PlainTable h q = cc q
ends-turn words Is b n (ended.Explained plan) h q = cc q
ends-turn words Is b n (ended.Trial reports) h q = cc q
ends-turn words Is b n (ended.QueryRefused code place) h q = cc q
ends-turn words Is b n (ended.Usage word code) h q = cc q
ends-turn words Is b n (ended.DataRefused file code row column) h q = cc q
ends-turn words Is b n ended.WriteFault h q = cc q
ends-turn words Is b n ended.OutOfMemory h q = cc q

ends-write : (words : List (List ℕ)) (Is : OfAnswers) (b n : Outside) (e : Ended) → Ends words Is b n e → e ≡ ended.WriteFault → Rose b.out.faults n.out.faults ⊎ Rose b.err.faults n.err.faults
ends-write words Is b n ended.WriteFault (inl h) q = inl h.cut.cause
ends-write words Is b n ended.WriteFault (inr h) q = inr h.cut.cause
ends-write words Is b n (ended.Table plan report) h q = cc q
ends-write words Is b n ended.PlainTable h q = cc q
ends-write words Is b n (ended.Explained plan) h q = cc q
ends-write words Is b n (ended.Trial reports) h q = cc q
ends-write words Is b n (ended.QueryRefused code place) h q = cc q
ends-write words Is b n (ended.Usage word code) h q = cc q
ends-write words Is b n (ended.DataRefused file code row column) h q = cc q
ends-write words Is b n ended.ReadFault h q = cc q
ends-write words Is b n ended.OutOfMemory h q = cc q

ended-code : (c d : ℕ) (p q : Place) → ended.QueryRefused c p ≡ ended.QueryRefused d q → c ≡ d
ended-code c d p q e = cc e

ends-pattern : (found : Found) (words : List (List ℕ)) (files : Option Files) (b n : Outside) (e : Ended) (place : Place) → ReadsFiles words → Ends words (IsCaused found words files b n) b n e → e ≡ ended.QueryRefused bad_pattern_code place → Rose b.pattern_faults n.pattern_faults
ends-pattern found words files b n (ended.QueryRefused code p) place reads h q =
    h.is.cause reads (subst (λ (c : ℕ). IsBadPattern {X = List ℕ} (Err (refusal.Query c p))) (sym (ended-code code bad_pattern_code p place q)) (bad-pattern p))
ends-pattern found words files b n (ended.Table plan report) place reads h q = cc q
ends-pattern found words files b n ended.PlainTable place reads h q = cc q
ends-pattern found words files b n (ended.Explained plan) place reads h q = cc q
ends-pattern found words files b n (ended.Trial reports) place reads h q = cc q
ends-pattern found words files b n (ended.Usage word code) place reads h q = cc q
ends-pattern found words files b n (ended.DataRefused file code row column) place reads h q = cc q
ends-pattern found words files b n ended.ReadFault place reads h q = cc q
ends-pattern found words files b n ended.WriteFault place reads h q = cc q
ends-pattern found words files b n ended.OutOfMemory place reads h q = cc q

ends-quiet : (words : List (List ℕ)) (Is : OfAnswers) (b n : Outside) (e : Ended) → Ends words Is b n e → IsQuiet e → IsSame b.out n.out
ends-quiet words Is b n (ended.Table plan report) h q = absurd q
ends-quiet words Is b n ended.PlainTable h q = absurd q
ends-quiet words Is b n (ended.Explained plan) h q = absurd q
ends-quiet words Is b n (ended.Trial reports) h q = absurd q
ends-quiet words Is b n ended.WriteFault h q = absurd q
ends-quiet words Is b n (ended.QueryRefused code place) h q = h.quiet
ends-quiet words Is b n (ended.Usage word code) h q = h.quiet
ends-quiet words Is b n (ended.DataRefused file code row column) h q = h.quiet
ends-quiet words Is b n ended.ReadFault h q = h.quiet
ends-quiet words Is b n ended.OutOfMemory h q = h.quiet

ends-complete : (words : List (List ℕ)) (Is : OfAnswers) (b n : Outside) (e : Ended) → Ends words Is b n e → IsFaultless b n → ((a : Answer (List ℕ)) × Is a × IsEndingOf words a e) ⊎ (e ≡ ended.OutOfMemory)
ends-complete words Is b n (ended.Table plan report) h f = inl (Ok h.text, h.is, h.done)
ends-complete words Is b n ended.PlainTable h f = inl (Ok h.text, h.is, h.done)
ends-complete words Is b n (ended.Explained plan) h f = inl (Ok h.text, h.is, h.done)
ends-complete words Is b n (ended.Trial reports) h f = inl (Ok h.text, h.is, h.done)
ends-complete words Is b n (ended.QueryRefused code place) h f = inl (Err (refusal.Query code place), h.is, refl)
ends-complete words Is b n (ended.Usage word code) h f = inl (Err (refusal.Usage word code), h.is, refl)
ends-complete words Is b n (ended.DataRefused file code row column) h f = inl (Err (refusal.Data file code row column), h.is, refl)
ends-complete words Is b n ended.ReadFault h f = absurd (f.shelf h.fails.cause)
ends-complete words Is b n ended.WriteFault (inl h) f = absurd (f.out h.cut.cause)
ends-complete words Is b n ended.WriteFault (inr h) f = absurd (f.err h.cut.cause)
ends-complete words Is b n ended.OutOfMemory h f = inr refl

complete-told : (found : Found) (words : List (List ℕ)) (files : Option Files) (b n : Outside) (e : Ended) → Ends words (IsCaused found words files b n) b n e → IsFaultless b n
    → IfSome files (λ told. EndsAsAnswered found words told e ⊎ (e ≡ ended.OutOfMemory))
complete-told found words None b n e h f = tt
complete-told found words (Some told) b n e h f = elim (ends-complete words (IsCaused found words (Some told) b n) b n e h f) [
  | inl (a, i, q) ↦ inl (record { to = a; is = i.is; good = λ reads bad. f.patterns (i.cause reads bad); ending = q })
  | inr q ↦ inr q
]

pub outcome : (found : Found) (words : List (List ℕ)) (files : Option Files) (b n : Outside) (e : Ended) → Ends words (IsCaused found words files b n) b n e → IfPlan (IsPlanFor found words files (command_of words)) e
    → IfExplained (λ plan. Adds b.out n.out (plan_text plan)) e → HasOutcome found words files b n e
outcome found words files b n e h p x = record {
  ends = h;
  plan = p;
  explained = x;
  read = ends-read words (IsCaused found words files b n) b n e h;
  turn = ends-turn words (IsCaused found words files b n) b n e h;
  pattern = λ reads place q. ends-pattern found words files b n e place reads h q;
  write = ends-write words (IsCaused found words files b n) b n e h;
  quiet = ends-quiet words (IsCaused found words files b n) b n e h;
  complete = complete-told found words files b n e h;
}

-- The command that the words are.

abbrev pub command_is : Command → Answer Command
command_is c = Ok c

abbrev no_command : Refusal → Answer Command
no_command r = Err r

abbrev no_text : Refusal → Answer (List ℕ)
no_text r = Err r

abbrev some_text : List ℕ → Answer (List ℕ)
some_text t = Ok t

pub command-same : (c d : Command) → command_is c ≡ command_is d → c ≡ d
command-same c d e = cc

command-refused : (q r : Refusal) → no_command q ≡ no_command r → q ≡ r
command-refused q r e = cc

text-same : (s t : List ℕ) → some_text s ≡ some_text t → s ≡ t
text-same s t e = cc

refused-same : (q r : Refusal) → no_text q ≡ no_text r → q ≡ r
refused-same q r e = cc

-- a trial is answered as its call found
tried : (c : Command) (t : Trial) (r : Result (List ℕ) Stop) → c ≡ command.Trial t → TriesFor c r → Finds (AnswersTrial t) r
tried c t r e h = subst (λ (x : Command). TriesFor x r) e h

-- what was explained where no files are told
told-explained : (found : Found) (words : List (List ℕ)) (asked : Asked) (text : List ℕ) (e : Ended) → IsDone found words None (command.Explain asked) text e → IsPlanText text
told-explained found words asked text (ended.Explained plan) h = record { plan = plan; is_settled = h.plan; is = h.explained }
told-explained found words asked text _ h = absurd h.ends

explained-seen : (found : Found) (words : List (List ℕ)) (c : Command) (asked : Asked) (text seen : List ℕ) (e : Ended) → c ≡ command.Explain asked → text ≡ seen → IsDone found words None c text e → IsPlanText seen
explained-seen found words c asked text seen e q s h = subst IsPlanText s (told-explained found words asked text e (subst (λ (x : Command). IsDone found words None x text e) q h))

-- the text was made
answer-ok : (found : Found) (words : List (List ℕ)) (files : Option Files) (c : Command) (text : List ℕ) (e : Ended) → Ok c ≡ command_of words → IfSome files (λ told. Reaches (AnswersCommand found words told (Ok c)) (Ok text)) → TriesFor c (Ok text)
    → IsDone found words files c text e → IsAnswer found words files (Ok text)
answer-ok found words None c text e q h t d = record {
  first = λ r f. cc (q ∙ f);
  no_other = λ word code f. cc f;
  trial = λ u f. tried c u (Ok text) (command-same c (command.Trial u) (q ∙ f)) t;
  explained = λ asked seen f s. explained-seen found words c asked text seen e (command-same c (command.Explain asked) (q ∙ f)) (text-same text seen s) d;
}
answer-ok found words (Some told) c text e q h t d = subst (λ (x : Answer Command). AnswersCommand found words told x (Ok text)) q h

text-ends : (words : List (List ℕ)) (Is : OfAnswers) (b n : Outside) (c : Command) (e : Ended) → EndsAs c e → IsText words Is b n e → Ends words Is b n e
text-ends words Is b n (command.Run asked) (ended.Table plan report) h t = t
text-ends words Is b n (command.Run asked) _ h t = absurd h
text-ends words Is b n (command.Plain asked) ended.PlainTable h t = t
text-ends words Is b n (command.Plain asked) _ h t = absurd h
text-ends words Is b n (command.Explain asked) (ended.Explained plan) h t = t
text-ends words Is b n (command.Explain asked) _ h t = absurd h
text-ends words Is b n (command.Trial trial) (ended.Trial reports) h t = t
text-ends words Is b n (command.Trial trial) _ h t = absurd h

explained-adds : (b n : Outside) (text : List ℕ) (e : Ended) → IfExplained (λ plan. text ≡ plan_text plan) e → Adds b.out n.out text → IfExplained (λ plan. Adds b.out n.out (plan_text plan)) e
explained-adds b n text (ended.Explained plan) h w = w ∙ ap (appended b.out.written) h
explained-adds b n text _ h w = tt

-- a text tells of no refused pattern
caused-text : (found : Found) (words : List (List ℕ)) (files : Option Files) (b n : Outside) (text : List ℕ) → IsAnswer found words files (Ok text) → IsCaused found words files b n (Ok text)
caused-text found words files b n text i = record { is = i; cause = λ reads bad. absurd (value-pattern text bad) }

-- a text was written to its end
written-whole : (found : Found) (words : List (List ℕ)) (files : Option Files) (b n : Outside) (c : Command) (text : List ℕ) (e : Ended) → Ok c ≡ command_of words → IsAnswer found words files (Ok text) → IsDone found words files c text e → IsSame b.err n.err
    → Adds b.out n.out text → HasOutcome found words files b n e
written-whole found words files b n c text e q i d same w =
    let done : EndsAsAsked (command_of words) e = subst (λ (x : Answer Command). EndsAsAsked x e) q d.ends in
    outcome found words files b n e (text-ends words (IsCaused found words files b n) b n c e d.ends (record { text = text; is = caused-text found words files b n text i; done = done; whole = w; quiet = same }))
    (subst (λ (x : Answer Command). IfPlan (IsPlanFor found words files x) e) q d.plan) (explained-adds b n text e d.explained w)

-- or left unfinished
written-cut : (found : Found) (words : List (List ℕ)) (files : Option Files) (b n : Outside) (text : List ℕ) → IsAnswer found words files (Ok text) → IsSame b.err n.err → IsUnfinished b.out n.out text → HasOutcome found words files b n ended.WriteFault
written-cut found words files b n text i same w = outcome found words files b n ended.WriteFault (inl (record { text = text; is = caused-text found words files b n text i; cut = w; quiet = same })) tt tt

written : (found : Found) (words : List (List ℕ)) (files : Option Files) (b n : Outside) (c : Command) (text : List ℕ) (done e : Ended) → Ok c ≡ command_of words → IsAnswer found words files (Ok text) → IsDone found words files c text done → IsSame b.err n.err
    → Writes b.out n.out text done e → HasOutcome found words files b n e
written found words files b n c text done e q i d same (inl w) = subst (λ (x : Ended). HasOutcome found words files b n x) (sym w.0) (written-whole found words files b n c text done q i d same w.1)
written found words files b n c text done e q i d same (inr w) = subst (λ (x : Ended). HasOutcome found words files b n x) (sym w.0) (written-cut found words files b n text i same w.1)

pub outcome-text : (found : Found) (words : List (List ℕ)) (files : Option Files) (b n : Outside) (c : Command) (text : List ℕ) (done e : Ended) → Ok c ≡ command_of words
    → IfSome files (λ told. Reaches (AnswersCommand found words told (Ok c)) (Ok text)) → TriesFor c (Ok text) → IsDone found words files c text done → IsSame b.err n.err → Writes b.out n.out text done e → HasOutcome found words files b n e
outcome-text found words files b n c text done e q h t d same w = written found words files b n c text done e q (answer-ok found words files c text done q h t d) d same w

refused-ends : (words : List (List ℕ)) (Is : OfAnswers) (b n : Outside) (r : Refusal) → Is (Err r) → IsSame b.out n.out → n.err.written ≡ appended b.err.written (line_of r) → Ends words Is b n (refused_as r)
refused-ends words Is b n (refusal.Query code place) i same w = record { is = i; quiet = same; line = w }
refused-ends words Is b n (refusal.Usage word code) i same w = record { is = i; quiet = same; line = w }
refused-ends words Is b n (refusal.Data file code row column) i same w = record { is = i; quiet = same; line = w }

stopped-same : (q r : Refusal) → stop.Refused q ≡ stop.Refused r → q ≡ r
stopped-same q r e = cc

-- the work stopped: the answer that it stands for
pub record IsStopped (words : List (List ℕ)) (Is : OfAnswers) (b n : Outside) (s : Stop) : Type 0 where
  pub refused : (r : Refusal) → s ≡ stop.Refused r → Is (Err r)
  pub fault : s ≡ stop.ReadFault → FailsToRead words b n

-- a line was written, or left unfinished
line-ends : (words : List (List ℕ)) (Is : OfAnswers) (b n : Outside) (line : List ℕ) (done e : Ended) → IsErrorLine words Is b n line → IsSame b.out n.out → (Adds b.err n.err line → Ends words Is b n done)
    → Writes b.err n.err line done e → Ends words Is b n e
line-ends words Is b n line done e i same f (inl w) = rw w.0 (f w.1)
line-ends words Is b n line done e i same f (inr w) = rw w.0 (inr (record { text = line; is = i; cut = w.1; quiet = same }))

memory-ends : (words : List (List ℕ)) (Is : OfAnswers) (b n : Outside) (line : List ℕ) (done e : Ended) → line ≡ memory_line → done ≡ ended.OutOfMemory → IsSame b.out n.out → Writes b.err n.err line done e → Ends words Is b n e
memory-ends words Is b n line done e l d same w = line-ends words Is b n line done e (inr (inl l)) same (λ adds. rw d (record { quiet = same; line = adds ∙ ap (appended b.err.written) l })) w

refusal-ends : (words : List (List ℕ)) (Is : OfAnswers) (b n : Outside) (r : Refusal) (line : List ℕ) (done e : Ended) → Is (Err r) → IsLineOf (stop.Refused r) line done → IsSame b.out n.out → Writes b.err n.err line done e → Ends words Is b n e
refusal-ends words Is b n r line done e i (inl x) same w =
    line-ends words Is b n line done e (inl (r, i, x.0)) same (λ adds. rw x.1 (refused-ends words Is b n r i same (adds ∙ ap (appended b.err.written) x.0))) w
refusal-ends words Is b n r line done e i (inr x) same w = memory-ends words Is b n line done e x.0 x.1 same w

stop-ends : (words : List (List ℕ)) (Is : OfAnswers) (b n : Outside) (s : Stop) (e : Ended) → IsStopped words Is b n s → IsSame b.out n.out → WritesStop b.err n.err s e → Ends words Is b n e
stop-ends words Is b n (stop.Refused r) e i same w = refusal-ends words Is b n r w.line w.done e (i.refused r refl) w.is same w.writes
stop-ends words Is b n stop.ReadFault e i same w =
    line-ends words Is b n w.line w.done e (inr (inr (w.is.0, i.fault refl))) same (λ adds. rw w.is.1 (record { fails = i.fault refl; quiet = same; line = adds ∙ ap (appended b.err.written) w.is.0 })) w.writes
stop-ends words Is b n stop.OutOfMemory e i same w = memory-ends words Is b n w.line w.done e w.is.0 w.is.1 same w.writes

-- a refusal is the answer
answer-refused : (found : Found) (words : List (List ℕ)) (files : Option Files) (c : Command) (r : Refusal) → Ok c ≡ command_of words → IfSome files (λ told. Reaches (AnswersCommand found words told (Ok c)) (Err (stop.Refused r)))
    → TriesFor c (Err (stop.Refused r)) → RefusesNoWord {X = Done} (Err (stop.Refused r)) → IsAnswer found words files (Err r)
answer-refused found words None c r e h t u = record {
  first = λ q f. cc (e ∙ f);
  no_other = λ word code f. absurd (u word code (ap (λ q. Err (stop.Refused q)) (refused-same r (refusal.Usage word code) f)));
  trial = λ x f. tried c x (Err (stop.Refused r)) (command-same c (command.Trial x) (e ∙ f)) t;
  explained = λ asked text q f. cc f;
}
answer-refused found words (Some told) c r e h t u = subst (λ (x : Answer Command). AnswersCommand found words told x (Err r)) e h

-- a trial reads none
pub no-reads : {P : Type 0} (c : Command) (trial : Trial) → c ≡ command.Trial trial → ReadsFor c → P
no-reads c trial e reads = let none : ReadsFor (command.Trial trial) = subst (λ (d : Command). ReadsFor d) e reads in cc none

reads-for : (words : List (List ℕ)) (c : Command) → Ok c ≡ command_of words → ReadsFiles words → ReadsFor c
reads-for words c e reads = subst (λ (a : Answer Command). IsSome (asked_in a)) (sym e) reads

-- a pattern is refused only where the maker counted that
caused-refusal : (found : Found) (words : List (List ℕ)) (files : Option Files) (b n : Outside) (r : Refusal) → (ReadsFiles words → Blames (Rose b.pattern_faults n.pattern_faults) (stop.Refused r)) → IsAnswer found words files (Err r) → IsCaused found words files b n (Err r)
caused-refusal found words files b n r k i = record {
  is = i;
  cause = λ reads bad. let is = bad-is r bad in k reads is.0 (ap stop.Refused is.1);
}

stopped : (found : Found) (words : List (List ℕ)) (files : Option Files) (b n : Outside) (c : Command) (s : Stop) → Ok c ≡ command_of words → IfSome files (λ told. Reaches (AnswersCommand found words told (Ok c)) (Err s)) → TriesFor c (Err s)
    → RefusesNoWord {X = Done} (Err s) → (ReadsFor c → Blames (Rose b.pattern_faults n.pattern_faults) s) → (s ≡ stop.ReadFault → Rose b.shelf_faults n.shelf_faults) → (s ≡ stop.ReadFault → ReadsFor c) → IsStopped words (IsCaused found words files b n) b n s
stopped found words files b n c (stop.Refused q) e h t u k f g = record {
  refused = λ r x. subst (λ (p : Refusal). IsCaused found words files b n (Err p)) (stopped-same q r x) (caused-refusal found words files b n q (λ reads. k (reads-for words c e reads)) (answer-refused found words files c q e h t u));
  fault = λ x. cc x;
}
stopped found words files b n c stop.ReadFault e h t u k f g = record {
  refused = λ r x. cc x;
  fault = λ x. record { cause = f x; turn = subst (λ (a : Answer Command). IsSome (asked_in a)) e (g x) };
}
stopped found words files b n c stop.OutOfMemory e h t u k f g = record { refused = λ r x. cc x; fault = λ x. cc x }

-- no plan is in an ending after a stop

abbrev HasNoPlan : Ended → Type 0
HasNoPlan e = IfPlan (λ plan. ⊥) e

no-plan : (P : Program → Type 0) (e : Ended) → HasNoPlan e → IfPlan P e
no-plan P (ended.Table plan report) h = absurd h
no-plan P (ended.Explained plan) h = absurd h
no-plan P _ h = tt

none-explained : (P : Program → Type 0) (e : Ended) → HasNoPlan e → IfExplained P e
none-explained P (ended.Explained plan) h = absurd h
none-explained P _ h = tt

refused-plan : (r : Refusal) → HasNoPlan (refused_as r)
refused-plan (refusal.Query code place) = tt
refused-plan (refusal.Usage word code) = tt
refused-plan (refusal.Data file code row column) = tt

line-plan : (s : Stop) (line : List ℕ) (e : Ended) → IsLineOf s line e → HasNoPlan e
line-plan (stop.Refused r) line e (inl x) = subst HasNoPlan (sym x.1) (refused-plan r)
line-plan (stop.Refused r) line e (inr x) = subst HasNoPlan (sym x.1) tt
line-plan stop.ReadFault line e x = subst HasNoPlan (sym x.1) tt
line-plan stop.OutOfMemory line e x = subst HasNoPlan (sym x.1) tt

writes-plan : (b n : SinkNow) (line : List ℕ) (done e : Ended) → HasNoPlan done → Writes b n line done e → HasNoPlan e
writes-plan b n line done e h (inl w) = subst HasNoPlan (sym w.0) h
writes-plan b n line done e h (inr w) = subst HasNoPlan (sym w.0) tt

stopped-outcome : (found : Found) (words : List (List ℕ)) (files : Option Files) (b n : Outside) (s : Stop) (e : Ended) → IsStopped words (IsCaused found words files b n) b n s → IsSame b.out n.out → WritesStop b.err n.err s e → HasOutcome found words files b n e
stopped-outcome found words files b n s e i same w =
    let none : HasNoPlan e = writes-plan b.err n.err w.line w.done e (line-plan s w.line w.done w.is) w.writes in
    outcome found words files b n e (stop-ends words (IsCaused found words files b n) b n s e i same w) (no-plan (IsPlanFor found words files (command_of words)) e none) (none-explained (λ plan. Adds b.out n.out (plan_text plan)) e none)

-- the work stopped
pub outcome-stop : (found : Found) (words : List (List ℕ)) (files : Option Files) (b n : Outside) (c : Command) (s : Stop) (e : Ended) → Ok c ≡ command_of words
    → IfSome files (λ told. Reaches (AnswersCommand found words told (Ok c)) (Err s)) → TriesFor c (Err s) → RefusesNoWord {X = Done} (Err s)
    → (ReadsFor c → Blames (Rose b.pattern_faults n.pattern_faults) s) → (s ≡ stop.ReadFault → Rose b.shelf_faults n.shelf_faults) → (s ≡ stop.ReadFault → ReadsFor c) → IsSame b.out n.out → WritesStop b.err n.err s e → HasOutcome found words files b n e
outcome-stop found words files b n c s e q h t u k f g same w =
    stopped-outcome found words files b n s e (stopped found words files b n c s q h t u k f g) same w

-- the words are refused
first-answer : (found : Found) (words : List (List ℕ)) (files : Option Files) (r : Refusal) → Err r ≡ command_of words → IsAnswer found words files (Err r)
first-answer found words None r e = record {
  first = λ q f. ap Err (command-refused r q (e ∙ f));
  no_other = λ word code f. sym e ∙ ap Err (refused-same r (refusal.Usage word code) f);
  trial = λ t f. cc (e ∙ f);
  explained = λ asked text q f. cc f;
}
first-answer found words (Some told) r e = subst (λ (x : Answer Command). AnswersCommand found words told x (Err r)) e refl

-- words that are refused ask for no files
no-files : (words : List (List ℕ)) (r : Refusal) (P : Type 0) → Err r ≡ command_of words → ReadsFiles words → P
no-files words r P e reads = let none : IsSome (asked_in (Err r)) = subst (λ (a : Answer Command). IsSome (asked_in a)) (sym e) reads in cc none

first-stopped : (found : Found) (words : List (List ℕ)) (files : Option Files) (b n : Outside) (r : Refusal) → Err r ≡ command_of words → IsStopped words (IsCaused found words files b n) b n (stop.Refused r)
first-stopped found words files b n r e = record {
  refused = λ q x. subst (λ (p : Refusal). IsCaused found words files b n (Err p)) (stopped-same r q x) (record { is = first-answer found words files r e; cause = λ reads bad. no-files words r (Rose b.pattern_faults n.pattern_faults) e reads });
  fault = λ x. cc x;
}

pub outcome-first : (found : Found) (words : List (List ℕ)) (files : Option Files) (b n : Outside) (r : Refusal) (e : Ended) → Err r ≡ command_of words → IsSame b.out n.out → WritesStop b.err n.err (stop.Refused r) e → HasOutcome found words files b n e
outcome-first found words files b n r e q same w = stopped-outcome found words files b n (stop.Refused r) e (first-stopped found words files b n r q) same w
