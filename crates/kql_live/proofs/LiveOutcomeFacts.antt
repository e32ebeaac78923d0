-- What an ending says, and what follows from it.
use Rattle.std.proofs.Common.{◌≡◌, ◌⊎◌, ◌∙◌, ℕ, List, refl, ap, rules, subst, sym, inl, inr}
use Rattle.std.specs.Prelude.{Option, Some, None, IfSome, IsOk, Ok, Err}
use Rattle.catalogue_tables.specs.Files.{Files}
use Rattle.kql_outside.specs.Causes.{Rose}
use Rattle.kql_outside.specs.Told.{appended}
use Rattle.kql_program.specs.Lines.{line_of, memory_line}
use Rattle.kql_program.specs.Outcomes.{Adds, IsFaultless, IsSame, IsUnfinished, OfAnswers, Outside, RefusesNoWord, SinkNow}
use Rattle.kql_program.specs.Refusals.{Reaches}
use Rattle.kql_program.specs.declared.refusal.Stop.{Stop}
use Rattle.kql_program.specs.declared.refusal.Stop.TheVariants as stop
use Rattle.kql_words.specs.Refusals.{Answer}
use Rattle.kql_words.specs.declared.refusal.Refusal.{Refusal}
use Rattle.kql_words.specs.declared.refusal.Refusal.TheVariants as refusal
use Rattle.live_run.specs.declared.watch.Seen.{Seen}
use Rattle.live_words.specs.LiveWords.{live_of}
use Rattle.live_words.specs.declared.command.LiveAsked.{LiveAsked}
use Rattle.kql_live.specs.LiveAnswer.{AnswersAsked, AnswersLive, HasSeen, HaveSeen, LiveAnswers}
use Rattle.kql_live.specs.LiveEndings.{IfTable, IsLiveEndingOf, IsLiveQuiet, live_refused_as}
use Rattle.kql_live.specs.LiveOutcomes.{EndsAsLiveAnswered, FailsLive, HasLiveOutcome, IsLiveAnswer, IsLiveErrorLine, IsLiveLineOf, LiveEnds, ReadsLive, WritesLive, WritesLiveStop}
use Rattle.kql_live.specs.declared.bound.LiveDone.{LiveDone}
use Rattle.kql_live.specs.declared.ended.LiveEnded.{LiveEnded}
use Rattle.kql_live.specs.declared.ended.LiveEnded.TheVariants as ended

ends-read : (words : List (List ℕ)) (Is : OfAnswers) (b n : Outside) (e : LiveEnded) → LiveEnds words Is b n e → e ≡ ended.ReadFault → FailsLive words b n
ends-read words Is b n ended.ReadFault h q = h.fails
ends-read words Is b n (ended.Table seen) h q = cc q
ends-read words Is b n (ended.QueryRefused code place) h q = cc q
ends-read words Is b n (ended.Usage word code) h q = cc q
ends-read words Is b n (ended.DataRefused file code row column) h q = cc q
ends-read words Is b n ended.WriteFault h q = cc q
ends-read words Is b n ended.OutOfMemory h q = cc q

ends-write : (words : List (List ℕ)) (Is : OfAnswers) (b n : Outside) (e : LiveEnded) → LiveEnds words Is b n e → e ≡ ended.WriteFault → Rose b.out.faults n.out.faults ⊎ Rose b.err.faults n.err.faults
ends-write words Is b n ended.WriteFault (inl h) q = inl h.cut.cause
ends-write words Is b n ended.WriteFault (inr h) q = inr h.cut.cause
ends-write words Is b n (ended.Table seen) h q = cc q
ends-write words Is b n (ended.QueryRefused code place) h q = cc q
ends-write words Is b n (ended.Usage word code) h q = cc q
ends-write words Is b n (ended.DataRefused file code row column) h q = cc q
ends-write words Is b n ended.ReadFault h q = cc q
ends-write words Is b n ended.OutOfMemory h q = cc q

ends-quiet : (words : List (List ℕ)) (Is : OfAnswers) (b n : Outside) (e : LiveEnded) → LiveEnds words Is b n e → IsLiveQuiet e → IsSame b.out n.out
ends-quiet words Is b n (ended.Table seen) h q = absurd q
ends-quiet words Is b n ended.WriteFault h q = absurd q
ends-quiet words Is b n (ended.QueryRefused code place) h q = h.quiet
ends-quiet words Is b n (ended.Usage word code) h q = h.quiet
ends-quiet words Is b n (ended.DataRefused file code row column) h q = h.quiet
ends-quiet words Is b n ended.ReadFault h q = h.quiet
ends-quiet words Is b n ended.OutOfMemory h q = h.quiet

ends-complete : (words : List (List ℕ)) (Is : OfAnswers) (b n : Outside) (e : LiveEnded) → LiveEnds words Is b n e → IsFaultless b n → ((a : Answer (List ℕ)) × Is a × IsLiveEndingOf a e) ⊎ (e ≡ ended.OutOfMemory)
ends-complete words Is b n (ended.Table seen) h f = inl (Ok h.text, h.is, tt)
ends-complete words Is b n (ended.QueryRefused code place) h f = inl (Err (refusal.Query code place), h.is, refl)
ends-complete words Is b n (ended.Usage word code) h f = inl (Err (refusal.Usage word code), h.is, refl)
ends-complete words Is b n (ended.DataRefused file code row column) h f = inl (Err (refusal.Data file code row column), h.is, refl)
ends-complete words Is b n ended.ReadFault h f = absurd (f.shelf h.fails.cause)
ends-complete words Is b n ended.WriteFault (inl h) f = absurd (f.out h.cut.cause)
ends-complete words Is b n ended.WriteFault (inr h) f = absurd (f.err h.cut.cause)
ends-complete words Is b n ended.OutOfMemory h f = inr refl

complete-told : (words : List (List ℕ)) (files : Option Files) (b n : Outside) (e : LiveEnded) → LiveEnds words (IsLiveAnswer words files) b n e → IsFaultless b n
    → IfSome files (λ told. EndsAsLiveAnswered words told e ⊎ (e ≡ ended.OutOfMemory))
complete-told words None b n e h f = tt
complete-told words (Some told) b n e h f = elim (ends-complete words (LiveAnswers words told) b n e h f) [
  | inl (a, i, q) ↦ inl (record { to = a; is = i; ending = q })
  | inr q ↦ inr q
]

outcome : (words : List (List ℕ)) (files : Option Files) (b n : Outside) (e : LiveEnded) → LiveEnds words (IsLiveAnswer words files) b n e → IfTable (HaveSeen words files (live_of words)) e → HasLiveOutcome words files b n e
outcome words files b n e h s = record {
  ends = h;
  seen = s;
  read = λ q. (ends-read words (IsLiveAnswer words files) b n e h q).cause;
  turn = λ q. (ends-read words (IsLiveAnswer words files) b n e h q).turn;
  write = ends-write words (IsLiveAnswer words files) b n e h;
  quiet = ends-quiet words (IsLiveAnswer words files) b n e h;
  complete = complete-told words files b n e h;
}

-- What the words ask for.

abbrev asked_is : LiveAsked → Answer LiveAsked
asked_is asked = Ok asked

abbrev no_asked : Refusal → Answer LiveAsked
no_asked r = Err r

abbrev no_text : Refusal → Answer (List ℕ)
no_text r = Err r

refused-same : (q r : Refusal) → no_text q ≡ no_text r → q ≡ r
refused-same q r e = cc

asked-refused : (q r : Refusal) → no_asked q ≡ no_asked r → q ≡ r
asked-refused q r e = cc

stopped-same : (q r : Refusal) → stop.Refused q ≡ stop.Refused r → q ≡ r
stopped-same q r e = cc

-- the text was made
answer-ok : (words : List (List ℕ)) (files : Option Files) (asked : LiveAsked) (text : List ℕ) → Ok asked ≡ live_of words → IfSome files (λ told. Reaches (AnswersLive words told asked) (Ok text)) → IsLiveAnswer words files (Ok text)
answer-ok words None asked text q h = record { first = λ r f. cc (q ∙ f); no_other = λ word code f. cc f }
answer-ok words (Some told) asked text q h = subst (λ (x : Answer LiveAsked). AnswersAsked words told x (Ok text)) q h

written-whole : (words : List (List ℕ)) (files : Option Files) (b n : Outside) (asked : LiveAsked) (text : List ℕ) (seen : List (List Seen)) → Ok asked ≡ live_of words → IsLiveAnswer words files (Ok text) → HasSeen words files asked seen
    → IsSame b.err n.err → Adds b.out n.out text → HasLiveOutcome words files b n (ended.Table seen)
written-whole words files b n asked text seen q i s same w =
    outcome words files b n (ended.Table seen) (record { text = text; is = i; whole = w; quiet = same }) (subst (λ (x : Answer LiveAsked). HaveSeen words files x seen) q s)

written-cut : (words : List (List ℕ)) (files : Option Files) (b n : Outside) (text : List ℕ) → IsLiveAnswer words files (Ok text) → IsSame b.err n.err → IsUnfinished b.out n.out text → HasLiveOutcome words files b n ended.WriteFault
written-cut words files b n text i same w = outcome words files b n ended.WriteFault (inl (record { text = text; is = i; cut = w; quiet = same })) tt

written : (words : List (List ℕ)) (files : Option Files) (b n : Outside) (asked : LiveAsked) (text : List ℕ) (seen : List (List Seen)) (e : LiveEnded) → Ok asked ≡ live_of words → IsLiveAnswer words files (Ok text) → HasSeen words files asked seen
    → IsSame b.err n.err → WritesLive b.out n.out text (ended.Table seen) e → HasLiveOutcome words files b n e
written words files b n asked text seen e q i s same (inl w) = subst (λ (x : LiveEnded). HasLiveOutcome words files b n x) (sym w.0) (written-whole words files b n asked text seen q i s same w.1)
written words files b n asked text seen e q i s same (inr w) = subst (λ (x : LiveEnded). HasLiveOutcome words files b n x) (sym w.0) (written-cut words files b n text i same w.1)

pub outcome-text : (words : List (List ℕ)) (files : Option Files) (b n : Outside) (asked : LiveAsked) (text : List ℕ) (seen : List (List Seen)) (e : LiveEnded) → Ok asked ≡ live_of words
    → IfSome files (λ told. Reaches (AnswersLive words told asked) (Ok text)) → HasSeen words files asked seen → IsSame b.err n.err → WritesLive b.out n.out text (ended.Table seen) e → HasLiveOutcome words files b n e
outcome-text words files b n asked text seen e q h s same w = written words files b n asked text seen e q (answer-ok words files asked text q h) s same w

-- The work stopped.

refused-ends : (words : List (List ℕ)) (Is : OfAnswers) (b n : Outside) (r : Refusal) → Is (Err r) → IsSame b.out n.out → n.err.written ≡ appended b.err.written (line_of r) → LiveEnds words Is b n (live_refused_as r)
refused-ends words Is b n (refusal.Query code place) i same w = record { is = i; quiet = same; line = w }
refused-ends words Is b n (refusal.Usage word code) i same w = record { is = i; quiet = same; line = w }
refused-ends words Is b n (refusal.Data file code row column) i same w = record { is = i; quiet = same; line = w }

-- the answer that it stands for
record IsStopped (words : List (List ℕ)) (Is : OfAnswers) (b n : Outside) (s : Stop) : Type 0 where
  pub refused : (r : Refusal) → s ≡ stop.Refused r → Is (Err r)
  pub fault : s ≡ stop.ReadFault → FailsLive words b n

-- a line was written, or left unfinished
line-ends : (words : List (List ℕ)) (Is : OfAnswers) (b n : Outside) (line : List ℕ) (done e : LiveEnded) → IsLiveErrorLine words Is b n line → IsSame b.out n.out → (Adds b.err n.err line → LiveEnds words Is b n done)
    → WritesLive b.err n.err line done e → LiveEnds words Is b n e
line-ends words Is b n line done e i same f (inl w) = rw w.0 (f w.1)
line-ends words Is b n line done e i same f (inr w) = rw w.0 (inr (record { text = line; is = i; cut = w.1; quiet = same }))

memory-ends : (words : List (List ℕ)) (Is : OfAnswers) (b n : Outside) (line : List ℕ) (done e : LiveEnded) → line ≡ memory_line → done ≡ ended.OutOfMemory → IsSame b.out n.out → WritesLive b.err n.err line done e → LiveEnds words Is b n e
memory-ends words Is b n line done e l d same w = line-ends words Is b n line done e (inr (inl l)) same (λ adds. rw d (record { quiet = same; line = adds ∙ ap (appended b.err.written) l })) w

refusal-ends : (words : List (List ℕ)) (Is : OfAnswers) (b n : Outside) (r : Refusal) (line : List ℕ) (done e : LiveEnded) → Is (Err r) → IsLiveLineOf (stop.Refused r) line done → IsSame b.out n.out → WritesLive b.err n.err line done e
    → LiveEnds words Is b n e
refusal-ends words Is b n r line done e i (inl x) same w =
    line-ends words Is b n line done e (inl (r, i, x.0)) same (λ adds. rw x.1 (refused-ends words Is b n r i same (adds ∙ ap (appended b.err.written) x.0))) w
refusal-ends words Is b n r line done e i (inr x) same w = memory-ends words Is b n line done e x.0 x.1 same w

stop-ends : (words : List (List ℕ)) (Is : OfAnswers) (b n : Outside) (s : Stop) (e : LiveEnded) → IsStopped words Is b n s → IsSame b.out n.out → WritesLiveStop b.err n.err s e → LiveEnds words Is b n e
stop-ends words Is b n (stop.Refused r) e i same w = refusal-ends words Is b n r w.line w.done e (i.refused r refl) w.is same w.writes
stop-ends words Is b n stop.ReadFault e i same w =
    line-ends words Is b n w.line w.done e (inr (inr (w.is.0, i.fault refl))) same (λ adds. rw w.is.1 (record { fails = i.fault refl; quiet = same; line = adds ∙ ap (appended b.err.written) w.is.0 })) w.writes
stop-ends words Is b n stop.OutOfMemory e i same w = memory-ends words Is b n w.line w.done e w.is.0 w.is.1 same w.writes

-- a refusal is the answer
answer-refused : (words : List (List ℕ)) (files : Option Files) (asked : LiveAsked) (r : Refusal) → Ok asked ≡ live_of words → IfSome files (λ told. Reaches (AnswersLive words told asked) (Err (stop.Refused r)))
    → RefusesNoWord {X = LiveDone} (Err (stop.Refused r)) → IsLiveAnswer words files (Err r)
answer-refused words None asked r e h u = record {
  first = λ q f. cc (e ∙ f);
  no_other = λ word code f. absurd (u word code (ap (λ q. Err (stop.Refused q)) (refused-same r (refusal.Usage word code) f)));
}
answer-refused words (Some told) asked r e h u = subst (λ (x : Answer LiveAsked). AnswersAsked words told x (Err r)) e h

asks : (words : List (List ℕ)) (asked : LiveAsked) → Ok asked ≡ live_of words → ReadsLive words
asks words asked e = subst (λ (x : Answer LiveAsked). IsOk x) e (asked-ok asked)
  where
    asked-ok : (asked : LiveAsked) → IsOk (asked_is asked)
    asked-ok asked = search rules

stopped : (words : List (List ℕ)) (files : Option Files) (b n : Outside) (asked : LiveAsked) (s : Stop) → Ok asked ≡ live_of words → IfSome files (λ told. Reaches (AnswersLive words told asked) (Err s))
    → RefusesNoWord {X = LiveDone} (Err s) → (s ≡ stop.ReadFault → Rose b.shelf_faults n.shelf_faults) → IsStopped words (IsLiveAnswer words files) b n s
stopped words files b n asked (stop.Refused q) e h u f = record {
  refused = λ r x. subst (λ (p : Refusal). IsLiveAnswer words files (Err p)) (stopped-same q r x) (answer-refused words files asked q e h u);
  fault = λ x. cc x;
}
stopped words files b n asked stop.ReadFault e h u f = record { refused = λ r x. cc x; fault = λ x. record { cause = f x; turn = asks words asked e } }
stopped words files b n asked stop.OutOfMemory e h u f = record { refused = λ r x. cc x; fault = λ x. cc x }

-- no list is in an ending after a stop
abbrev HasNoTable : LiveEnded → Type 0
HasNoTable e = IfTable (λ seen. ⊥) e

no-table : (P : List (List Seen) → Type 0) (e : LiveEnded) → HasNoTable e → IfTable P e
no-table P (ended.Table seen) h = absurd h
no-table P (ended.QueryRefused code place) h = tt
no-table P (ended.Usage word code) h = tt
no-table P (ended.DataRefused file code row column) h = tt
no-table P ended.ReadFault h = tt
no-table P ended.WriteFault h = tt
no-table P ended.OutOfMemory h = tt

refused-table : (r : Refusal) → HasNoTable (live_refused_as r)
refused-table (refusal.Query code place) = tt
refused-table (refusal.Usage word code) = tt
refused-table (refusal.Data file code row column) = tt

line-table : (s : Stop) (line : List ℕ) (e : LiveEnded) → IsLiveLineOf s line e → HasNoTable e
line-table (stop.Refused r) line e (inl x) = subst HasNoTable (sym x.1) (refused-table r)
line-table (stop.Refused r) line e (inr x) = subst HasNoTable (sym x.1) tt
line-table stop.ReadFault line e x = subst HasNoTable (sym x.1) tt
line-table stop.OutOfMemory line e x = subst HasNoTable (sym x.1) tt

writes-table : (b n : SinkNow) (line : List ℕ) (done e : LiveEnded) → HasNoTable done → WritesLive b n line done e → HasNoTable e
writes-table b n line done e h (inl w) = subst HasNoTable (sym w.0) h
writes-table b n line done e h (inr w) = subst HasNoTable (sym w.0) tt

stopped-outcome : (words : List (List ℕ)) (files : Option Files) (b n : Outside) (s : Stop) (e : LiveEnded) → IsStopped words (IsLiveAnswer words files) b n s → IsSame b.out n.out → WritesLiveStop b.err n.err s e → HasLiveOutcome words files b n e
stopped-outcome words files b n s e i same w =
    let none : HasNoTable e = writes-table b.err n.err w.line w.done e (line-table s w.line w.done w.is) w.writes in
    outcome words files b n e (stop-ends words (IsLiveAnswer words files) b n s e i same w) (no-table (HaveSeen words files (live_of words)) e none)

pub outcome-stop : (words : List (List ℕ)) (files : Option Files) (b n : Outside) (asked : LiveAsked) (s : Stop) (e : LiveEnded) → Ok asked ≡ live_of words
    → IfSome files (λ told. Reaches (AnswersLive words told asked) (Err s)) → RefusesNoWord {X = LiveDone} (Err s) → (s ≡ stop.ReadFault → Rose b.shelf_faults n.shelf_faults) → IsSame b.out n.out
    → WritesLiveStop b.err n.err s e → HasLiveOutcome words files b n e
outcome-stop words files b n asked s e q h u f same w = stopped-outcome words files b n s e (stopped words files b n asked s q h u f) same w

-- the words are refused
first-answer : (words : List (List ℕ)) (files : Option Files) (r : Refusal) → Err r ≡ live_of words → IsLiveAnswer words files (Err r)
first-answer words None r e = record {
  first = λ q f. ap Err (asked-refused r q (e ∙ f));
  no_other = λ word code f. sym e ∙ ap Err (refused-same r (refusal.Usage word code) f);
}
first-answer words (Some told) r e = subst (λ (x : Answer LiveAsked). AnswersAsked words told x (Err r)) e refl

first-stopped : (words : List (List ℕ)) (files : Option Files) (b n : Outside) (r : Refusal) → Err r ≡ live_of words → IsStopped words (IsLiveAnswer words files) b n (stop.Refused r)
first-stopped words files b n r e = record {
  refused = λ q x. subst (λ (p : Refusal). IsLiveAnswer words files (Err p)) (stopped-same r q x) (first-answer words files r e);
  fault = λ x. cc x;
}

pub outcome-first : (words : List (List ℕ)) (files : Option Files) (b n : Outside) (r : Refusal) (e : LiveEnded) → Err r ≡ live_of words → IsSame b.out n.out → WritesLiveStop b.err n.err (stop.Refused r) e → HasLiveOutcome words files b n e
outcome-first words files b n r e q same w = stopped-outcome words files b n (stop.Refused r) e (first-stopped words files b n r q) same w
