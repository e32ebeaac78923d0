-- By how many workers a query is answered.
use Rattle.std.proofs.Common.{◌≡◌, ◌≤◌, ◌+◌, ◌∙◌, ℕ, List, [], ◌∷◌, ◌++◌, length, arith, refl, subst, sym, inl, inr}
use Rattle.std.specs.Prelude.{Option, Result, IfOk, Ok, Err}
use Rattle.std.proofs.lemmas.List.{length-append}
use Rattle.std.proofs.lemmas.List.Elements.{All-nil, All-push}
use Rattle.kql_trial.specs.Queries.{stored_queries}
use Rattle.kql_words.specs.Command.{command_of, workers_of}
use Rattle.kql_words.specs.Options.{AreWorkers}
use Rattle.kql_words.specs.declared.command.Asked.{Asked}
use Rattle.kql_words.specs.declared.command.Command.{Command}
use Rattle.kql_words.specs.declared.command.Command.TheVariants as command
use Rattle.kql_words.specs.declared.refusal.Refusal.{Refusal}
use Rattle.kql_words.specs.declared.refusal.Refusal.TheVariants as refusal
use Rattle.kql_words.specs.declared.trial.Trial.{Trial}
use Rattle.catalogue_tables.specs.Files.{Files}
use Rattle.pattern_run.specs.Patterned.{Found}
use Rattle.phase_run.specs.Reports.{AreToldBy}
use Rattle.phase_run.specs.declared.report.PhaseReport.{PhaseReport}
use Rattle.kql_program.specs.Endings.{EndsAs, refused_as}
use Rattle.kql_program.specs.Outcomes.{IsDone, IsLineOf, SinkNow, Writes, WritesStop}
use Rattle.kql_program.specs.Workers.{AddsReport, AreAsked, AreReports, IsBy, IsByWorkers}
use Rattle.kql_program.specs.declared.bound.Done.{Done}
use Rattle.kql_program.specs.declared.ended.Ended.{Ended}
use Rattle.kql_program.specs.declared.ended.Ended.TheVariants as ended
use Rattle.kql_program.specs.declared.refusal.Stop.{Stop}
use Rattle.kql_program.specs.declared.refusal.Stop.TheVariants as stop
use Rattle.kql_program.proofs.OutcomeFacts.{command-same}
use Rattle.kql_program.proofs.TopFacts.{trial-done}

-- The reports of a trial.

pub no-reports : (n : ℕ) (reports : List (List PhaseReport)) → reports ≡ [] → AreReports n 0 reports
no-reports n reports e = subst (λ (rs : List (List PhaseReport)). AreReports n 0 rs) (sym e) (record { each = refl; told = All-nil (AreToldBy n) })

pub next-report : (n k : ℕ) (before now : List (List PhaseReport)) → AreReports n k before → AddsReport n before now → AreReports n (k + 1) now
next-report n k before now h (report, told, e) =
    let size = length-append before (report ∷ []) in
    let had = h.each in
    let more : length (before ++ report ∷ []) ≡ k + 1 = omega (arith, had) in
    subst (λ (rs : List (List PhaseReport)). AreReports n (k + 1) rs) (sym e) (record { each = more; told = All-push (AreToldBy n) before report h.told told })

pub all-reports : (n k : ℕ) (reports : List (List PhaseReport)) → 5 ≤ k → k ≤ 5 → AreReports n k reports → AreReports n (length stored_queries) reports
all-reports n k reports over within h =
    let five : k ≡ 5 = omega (arith, over, within) in
    subst (λ (m : ℕ). AreReports n m reports) five h

-- neither `plain` nor `explain` tells of phases
plain-by : (n : ℕ) (a : Asked) (e : Ended) → EndsAs (command.Plain a) e → IsBy n e
plain-by n a (ended.Table plan report) h = absurd h
plain-by n a ended.PlainTable h = tt
plain-by n a (ended.Explained plan) h = absurd h
plain-by n a (ended.Trial reports) h = absurd h
plain-by n a (ended.QueryRefused code place) h = absurd h
plain-by n a (ended.Usage word code) h = absurd h
plain-by n a (ended.DataRefused file code row column) h = absurd h
plain-by n a ended.ReadFault h = absurd h
plain-by n a ended.WriteFault h = absurd h
plain-by n a ended.OutOfMemory h = absurd h

explain-by : (n : ℕ) (a : Asked) (e : Ended) → EndsAs (command.Explain a) e → IsBy n e
explain-by n a (ended.Table plan report) h = absurd h
explain-by n a ended.PlainTable h = absurd h
explain-by n a (ended.Explained plan) h = tt
explain-by n a (ended.Trial reports) h = absurd h
explain-by n a (ended.QueryRefused code place) h = absurd h
explain-by n a (ended.Usage word code) h = absurd h
explain-by n a (ended.DataRefused file code row column) h = absurd h
explain-by n a ended.ReadFault h = absurd h
explain-by n a ended.WriteFault h = absurd h
explain-by n a ended.OutOfMemory h = absurd h

pub plain-told : (n : ℕ) (found : Found) (words : List (List ℕ)) (told : Option Files) (a : Asked) (r : Result Done Stop) → IfOk r (λ done. IsDone found words told (command.Plain a) done.text done.ended) → IfOk r (λ done. IsBy n done.ended)
plain-told n found words told a (Ok done) h = plain-by n a done.ended h.ends
plain-told n found words told a (Err s) h = tt

pub explain-told : (n : ℕ) (found : Found) (words : List (List ℕ)) (told : Option Files) (a : Asked) (r : Result Done Stop) → IfOk r (λ done. IsDone found words told (command.Explain a) done.text done.ended) → IfOk r (λ done. IsBy n done.ended)
explain-told n found words told a (Ok done) h = explain-by n a done.ended h.ends
explain-told n found words told a (Err s) h = tt

-- `trial` ends as it should
pub trial-told_done : (found : Found) (words : List (List ℕ)) (told : Option Files) (trial : Trial) (r : Result Done Stop) → IfOk r (λ done. EndsAs (command.Trial trial) done.ended) → IfOk r (λ done. IsDone found words told (command.Trial trial) done.text done.ended)
trial-told_done found words told trial (Ok done) h = trial-done told found words trial done.text done.ended h
trial-told_done found words told trial (Err s) h = tt

-- what is written tells of the phases that were there, or of none
pub written-by : (n : ℕ) (before now : SinkNow) (text : List ℕ) (done e : Ended) → IsBy n done → Writes before now text done e → IsBy n e
written-by n before now text done e h w = elim w [
  | inl x ↦ subst (IsBy n) (sym x.0) h
  | inr x ↦ subst (IsBy n) (sym x.0) tt
]

refused-by : (n : ℕ) (r : Refusal) → IsBy n (refused_as r)
refused-by n (refusal.Query code place) = tt
refused-by n (refusal.Usage word code) = tt
refused-by n (refusal.Data file code row column) = tt

line-by : (n : ℕ) (s : Stop) (line : List ℕ) (done : Ended) → IsLineOf s line done → IsBy n done
line-by n (stop.Refused r) line done h = elim h [
  | inl x ↦ subst (IsBy n) (sym x.1) (refused-by n r)
  | inr x ↦ subst (IsBy n) (sym x.1) tt
]
line-by n stop.ReadFault line done h = subst (IsBy n) (sym h.1) tt
line-by n stop.OutOfMemory line done h = subst (IsBy n) (sym h.1) tt

-- a stop tells of none
pub stopped-by : (n : ℕ) (before now : SinkNow) (s : Stop) (e : Ended) → WritesStop before now s e → IsBy n e
stopped-by n before now s e w = written-by n before now w.line w.done e (line-by n s w.line w.done w.is) w.writes

-- The words ask for so many.
pub asked-by : (words : List (List ℕ)) (c : Command) (n : ℕ) (e : Ended) → Ok c ≡ command_of words → AreWorkers n → AreAsked (workers_of c) n → IsBy n e → IsByWorkers words e
asked-by words c n e read few asked by = record {
  workers = n;
  few = few;
  asked = λ d q. subst (λ (x : Command). AreAsked (workers_of x) n) (command-same c d (read ∙ q)) asked;
  by = by;
}

no-command : (words : List (List ℕ)) (r : Refusal) (c : Command) (P : Type 0) → Err r ≡ command_of words → command_of words ≡ Ok c → P
no-command words r c P read q = cc (read ∙ q)

-- words that are refused ask for none
pub refused-words-by : (words : List (List ℕ)) (r : Refusal) (e : Ended) → Err r ≡ command_of words → ((n : ℕ) → IsBy n e) → IsByWorkers words e
refused-words-by words r e read by =
    let few : AreWorkers 1 = (omega arith, omega arith) in
    record { workers = 1; few = few; asked = λ c q. no-command words r c (AreAsked (workers_of c) 1) read q; by = by 1 }
