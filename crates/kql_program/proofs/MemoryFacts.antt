-- What an outcome is over files and sinks in memory.
use Rattle.std.proofs.Common.{◌≡◌, ◌⊎◌, ◌∙◌, ◌≤◌, ◌<◌, ℕ, List, ◌++◌, length, refl, subst, sym, inl, inr, arith}
use Rattle.std.specs.Prelude.{Some, Ok, Err}
use Rattle.std.proofs.lemmas.List.{append-nil}
use Rattle.kql_outside.specs.Causes.{Rose}
use Rattle.kql_outside.specs.Memory.{SinkState, room_left}
use Rattle.kql_program.specs.Answer.{Answers}
use Rattle.kql_program.specs.Endings.{refused_as}
use Rattle.catalogue_tables.specs.Files.{Files}
use Rattle.pattern_run.specs.Patterned.{Found}
use Rattle.kql_program.specs.InMemory.{Answered, HadNoRoom, HasRoomForMemoryLine, HaveRoom, RunsOut, in_memory}
use Rattle.kql_program.specs.Lines.{line_of, memory_line}
use Rattle.kql_program.specs.Outcomes.{Ends, IsCaused, IsCutText, IsErrorLine, IsText, OfAnswers, Outside, outside_with}
use Rattle.kql_program.specs.declared.ended.Ended.{Ended}
use Rattle.kql_program.specs.declared.ended.Ended.TheVariants as ended
use Rattle.kql_words.specs.Refusals.{Answer}
use Rattle.kql_words.specs.declared.refusal.Refusal.{Refusal}
use Rattle.kql_words.specs.declared.refusal.Refusal.TheVariants as refusal

pub files-of : (x y : Files) → Some x ≡ Some y → x ≡ y
files-of x y e = cc

-- a count that is always 0 does not rise
never : Rose 0 0 → ⊥
never h = absurd (omega arith)

bytes-of : (x y : List ℕ) → Some x ≡ Some y → x ≡ y
bytes-of x y e = cc

-- the outside of sinks in memory, where the maker counted so many faults
abbrev at : ℕ → SinkState → SinkState → Outside
at faults out err = outside_with faults 0 (in_memory out) (in_memory err)

-- an answer, and the cause where it is that the maker refused a pattern
abbrev Caused : Found → List (List ℕ) → Files → ℕ → ℕ → SinkState → SinkState → SinkState → SinkState → OfAnswers
Caused found words files k m o p e f = IsCaused found words (Some files) (at k o e) (at m p f)

refused-answers : (found : Found) (words : List (List ℕ)) (files : Files) (o p e f : SinkState) (r : Refusal) (d : Ended) → Answers found words files (Err r) → d ≡ refused_as r → Some p.bytes ≡ Some o.bytes → Some f.bytes ≡ Some (e.bytes ++ line_of r)
    → Answered found words files o p e f d
refused-answers found words files o p e f r d i n q l = record {
  to = Err r;
  is = i;
  given =
      inl (record {
        ending = n;
        output = bytes-of p.bytes o.bytes q ∙ sym (append-nil o.bytes);
        error = bytes-of f.bytes (e.bytes ++ line_of r) l;
      });
}

text-answers : (found : Found) (words : List (List ℕ)) (files : Files) (k m : ℕ) (o p e f : SinkState) (d : Ended) → IsText words (Caused found words files k m o p e f) (at k o e) (at m p f) d → Answered found words files o p e f d
text-answers found words files k m o p e f d h = record {
  to = Ok h.text;
  is = h.is.is;
  given =
      inl (record {
        ending = h.done;
        output = bytes-of p.bytes (o.bytes ++ h.text) h.whole;
        error = bytes-of f.bytes e.bytes h.quiet ∙ sym (append-nil e.bytes);
      });
}

-- a text that was left unfinished had no room
no-room : (a : Answer (List ℕ)) (o e : SinkState) → (HaveRoom a o e → ⊥) → HadNoRoom a o e ended.WriteFault
no-room a o e full = record { ending = refl; full = full }

text-is-long : (o e : SinkState) (text : List ℕ) → room_left o < length text → HaveRoom (Ok text) o e → ⊥
text-is-long o e text short room =
    let fits : length text ≤ room_left o = room.output in
    absurd (omega (arith, short, fits))

line-is-long : (o e : SinkState) (r : Refusal) → room_left e < length (line_of r) → HaveRoom (Err r) o e → ⊥
line-is-long o e r short room =
    let fits : length (line_of r) ≤ room_left e = room.error in
    absurd (omega (arith, short, fits))

cut-answers : (found : Found) (words : List (List ℕ)) (files : Files) (k m : ℕ) (o p e f : SinkState) → IsCutText (Caused found words files k m o p e f) (at k o e) (at m p f) → Answered found words files o p e f ended.WriteFault
cut-answers found words files k m o p e f h = record { to = Ok h.text; is = h.is.is; given = inr (no-room (Ok h.text) o e (text-is-long o e h.text h.cut.full)) }

-- and so had a line
line-answers : (found : Found) (words : List (List ℕ)) (files : Files) (k m : ℕ) (o p e f : SinkState) (line : List ℕ) → IsErrorLine words (Caused found words files k m o p e f) (at k o e) (at m p f) line → room_left e < length line
    → HasRoomForMemoryLine e → Answered found words files o p e f ended.WriteFault
line-answers found words files k m o p e f line (inl (r, i, l)) short memory = record { to = Err r; is = i.is; given = inr (no-room (Err r) o e (line-is-long o e r (subst (λ t. room_left e < length t) l short))) }
line-answers found words files k m o p e f line (inr (inl l)) short memory =
    let fits : length line ≤ room_left e = rw l memory in
    absurd (omega (arith, short, fits))
line-answers found words files k m o p e f line (inr (inr (l, fails))) short memory = absurd (never fails.cause)

pub clean-ends : (found : Found) (words : List (List ℕ)) (files : Files) (k m : ℕ) (o p e f : SinkState) (d : Ended) → Ends words (Caused found words files k m o p e f) (at k o e) (at m p f) d → HasRoomForMemoryLine e
    → Answered found words files o p e f d ⊎ RunsOut o p e f d
clean-ends found words files k m o p e f (ended.Table plan report) h room = inl (text-answers found words files k m o p e f (ended.Table plan report) h)
clean-ends found words files k m o p e f (ended.Explained plan) h room = inl (text-answers found words files k m o p e f (ended.Explained plan) h)
clean-ends found words files k m o p e f ended.PlainTable h room = inl (text-answers found words files k m o p e f ended.PlainTable h)
clean-ends found words files k m o p e f (ended.Trial reports) h room = inl (text-answers found words files k m o p e f (ended.Trial reports) h)
clean-ends found words files k m o p e f (ended.QueryRefused code place) h room = inl (refused-answers found words files o p e f (refusal.Query code place) (ended.QueryRefused code place) h.is.is refl h.quiet h.line)
clean-ends found words files k m o p e f (ended.Usage word code) h room = inl (refused-answers found words files o p e f (refusal.Usage word code) (ended.Usage word code) h.is.is refl h.quiet h.line)
clean-ends found words files k m o p e f (ended.DataRefused file code row column) h room =
    inl (refused-answers found words files o p e f (refusal.Data file code row column) (ended.DataRefused file code row column) h.is.is refl h.quiet h.line)
clean-ends found words files k m o p e f ended.ReadFault h room = absurd (never h.fails.cause)
clean-ends found words files k m o p e f ended.OutOfMemory h room = inr (record {
  ending = refl;
  output = bytes-of p.bytes o.bytes h.quiet;
  error = bytes-of f.bytes (e.bytes ++ memory_line) h.line;
})
clean-ends found words files k m o p e f ended.WriteFault (inl h) room = inl (cut-answers found words files k m o p e f h)
clean-ends found words files k m o p e f ended.WriteFault (inr h) room = inl (line-answers found words files k m o p e f h.text h.is h.cut.full room)
