-- Answers that are passed on, word by word.
use Rattle.std.proofs.Common.{◌≡◌, ◌+◌, ◌∙◌, ℕ, List, [], ◌∷◌, ap, arith, length, subst, sym}
use Rattle.std.specs.Prelude.{Result, Ok, Err, IsErrAnd, String, string_bytes}
use Rattle.std.specs.Global.{Global}
use Rattle.kql_words.specs.Command.{texts}
use Rattle.kql_words.specs.Refusals.{Answer, ◌>>=◌}
use Rattle.kql_shell.specs.Asked.{Reads, all_taken, finished, taken}
use Rattle.kql_shell.specs.declared.reader.Reader.{Reader}
use Rattle.kql_shell.specs.declared.request.Request.{Request}
use Rattle.kql_shell.specs.declared.request.Stop.{Stop}
use Rattle.kql_shell.specs.declared.request.Stop.TheVariants as stop

-- an answer that `?` passed on
pub raised : {X : Type 0} (answer : Answer X) (r : Result X Stop) (e : Stop) → IsErrAnd r (λ x. x ≡ e) → Reads answer (Err e) → Reads answer r
raised answer (Ok x) e h reads = absurd h
raised answer (Err x) e h reads = subst (λ y. Reads answer (Err y)) (sym h) reads

-- what the words from a number on ask for
abbrev pub asked : ℕ → List (String Global) → Reader → ℕ → Answer Request
asked number words r count = all_taken number (texts words) r >>= finished count

-- a word that was read
pub one-read : (number count : ℕ) (left more : List (String Global)) (word : String Global) (w : List ℕ) (r next : Reader) (whole : Answer Request)
    → left ≡ word ∷ more → string_bytes word ≡ w → asked number left r count ≡ whole → taken number w r ≡ Ok next → asked (number + 1) more next count ≡ whole
unfolding all_taken
one-read number count left more word w r next whole e v h t =
    sym (ap (λ a. (a >>= all_taken (number + 1) (texts more)) >>= finished count) t) ∙ ap (λ x. (taken number x r >>= all_taken (number + 1) (texts more)) >>= finished count) (sym v) ∙ ap (λ ws. asked number ws r count) (sym e) ∙ h

-- a word that is refused
pub one-refused : (number count : ℕ) (left more : List (String Global)) (word : String Global) (w : List ℕ) (r : Reader) (whole : Answer Request) (e : Stop)
    → left ≡ word ∷ more → string_bytes word ≡ w → asked number left r count ≡ whole → Reads (taken number w r) (Err e) → Reads whole (Err e)
unfolding all_taken
one-refused number count left more word w r whole stop.OutOfMemory l v h reads = tt
one-refused number count left more word w r whole (stop.Refused q) l v h reads =
    sym h ∙ ap (λ ws. asked number ws r count) l ∙ ap (λ x. (taken number x r >>= all_taken (number + 1) (texts more)) >>= finished count) v
    ∙ ap (λ a. (a >>= all_taken (number + 1) (texts more)) >>= finished count) reads

-- behind the last word
pub all-read : (number count : ℕ) (left : List (String Global)) (r : Reader) (whole : Answer Request) (result : Result Request Stop)
    → length left ≡ 0 → asked number left r count ≡ whole → Reads (finished count r) result → Reads whole result
unfolding all_taken
all-read number count [] r whole result e h reads = subst (λ a. Reads a result) h reads
all-read number count (x ∷ xs) r whole result e h reads = absurd (omega (arith, e))
