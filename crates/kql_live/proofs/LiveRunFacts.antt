-- The text of a live command.
use Rattle.std.proofs.Common.{◌≡◌, Bool, true, false, ℕ, List, refl, ap, ◌∙◌}
use Rattle.std.specs.Prelude.{Option, Some, None, IfSome, IsErrAnd, Result, Ok, Err}
use Rattle.catalogue_tables.specs.Files.{Files}
use Rattle.csv_io.specs.Text.{table_text}
use Rattle.kql_cells.specs.Table.{Grid}
use Rattle.kql_program.specs.Refusals.{Reaches}
use Rattle.kql_program.specs.declared.refusal.Stop.{Stop}
use Rattle.kql_program.specs.declared.refusal.Stop.TheVariants as stop
use Rattle.kql_words.specs.Refusals.{Answer}
use Rattle.live_query.specs.LiveMeaning.{live_means}
use Rattle.live_words.specs.declared.command.LiveAsked.{LiveAsked}
use Rattle.kql_live.specs.LiveAnswer.{AnswersLive, IsLiveBoundAsked, live_text, live_watched, shown_or, text_in, whole}
use Rattle.kql_live.specs.declared.bound.LiveBound.{LiveBound}
use Rattle.kql_live.specs.declared.bound.LiveDone.{LiveDone}

pub text-is : (watch : Bool) (b : LiveBound) (o : Option (List ℕ)) (t : List ℕ) (rows : Grid) → o ≡ live_watched watch b → rows ≡ live_means b.query (whole b) → t ≡ shown_or o (table_text rows) → t ≡ live_text watch b
text-is true b o t rows e r h = rw e at h
text-is false b o t rows e r h = let plain : t ≡ table_text rows = rw e at h in plain ∙ ap table_text r

-- The same of what a command is answered.

raised-text : (Is : Answer (List ℕ) → Type 0) (r : Result LiveDone Stop) (s : Stop) → IsErrAnd r (λ e. e ≡ s) → Reaches Is (Err s) → Reaches Is (text_in r)
raised-text Is (Ok x) s i h = absurd i
raised-text Is (Err e) s i h = rw i h

text-refused : (words : List (List ℕ)) (files : Files) (asked : LiveAsked) (s : Stop) → Reaches (IsLiveBoundAsked words files asked) (Err s) → Reaches (AnswersLive words files asked) (Err s)
text-refused words files asked (stop.Refused q) h = record { bound = Err q; is_bound = h; is = refl }
text-refused words files asked stop.ReadFault h = tt
text-refused words files asked stop.OutOfMemory h = tt

pub text-stop : (told : Option Files) (words : List (List ℕ)) (asked : LiveAsked) (r : Result LiveDone Stop) (s : Stop) → IfSome told (λ files. Reaches (IsLiveBoundAsked words files asked) (Err s)) → IsErrAnd r (λ e. e ≡ s)
    → IfSome told (λ files. Reaches (AnswersLive words files asked) (text_in r))
text-stop None words asked r s h i = tt
text-stop (Some files) words asked r s h i = raised-text (AnswersLive words files asked) r s i (text-refused words files asked s h)

pub text-ok : (told : Option Files) (words : List (List ℕ)) (asked : LiveAsked) (b : LiveBound) (text : List ℕ) → IfSome told (λ files. IsLiveBoundAsked words files asked (Ok b)) → text ≡ live_text asked.options.watch b
    → IfSome told (λ files. AnswersLive words files asked (Ok text))
text-ok None words asked b text h e = tt
text-ok (Some files) words asked b text h e = record { bound = Ok b; is_bound = h; is = ap Ok e }
