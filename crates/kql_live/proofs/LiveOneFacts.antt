-- There is one answer to words and files.
use Rattle.std.proofs.Common.{◌≡◌, ◌∙◌, ℕ, List, ap, sym}
use Rattle.std.specs.Prelude.{ℤ, Option, Some, None, IfSome, Ok, Err}
use Rattle.catalogue_tables.specs.Files.{Files}
use Rattle.kql_lexer.specs.declared.token.Token.{Token}
use Rattle.kql_program.specs.Files.{file_tokens}
use Rattle.kql_program.proofs.VerdictFacts.{one-verdict}
use Rattle.kql_words.specs.Refusals.{Answer, ◌>>=◌}
use Rattle.live_words.specs.LiveWords.{live_of, live_query_path}
use Rattle.live_words.specs.declared.command.LiveAsked.{LiveAsked}
use Rattle.kql_live.specs.LiveAnswer.{AnswersAsked, AnswersLive, HasOneLiveAnswer, IsLiveBound, IsLiveBoundAsked, first_name, live_query_bound, live_rest, text_of, viewed}
use Rattle.kql_live.specs.LiveFiles.{tables_of}
use Rattle.kql_live.specs.declared.bound.LiveBound.{LiveBound}
use Rattle.kql_live.specs.declared.bound.LiveTables.{LiveTables}

one-bound : (tokens : Answer (List Token)) (tables : Answer LiveTables) (moment : Option ℤ) (name : List ℕ) (a b : Answer LiveBound) → IsLiveBound tokens tables moment name a → IsLiveBound tokens tables moment name b → a ≡ b
unfolding live_query_bound
one-bound (Ok read) tables moment name a b h k = h.is ∙ (ap (live_query_bound (Ok read) tables moment name) (one-verdict read h.verdict k.verdict h.judged k.judged) ∙ sym k.is)
one-bound (Err q) tables moment name a b h k = h.is ∙ sym k.is

one-asked-bound : (words : List (List ℕ)) (files : Files) (asked : LiveAsked) (a b : Answer LiveBound) → IsLiveBoundAsked words files asked a → IsLiveBoundAsked words files asked b → a ≡ b
one-asked-bound words files asked a b h k =
    let same = one-bound (file_tokens files (live_query_path words asked)) (tables_of files (live_rest words asked)) asked.options.moment (first_name (live_rest words asked)) h.bound k.bound h.is_bound k.is_bound in
    h.is ∙ (ap (λ (x : Answer LiveBound). x >>= viewed asked.options.view) same ∙ sym k.is)

one-text : (words : List (List ℕ)) (files : Files) (asked : LiveAsked) (a b : Answer (List ℕ)) → AnswersLive words files asked a → AnswersLive words files asked b → a ≡ b
one-text words files asked a b h k =
    let same = one-asked-bound words files asked h.bound k.bound h.is_bound k.is_bound in
    h.is ∙ (ap (text_of asked.options.watch) same ∙ sym k.is)

one-asked : (words : List (List ℕ)) (files : Files) (asked : Answer LiveAsked) (a b : Answer (List ℕ)) → AnswersAsked words files asked a → AnswersAsked words files asked b → a ≡ b
one-asked words files (Ok asked) a b h k = one-text words files asked a b h k
one-asked words files (Err q) a b h k = h ∙ sym k

pub one-told : (told : Option Files) (words : List (List ℕ)) → IfSome told (λ files. HasOneLiveAnswer words files)
one-told None words = tt
one-told (Some files) words = λ a b h k. one-asked words files (live_of words) a b h k
