-- The verdict on the tokens of a query, of which there is one, and so the answer.
use Rattle.std.proofs.Common.{◌≡◌, ◌∙◌, ◌+◌, ℕ, Bool, List, [], ◌∷◌, ap, refl, subst, sym}
use Rattle.std.specs.Prelude.{ℤ, Option, Some, None, IfSome, Ok, Err}
use Rattle.kql_cells.specs.Catalogues.{Named}
use Rattle.kql_cells.specs.Table.{Grid}
use Rattle.kql_lexer.specs.declared.token.Token.{Token}
use Rattle.kql_parser.proofs.ResultLaws.{not-refused, one-refusal}
use Rattle.kql_parser.proofs.TreeLaws.{one_parsed}
use Rattle.kql_trial.specs.Log.{log_tables}
use Rattle.kql_trial.specs.Queries.{stored_queries}
use Rattle.kql_words.specs.Command.{command_of, query_path}
use Rattle.kql_words.specs.Refusals.{Answer}
use Rattle.kql_words.specs.declared.command.Asked.{Asked}
use Rattle.kql_words.specs.declared.command.Command.{Command}
use Rattle.kql_words.specs.declared.command.Command.TheVariants as command
use Rattle.kql_words.specs.declared.refusal.Refusal.TheVariants as refusal
use Rattle.kql_program.specs.Answer.{AnswersCommand, AreOne, ExplainTheSame, HasOneAnswer}
use Rattle.catalogue_tables.specs.Files.{Files}
use Rattle.kql_program.specs.Files.{file_tokens, query_tokens}
use Rattle.kql_program.specs.Plans.{AnswersExplain, Explains}
use Rattle.pattern_run.specs.Patterned.{Found}
use Rattle.kql_program.specs.Queries.{AnswersQuery, AreRows, IsBound, IsBoundAsked, query_bound, query_rows, rows_of, text_of, tables_asked}
use Rattle.kql_program.specs.Refusals.{IsBadPattern, after, bad_pattern_in}
use Rattle.kql_program.specs.Syntax.{IsVerdict, Verdict}
use Rattle.kql_program.specs.Trials.{AreLines, IsLine, LinesFrom, line_as}
use Rattle.kql_program.specs.declared.bound.BoundQuery.{BoundQuery}
use Rattle.kql_program.proofs.PatternFacts.{NoPattern, none-bad}
use Rattle.kql_lexer.specs.declared.place.Place.{Place}

-- there is one verdict on tokens
pub one-verdict : (s : List Token) (u v : Verdict) → IsVerdict s u → IsVerdict s v → u ≡ v
one-verdict s (Ok a) (Ok b) h k = ap Ok (one_parsed s a b h k)
one-verdict s (Ok a) (Err (refusal.Query code place)) h k = absurd (not-refused s a code place h k)
one-verdict s (Ok a) (Err (refusal.Usage word code)) h k = absurd k
one-verdict s (Ok a) (Err (refusal.Data file code row column)) h k = absurd k
one-verdict s (Err (refusal.Query code place)) (Ok b) h k = absurd (not-refused s b code place k h)
one-verdict s (Err (refusal.Query code place)) (Err (refusal.Query d p)) h k =
    let one = one-refusal s code d place p h k in
    rw (one.0, one.1) refl
one-verdict s (Err (refusal.Query code place)) (Err (refusal.Usage word d)) h k = absurd k
one-verdict s (Err (refusal.Query code place)) (Err (refusal.Data file d row column)) h k = absurd k
one-verdict s (Err (refusal.Usage word code)) v h k = absurd h
one-verdict s (Err (refusal.Data file code row column)) v h k = absurd h

-- there is one query that is bound, where the maker refuses no pattern
good-bound : (found : Found) (tokens : Answer (List Token)) (tables : Answer (List Named)) (moment : Option ℤ) (verdict : Verdict) (a : Answer BoundQuery) → NoPattern a → a ≡ query_bound found (bad_pattern_in a) tokens tables moment verdict
    → a ≡ query_bound found None tokens tables moment verdict
good-bound found tokens tables moment verdict a n h = h ∙ ap (λ (bad : Option Place). query_bound found bad tokens tables moment verdict) (none-bad a n)

pub one-bound : (found : Found) (tokens : Answer (List Token)) (tables : Answer (List Named)) (moment : Option ℤ) (a b : Answer BoundQuery) → NoPattern a → NoPattern b → IsBound found tokens tables moment a → IsBound found tokens tables moment b → a ≡ b
unfolding query_bound
one-bound found (Ok read) tables moment a b n m h k =
    good-bound found (Ok read) tables moment h.verdict a n h.is
    ∙ (ap (query_bound found None (Ok read) tables moment) (one-verdict read h.verdict k.verdict h.judged k.judged) ∙ sym (good-bound found (Ok read) tables moment k.verdict b m k.is))
one-bound found (Err q) tables moment a b n m h k = h.is ∙ sym k.is

-- there are one table's rows of a query without pattern calls
pub one-rows : (tokens : Answer (List Token)) (tables : Answer (List Named)) (moment : Option ℤ) (a b : Answer Grid) → AreRows tokens tables moment a → AreRows tokens tables moment b → a ≡ b
unfolding query_rows
one-rows (Ok read) tables moment a b h k = h.is ∙ (ap (query_rows (Ok read) tables moment) (one-verdict read h.verdict k.verdict h.judged k.judged) ∙ sym k.is)
one-rows (Err q) tables moment a b h k = h.is ∙ sym k.is

-- an answer that refuses no pattern is that of a query that refuses none
good-rows : (types : Bool) (bound : Answer BoundQuery) (rows : Answer Grid) (a : Answer (List ℕ)) → rows ≡ rows_of bound → a ≡ text_of types rows → NoPattern a → NoPattern bound
good-rows types (Ok b) rows a r e n h = cc h
good-rows types (Err q) rows a r e n h = n (subst (λ (x : Answer (List ℕ)). IsBadPattern x) (sym (e ∙ ap (text_of types) r)) h)

good-explained : (bound : Answer BoundQuery) (a : Answer (List ℕ)) → Explains bound a → NoPattern a → NoPattern bound
good-explained (Ok b) a e n h = cc h
good-explained (Err q) a e n h = n (subst (λ (x : Answer (List ℕ)). IsBadPattern x) (sym e) h)

one-asked : (found : Found) (words : List (List ℕ)) (files : Files) (asked : Asked) (a b : Answer BoundQuery) → NoPattern a → NoPattern b → IsBoundAsked found words files asked a → IsBoundAsked found words files asked b → a ≡ b
one-asked found words files asked a b n m h k = one-bound found (file_tokens files (query_path words asked)) (tables_asked words files asked) asked.options.moment a b n m h k

one-text : (found : Found) (words : List (List ℕ)) (files : Files) (asked : Asked) (a b : Answer (List ℕ)) → NoPattern a → NoPattern b → AnswersQuery found words files asked a → AnswersQuery found words files asked b → a ≡ b
one-text found words files asked a b n m h k =
    let same = one-asked found words files asked h.are.bound k.are.bound (good-rows asked.options.types h.are.bound h.rows a h.are.is h.is n) (good-rows asked.options.types k.are.bound k.rows b k.are.is k.is m) h.are.is_bound k.are.is_bound in
    h.is ∙ (ap (text_of asked.options.types) (h.are.is ∙ (ap rows_of same ∙ sym k.are.is)) ∙ sym k.is)

-- there is one refusal of `explain`, and each text is of a plan of the one program that is bound
same-explained : (found : Found) (words : List (List ℕ)) (files : Files) (asked : Asked) (bound : Answer BoundQuery) (a b : Answer (List ℕ)) → IsBoundAsked found words files asked bound → Explains bound a → Explains bound b → ExplainTheSame found words files asked a b
same-explained found words files asked (Err r) a b i h k = subst (λ (x : Answer (List ℕ)). ExplainTheSame found words files asked x b) (sym h) k
same-explained found words files asked (Ok bound) (Ok s) (Ok t) i h k = record { bound = bound; is_bound = i; first = h; second = k }
same-explained found words files asked (Ok bound) (Ok s) (Err r) i h (plan, p, e) = cc e
same-explained found words files asked (Ok bound) (Err q) b i (plan, p, e) k = cc e

one-explained : (found : Found) (words : List (List ℕ)) (files : Files) (asked : Asked) (a b : Answer (List ℕ)) → NoPattern a → NoPattern b → AnswersExplain found words files asked a → AnswersExplain found words files asked b → ExplainTheSame found words files asked a b
one-explained found words files asked a b n m h k =
    let same = one-asked found words files asked k.bound h.bound (good-explained k.bound b k.is m) (good-explained h.bound a h.is n) k.is_bound h.is_bound in
    same-explained found words files asked h.bound a b h.is_bound h.is (subst (λ (x : Answer BoundQuery). Explains x b) same k.is)

one-line : (tables : List Named) (number : ℕ) (text : List ℕ) (a b : Answer (List ℕ)) → IsLine tables number text a → IsLine tables number text b → a ≡ b
one-line tables number text a b h k = h.is ∙ (ap (line_as number) (one-rows (query_tokens text) (Ok tables) None h.rows k.rows h.are k.are) ∙ sym k.is)

one-from : (Behind : Answer (List ℕ) → Type 0) (line a b : Answer (List ℕ)) → ((x y : Answer (List ℕ)) → Behind x → Behind y → x ≡ y) → LinesFrom Behind line a → LinesFrom Behind line b → a ≡ b
one-from Behind (Ok line) a b one (x, p, e) (y, q, f) = e ∙ (ap (after line) (one x y p q) ∙ sym f)
one-from Behind (Err r) a b one h k = h ∙ sym k

one-lines : (tables : List Named) (number : ℕ) (texts : List (List ℕ)) (a b : Answer (List ℕ)) → AreLines tables number texts a → AreLines tables number texts b → a ≡ b
unfolding AreLines
one-lines tables number [] a b h k = h ∙ sym k
one-lines tables number (text ∷ texts) a b (x, p, h) (y, q, k) =
    let same : y ≡ x = one-line tables number text y x q p in
    one-from (AreLines tables (number + 1) texts) x a b (one-lines tables (number + 1) texts) h
    (subst (λ (line : Answer (List ℕ)). LinesFrom (AreLines tables (number + 1) texts) line b) same k)

one-command : (found : Found) (words : List (List ℕ)) (files : Files) (c : Answer Command) (a b : Answer (List ℕ)) → NoPattern a → NoPattern b → AnswersCommand found words files c a → AnswersCommand found words files c b → AreOne found words files c a b
one-command found words files (Err r) a b n m h k = h ∙ sym k
one-command found words files (Ok (command.Run asked)) a b n m h k = one-text found words files asked a b n m h k
one-command found words files (Ok (command.Plain asked)) a b n m h k = one-text found words files asked a b n m h k
one-command found words files (Ok (command.Explain asked)) a b n m h k = one-explained found words files asked a b n m h k
one-command found words files (Ok (command.Trial trial)) a b n m h k = one-lines (log_tables trial.rows trial.seed) 1 stored_queries a b h k

-- there is one answer to words and files, where the maker refuses no pattern
pub one-answer : (found : Found) (words : List (List ℕ)) (files : Files) → HasOneAnswer found words files
one-answer found words files a b n m h k = one-command found words files (command_of words) a b n m h k

pub one-told : (told : Option Files) (found : Found) (words : List (List ℕ)) → IfSome told (λ files. HasOneAnswer found words files)
one-told None found words = tt
one-told (Some files) found words = one-answer found words files
