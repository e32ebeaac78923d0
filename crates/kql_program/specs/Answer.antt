-- What the program answers to words and files, by what patterns find: a text, or the first refusal. The words' fault comes first; else it is what the command asks for.
use Rattle.std.specs.Prelude.{◌≡◌, ℕ, List, Ok, Err}
use Rattle.kql_words.specs.Command.{command_of}
use Rattle.kql_words.specs.Refusals.{Answer}
use Rattle.kql_words.specs.declared.command.Asked.{Asked}
use Rattle.kql_words.specs.declared.command.Command.{Command}
use Rattle.kql_words.specs.declared.command.Command.TheVariants as command
use Rattle.catalogue_tables.specs.Files.{Files}
use Rattle.pattern_run.specs.Patterned.{Found}
use Rattle.kql_program.specs.Plans.{AnswersExplain, ExplainOne}
use Rattle.kql_program.specs.Queries.{AnswersQuery}
use Rattle.kql_program.specs.Refusals.{IsBadPattern}
use Rattle.kql_program.specs.Trials.{AnswersTrial}

-- this is what the command is answered that the words are
abbrev pub AnswersCommand : Found → List (List ℕ) → Files → Answer Command → Answer (List ℕ) → Type 0
AnswersCommand found words files (Err refusal) a = a ≡ Err refusal
AnswersCommand found words files (Ok (command.Run asked)) a = AnswersQuery found words files asked a
AnswersCommand found words files (Ok (command.Plain asked)) a = AnswersQuery found words files asked a
AnswersCommand found words files (Ok (command.Explain asked)) a = AnswersExplain found words files asked a
AnswersCommand found words files (Ok (command.Trial trial)) a = AnswersTrial trial a

-- this is the answer to the words and files
abbrev pub Answers : Found → List (List ℕ) → Files → Answer (List ℕ) → Type 0
Answers found words files a = AnswersCommand found words files (command_of words) a

-- two answers to `explain`: one refusal, or texts of plans of the program that the query is bound to
abbrev pub ExplainTheSame : Found → List (List ℕ) → Files → Asked → Answer (List ℕ) → Answer (List ℕ) → Type 0
ExplainTheSame found words files asked (Ok s) (Ok t) = ExplainOne found words files asked s t
ExplainTheSame found words files asked (Ok s) (Err r) = ⊥
ExplainTheSame found words files asked (Err q) b = b ≡ Err q

-- two answers to what the words are: they are one, and where it is `explain`, they explain the same
abbrev pub AreOne : Found → List (List ℕ) → Files → Answer Command → Answer (List ℕ) → Answer (List ℕ) → Type 0
AreOne found words files (Err refusal) a b = a ≡ b
AreOne found words files (Ok (command.Run asked)) a b = a ≡ b
AreOne found words files (Ok (command.Plain asked)) a b = a ≡ b
AreOne found words files (Ok (command.Explain asked)) a b = ExplainTheSame found words files asked a b
AreOne found words files (Ok (command.Trial trial)) a b = a ≡ b

-- There is no other answer but where the maker refuses a pattern: which it refuses is told by nothing but the answer.
abbrev pub HasOneAnswer : Found → List (List ℕ) → Files → Type 0
HasOneAnswer found words files =
    (a b : Answer (List ℕ)) → (IsBadPattern a → ⊥) → (IsBadPattern b → ⊥) → Answers found words files a → Answers found words files b → AreOne found words files (command_of words) a b
