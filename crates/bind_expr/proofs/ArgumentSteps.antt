-- The columns that a `*` stands for, one by one.
use Rattle.std.proofs.Common.{◌≡◌, ◌<◌, ◌+◌, ℕ, Bool, true, false, List, [], ◌∷◌, get_or, length, refl, sym, ap, ◌∙◌, take}
use Rattle.std.specs.Prelude.{Err, Ok, Option, Result, filter, fold}
use Rattle.std.proofs.lemmas.List.Sums.{fold_more}
use Rattle.kql_cells.specs.declared.schema.Column.{Column}
use Rattle.bind_expr.specs.Arguments.{column_if, column_link, columns_to, is_open, with_column, with_columns, with_star}
use Rattle.bind_expr.specs.Outcome.{Answers, Outcome, ◌>>=◌}
use Rattle.bind_expr.specs.declared.arguments.Args.{Args}
use Rattle.bind_expr.proofs.AnswerFacts.{answers-along, answers-same, goes_on}

pub columns-start : (keys : List (List ℕ)) (but : Option (List ℕ)) (start : Outcome Args) → Answers start (columns_to keys but start [])
unfolding columns_to
columns-start keys but start = answers-same start start refl

pub columns-turn : (keys : List (List ℕ)) (but : Option (List ℕ)) (cs : List Column) (i : ℕ) (d : Column) (start taken result : Outcome Args) → i < length cs → Answers taken (columns_to keys but start (take i cs)) → Answers result (column_link keys but taken (get_or cs i d)) → Answers result (columns_to keys but start (take (i + 1) cs))
unfolding columns_to
columns-turn keys but cs i d start taken result l a h =
    let c : Column = get_or cs i d in
    let before : Outcome Args = columns_to keys but start (take i cs) in
    answers-along result (column_link keys but before c) (columns_to keys but start (take (i + 1) cs))
    (goes_on taken before (λ x. Ok (column_if x c (is_open keys but c))) result a h)
    (sym (fold_more (column_link keys but) start cs i d l))

pub ruleset columns_steps = (columns-start, columns-turn)

-- Column by column is the fold over those that a `*` stands for.
kept : (keys : List (List ℕ)) (but : Option (List ℕ)) (a : Args) (c : Column) (cs : List Column) (b : Bool) → is_open keys but c ≡ b → fold (column_link keys but) (Ok (column_if a c b)) cs ≡ Ok (fold with_column (column_if a c b) (filter (is_open keys but) cs)) → fold (column_link keys but) (Ok a) (c ∷ cs) ≡ Ok (fold with_column a (filter (is_open keys but) (c ∷ cs)))
kept keys but a c cs true is h = rw is h
kept keys but a c cs false is h = rw is h

open-columns : (keys : List (List ℕ)) (but : Option (List ℕ)) (a : Args) (cs : List Column) → fold (column_link keys but) (Ok a) cs ≡ Ok (fold with_column a (filter (is_open keys but) cs))
open-columns keys but a [] = refl
open-columns keys but a (c ∷ cs) = kept keys but a c cs (is_open keys but c) refl (open-columns keys but (column_if a c (is_open keys but c)) cs)

pub star-answers : (keys : List (List ℕ)) (but : Option (List ℕ)) (args : Args) (cs : List Column) (result : Outcome Args) → Answers result (columns_to keys but (Ok (with_star args)) cs) → Answers result (Ok (with_columns args (filter (is_open keys but) cs)))
unfolding columns_to with_columns
star-answers keys but args cs result a = answers-along result (columns_to keys but (Ok (with_star args)) cs) (Ok (with_columns args (filter (is_open keys but) cs))) a (open-columns keys but (with_star args) cs)

pub ruleset star_steps = (star-answers)
