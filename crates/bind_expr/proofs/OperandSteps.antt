-- Operands made to arguments from the end of a list that was turned round.
use Rattle.std.proofs.Common.{◌≡◌, List, [], ◌∷◌, ◌++◌, map, refl, sym, ap, ◌∙◌, subst}
use Rattle.std.specs.Prelude.{Err, Ok, Result, fold, reverse}
use Rattle.std.proofs.lemmas.List.{append_assoc, append-nil, reverse-append, reverse-reverse}
use Rattle.kql_cells.specs.declared.value.Kind.{Kind}
use Rattle.kql_functions.specs.declared.func.Func.{Func}
use Rattle.kql_syntax.specs.declared.tree.InSign.{InSign}
use Rattle.bind_expr.specs.Arguments.{no_args, with_arg}
use Rattle.bind_expr.specs.Operands.{all_beside, args_beside, beside, exprs_of, kinds_of, operands_call, typed_call, with_beside}
use Rattle.bind_expr.specs.Comparisons.{among_func, among_kind, listed}
use Rattle.bind_expr.specs.Outcome.{Answers, Outcome, ◌>>=◌}
use Rattle.bind_expr.specs.declared.arguments.Args.{Args}
use Rattle.bind_expr.specs.declared.fault.BindFault.{BindFault}
use Rattle.bind_expr.specs.declared.fault.BindFault.TheVariants as fault
use Rattle.bind_expr.specs.declared.typed.Typed.{Typed}
use Rattle.bind_expr.proofs.AnswerFacts.{answers-along, answers-lost, answers-same}

made-by : (k : Kind) (a : Args) (ts : List Typed) → fold (with_beside k) (Ok a) ts ≡ Ok (record { exprs = a.exprs ++ exprs_of (all_beside k ts); kinds = a.kinds ++ kinds_of (all_beside k ts); has_star = a.has_star; has_stray = a.has_stray })
made-by k a [] = rw (append-nil a.exprs, append-nil a.kinds) refl
made-by k a (t ∷ ts) = made-by k (with_arg a (beside t k)) ts ∙ rw (append_assoc a.exprs ((beside t k).expr ∷ []) (exprs_of (all_beside k ts)), append_assoc a.kinds ((beside t k).kind ∷ []) (kinds_of (all_beside k ts))) refl

lost-by : (k : Kind) (ts : List Typed) → fold (with_beside k) (Err fault.OutOfMemory) ts ≡ Err fault.OutOfMemory
lost-by k [] = refl
lost-by k (t ∷ ts) = lost-by k ts

-- What answers a step may stand in its place.
passes : {A : Type 0} (f : Outcome A → Outcome A) → f (Err fault.OutOfMemory) ≡ Err fault.OutOfMemory → (r d goal : Outcome A) → Answers r d → Answers (f d) goal → Answers (f r) goal
passes f s (Ok x) d goal a h = subst (λ y. Answers (f y) goal) a.holds h
passes f s (Err (fault.Refused code place)) d goal a h = subst (λ y. Answers (f y) goal) a.holds h
passes f s (Err fault.OutOfMemory) d goal a h = subst (λ y. Answers y goal) (sym s) (answers-lost goal)

pub operands-open : (k : Kind) (operands left : List Typed) (args : Args) → left ≡ reverse operands → args ≡ no_args → Answers (fold (with_beside k) (Ok args) (reverse left)) (Ok (args_beside k operands))
unfolding args_beside no_args
operands-open k operands left args turned none =
    answers-same (fold (with_beside k) (Ok args) (reverse left)) (Ok (args_beside k operands))
    (ap (λ (l : List Typed). fold (with_beside k) (Ok args) (reverse l)) turned
    ∙ (ap (fold (with_beside k) (Ok args)) (reverse-reverse operands)
    ∙ (ap (λ (a : Args). fold (with_beside k) (Ok a) operands) none
    ∙ made-by k no_args operands)))

pub operands-next : (k : Kind) (operands before after : List Typed) (t : Typed) (taken next : Outcome Args) → before ≡ after ++ t ∷ [] → Answers (fold (with_beside k) taken (reverse before)) (Ok (args_beside k operands)) → Answers next (with_beside k taken t) → Answers (fold (with_beside k) next (reverse after)) (Ok (args_beside k operands))
operands-next k operands before after t taken next popped h a =
    let turned : reverse before ≡ t ∷ reverse after = ap reverse popped ∙ reverse-append after (t ∷ []) in
    passes (λ x. fold (with_beside k) x (reverse after)) (lost-by k (reverse after)) next (with_beside k taken t) (Ok (args_beside k operands)) a
    (subst (λ (l : List Typed). Answers (fold (with_beside k) taken l) (Ok (args_beside k operands))) turned h)

pub operands-end : (k : Kind) (operands left : List Typed) (taken : Outcome Args) → left ≡ [] → Answers (fold (with_beside k) taken (reverse left)) (Ok (args_beside k operands)) → Answers taken (Ok (args_beside k operands))
operands-end k operands left taken none h = subst (λ (l : List Typed). Answers (fold (with_beside k) taken (reverse l)) (Ok (args_beside k operands))) none h

pub ruleset operand_steps = (operands-open, operands-next, operands-end)

-- A value and a list, from the arguments that they make.
pub listed-answers : (sign : InSign) (ts : List Typed) (k : Kind) (f : Func) (args : Args) (result : Outcome Typed) → k ≡ among_kind sign.op (kinds_of ts) → f ≡ among_func sign.op → Answers (Ok args) (Ok (args_beside k ts)) → Answers result (typed_call sign.place f args.exprs args.kinds) → Answers result (listed sign ts)
unfolding args_beside listed
listed-answers sign ts k f args result where_kind where_func made h =
    let same : Ok (args_beside k ts) ≡ Ok args = made.holds in
    let args_are : args_beside k ts ≡ args = cc in
    answers-along result (typed_call sign.place f args.exprs args.kinds) (listed sign ts) h
    (ap (λ (a : Args). typed_call sign.place f a.exprs a.kinds) (sym args_are)
    ∙ (ap (λ (g : Func). operands_call sign.place g (all_beside k ts)) where_func
    ∙ ap (λ (l : Kind). operands_call sign.place (among_func sign.op) (all_beside l ts)) where_kind))

pub ruleset listed_steps = (listed-answers)
