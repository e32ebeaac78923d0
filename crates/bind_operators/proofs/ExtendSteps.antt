-- The answer of `extend`, with the columns that are still the table's own.
use Rattle.std.proofs.Common.{◌≡◌, ℕ, List, [], subst}
use Rattle.std.specs.Prelude.{Ok, Err}
use Rattle.kql_lexer.specs.declared.place.Place.{Place}
use Rattle.kql_bound.specs.declared.plan.Op.TheVariants as op
use Rattle.kql_meaning.specs.Extend.{extend_columns}
use Rattle.bind_expr.specs.Outcome.{Answers, Outcome}
use Rattle.bind_expr.specs.declared.fault.BindFault.{BindFault}
use Rattle.bind_expr.proofs.AnswerFacts.{answers-fault, goes_on}
use Rattle.bind_operators.specs.declared.bound.BoundOp.{BoundOp}
use Rattle.bind_operators.specs.declared.items.NamedItems.{NamedItems}
use Rattle.bind_operators.specs.declared.shape.Shape.{Shape}
use Rattle.bind_operators.specs.Answers.{answer}
use Rattle.bind_operators.specs.Extend.{extended, lending, lent, own_left}
use Rattle.bind_operators.specs.Faults.{unless}
use Rattle.bind_operators.specs.Items.{twice_items}
use Rattle.bind_operators.proofs.AnswerSteps.{after-fault, after-none, made-lost, none-told}

-- The answer, behind the fault of two columns of one name.

pub extended-none : (operator : Place) (rows : Shape) (done : NamedItems) (r : Outcome (Unit {0})) (own : List (List ℕ)) (made result : Outcome BoundOp) → r ≡ Ok tt → Answers r (unless (twice_items done) tt) → own ≡ own_left done.items rows.own → Answers made (answer operator [] (op.Extend done.items) (extend_columns done.items rows.columns) rows.serial) → Answers result (lent own made) → Answers result (extended operator rows done)
unfolding extended
extended-none operator rows done r own made result is a left m h =
    goes_on made (answer operator (twice_items done) (op.Extend done.items) (extend_columns done.items rows.columns) rows.serial) (λ b. Ok (lending (own_left done.items rows.own) b)) result
    (after-none (twice_items done) operator (op.Extend done.items) (extend_columns done.items rows.columns) rows.serial r made is a m)
    (subst (λ (ns : List (List ℕ)). Answers result (lent ns made)) left h)

pub extended-fault : (operator : Place) (rows : Shape) (done : NamedItems) (r : Outcome (Unit {0})) (f : BindFault) → r ≡ Err f → Answers r (unless (twice_items done) tt) → Answers {X = BoundOp} (Err f) (extended operator rows done)
unfolding extended
extended-fault operator rows done r f is a =
    answers-fault f (answer operator (twice_items done) (op.Extend done.items) (extend_columns done.items rows.columns) rows.serial) (λ b. Ok (lending (own_left done.items rows.own) b))
    (after-fault (twice_items done) operator (op.Extend done.items) (extend_columns done.items rows.columns) rows.serial r f is a)

pub ruleset extended_steps = (extended-none, extended-fault, none-told, made-lost)
