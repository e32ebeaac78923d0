-- A bound `take`, and `count`, is sound.
use Rattle.std.proofs.Common.{◌≡◌, refl, subst}
use Rattle.std.specs.Prelude.{Bool, Ok}
use Rattle.kql_bound.specs.declared.plan.Op.TheVariants as op
use Rattle.kql_lexer.specs.declared.place.Place.{Place}
use Rattle.kql_meaning.specs.TakeAndCount.{count_columns}
use Rattle.kql_meaning.proofs.OperatorFitLaws.{op-Count, op-Take}
use Rattle.kql_syntax.specs.declared.tree.Expr.{Expr}
use Rattle.bind_operators.specs.declared.bound.BoundOp.{BoundOp}
use Rattle.bind_operators.specs.declared.known.Known.{Known}
use Rattle.bind_operators.specs.declared.shape.Shape.{Shape}
use Rattle.bind_operators.specs.Answers.{made, over}
use Rattle.bind_operators.specs.Faults.{fault_if}
use Rattle.bind_operators.specs.TakeAndCount.{counted, take_bound, taken}
use Rattle.bind_operators.specs.Wanted.{count_in, is_no_count, row_count_bound}
use Rattle.bind_operators.proofs.NameLaws.{count-once}
use Rattle.bind_query_laws.specs.Sound.{AreColumns, IsSoundKnown, IsSoundOp, read_known}
use Rattle.bind_query_laws.proofs.Frame.{after-ok, good, ok-same, unless-ok}

pub take_sound : (operator : Place) (e : Expr) (known : Known) (rows : Shape) (b : BoundOp) → IsSoundKnown known → AreColumns rows.columns → take_bound operator e known rows ≡ Ok b → (inside : Bool) → IsSoundOp known inside rows b
unfolding take_bound taken over
take_sound operator e known rows b sound names is inside =
    let first = after-ok (row_count_bound operator known rows e) (taken operator rows) b is in
    let parts = unless-ok (fault_if (is_no_count first.0) 414 operator) (over (op.Take (count_in first.0)) rows) b first.2 in
    subst (IsSoundOp known inside rows) parts.1 (record { fits = op-Take (count_in first.0) (read_known known) inside rows.columns; columns = names })

pub count_sound : (known : Known) (rows : Shape) (b : BoundOp) → IsSoundKnown known → AreColumns rows.columns → good counted ≡ Ok b → (inside : Bool) → IsSoundOp known inside rows b
unfolding counted made
count_sound known rows b sound names is inside =
    subst (IsSoundOp known inside rows) (ok-same counted b is) (record {
      fits = op-Count (read_known known) inside rows.columns;
      columns = count-once count_columns refl;
    })
