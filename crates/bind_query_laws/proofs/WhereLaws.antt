-- A bound `where` is sound.
use Rattle.std.proofs.Common.{◌≡◌, refl, subst, ◌∙◌}
use Rattle.std.specs.Prelude.{Bool, Ok}
use Rattle.kql_cells.specs.declared.value.Kind.TheVariants as kind
use Rattle.kql_functions.specs.Kinds.{same_kind}
use Rattle.kql_bound.specs.declared.plan.Op.TheVariants as op
use Rattle.kql_meaning.specs.declared.position.Position.TheVariants as position
use Rattle.kql_meaning.specs.FittingExpressions.{takes_columns}
use Rattle.kql_meaning.specs.FittingOperators.{where_fits}
use Rattle.kql_meaning.proofs.OperatorFitLaws.{op-Where}
use Rattle.kql_syntax.specs.declared.tree.Expr.{Expr}
use Rattle.bind_expr.specs.declared.scope.Scope.{Scope}
use Rattle.bind_expr.specs.declared.typed.Typed.{Typed}
use Rattle.bind_operators.specs.declared.bound.BoundOp.{BoundOp}
use Rattle.bind_operators.specs.declared.known.Known.{Known}
use Rattle.bind_operators.specs.declared.shape.Shape.{Shape}
use Rattle.bind_operators.specs.declared.wanted.Wanted.TheVariants as wanted
use Rattle.bind_operators.specs.Answers.{over}
use Rattle.bind_operators.specs.Known.{scope_at}
use Rattle.bind_operators.specs.Wanted.{takes, typed_bound}
use Rattle.bind_operators.specs.Where.{where_bound}
use Rattle.bind_query_laws.specs.Sound.{AreColumns, IsSoundKnown, IsSoundOp, read_known}
use Rattle.bind_query_laws.proofs.Frame.{after-ok, columns-when, fits-typed, ok-same, scope-sound, typed-sound}

pub where_sound : (e : Expr) (known : Known) (rows : Shape) (b : BoundOp) → IsSoundKnown known → AreColumns rows.columns → where_bound e known rows ≡ Ok b → (inside : Bool) → IsSoundOp known inside rows b
unfolding where_bound over takes where_fits takes_columns
where_sound e known rows b sound names is inside =
    let scope : Scope = scope_at known rows position.Window in
    let first = after-ok (typed_bound (wanted.Is kind.Bool) e scope) (λ (t : Typed). Ok (over (op.Where t.expr) rows)) b is in
    let h = typed-sound (wanted.Is kind.Bool) e scope first.0 (scope-sound known rows position.Window sound names) first.1 in
    subst (IsSoundOp known inside rows) (ok-same (over (op.Where first.0.expr) rows) b first.2) (record {
      fits =
          op-Where first.0.expr (read_known known) inside rows.columns
          ∙ columns-when (where_fits first.0.expr rows.columns) rows.columns (fits-typed (same_kind kind.Bool) known rows position.Window first.0 refl h.0 h.1);
      columns = names;
    })
