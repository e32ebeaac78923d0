-- A bound `sort`, and a bound `top`, is sound.
use Rattle.std.proofs.Common.{◌≡◌, refl, subst, ◌∙◌}
use Rattle.std.specs.Prelude.{Bool, true, List, [], ◌∷◌, Ok}
use Rattle.std.specs.List.{list_all}
use Rattle.std.proofs.lemmas.Bool.{and_from}
use Rattle.kql_lexer.specs.declared.place.Place.{Place}
use Rattle.kql_bound.specs.declared.literal.Lit.{Lit}
use Rattle.kql_bound.specs.declared.parts.BKey.{BKey}
use Rattle.kql_bound.specs.declared.plan.Op.TheVariants as op
use Rattle.kql_meaning.specs.declared.position.Position.TheVariants as position
use Rattle.kql_meaning.specs.FittingExpressions.{is_key, takes_columns}
use Rattle.kql_meaning.specs.FittingOperators.{sort_fits, sort_key_fits}
use Rattle.kql_meaning.proofs.OperatorFitLaws.{op-Sort, op-Top}
use Rattle.kql_syntax.specs.declared.query.Key.{Key}
use Rattle.kql_syntax.specs.declared.tree.Expr.{Expr}
use Rattle.bind_expr.specs.Outcome.{◌>>=◌}
use Rattle.bind_expr.specs.declared.scope.Scope.{Scope}
use Rattle.bind_expr.specs.declared.typed.Typed.{Typed}
use Rattle.bind_operators.specs.declared.bound.BoundOp.{BoundOp}
use Rattle.bind_operators.specs.declared.known.Known.{Known}
use Rattle.bind_operators.specs.declared.shape.Shape.{Shape}
use Rattle.bind_operators.specs.declared.wanted.Wanted.TheVariants as wanted
use Rattle.bind_operators.specs.Answers.{over, serialised}
use Rattle.bind_operators.specs.Faults.{each_bound, fault_if}
use Rattle.bind_operators.specs.Known.{scope_at}
use Rattle.bind_operators.specs.Sort.{key_bound, key_of, sort_bound, top_bound, topped}
use Rattle.bind_operators.specs.Wanted.{count_in, is_no_count, row_count_bound, takes, typed_bound}
use Rattle.bind_query_laws.specs.Sound.{AreColumns, IsSoundKnown, IsSoundOp, read_known}
use Rattle.bind_query_laws.proofs.Frame.{after-ok, columns-when, each-all, fits-typed, ok-same, scope-sound, typed-sound, unless-ok}

key-fits : (known : Known) (rows : Shape) → IsSoundKnown known → AreColumns rows.columns → (k : Key) (key : BKey) → key_bound (scope_at known rows position.Plain) k ≡ Ok key → sort_key_fits rows.columns key ≡ true
unfolding key_bound key_of sort_key_fits takes takes_columns
key-fits known rows sound names k key is =
    let scope : Scope = scope_at known rows position.Plain in
    let first = after-ok (typed_bound wanted.Key k.value scope) (λ (t : Typed). Ok (key_of k t)) key is in
    let h = typed-sound wanted.Key k.value scope first.0 (scope-sound known rows position.Plain sound names) first.1 in
    subst (λ (x : BKey). sort_key_fits rows.columns x ≡ true) (ok-same (key_of k first.0) key first.2) (fits-typed is_key known rows position.Plain first.0 refl h.0 h.1)

pub sort_sound : (keys : List Key) (known : Known) (rows : Shape) (b : BoundOp) → IsSoundKnown known → AreColumns rows.columns → sort_bound keys known rows ≡ Ok b → (inside : Bool) → IsSoundOp known inside rows b
unfolding sort_bound over serialised sort_fits
sort_sound keys known rows b sound names is inside =
    let scope : Scope = scope_at known rows position.Plain in
    let first = after-ok (each_bound (key_bound scope) keys) (λ (bound : List BKey). Ok (over (op.Sort bound) (serialised rows))) b is in
    let fit : list_all (sort_key_fits rows.columns) first.0 ≡ true = each-all (sort_key_fits rows.columns) (key_bound scope) keys first.0 (key-fits known rows sound names) first.1 in
    subst (IsSoundOp known inside rows) (ok-same (over (op.Sort first.0) (serialised rows)) b first.2) (record {
      fits = op-Sort first.0 (read_known known) inside rows.columns ∙ columns-when (sort_fits first.0 rows.columns) rows.columns fit;
      columns = names;
    })

pub top_sound : (operator : Place) (e : Expr) (k : Key) (known : Known) (rows : Shape) (b : BoundOp) → IsSoundKnown known → AreColumns rows.columns → top_bound operator e k known rows ≡ Ok b → (inside : Bool) → IsSoundOp known inside rows b
unfolding top_bound topped over serialised sort_fits
top_sound operator e k known rows b sound names is inside =
    let scope : Scope = scope_at known rows position.Plain in
    let first = after-ok (row_count_bound operator known rows e) (λ (n : Lit). key_bound scope k >>= λ key. topped operator rows n key) b is in
    let next = after-ok (key_bound scope k) (topped operator rows first.0) b first.2 in
    let parts = unless-ok (fault_if (is_no_count first.0) 414 operator) (over (op.Top (count_in first.0) (next.0 ∷ [])) (serialised rows)) b next.2 in
    let fit : list_all (sort_key_fits rows.columns) (next.0 ∷ []) ≡ true = and_from (sort_key_fits rows.columns next.0) true (key-fits known rows sound names k next.0 next.1) refl in
    subst (IsSoundOp known inside rows) parts.1 (record {
      fits = op-Top (count_in first.0) (next.0 ∷ []) (read_known known) inside rows.columns ∙ columns-when (sort_fits (next.0 ∷ []) rows.columns) rows.columns fit;
      columns = names;
    })
