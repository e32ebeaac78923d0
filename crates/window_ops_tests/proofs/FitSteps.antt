-- Two columns that may be keys are arguments that fit.
use Rattle.std.proofs.Common.{◌≡◌, ℕ, Bool, true, List, [], ◌∷◌, refl, ap, sym, ◌∙◌, subst}
use Rattle.std.specs.List.{list_all}
use Rattle.std.proofs.lemmas.Bool.{and_from, and_parts}
use Rattle.kql_cells.specs.declared.schema.Column.{Column}
use Rattle.kql_bound.specs.declared.expr.BExpr.{BExpr}
use Rattle.kql_bound.specs.declared.expr.BExpr.TheVariants as expr
use Rattle.kql_bound.specs.declared.parts.BKey.{BKey}
use Rattle.kql_meaning.specs.declared.position.Position.TheVariants as position
use Rattle.kql_meaning.specs.Expressions.{kind_of}
use Rattle.kql_meaning.specs.FittingExpressions.{expr_fits, fits_as, has_kind, is_key, scope_of}
use Rattle.kql_meaning.specs.FittingOperators.{sort_fits, sort_key_fits}
use Rattle.kql_scalar.specs.Scalar.{is_of_rows}
use Rattle.window_ops.specs.Fitting.{AllFitRows}
use Rattle.window_ops_tests.specs.Columns.{key, two_columns, two_keys}

abbrev fits : List Column → BExpr → Bool
fits cs e = expr_fits e (scope_of cs) position.Plain

of-key : (cs : List Column) (a : List ℕ) → sort_key_fits cs (key a) ≡ true → fits cs (expr.Column a) ≡ true
unfolding sort_key_fits fits_as
of-key cs a h = (and_parts (expr_fits (expr.Column a) (scope_of cs) position.Plain) (has_kind is_key (kind_of (expr.Column a) cs)) h).0

plain-of-rows : is_of_rows position.Plain ≡ true
unfolding is_of_rows
plain-of-rows = refl

both-fit : (cs : List Column) (a b : List ℕ) → sort_fits (two_keys a b) cs ≡ true → AllFitRows cs (two_columns a b)
unfolding sort_fits
both-fit cs a b h =
    let first = and_parts (sort_key_fits cs (key a)) (list_all (sort_key_fits cs) (key b ∷ [])) h in
    let second = and_parts (sort_key_fits cs (key b)) (list_all (sort_key_fits cs) []) first.1 in
    record {
      at = position.Plain;
      rows = plain-of-rows;
      each = and_from (fits cs (expr.Column a)) (list_all (fits cs) (expr.Column b ∷ [])) (of-key cs a first.0) (and_from (fits cs (expr.Column b)) true (of-key cs b second.0) refl);
    }

pub keys-fit : (cs : List Column) (a b : List ℕ) (keys : List BKey) (test : Bool) → keys ≡ two_keys a b → test ≡ sort_fits keys cs → test ≡ true → AllFitRows cs (two_columns a b)
keys-fit cs a b keys test is e t = both-fit cs a b (sym (e ∙ ap (λ ks. sort_fits ks cs) is) ∙ t)

pub args-fit : (cs : List Column) (a b : List ℕ) (args : List BExpr) → args ≡ two_columns a b → AllFitRows cs (two_columns a b) → AllFitRows cs args
args-fit cs a b args is h = subst (AllFitRows cs) (sym is) h

pub ruleset fit_steps = (keys-fit, args-fit)
