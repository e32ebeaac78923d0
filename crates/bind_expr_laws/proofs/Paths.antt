-- Looks into dynamic values.
use Rattle.std.proofs.Common.{◌≡◌, true, List, [], ◌∷◌, ◌++◌, refl, sym, ◌∙◌}
use Rattle.std.specs.Prelude.{Option, None, Some, Ok, fold}
use Rattle.std.specs.List.{list_all}
use Rattle.std.proofs.lemmas.Bool.{and_parts, and_from}
use Rattle.std.proofs.lemmas.List.Folds.{list_all-append}
use Rattle.kql_cells.specs.declared.schema.Column.{Column}
use Rattle.kql_cells.specs.declared.value.Kind.{Kind}
use Rattle.kql_functions.specs.Kinds.{result_kind}
use Rattle.kql_lexer.specs.declared.place.Place.{Place}
use Rattle.kql_bound.specs.declared.expr.BExpr.{BExpr}
use Rattle.kql_bound.specs.declared.expr.BExpr.TheVariants as V
use Rattle.kql_meaning.specs.declared.position.Position.{Position}
use Rattle.kql_meaning.specs.Expressions.{call_kind, kind_down, kind_of, kinds_in, look, path_kind}
use Rattle.kql_meaning.specs.FittingExpressions.{expr_fits}
use Rattle.kql_meaning.proofs.KindLaws.{kind-Path}
use Rattle.kql_meaning.proofs.ExpressionFitLaws.{fits-Path}
use Rattle.bind_expr.specs.Bound.{Look, inside, path_of}
use Rattle.bind_expr.specs.Outcome.{Outcome, ◌>>=◌}
use Rattle.bind_expr.specs.Paths.{looked_as, looked_from, looked_whole, path_closed, path_opened, path_whole, with_look}
use Rattle.bind_expr.specs.declared.scope.Scope.{Scope}
use Rattle.bind_expr.specs.declared.typed.Typed.{Typed}
use Rattle.bind_expr_laws.specs.Scopes.{read_scope}
use Rattle.bind_expr_laws.proofs.Standing.{stands}
use Rattle.bind_expr_laws.proofs.Outcomes.{Each, Gives, gives-fold, gives-ok, gives-then}
use Rattle.bind_expr_laws.proofs.Parts.{IsBound, IsPart, part-bound, two-kind}
use Rattle.bind_expr_laws.proofs.Shapes.{Looked, Spot}
use Rattle.bind_expr_laws.proofs.StandingSteps.{stands-Path}
use Rattle.bind_expr_laws.proofs.Facts.{some-is}

-- A path so far has its type, and its parts fit where they stand rightly.
pub record IsPath (scope : Scope) (at : Position) (whole : BExpr) (steps : List BExpr) (k : Kind) : Type 0 where
  pub kind : kind_down steps scope.schema (kind_of whole scope.schema) ≡ Some k
  pub start : stands at whole ≡ true → expr_fits whole (read_scope scope) at ≡ true
  pub rest : list_all (stands at) steps ≡ true → list_all (λ e. expr_fits e (read_scope scope) at) steps ≡ true

down-push : (steps : List BExpr) (columns : List Column) (k : Option Kind) (e : BExpr) → kind_down (steps ++ e ∷ []) columns k ≡ call_kind look (kind_down steps columns k ∷ kind_of e columns ∷ [])
unfolding kind_down path_kind kinds_in
down-push [] columns k e = refl
down-push (s ∷ ss) columns k e = down-push ss columns (call_kind look (k ∷ kind_of s columns ∷ [])) e

path-push : (scope : Scope) (at : Position) (whole : BExpr) (steps : List BExpr) (k : Kind) (key : BExpr) (j given : Kind) → IsPath scope at whole steps k → IsPart scope at key j → result_kind look (k ∷ j ∷ []) ≡ Some given → IsPath scope at whole (steps ++ key ∷ []) given
path-push scope at whole steps k key j given h part is = record {
  kind = down-push steps scope.schema (kind_of whole scope.schema) key ∙ (two-kind look _ _ k j h.kind part.kind ∙ is);
  start = h.start;
  rest = λ e.
      let both = and_parts _ _ (sym (list_all-append (stands at) steps (key ∷ [])) ∙ e) in
      let last = and_parts _ _ both.1 in
      list_all-append (λ e. expr_fits e (read_scope scope) at) steps (key ∷ []) ∙ and_from _ _ (h.rest both.0) (and_from _ _ (part.fits last.0) refl);
}

abbrev IsLooked : Scope → Position → Looked → Type 0
IsLooked scope at l = IsPath scope at l.whole l.steps l.kind

look-as : (scope : Scope) (at : Position) (place : Place) (whole : BExpr) (steps : List BExpr) (key : BExpr) (o : Option Kind) → ((k : Kind) → o ≡ Some k → IsPath scope at whole (steps ++ key ∷ []) k) → Gives (IsLooked scope at) (looked_as place whole steps key o)
look-as scope at place whole steps key None h = record { holds = tt }
look-as scope at place whole steps key (Some k) h = record { holds = h k refl }

look-bound : (scope : Scope) (at : Position) (place : Place) (l : Looked) (key : Typed) → IsLooked scope at l → IsPart scope at key.expr key.kind → Gives (IsLooked scope at) (with_look place l key)
unfolding with_look
look-bound scope at place l key h part =
    look-as scope at place l.whole l.steps key.expr (result_kind look (l.kind ∷ key.kind ∷ [])) (λ k e. path-push scope at l.whole l.steps l.kind key.expr key.kind k h part e)

path-first : (scope : Scope) (at : Position) (e : BExpr) (k : Kind) → IsPart scope at e k → IsPath scope at e [] k
unfolding kind_down path_kind kinds_in
path-first scope at e k h = record { kind = h.kind; start = h.fits; rest = λ s. refl }

-- The whole.

first-path : (scope : Scope) (at : Position) (e : BExpr) (k : Kind) → IsPath scope at e [] k → IsPart scope at e k
unfolding kind_down path_kind kinds_in
first-path scope at e k h = record { kind = h.kind; fits = h.start }

path-part : (scope : Scope) (at : Position) (whole : BExpr) (steps : List BExpr) (k : Kind) → IsPath scope at whole steps k → IsPart scope at (V.Path whole steps) k
path-part scope at whole steps k h = record {
  kind = kind-Path whole steps scope.schema ∙ h.kind;
  fits = λ s.
      let both = and_parts _ _ (sym (stands-Path at whole steps) ∙ s) in
      fits-Path whole steps (read_scope scope) at ∙ and_from _ _ (h.start both.0) (and_from _ _ (h.rest both.1) (some-is _ k h.kind));
}

whole-part : (scope : Scope) (at : Position) (whole : BExpr) (steps : List BExpr) (k : Kind) → IsPath scope at whole steps k → IsPart scope at (path_whole whole steps) k
whole-part scope at whole [] k h = first-path scope at whole k h
whole-part scope at whole (s ∷ ss) k h = path-part scope at whole (s ∷ ss) k h

closed-bound : (scope : Scope) (spot : Spot) (l : Looked) → IsLooked scope spot.position l → Gives (IsBound scope spot) (Ok (looked_whole l))
unfolding looked_whole
closed-bound scope spot l h = gives-ok (IsBound scope spot) (looked_whole l) (part-bound scope spot (looked_whole l) (whole-part scope spot.position l.whole l.steps l.kind h))

-- A path of a first part and keys of which each is bound.
pub path-bound : (scope : Scope) (spot : Spot) (first : Outcome Typed) (looks : List Look) → Gives (IsBound scope (inside spot.position)) first → Each (IsBound scope (inside spot.position)) (λ (l : Look). l.key scope spot.position) looks → Gives (IsBound scope spot) (path_of scope spot.position first looks)
unfolding path_opened path_closed looked_from
path-bound scope spot first looks h each =
    let at : Spot = inside spot.position in
    let start : Outcome Looked = first >>= λ t. Ok (looked_from t) in
    gives-then (IsLooked scope spot.position) (IsBound scope spot) (fold (λ (before : Outcome Looked) (l : Look). before >>= λ p. l.key scope spot.position >>= λ k. with_look l.place p k) start looks) (λ l. Ok (looked_whole l))
    (gives-fold (IsBound scope at) (IsLooked scope spot.position) (λ (l : Look) (p : Looked) (k : Typed). with_look l.place p k) (λ (l : Look). l.key scope spot.position)
    (λ l p k q b. look-bound scope spot.position l.place p k q (record { kind = b.kind; fits = b.fits })) start
    (gives-then (IsBound scope at) (IsLooked scope spot.position) first (λ t. Ok (looked_from t)) h (λ t b. record { holds = path-first scope spot.position t.expr t.kind (record { kind = b.kind; fits = b.fits }) }))
    looks each)
    (λ l q. closed-bound scope spot l q)
