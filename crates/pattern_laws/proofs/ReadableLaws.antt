-- An expression that fits where neither aggregates nor marked names may stand is readable.
use Rattle.std.proofs.Common.{◌≡◌, ℕ, Bool, true, false, not, List, [], ◌∷◌, map, refl, sym, ap, ◌∙◌, subst}
use Rattle.std.specs.Prelude.{◌&&◌, Option, None, Some}
use Rattle.std.specs.List.{list_all}
use Rattle.std.proofs.lemmas.Bool.{and_parts}
use Rattle.kql_cells.specs.declared.schema.Column.{Column}
use Rattle.kql_cells.specs.declared.value.Kind.{Kind}
use Rattle.kql_cells.specs.declared.value.Kind.TheVariants as kind
use Rattle.kql_functions.specs.declared.aggregate.Aggregate.{Aggregate}
use Rattle.kql_functions.specs.declared.func.Func.{Func}
use Rattle.kql_functions.specs.declared.window.Window.{Window}
use Rattle.kql_functions.specs.declared.window.Window.TheVariants as window
use Rattle.kql_bound.specs.declared.expr.BExpr.{BExpr, ind-BExpr, map-BExpr, out-BExpr, roll-BExpr, roll-out-BExpr}
use Rattle.kql_bound.specs.declared.expr.BExpr.TheOpen.{BExpr-F}
use Rattle.kql_bound.specs.declared.expr.BExpr.TheVariants as V
use Rattle.kql_bound.specs.declared.expr.ChainSign.{ChainSign}
use Rattle.kql_bound.specs.declared.literal.Lit.{Lit}
use Rattle.kql_meaning.specs.declared.position.Position.{Position}
use Rattle.kql_meaning.specs.declared.position.Position.TheVariants as position
use Rattle.kql_meaning.specs.Expressions.{kind_of}
use Rattle.kql_meaning.specs.FittingExpressions.{Scope, aggregate_fits, checked_args, column_of, column_step, expr_fits, has_kind, is_addable, is_callable, is_constant_of, is_count, is_count_literal, is_kind, is_plain_column, is_typed_literal, links_fit, literal_of, literal_step, look_fits, part_fits, restart_fits, row_number_fits, running_sum_fits, scope_of, stands_in_if_column, takes_aggregate, takes_columns, takes_window, term_fits, window_fits}
use Rattle.kql_meaning.specs.Results.{has_one_result}
use Rattle.kql_meaning.specs.Tables.{has_column}
use Rattle.kql_meaning.proofs.ExpressionFitLaws.{exprs-checked, fits-Aggregate, fits-Call, fits-Chain, fits-Column, fits-Path, fits-Window}
use Rattle.pattern_lift.specs.Marks.{begins_with}
use Rattle.pattern_laws.specs.Liftable.{is_readable}
use Rattle.pattern_laws.specs.LawsOfExpressions.{ReadableWhereFits}
use Rattle.pattern_laws.proofs.ToldSteps.{links_readable, readable-Call, readable-Chain, readable-Column, readable-Literal, readable-Path, readable-Step, readable-Window}

pub literal-found : (e : BExpr) (y : BExpr-F BExpr) → out-BExpr e ≡ y → (l : Lit) → literal_step y ≡ Some l → (m : Lit) × (e ≡ V.Literal m)
literal-found e (BExpr-F.Literal m) o l h = (m, sym (roll-out-BExpr e) ∙ (ap roll-BExpr o ∙ V.rolls-Literal m))
literal-found e (BExpr-F.Column n) o l h = absurd cc
literal-found e (BExpr-F.Step c) o l h = absurd cc
literal-found e (BExpr-F.Call f args) o l h = absurd cc
literal-found e (BExpr-F.Chain first links) o l h = absurd cc
literal-found e (BExpr-F.Path whole steps) o l h = absurd cc
literal-found e (BExpr-F.Window f args) o l h = absurd cc
literal-found e (BExpr-F.Aggregate f args) o l h = absurd cc

pub column-shape : (e : BExpr) (y : BExpr-F BExpr) → out-BExpr e ≡ y → (n : List ℕ) → column_step y ≡ Some n → e ≡ V.Column n
column-shape e (BExpr-F.Literal l) o n h = cc
column-shape e (BExpr-F.Column m) o n h = let same : m ≡ n = cc in sym (roll-out-BExpr e) ∙ (ap roll-BExpr o ∙ (V.rolls-Column m ∙ ap V.Column same))
column-shape e (BExpr-F.Step c) o n h = cc
column-shape e (BExpr-F.Call f args) o n h = cc
column-shape e (BExpr-F.Chain first links) o n h = cc
column-shape e (BExpr-F.Path whole steps) o n h = cc
column-shape e (BExpr-F.Window f args) o n h = cc
column-shape e (BExpr-F.Aggregate f args) o n h = cc

literal-readable : (marks : List ℕ) (e : BExpr) (l : Lit) → literal_of e ≡ Some l → is_readable marks e ≡ true
unfolding literal_of
literal-readable marks e l h = let m = literal-found e (out-BExpr e) refl l h in ap (is_readable marks) m.1 ∙ readable-Literal marks m.0

count-found : (marks : List ℕ) (e : BExpr) (o : Option Lit) → literal_of e ≡ o → is_count_literal o ≡ true → is_readable marks e ≡ true
unfolding is_count_literal
count-found marks e None s h = absurd cc
count-found marks e (Some l) s h = literal-readable marks e l s

count-readable : (marks : List ℕ) (e : BExpr) → is_count e ≡ true → is_readable marks e ≡ true
unfolding is_count
count-readable marks e h = count-found marks e (literal_of e) refl h

typed-found : (marks : List ℕ) (e : BExpr) (k : Option Kind) (o : Option Lit) → literal_of e ≡ o → is_typed_literal k o ≡ true → is_readable marks e ≡ true
unfolding is_typed_literal
typed-found marks e k None s h = absurd cc
typed-found marks e k (Some l) s h = literal-readable marks e l s

constant-readable : (marks : List ℕ) (e : BExpr) (k : Option Kind) → is_constant_of k e ≡ true → is_readable marks e ≡ true
unfolding is_constant_of
constant-readable marks e k h = typed-found marks e k (literal_of e) refl h

no-aggregate : (at : Position) (f : Aggregate) → takes_columns at ≡ true → takes_aggregate at f ≡ false
unfolding takes_columns takes_aggregate
no-aggregate position.Plain f h = refl
no-aggregate position.Window f h = refl
no-aggregate position.Term f h = refl
no-aggregate position.Group f h = absurd cc
no-aggregate position.Series f h = absurd cc
no-aggregate position.Constant f h = absurd cc

module _ (marks : List ℕ) (columns : List Column) (own : (n : List ℕ) → has_column n columns ≡ true → begins_with marks n ≡ false) where
  abbrev scope : Scope
  scope = scope_of columns

  abbrev Readable : BExpr → Type 0
  Readable e = (at : Position) → takes_columns at ≡ true → expr_fits e scope at ≡ true → is_readable marks e ≡ true

  abbrev Given : Type 0
  Given = (e : BExpr) × Readable e

  abbrev bare : Given → BExpr
  bare g = g.0

  abbrev bare_link : ChainSign × Given → ChainSign × BExpr
  bare_link l = (l.0, l.1.0)

  own-readable : (n : List ℕ) → has_column n columns ≡ true → is_readable marks (V.Column n) ≡ true
  own-readable n h = readable-Column marks n ∙ ap not (own n h)

  all-readable : (gs : List Given) (at : Position) → takes_columns at ≡ true → list_all (λ e. expr_fits e scope at) (map bare gs) ≡ true → list_all (is_readable marks) (map bare gs) ≡ true
  all-readable [] at t h = refl
  all-readable (g ∷ gs) at t h =
      let p = and_parts (expr_fits g.0 scope at) (list_all (λ e. expr_fits e scope at) (map bare gs)) h in
      rw (g.1 at t p.0, all-readable gs at t p.1) refl

  links-read : (gs : List (ChainSign × Given)) (at : Position) → takes_columns at ≡ true → links_fit (map bare_link gs) scope at ≡ true → links_readable marks (map bare_link gs) ≡ true
  unfolding links_fit
  links-read [] at t h = refl
  links-read (g ∷ gs) at t h =
      let p = and_parts (expr_fits g.1.0 scope at) (list_all (λ (l : ChainSign × BExpr). expr_fits l.1 scope at) (map bare_link gs)) h in
      rw (g.1.1 at t p.0, links-read gs at t p.1) refl

  call-readable : (f : Func) (gs : List Given) → Readable (V.Call f (map bare gs))
  call-readable f gs at t h =
      let args = map bare gs in
      let a = and_parts (is_callable f) (list_all (λ e. expr_fits e scope at) args && (part_fits f args && _)) (sym (fits-Call f args scope at) ∙ h) in
      let b = and_parts (list_all (λ e. expr_fits e scope at) args) (part_fits f args && _) a.1 in
      readable-Call marks f args ∙ all-readable gs at t b.0

  chain-readable : (first : Given) (gs : List (ChainSign × Given)) → Readable (V.Chain first.0 (map bare_link gs))
  chain-readable first gs at t h =
      let links = map bare_link gs in
      let a = and_parts (expr_fits first.0 scope at) (links_fit links scope at && _) (sym (fits-Chain first.0 links scope at) ∙ h) in
      let b = and_parts (links_fit links scope at) _ a.1 in
      readable-Chain marks first.0 links ∙ rw (first.1 at t a.0, links-read gs at t b.0) refl

  path-readable : (whole : Given) (gs : List Given) → Readable (V.Path whole.0 (map bare gs))
  path-readable whole gs at t h =
      let steps = map bare gs in
      let a = and_parts (expr_fits whole.0 scope at) (list_all (λ e. expr_fits e scope at) steps && _) (sym (fits-Path whole.0 steps scope at) ∙ h) in
      let b = and_parts (list_all (λ e. expr_fits e scope at) steps) _ a.1 in
      readable-Path marks whole.0 steps ∙ rw (whole.1 at t a.0, all-readable gs at t b.0) refl

  -- Window functions.

  plain-found : (e : BExpr) (o : Option (List ℕ)) → column_of e ≡ o → stands_in_if_column columns o ≡ true → is_readable marks e ≡ true
  unfolding stands_in_if_column column_of
  plain-found e None s h = absurd cc
  plain-found e (Some n) s h = ap (is_readable marks) (column-shape e (out-BExpr e) refl n s) ∙ own-readable n h

  plain-readable : (e : BExpr) → is_plain_column columns e ≡ true → is_readable marks e ≡ true
  unfolding is_plain_column
  plain-readable e h = plain-found e (column_of e) refl h

  look-readable : (es : List BExpr) → look_fits es scope ≡ true → list_all (is_readable marks) es ≡ true
  unfolding look_fits
  look-readable [] h = refl
  look-readable (c ∷ []) h = rw (plain-readable c h) refl
  look-readable (c ∷ k ∷ []) h =
      let p = and_parts (is_plain_column columns c) (is_count k) h in
      rw (plain-readable c p.0, count-readable marks k p.1) refl
  look-readable (c ∷ k ∷ d ∷ []) h =
      let p = and_parts (is_plain_column columns c) (is_count k && is_constant_of (kind_of c columns) d) h in
      let q = and_parts (is_count k) (is_constant_of (kind_of c columns) d) p.1 in
      rw (plain-readable c p.0, count-readable marks k q.0, constant-readable marks d (kind_of c columns) q.1) refl
  look-readable (c ∷ k ∷ d ∷ e ∷ es) h = absurd cc

  sum-readable : (gs : List Given) → running_sum_fits (checked_args (map bare gs)) scope ≡ true → list_all (is_readable marks) (map bare gs) ≡ true
  unfolding running_sum_fits checked_args term_fits restart_fits takes_columns
  sum-readable [] h = refl
  sum-readable (g ∷ []) h =
      let p = and_parts (expr_fits g.0 scope position.Term) (has_kind is_addable (kind_of g.0 columns)) h in
      rw (g.1 position.Term refl p.0) refl
  sum-readable (g ∷ r ∷ []) h =
      let a = and_parts (expr_fits g.0 scope position.Term && has_kind is_addable (kind_of g.0 columns)) (expr_fits r.0 scope position.Term && is_kind kind.Bool (kind_of r.0 columns)) h in
      let p = and_parts (expr_fits g.0 scope position.Term) (has_kind is_addable (kind_of g.0 columns)) a.0 in
      let q = and_parts (expr_fits r.0 scope position.Term) (is_kind kind.Bool (kind_of r.0 columns)) a.1 in
      rw (g.1 position.Term refl p.0, r.1 position.Term refl q.0) refl
  sum-readable (g ∷ r ∷ s ∷ gs) h = absurd cc

  number-readable : (gs : List Given) → row_number_fits (checked_args (map bare gs)) scope ≡ true → list_all (is_readable marks) (map bare gs) ≡ true
  unfolding row_number_fits checked_args restart_fits takes_columns
  number-readable [] h = refl
  number-readable (g ∷ []) h = rw (constant-readable marks g.0 (Some kind.Long) h) refl
  number-readable (g ∷ r ∷ []) h =
      let a = and_parts (is_constant_of (Some kind.Long) g.0) (expr_fits r.0 scope position.Term && is_kind kind.Bool (kind_of r.0 columns)) h in
      let q = and_parts (expr_fits r.0 scope position.Term) (is_kind kind.Bool (kind_of r.0 columns)) a.1 in
      rw (constant-readable marks g.0 (Some kind.Long) a.0, r.1 position.Term refl q.0) refl
  number-readable (g ∷ r ∷ s ∷ gs) h = absurd cc

  window-args : (f : Window) (gs : List Given) → window_fits f (checked_args (map bare gs)) scope ≡ true → list_all (is_readable marks) (map bare gs) ≡ true
  unfolding window_fits
  window-args window.Prev gs h = look-readable (map bare gs) (ap (λ (es : List BExpr). look_fits es scope) (sym (exprs-checked (map bare gs))) ∙ h)
  window-args window.Next gs h = look-readable (map bare gs) (ap (λ (es : List BExpr). look_fits es scope) (sym (exprs-checked (map bare gs))) ∙ h)
  window-args window.RowCumsum gs h = sum-readable gs h
  window-args window.RowNumber gs h = number-readable gs h

  window-readable : (f : Window) (gs : List Given) → Readable (V.Window f (map bare gs))
  window-readable f gs at t h =
      let args = map bare gs in
      let p = and_parts (takes_window at f) (window_fits f (checked_args args) scope) (sym (fits-Window f args scope at) ∙ h) in
      readable-Window marks f args ∙ window-args f gs p.1

  aggregate-readable : (f : Aggregate) (args : List BExpr) → Readable (V.Aggregate f args)
  unfolding aggregate_fits
  aggregate-readable f args at t h =
      let a = and_parts (has_one_result f args) (takes_aggregate at f && _) (sym (fits-Aggregate f args scope at) ∙ h) in
      let b = and_parts (takes_aggregate at f) _ a.1 in
      let no : false ≡ true = sym (no-aggregate at f t) ∙ b.0 in
      absurd cc

  readable-layer : (y : BExpr-F Given) → Readable (roll-BExpr (map-BExpr Given BExpr bare y))
  readable-layer (BExpr-F.Literal l) = subst Readable (sym (V.rolls-Literal l)) (λ at t h. readable-Literal marks l)
  readable-layer (BExpr-F.Column n) = subst Readable (sym (V.rolls-Column n)) (λ at t h. own-readable n (and_parts (takes_columns at) (has_column n columns) (sym (fits-Column n scope at) ∙ h)).1)
  readable-layer (BExpr-F.Step c) = subst Readable (sym (V.rolls-Step c)) (λ at t h. readable-Step marks c)
  readable-layer (BExpr-F.Call f gs) = subst Readable (sym (V.rolls-Call f (map bare gs))) (call-readable f gs)
  readable-layer (BExpr-F.Chain first gs) = subst Readable (sym (V.rolls-Chain first.0 (map bare_link gs))) (chain-readable first gs)
  readable-layer (BExpr-F.Path whole gs) = subst Readable (sym (V.rolls-Path whole.0 (map bare gs))) (path-readable whole gs)
  readable-layer (BExpr-F.Window f gs) = subst Readable (sym (V.rolls-Window f (map bare gs))) (window-readable f gs)
  readable-layer (BExpr-F.Aggregate f gs) = subst Readable (sym (V.rolls-Aggregate f (map bare gs))) (aggregate-readable f (map bare gs))

  pub readable-fits : (e : BExpr) → Readable e
  readable-fits = ind-BExpr Readable (λ x y is. subst (λ (z : BExpr-F BExpr). Readable (roll-BExpr z)) is (readable-layer y))

pub readable_where_fits : ReadableWhereFits
unfolding takes_columns
readable_where_fits marks columns e own h = readable-fits marks columns own e position.Window refl h
