-- An expression that fits where no aggregate may stand is scalar.
use Rattle.std.proofs.Common.{◌≡◌, Bool, true, false, List, [], ◌∷◌, map, refl, sym, ap, ◌∙◌, subst}
use Rattle.std.specs.Prelude.{◌&&◌, ◌-◌, None, Option, Some, is_some, nat_le, slice_get, ℕ}
use Rattle.std.specs.List.{list_all}
use Rattle.std.proofs.lemmas.Bool.{and_parts}
use Rattle.kql_cells.specs.declared.schema.Column.{Column}
use Rattle.kql_cells.specs.declared.value.Kind.{Kind}
use Rattle.kql_cells.specs.declared.value.Kind.TheVariants as kind
use Rattle.kql_cells.specs.declared.value.Value.{Value}
use Rattle.kql_cells.specs.declared.value.Value.TheVariants as value
use Rattle.kql_functions.specs.Kinds.{same_kind}
use Rattle.kql_functions.specs.declared.aggregate.Aggregate.{Aggregate}
use Rattle.kql_functions.specs.declared.func.Func.{Func}
use Rattle.kql_functions.specs.declared.window.Window.{Window}
use Rattle.kql_functions.specs.declared.window.Window.TheVariants as window
use Rattle.kql_bound.specs.declared.expr.BExpr.{BExpr, ind-BExpr, map-BExpr, out-BExpr, roll-BExpr, roll-out-BExpr}
use Rattle.kql_bound.specs.declared.expr.BExpr.TheOpen.{BExpr-F}
use Rattle.kql_bound.specs.declared.expr.BExpr.TheVariants as V
use Rattle.kql_bound.specs.declared.expr.ChainSign.{ChainSign}
use Rattle.kql_bound.specs.declared.expr.StepColumn.{StepColumn}
use Rattle.kql_bound.specs.declared.literal.Lit.{Lit}
use Rattle.kql_meaning.specs.declared.position.Position.{Position}
use Rattle.kql_meaning.specs.declared.position.Position.TheVariants as position
use Rattle.kql_meaning.specs.Expressions.{call_kind, kind_along, kind_down, kind_of, kinds_in}
use Rattle.kql_meaning.specs.FittingExpressions.{Scope, aggregate_fits, aggregate_takes, checked_args, exprs_of, column_of, column_step, expr_fits, has_kind, is_addable, is_callable, is_constant_of, is_count, is_count_literal, is_count_value, is_kind, is_plain_column, is_this_column, is_this_name, is_this_value, is_typed_literal, links_fit, literal_of, literal_step, look_fits, part_fits, restart_fits, row_number_fits, running_sum_fits, stands_in_if_column, step_fits, takes_aggregate, takes_columns, takes_window, term_fits, window_fits}
use Rattle.kql_meaning.specs.Literals.{is_of_kind, is_well_formed, literal_fits}
use Rattle.kql_meaning.specs.Results.{has_one_result}
use Rattle.kql_meaning.proofs.ExpressionFitLaws.{aggregate-checked, exprs-checked, fits-Aggregate, fits-Call, fits-Chain, fits-Literal, fits-Path, fits-Step, fits-Window}
use Rattle.kql_scalar.specs.Scalar.{ScalarWhereFits, is_of_rows, is_scalar}
use Rattle.kql_scalar.proofs.ScalarSteps.{is_scalar-Call, is_scalar-Chain, is_scalar-Column, is_scalar-Literal, is_scalar-Path, is_scalar-Step, is_scalar-Window, joined}

abbrev IsScalarWhereFits : BExpr → Type 0
IsScalarWhereFits e = (scope : Scope) (at : Position) → is_of_rows at ≡ true → expr_fits e scope at ≡ true → is_scalar e ≡ true

abbrev Given : Type 0
Given = (e : BExpr) × IsScalarWhereFits e

abbrev bare : Given → BExpr
bare g = g.0

abbrev bare_link : ChainSign × Given → ChainSign × BExpr
bare_link l = (l.0, l.1.0)

abbrev fits_at : Scope → Position → BExpr → Bool
fits_at scope at e = expr_fits e scope at

all-scalar : (gs : List Given) (scope : Scope) (at : Position) → is_of_rows at ≡ true → list_all (fits_at scope at) (map bare gs) ≡ true → list_all is_scalar (map bare gs) ≡ true
all-scalar [] scope at h r = refl
all-scalar (g ∷ gs) scope at h r =
    let b = and_parts (fits_at scope at g.0) (list_all (fits_at scope at) (map bare gs)) r in
    joined (is_scalar g.0) (list_all is_scalar (map bare gs)) (g.1 scope at h b.0) (all-scalar gs scope at h b.1)

all-links : (ls : List (ChainSign × Given)) (scope : Scope) (at : Position) → is_of_rows at ≡ true → links_fit (map bare_link ls) scope at ≡ true → list_all (λ (l : ChainSign × BExpr). is_scalar l.1) (map bare_link ls) ≡ true
unfolding links_fit
all-links [] scope at h r = refl
all-links (l ∷ ls) scope at h r =
    let b = and_parts (fits_at scope at l.1.0) (list_all (λ (l : ChainSign × BExpr). fits_at scope at l.1) (map bare_link ls)) r in
    joined (is_scalar l.1.0) (list_all (λ (l : ChainSign × BExpr). is_scalar l.1) (map bare_link ls)) (l.1.1 scope at h b.0) (all-links ls scope at h b.1)

literal-scalar : (l : Lit) → literal_fits l ≡ true → is_scalar (V.Literal l) ≡ true
unfolding literal_fits
literal-scalar l r = is_scalar-Literal l ∙ (and_parts (is_of_kind l.kind l.value) (is_well_formed l.value) r).1

step-scalar : (c : StepColumn) → IsScalarWhereFits (V.Step c)
unfolding step_fits literal_fits
step-scalar c scope at h r =
    let a = and_parts (takes_columns at) (step_fits scope c) (sym (fits-Step c scope at) ∙ r) in
    let named = is_this_name (slice_get scope.steps (c.number - 1)) c.step in
    let typed = is_this_column (slice_get scope.columns c.place) c.column c.default.kind in
    let given = is_this_value (slice_get scope.defaults c.place) c.default.value in
    let formed = is_of_kind c.default.kind c.default.value && is_well_formed c.default.value in
    let b = and_parts (nat_le 1 c.number) (named && (typed && (given && formed))) a.1 in
    let d = and_parts named (typed && (given && formed)) b.1 in
    let e = and_parts typed (given && formed) d.1 in
    let f = and_parts given formed e.1 in
    is_scalar-Step c ∙ (and_parts (is_of_kind c.default.kind c.default.value) (is_well_formed c.default.value) f.1).1

call-scalar : (f : Func) (gs : List Given) → IsScalarWhereFits (V.Call f (map bare gs))
call-scalar f gs scope at h r =
    let es = map bare gs in
    let b = and_parts (is_callable f) (list_all (fits_at scope at) es && (part_fits f es && is_some (call_kind f (kinds_in es scope.columns)))) (sym (fits-Call f es scope at) ∙ r) in
    let c = and_parts (list_all (fits_at scope at) es) (part_fits f es && is_some (call_kind f (kinds_in es scope.columns))) b.1 in
    is_scalar-Call f es ∙ all-scalar gs scope at h c.0

chain-scalar : (first : Given) (gs : List (ChainSign × Given)) → IsScalarWhereFits (V.Chain first.0 (map bare_link gs))
chain-scalar first gs scope at h r =
    let ls = map bare_link gs in
    let b = and_parts (fits_at scope at first.0) (links_fit ls scope at && is_some (kind_along ls scope.columns (kind_of first.0 scope.columns))) (sym (fits-Chain first.0 ls scope at) ∙ r) in
    let c = and_parts (links_fit ls scope at) (is_some (kind_along ls scope.columns (kind_of first.0 scope.columns))) b.1 in
    is_scalar-Chain first.0 ls ∙ joined (is_scalar first.0) _ (first.1 scope at h b.0) (all-links gs scope at h c.0)

path-scalar : (whole : Given) (gs : List Given) → IsScalarWhereFits (V.Path whole.0 (map bare gs))
path-scalar whole gs scope at h r =
    let es = map bare gs in
    let b = and_parts (fits_at scope at whole.0) (list_all (fits_at scope at) es && is_some (kind_down es scope.columns (kind_of whole.0 scope.columns))) (sym (fits-Path whole.0 es scope at) ∙ r) in
    let c = and_parts (list_all (fits_at scope at) es) (is_some (kind_down es scope.columns (kind_of whole.0 scope.columns))) b.1 in
    is_scalar-Path whole.0 es ∙ joined (is_scalar whole.0) _ (whole.1 scope at h b.0) (all-scalar gs scope at h c.0)

-- Arguments of window functions: columns and constants alone, and terms and restarts.

column-roll : (f : BExpr-F BExpr) (n : List ℕ) → column_step f ≡ Some n → roll-BExpr f ≡ V.Column n
column-roll (BExpr-F.Column m) n e = let same : m ≡ n = cc in V.rolls-Column m ∙ ap V.Column same
column-roll (BExpr-F.Literal l) n e = absurd cc
column-roll (BExpr-F.Step c) n e = absurd cc
column-roll (BExpr-F.Call f args) n e = absurd cc
column-roll (BExpr-F.Chain first links) n e = absurd cc
column-roll (BExpr-F.Path whole steps) n e = absurd cc
column-roll (BExpr-F.Window f args) n e = absurd cc
column-roll (BExpr-F.Aggregate f args) n e = absurd cc

named-scalar : (e : BExpr) (n : List ℕ) → column_of e ≡ Some n → is_scalar e ≡ true
unfolding column_of
named-scalar e n h = ap is_scalar (sym (roll-out-BExpr e) ∙ column-roll (out-BExpr e) n h) ∙ is_scalar-Column n

stands-named : (columns : List Column) (o : Option (List ℕ)) → stands_in_if_column columns o ≡ true → (n : List ℕ) × (o ≡ Some n)
unfolding stands_in_if_column
stands-named columns None e = absurd cc
stands-named columns (Some n) e = (n, refl)

column-scalar : (columns : List Column) (e : BExpr) → is_plain_column columns e ≡ true → is_scalar e ≡ true
unfolding is_plain_column
column-scalar columns e h = let q = stands-named columns (column_of e) h in named-scalar e q.0 q.1

literal-roll : (f : BExpr-F BExpr) (l : Lit) → literal_step f ≡ Some l → roll-BExpr f ≡ V.Literal l
literal-roll (BExpr-F.Literal m) l e = let same : m ≡ l = cc in V.rolls-Literal m ∙ ap V.Literal same
literal-roll (BExpr-F.Column n) l e = absurd cc
literal-roll (BExpr-F.Step c) l e = absurd cc
literal-roll (BExpr-F.Call f args) l e = absurd cc
literal-roll (BExpr-F.Chain first links) l e = absurd cc
literal-roll (BExpr-F.Path whole steps) l e = absurd cc
literal-roll (BExpr-F.Window f args) l e = absurd cc
literal-roll (BExpr-F.Aggregate f args) l e = absurd cc

formed-scalar : (e : BExpr) (l : Lit) → literal_of e ≡ Some l → is_well_formed l.value ≡ true → is_scalar e ≡ true
unfolding literal_of
formed-scalar e l h w = ap is_scalar (sym (roll-out-BExpr e) ∙ literal-roll (out-BExpr e) l h) ∙ (is_scalar-Literal l ∙ w)

typed-formed : (k : Option Kind) (o : Option Lit) → is_typed_literal k o ≡ true → (l : Lit) × (o ≡ Some l) × (is_well_formed l.value ≡ true)
unfolding is_typed_literal literal_fits
typed-formed k None e = absurd cc
typed-formed k (Some l) e =
    let parts = and_parts (is_of_kind l.kind l.value && is_well_formed l.value) (is_kind l.kind k) e in
    (l, refl, (and_parts (is_of_kind l.kind l.value) (is_well_formed l.value) parts.0).1)

constant-scalar : (k : Option Kind) (e : BExpr) → is_constant_of k e ≡ true → is_scalar e ≡ true
unfolding is_constant_of
constant-scalar k e h = let q = typed-formed k (literal_of e) h in formed-scalar e q.0 q.1 q.2

count-formed : (v : Value) → is_count_value v ≡ true → is_well_formed v ≡ true
unfolding is_count_value is_well_formed
count-formed (value.Long n) h = refl
count-formed value.Null h = refl
count-formed (value.Bool b) h = refl
count-formed (value.Text t) h = refl
count-formed (value.Span n) h = refl
count-formed (value.Moment n) h = absurd cc
count-formed (value.Dynamic d) h = absurd cc

counted-formed : (o : Option Lit) → is_count_literal o ≡ true → (l : Lit) × (o ≡ Some l) × (is_well_formed l.value ≡ true)
unfolding is_count_literal
counted-formed None e = absurd cc
counted-formed (Some l) e = (l, refl, count-formed l.value (and_parts (same_kind l.kind kind.Long) (is_count_value l.value) e).1)

count-scalar : (e : BExpr) → is_count e ≡ true → is_scalar e ≡ true
unfolding is_count
count-scalar e h = let q = counted-formed (literal_of e) h in formed-scalar e q.0 q.1 q.2

one : (e : BExpr) → is_scalar e ≡ true → list_all is_scalar (e ∷ []) ≡ true
one e h = joined (is_scalar e) true h refl

two : (e f : BExpr) → is_scalar e ≡ true → is_scalar f ≡ true → list_all is_scalar (e ∷ f ∷ []) ≡ true
two e f h k = joined (is_scalar e) (list_all is_scalar (f ∷ [])) h (one f k)

look-scalar : (es : List BExpr) (scope : Scope) → look_fits es scope ≡ true → list_all is_scalar es ≡ true
unfolding look_fits
look-scalar [] scope e = absurd cc
look-scalar (c ∷ []) scope e = one c (column-scalar scope.columns c e)
look-scalar (c ∷ k ∷ []) scope e =
    let parts = and_parts (is_plain_column scope.columns c) (is_count k) e in
    two c k (column-scalar scope.columns c parts.0) (count-scalar k parts.1)
look-scalar (c ∷ k ∷ d ∷ []) scope e =
    let parts = and_parts (is_plain_column scope.columns c) (is_count k && is_constant_of (kind_of c scope.columns) d) e in
    let more = and_parts (is_count k) (is_constant_of (kind_of c scope.columns) d) parts.1 in
    joined (is_scalar c) (list_all is_scalar (k ∷ d ∷ [])) (column-scalar scope.columns c parts.0) (two k d (count-scalar k more.0) (constant-scalar (kind_of c scope.columns) d more.1))
look-scalar (c ∷ k ∷ d ∷ x ∷ xs) scope e = absurd cc

restart-scalar : (g : Given) (scope : Scope) → restart_fits (g.0, expr_fits g.0) scope ≡ true → is_scalar g.0 ≡ true
unfolding restart_fits is_of_rows
restart-scalar g scope e = g.1 scope position.Term refl (and_parts (expr_fits g.0 scope position.Term) (is_kind kind.Bool (kind_of g.0 scope.columns)) e).0

term-scalar : (g : Given) (scope : Scope) → term_fits (g.0, expr_fits g.0) scope ≡ true → is_scalar g.0 ≡ true
unfolding term_fits is_of_rows
term-scalar g scope e = g.1 scope position.Term refl (and_parts (expr_fits g.0 scope position.Term) (has_kind is_addable (kind_of g.0 scope.columns)) e).0

running-scalar : (gs : List Given) (scope : Scope) → running_sum_fits (checked_args (map bare gs)) scope ≡ true → list_all is_scalar (map bare gs) ≡ true
unfolding running_sum_fits checked_args
running-scalar [] scope e = absurd cc
running-scalar (g ∷ []) scope e = one g.0 (term-scalar g scope e)
running-scalar (g ∷ r ∷ []) scope e =
    let parts = and_parts (term_fits (g.0, expr_fits g.0) scope) (restart_fits (r.0, expr_fits r.0) scope) e in
    two g.0 r.0 (term-scalar g scope parts.0) (restart-scalar r scope parts.1)
running-scalar (g ∷ r ∷ x ∷ xs) scope e = absurd cc

number-scalar : (gs : List Given) (scope : Scope) → row_number_fits (checked_args (map bare gs)) scope ≡ true → list_all is_scalar (map bare gs) ≡ true
unfolding row_number_fits checked_args
number-scalar [] scope e = refl
number-scalar (g ∷ []) scope e = one g.0 (constant-scalar (Some kind.Long) g.0 e)
number-scalar (g ∷ r ∷ []) scope e =
    let parts = and_parts (is_constant_of (Some kind.Long) g.0) (restart_fits (r.0, expr_fits r.0) scope) e in
    two g.0 r.0 (constant-scalar (Some kind.Long) g.0 parts.0) (restart-scalar r scope parts.1)
number-scalar (g ∷ r ∷ x ∷ xs) scope e = absurd cc

looks : (es : List BExpr) (scope : Scope) → look_fits (exprs_of (checked_args es)) scope ≡ true → look_fits es scope ≡ true
looks es scope e = sym (ap (λ (xs : List BExpr). look_fits xs scope) (exprs-checked es)) ∙ e

parts-scalar : (f : Window) (gs : List Given) (scope : Scope) → window_fits f (checked_args (map bare gs)) scope ≡ true → list_all is_scalar (map bare gs) ≡ true
unfolding window_fits
parts-scalar window.Prev gs scope e = look-scalar (map bare gs) scope (looks (map bare gs) scope e)
parts-scalar window.Next gs scope e = look-scalar (map bare gs) scope (looks (map bare gs) scope e)
parts-scalar window.RowCumsum gs scope e = running-scalar gs scope e
parts-scalar window.RowNumber gs scope e = number-scalar gs scope e

window-scalar : (f : Window) (gs : List Given) → IsScalarWhereFits (V.Window f (map bare gs))
window-scalar f gs scope at h r =
    let parts = and_parts (takes_window at f) (window_fits f (checked_args (map bare gs)) scope) (sym (fits-Window f (map bare gs) scope at) ∙ r) in
    is_scalar-Window f (map bare gs) ∙ parts-scalar f gs scope parts.1

no-aggregate : (f : Aggregate) (at : Position) → is_of_rows at ≡ true → takes_aggregate at f ≡ false
unfolding is_of_rows takes_aggregate
no-aggregate f position.Plain h = refl
no-aggregate f position.Window h = refl
no-aggregate f position.Term h = refl
no-aggregate f position.Constant h = refl
no-aggregate f position.Group h = absurd cc
no-aggregate f position.Series h = absurd cc

aggregate-scalar : (f : Aggregate) (args : List BExpr) → IsScalarWhereFits (V.Aggregate f args)
aggregate-scalar f args scope at h r =
    let b = and_parts (has_one_result f args) (aggregate_fits f (checked_args args) scope at) (sym (fits-Aggregate f args scope at) ∙ r) in
    let c = and_parts (takes_aggregate at f) (list_all (λ e. expr_fits e scope position.Plain) args && aggregate_takes f args scope.columns) (sym (aggregate-checked f args scope at) ∙ b.1) in
    let no : false ≡ true = sym (no-aggregate f at h) ∙ c.0 in
    absurd cc

of-layer : (y : BExpr-F Given) → IsScalarWhereFits (roll-BExpr (map-BExpr Given BExpr bare y))
of-layer (BExpr-F.Literal l) = subst IsScalarWhereFits (sym (V.rolls-Literal l)) (λ scope at h r. literal-scalar l (sym (fits-Literal l scope at) ∙ r))
of-layer (BExpr-F.Column n) = subst IsScalarWhereFits (sym (V.rolls-Column n)) (λ scope at h r. is_scalar-Column n)
of-layer (BExpr-F.Step c) = subst IsScalarWhereFits (sym (V.rolls-Step c)) (step-scalar c)
of-layer (BExpr-F.Call f gs) = subst IsScalarWhereFits (sym (V.rolls-Call f (map bare gs))) (call-scalar f gs)
of-layer (BExpr-F.Chain first gs) = subst IsScalarWhereFits (sym (V.rolls-Chain first.0 (map bare_link gs))) (chain-scalar first gs)
of-layer (BExpr-F.Path whole gs) = subst IsScalarWhereFits (sym (V.rolls-Path whole.0 (map bare gs))) (path-scalar whole gs)
of-layer (BExpr-F.Window f gs) = subst IsScalarWhereFits (sym (V.rolls-Window f (map bare gs))) (window-scalar f gs)
of-layer (BExpr-F.Aggregate f gs) = subst IsScalarWhereFits (sym (V.rolls-Aggregate f (map bare gs))) (aggregate-scalar f (map bare gs))

each-scalar : (e : BExpr) → IsScalarWhereFits e
each-scalar = ind-BExpr IsScalarWhereFits (λ x y is. subst (λ (z : BExpr-F BExpr). IsScalarWhereFits (roll-BExpr z)) is (of-layer y))

pub scalar_where_fits : ScalarWhereFits
scalar_where_fits e scope at rows fits = record { holds = each-scalar e scope at rows fits }

pub ruleset scalar_fit_laws = (scalar_where_fits)
