-- Constants: they stand rightly everywhere, and have one value, whose literal fits. Where columns may stand, so does every expression.
use Rattle.std.proofs.Common.{◌≡◌, ℕ, true, false, List, [], ◌∷◌, map, refl, sym, ap, ap₂, ◌∙◌, subst, arith}
use Rattle.std.specs.Prelude.{◌&&◌, not, Option, None, Some}
use Rattle.std.specs.List.{list_all, list_any}
use Rattle.std.proofs.lemmas.Bool.{and_parts, and_from, or_parts}
use Rattle.std.proofs.lemmas.List.Elements.{All-from_recursion}
use Rattle.kql_cells.specs.Named.{HasDistinctNames, column_name}
use Rattle.kql_cells.specs.Table.{Grid, RowFits}
use Rattle.kql_cells.specs.declared.value.Kind.{Kind}
use Rattle.kql_cells.specs.declared.value.Value.{Value}
use Rattle.kql_functions.specs.declared.aggregate.Aggregate.{Aggregate}
use Rattle.kql_scalar_fns.specs.Applied.{applied}
use Rattle.kql_bound.specs.declared.expr.BExpr.{BExpr, ind-BExpr, map-BExpr, roll-BExpr}
use Rattle.kql_bound.specs.declared.expr.BExpr.TheOpen.{BExpr-F}
use Rattle.kql_bound.specs.declared.expr.BExpr.TheVariants as V
use Rattle.kql_bound.specs.declared.expr.ChainSign.{ChainSign}
use Rattle.kql_bound.specs.declared.literal.Lit.{Lit}
use Rattle.kql_meaning.specs.declared.position.Position.{Position}
use Rattle.kql_meaning.specs.declared.position.Position.TheVariants as position
use Rattle.kql_meaning.specs.Expressions.{chain_value, kind_of, path_value, val, value_along, value_down, values_in}
use Rattle.kql_meaning.specs.FittingExpressions.{expr_fits, takes_columns}
use Rattle.kql_meaning.specs.Literals.{is_of_kind, is_well_formed, literal_fits}
use Rattle.kql_meaning.specs.Readings.{Records}
use Rattle.kql_meaning.specs.Tables.{absent_row}
use Rattle.kql_meaning.proofs.ExpressionFitLaws.{fits-Literal}
use Rattle.kql_meaning.proofs.KindLaws.{kind-Literal}
use Rattle.kql_meaning.proofs.LiteralLaws.{is_of_kind-decides, is_well_formed-decides}
use Rattle.kql_meaning.proofs.ValueLaws.{val-Call, val-Chain, val-Literal, val-Path}
use Rattle.kql_scalar.specs.Scalar.{is_scalar}
use Rattle.kql_fit_laws.specs.LawsOfCalls.{FitsKind}
use Rattle.kql_fit_laws.specs.LawsOfExpressions.{FitsKnown, Steps}
use Rattle.kql_fit_laws.proofs.ExpressionLaws.{expressions_keep}
use Rattle.kql_fit_laws.proofs.KnownValues.{no-records}
use Rattle.kql_fit_laws.proofs.RowFacts.{absent-row-fits}
use Rattle.bind_expr.specs.Constants.{bare_row, constant_of, constant_value, is_constant, settled, settled_as}
use Rattle.bind_expr.proofs.ConstantSteps.{constant-Aggregate, constant-Call, constant-Chain, constant-Column, constant-Path, constant-Step, constant-Window}
use Rattle.bind_expr.specs.declared.scope.Scope.{Scope}
use Rattle.bind_expr.specs.declared.typed.Typed.{Typed}
use Rattle.bind_expr_laws.proofs.Standing.{counts_well, stands}
use Rattle.bind_expr_laws.specs.Scopes.{read_scope}
use Rattle.bind_expr.specs.GroupForms.{has_bad_count, has_bare_column}
use Rattle.bind_expr_laws.proofs.Parts.{IsPart}
use Rattle.bind_expr.proofs.GroupForms.{bare-Call, bare-Chain, bare-Column, bare-Path, bare-Step, count-Aggregate, count-Call, count-Chain, count-Path}
use Rattle.bind_expr_laws.proofs.StandingSteps.{stands-Aggregate, stands-Call, stands-Chain, stands-Column, stands-Literal, stands-Path, stands-Step, stands-Window}
use Rattle.bind_expr_laws.proofs.Facts.{if-some, never}

-- By induction over expressions.

pub record IsSteady (e : BExpr) : Type 0 where
  pub standing : (at : Position) → stands at e ≡ true
  pub value : (t u : Grid) (i j : ℕ) (r s : Records) → val e t i r ≡ val e u j s

pub record IsFree (e : BExpr) : Type 0 where
  pub in_columns : (at : Position) → takes_columns at ≡ true → stands at e ≡ true
  pub steady : is_constant e ≡ true → IsSteady e
  pub grouped : has_bare_column e ≡ false → has_bad_count e ≡ false → stands position.Group e ≡ true

abbrev Given : Type 0
Given = (e : BExpr) × IsFree e

abbrev bare : Given → BExpr
bare g = g.0

abbrev bare_link : ChainSign × Given → ChainSign × BExpr
bare_link l = (l.0, l.1.0)

all-open : (gs : List Given) (at : Position) → takes_columns at ≡ true → list_all (stands at) (map bare gs) ≡ true
all-open [] at e = refl
all-open (g ∷ gs) at e = and_from (stands at g.0) _ (g.1.in_columns at e) (all-open gs at e)

links-open : (ls : List (ChainSign × Given)) (at : Position) → takes_columns at ≡ true → list_all (λ (l : ChainSign × BExpr). stands at l.1) (map bare_link ls) ≡ true
links-open [] at e = refl
links-open (l ∷ ls) at e = and_from (stands at l.1.0) _ (l.1.1.in_columns at e) (links-open ls at e)

abbrev AreSteady : List BExpr → Type 0
AreSteady [] = Unit {0}
AreSteady (e ∷ es) = IsSteady e × AreSteady es

abbrev AreLinksSteady : List (ChainSign × BExpr) → Type 0
AreLinksSteady [] = Unit {0}
AreLinksSteady (l ∷ ls) = IsSteady l.1 × AreLinksSteady ls

all-steady : (gs : List Given) → list_all is_constant (map bare gs) ≡ true → AreSteady (map bare gs)
all-steady [] e = tt
all-steady (g ∷ gs) e = let both = and_parts (is_constant g.0) (list_all is_constant (map bare gs)) e in (g.1.steady both.0, all-steady gs both.1)

links-steady : (ls : List (ChainSign × Given)) → list_all (λ (l : ChainSign × BExpr). is_constant l.1) (map bare_link ls) ≡ true → AreLinksSteady (map bare_link ls)
links-steady [] e = tt
links-steady (l ∷ ls) e = let both = and_parts (is_constant l.1.0) (list_all (λ (l : ChainSign × BExpr). is_constant l.1) (map bare_link ls)) e in (l.1.1.steady both.0, links-steady ls both.1)

steady-stand : (es : List BExpr) (at : Position) → AreSteady es → list_all (stands at) es ≡ true
steady-stand [] at h = refl
steady-stand (e ∷ es) at h = and_from (stands at e) _ (h.0.standing at) (steady-stand es at h.1)

steady-links : (ls : List (ChainSign × BExpr)) (at : Position) → AreLinksSteady ls → list_all (λ (l : ChainSign × BExpr). stands at l.1) ls ≡ true
steady-links [] at h = refl
steady-links (l ∷ ls) at h = and_from (stands at l.1) _ (h.0.standing at) (steady-links ls at h.1)

steady-values : (es : List BExpr) → AreSteady es → (t u : Grid) (i j : ℕ) (r s : Records) → values_in es t i r ≡ values_in es u j s
unfolding values_in
steady-values [] h t u i j r s = refl
steady-values (e ∷ es) h t u i j r s = ap₂ (λ (v : Value) (vs : List Value). v ∷ vs) (h.0.value t u i j r s) (steady-values es h.1 t u i j r s)

steady-signs : (ls : List (ChainSign × BExpr)) → AreLinksSteady ls → (t u : Grid) (i j : ℕ) (r s : Records) → map {B = ChainSign × Value} (λ (l : ChainSign × BExpr). (l.0, val l.1 t i r)) ls ≡ map {B = ChainSign × Value} (λ (l : ChainSign × BExpr). (l.0, val l.1 u j s)) ls
steady-signs [] h t u i j r s = refl
steady-signs (l ∷ ls) h t u i j r s = ap₂ (λ (v : Value) (vs : List (ChainSign × Value)). (l.0, v) ∷ vs) (h.0.value t u i j r s) (steady-signs ls h.1 t u i j r s)

all-grouped : (gs : List Given) → list_any has_bare_column (map bare gs) ≡ false → list_any has_bad_count (map bare gs) ≡ false → list_all (stands position.Group) (map bare gs) ≡ true
all-grouped [] e f = refl
all-grouped (g ∷ gs) e f =
    let columns = or_parts (has_bare_column g.0) (list_any has_bare_column (map bare gs)) e in
    let counts = or_parts (has_bad_count g.0) (list_any has_bad_count (map bare gs)) f in
    and_from (stands position.Group g.0) (list_all (stands position.Group) (map bare gs)) (g.1.grouped columns.0 counts.0) (all-grouped gs columns.1 counts.1)

links-grouped : (ls : List (ChainSign × Given)) → list_any (λ (l : ChainSign × BExpr). has_bare_column l.1) (map bare_link ls) ≡ false → list_any (λ (l : ChainSign × BExpr). has_bad_count l.1) (map bare_link ls) ≡ false → list_all (λ (l : ChainSign × BExpr). stands position.Group l.1) (map bare_link ls) ≡ true
links-grouped [] e f = refl
links-grouped (l ∷ ls) e f =
    let columns = or_parts (has_bare_column l.1.0) (list_any (λ (l : ChainSign × BExpr). has_bare_column l.1) (map bare_link ls)) e in
    let counts = or_parts (has_bad_count l.1.0) (list_any (λ (l : ChainSign × BExpr). has_bad_count l.1) (map bare_link ls)) f in
    and_from (stands position.Group l.1.0) (list_all (λ (l : ChainSign × BExpr). stands position.Group l.1) (map bare_link ls)) (l.1.1.grouped columns.0 counts.0) (links-grouped ls columns.1 counts.1)

counts-open : (at : Position) (f : Aggregate) (args : List BExpr) → takes_columns at ≡ true → counts_well at f args ≡ true
unfolding takes_columns
counts-open position.Plain f args e = refl
counts-open position.Window f args e = refl
counts-open position.Term f args e = refl
counts-open position.Group f args e = absurd cc
counts-open position.Series f args e = refl
counts-open position.Constant f args e = refl

of-layer : (y : BExpr-F Given) → IsFree (roll-BExpr (map-BExpr Given BExpr bare y))
unfolding value_along value_down
of-layer (BExpr-F.Literal l) = subst IsFree (sym (V.rolls-Literal l)) (record {
  in_columns = λ at e. stands-Literal at l;
  steady = λ c. record { standing = λ at. stands-Literal at l; value = λ t u i j r s. val-Literal l t i r ∙ sym (val-Literal l u j s) };
  grouped = λ a b. stands-Literal position.Group l;
})
of-layer (BExpr-F.Column n) = subst IsFree (sym (V.rolls-Column n)) (record {
  in_columns = λ at e. stands-Column at n ∙ e;
  steady = λ c. never (is_constant (V.Column n)) (constant-Column n) c;
  grouped = λ a b. never (has_bare_column (V.Column n)) a (bare-Column n);
})
of-layer (BExpr-F.Step c) = subst IsFree (sym (V.rolls-Step c)) (record {
  in_columns = λ at e. stands-Step at c ∙ e;
  steady = λ k. never (is_constant (V.Step c)) (constant-Step c) k;
  grouped = λ a b. never (has_bare_column (V.Step c)) a (bare-Step c);
})
of-layer (BExpr-F.Call f args) = subst IsFree (sym (V.rolls-Call f (map bare args))) (record {
  in_columns = λ at e. stands-Call at f (map bare args) ∙ all-open args at e;
  steady = λ c.
      let h = all-steady args (sym (constant-Call f (map bare args)) ∙ c) in
      record {
        standing = λ at. stands-Call at f (map bare args) ∙ steady-stand (map bare args) at h;
        value = λ t u i j r s. val-Call f (map bare args) t i r ∙ (ap (applied f) (steady-values (map bare args) h t u i j r s) ∙ sym (val-Call f (map bare args) u j s));
      };
  grouped = λ a b. stands-Call position.Group f (map bare args) ∙ all-grouped args (sym (bare-Call f (map bare args)) ∙ a) (sym (count-Call f (map bare args)) ∙ b);
})
of-layer (BExpr-F.Chain first links) = subst IsFree (sym (V.rolls-Chain first.0 (map bare_link links))) (record {
  in_columns = λ at e. stands-Chain at first.0 (map bare_link links) ∙ and_from _ _ (first.1.in_columns at e) (links-open links at e);
  steady = λ c.
      let both = and_parts _ _ (sym (constant-Chain first.0 (map bare_link links)) ∙ c) in
      let h = first.1.steady both.0 in
      let k = links-steady links both.1 in
      record {
        standing = λ at. stands-Chain at first.0 (map bare_link links) ∙ and_from _ _ (h.standing at) (steady-links (map bare_link links) at k);
        value = λ t u i j r s. val-Chain first.0 (map bare_link links) t i r ∙ (ap₂ chain_value (h.value t u i j r s) (steady-signs (map bare_link links) k t u i j r s) ∙ sym (val-Chain first.0 (map bare_link links) u j s));
      };
  grouped = λ a b.
      let columns = or_parts _ _ (sym (bare-Chain first.0 (map bare_link links)) ∙ a) in
      let counts = or_parts _ _ (sym (count-Chain first.0 (map bare_link links)) ∙ b) in
      stands-Chain position.Group first.0 (map bare_link links) ∙ and_from _ _ (first.1.grouped columns.0 counts.0) (links-grouped links columns.1 counts.1);
})
of-layer (BExpr-F.Path whole steps) = subst IsFree (sym (V.rolls-Path whole.0 (map bare steps))) (record {
  in_columns = λ at e. stands-Path at whole.0 (map bare steps) ∙ and_from _ _ (whole.1.in_columns at e) (all-open steps at e);
  steady = λ c.
      let both = and_parts _ _ (sym (constant-Path whole.0 (map bare steps)) ∙ c) in
      let h = whole.1.steady both.0 in
      let k = all-steady steps both.1 in
      record {
        standing = λ at. stands-Path at whole.0 (map bare steps) ∙ and_from _ _ (h.standing at) (steady-stand (map bare steps) at k);
        value = λ t u i j r s. val-Path whole.0 (map bare steps) t i r ∙ (ap₂ path_value (h.value t u i j r s) (steady-values (map bare steps) k t u i j r s) ∙ sym (val-Path whole.0 (map bare steps) u j s));
      };
  grouped = λ a b.
      let columns = or_parts _ _ (sym (bare-Path whole.0 (map bare steps)) ∙ a) in
      let counts = or_parts _ _ (sym (count-Path whole.0 (map bare steps)) ∙ b) in
      stands-Path position.Group whole.0 (map bare steps) ∙ and_from _ _ (whole.1.grouped columns.0 counts.0) (all-grouped steps columns.1 counts.1);
})
of-layer (BExpr-F.Window f args) = subst IsFree (sym (V.rolls-Window f (map bare args))) (record {
  in_columns = λ at e. stands-Window at f (map bare args);
  steady = λ c. never (is_constant (V.Window f (map bare args))) (constant-Window f (map bare args)) c;
  grouped = λ a b. stands-Window position.Group f (map bare args);
})
of-layer (BExpr-F.Aggregate f args) = subst IsFree (sym (V.rolls-Aggregate f (map bare args))) (record {
  in_columns = λ at e. stands-Aggregate at f (map bare args) ∙ counts-open at f (map bare args) e;
  steady = λ c. never (is_constant (V.Aggregate f (map bare args))) (constant-Aggregate f (map bare args)) c;
  grouped = λ a b. stands-Aggregate position.Group f (map bare args) ∙ ap not (sym (count-Aggregate f (map bare args)) ∙ b);
})

pub every-free : (e : BExpr) → IsFree e
every-free = ind-BExpr IsFree (λ x y is. subst (λ (z : BExpr-F BExpr). IsFree (roll-BExpr z)) is (of-layer y))

-- Where columns may stand, a part fits.
pub open-fits : (scope : Scope) (at : Position) (e : BExpr) (k : Kind) → IsPart scope at e k → takes_columns at ≡ true → expr_fits e (read_scope scope) at ≡ true
open-fits scope at e k h free = h.fits ((every-free e).in_columns at free)

-- Literals.

pub literal-part : (scope : Scope) (at : Position) (l : Lit) → literal_fits l ≡ true → IsPart scope at (V.Literal l) l.kind
literal-part scope at l h = record { kind = kind-Literal l scope.schema; fits = λ s. fits-Literal l (read_scope scope) at ∙ h }

pub value-literal : (k : Kind) (v : Value) → FitsKind k v → literal_fits (record { kind = k; value = v }) ≡ true
unfolding literal_fits
value-literal k v f = and_from (is_of_kind k v) (is_well_formed v) ((is_of_kind-decides k v).1 f.0) ((is_well_formed-decides v).1 f.1)

-- The literal of a constant.

constant-fits : (scope : Scope) (at : Position) (e : BExpr) (k : Kind) → HasDistinctNames column_name scope.schema → IsPart scope at e k → is_constant e ≡ true → FitsKind k (constant_value e)
unfolding constant_value
constant-fits scope at e k names h c =
    let steady = (every-free e).steady c in
    let t : Grid = record { columns = scope.schema; lines = absent_row scope.schema ∷ [] } in
    let s : Steps = record { names = scope.steps.names; defaults = scope.steps.defaults; records = [] } in
    let rows = All-from_recursion (RowFits scope.schema) (absent_row scope.schema ∷ []) (absent-row-fits scope.schema, tt) in
    let known : FitsKnown (kind_of e scope.schema) (val e t 0 []) = expressions_keep e at t 0 s (names, rows) (no-records scope.schema) (λ x. omega arith) (h.fits (steady.standing at)) in
    let fits : FitsKind k (val e t 0 []) = subst (λ (o : Option Kind). FitsKnown o (val e t 0 [])) h.kind known in
    subst (FitsKind k) (steady.value t bare_row 0 0 [] []) fits

pub constant-is : (t : Typed) (l : Lit) → constant_of t ≡ Some l → is_constant t.expr ≡ true
unfolding constant_of
constant-is t l e = (and_parts (is_constant t.expr) (is_scalar t.expr) (if-some (is_constant t.expr && is_scalar t.expr) (record { kind = t.kind; value = constant_value t.expr }) l e).0).0

pub constant-given : (scope : Scope) (at : Position) (t : Typed) (l : Lit) → HasDistinctNames column_name scope.schema → IsPart scope at t.expr t.kind → constant_of t ≡ Some l → (literal_fits l ≡ true) × (l.kind ≡ t.kind)
unfolding constant_of
constant-given scope at t l names h e =
    let m : Lit = record { kind = t.kind; value = constant_value t.expr } in
    let q = if-some (is_constant t.expr && is_scalar t.expr) m l e in
    let c = and_parts (is_constant t.expr) (is_scalar t.expr) q.0 in
    (subst (λ (x : Lit). literal_fits x ≡ true) q.1 (value-literal t.kind (constant_value t.expr) (constant-fits scope at t.expr t.kind names h c.0)), ap (λ (x : Lit). x.kind) (sym q.1))

settled-by : (scope : Scope) (at : Position) (t : Typed) (o : Option Lit) → HasDistinctNames column_name scope.schema → IsPart scope at t.expr t.kind → constant_of t ≡ o → IsPart scope at (settled_as t o).expr (settled_as t o).kind
settled-by scope at t None names h e = h
settled-by scope at t (Some l) names h e = literal-part scope at l (constant-given scope at t l names h e).0

pub settled-part : (scope : Scope) (at : Position) (t : Typed) → HasDistinctNames column_name scope.schema → IsPart scope at t.expr t.kind → IsPart scope at (settled t).expr (settled t).kind
unfolding settled
settled-part scope at t names h = settled-by scope at t (constant_of t) names h refl
