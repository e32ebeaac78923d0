-- A constant expression reads as the literal of its value.
use Rattle.std.proofs.Common.{◌≡◌, ℕ, Bool, true, false, List, [], ◌∷◌, map, refl, ap, ap₂, sym, ◌∙◌, subst}
use Rattle.std.proofs.Math.Path.{fun_ext}
use Rattle.std.specs.Prelude.{Option, Some}
use Rattle.std.specs.List.{list_all}
use Rattle.std.proofs.lemmas.Bool.{and_parts}
use Rattle.kql_cells.specs.Table.{Grid}
use Rattle.kql_cells.specs.declared.schema.Column.{Column}
use Rattle.kql_cells.specs.declared.value.Kind.{Kind}
use Rattle.kql_cells.specs.declared.value.Value.{Value}
use Rattle.kql_scalar_fns.specs.Applied.{applied}
use Rattle.kql_bound.specs.declared.expr.BExpr.{BExpr, fold-roll-BExpr, ind-BExpr, map-BExpr, roll-BExpr}
use Rattle.kql_bound.specs.declared.expr.BExpr.TheOpen.{BExpr-F}
use Rattle.kql_bound.specs.declared.expr.BExpr.TheVariants as V
use Rattle.kql_bound.specs.declared.expr.ChainSign.{ChainSign}
use Rattle.kql_bound.specs.declared.literal.Lit.{Lit}
use Rattle.kql_meaning.specs.Expressions.{call_kind, chain_kind, chain_value, kind_along, kind_down, kind_of, kinds_in, path_kind, path_value, reading, val, value_along, value_down, values_in}
use Rattle.kql_meaning.specs.Readings.{Records}
use Rattle.kql_meaning.specs.Tables.{nothing}
use Rattle.kql_meaning.proofs.KindLaws.{kind-Call, kind-Chain, kind-Literal, kind-Path}
use Rattle.kql_meaning.proofs.ReadingLaws.{reading-Literal}
use Rattle.kql_meaning.proofs.ValueLaws.{val-Call, val-Chain, val-Literal, val-Path}
use Rattle.plan_rules.specs.Constants.{constant_step, is_constant}

-- The same value and type everywhere.
abbrev Everywhere : BExpr → Type 0
Everywhere e = is_constant e ≡ true → ((t u : Grid) (i j : ℕ) (r s : Records) → val e t i r ≡ val e u j s) × ((cs ds : List Column) → kind_of e cs ≡ kind_of e ds)

abbrev Given : Type 0
Given = (e : BExpr) × Everywhere e

abbrev bare : Given → BExpr
bare g = g.0

abbrev bare_link : ChainSign × Given → ChainSign × BExpr
bare_link l = (l.0, l.1.0)

all-of : (gs : List Given) → list_all (λ b. b) (map is_constant (map bare gs)) ≡ true → ((t u : Grid) (i j : ℕ) (r s : Records) → values_in (map bare gs) t i r ≡ values_in (map bare gs) u j s) × ((cs ds : List Column) → kinds_in (map bare gs) cs ≡ kinds_in (map bare gs) ds)
unfolding values_in kinds_in
all-of [] h = (λ t u i j r s. refl, λ cs ds. refl)
all-of (g ∷ gs) h =
    let b = and_parts (is_constant g.0) (list_all (λ b. b) (map is_constant (map bare gs))) h in
    let one = g.1 b.0 in
    let more = all-of gs b.1 in
    (λ t u i j r s. ap₂ (λ (v : Value) (vs : List Value). v ∷ vs) (one.0 t u i j r s) (more.0 t u i j r s), λ cs ds. ap₂ (λ (k : Option Kind) (ks : List (Option Kind)). k ∷ ks) (one.1 cs ds) (more.1 cs ds))

abbrev tested : List (ChainSign × BExpr) → List (ChainSign × Bool)
tested ls = map {B = ChainSign × Bool} (λ (l : ChainSign × BExpr). (l.0, is_constant l.1)) ls

links-of : (ls : List (ChainSign × Given)) → list_all (λ (l : ChainSign × Bool). l.1) (tested (map bare_link ls)) ≡ true → ((t u : Grid) (i j : ℕ) (r s : Records) → map {B = ChainSign × Value} (λ (l : ChainSign × BExpr). (l.0, val l.1 t i r)) (map bare_link ls) ≡ map {B = ChainSign × Value} (λ (l : ChainSign × BExpr). (l.0, val l.1 u j s)) (map bare_link ls)) × ((cs ds : List Column) → map {B = ChainSign × Option Kind} (λ (l : ChainSign × BExpr). (l.0, kind_of l.1 cs)) (map bare_link ls) ≡ map {B = ChainSign × Option Kind} (λ (l : ChainSign × BExpr). (l.0, kind_of l.1 ds)) (map bare_link ls))
links-of [] h = (λ t u i j r s. refl, λ cs ds. refl)
links-of (l ∷ ls) h =
    let b = and_parts (is_constant l.1.0) (list_all (λ (l : ChainSign × Bool). l.1) (tested (map bare_link ls))) h in
    let one = l.1.1 b.0 in
    let more = links-of ls b.1 in
    (λ t u i j r s. ap₂ (λ (v : Value) (vs : List (ChainSign × Value)). (l.0, v) ∷ vs) (one.0 t u i j r s) (more.0 t u i j r s), λ cs ds. ap₂ (λ (k : Option Kind) (ks : List (ChainSign × Option Kind)). (l.0, k) ∷ ks) (one.1 cs ds) (more.1 cs ds))

-- What a rolled expression says of its parts.
rolled : (y : BExpr-F BExpr) → is_constant (roll-BExpr y) ≡ constant_step (map-BExpr BExpr Bool is_constant y)
unfolding is_constant
rolled y = fold-roll-BExpr Bool constant_step y

of-layer : (y : BExpr-F Given) → Everywhere (roll-BExpr (map-BExpr Given BExpr bare y))
unfolding value_along kind_along value_down kind_down
of-layer (BExpr-F.Literal l) = subst Everywhere (sym (V.rolls-Literal l)) (λ h. (λ t u i j r s. val-Literal l t i r ∙ sym (val-Literal l u j s), λ cs ds. kind-Literal l cs ∙ sym (kind-Literal l ds)))
of-layer (BExpr-F.Column n) = λ h. let no : false ≡ true = sym (rolled (BExpr-F.Column n)) ∙ h in absurd cc
of-layer (BExpr-F.Step c) = λ h. let no : false ≡ true = sym (rolled (BExpr-F.Step c)) ∙ h in absurd cc
of-layer (BExpr-F.Call f args) = λ h.
    let es = map bare args in
    let a = all-of args (sym (rolled (BExpr-F.Call f es)) ∙ h) in
    let e = V.rolls-Call f es in (
      λ t u i j r s. ap (λ x. val x t i r) e ∙ (val-Call f es t i r ∙ (ap (applied f) (a.0 t u i j r s) ∙ (sym (val-Call f es u j s) ∙ ap (λ x. val x u j s) (sym e)))),
      λ cs ds. ap (λ x. kind_of x cs) e ∙ (kind-Call f es cs ∙ (ap (call_kind f) (a.1 cs ds) ∙ (sym (kind-Call f es ds) ∙ ap (λ x. kind_of x ds) (sym e)))),
    )
of-layer (BExpr-F.Chain first links) = λ h.
    let ls = map bare_link links in
    let b = and_parts (is_constant first.0) (list_all (λ (l : ChainSign × Bool). l.1) (tested ls)) (sym (rolled (BExpr-F.Chain first.0 ls)) ∙ h) in
    let one = first.1 b.0 in
    let a = links-of links b.1 in
    let e = V.rolls-Chain first.0 ls in (
      λ t u i j r s. ap (λ x. val x t i r) e ∙ (val-Chain first.0 ls t i r ∙ (ap₂ (λ v vs. chain_value v vs) (one.0 t u i j r s) (a.0 t u i j r s) ∙ (sym (val-Chain first.0 ls u j s) ∙ ap (λ x. val x u j s) (sym e)))),
      λ cs ds. ap (λ x. kind_of x cs) e ∙ (kind-Chain first.0 ls cs ∙ (ap₂ (λ v vs. chain_kind v vs) (one.1 cs ds) (a.1 cs ds) ∙ (sym (kind-Chain first.0 ls ds) ∙ ap (λ x. kind_of x ds) (sym e)))),
    )
of-layer (BExpr-F.Path whole steps) = λ h.
    let es = map bare steps in
    let b = and_parts (is_constant whole.0) (list_all (λ b. b) (map is_constant es)) (sym (rolled (BExpr-F.Path whole.0 es)) ∙ h) in
    let one = whole.1 b.0 in
    let a = all-of steps b.1 in
    let e = V.rolls-Path whole.0 es in (
      λ t u i j r s. ap (λ x. val x t i r) e ∙ (val-Path whole.0 es t i r ∙ (ap₂ (λ v vs. path_value v vs) (one.0 t u i j r s) (a.0 t u i j r s) ∙ (sym (val-Path whole.0 es u j s) ∙ ap (λ x. val x u j s) (sym e)))),
      λ cs ds. ap (λ x. kind_of x cs) e ∙ (kind-Path whole.0 es cs ∙ (ap₂ (λ v vs. path_kind v vs) (one.1 cs ds) (a.1 cs ds) ∙ (sym (kind-Path whole.0 es ds) ∙ ap (λ x. kind_of x ds) (sym e)))),
    )
of-layer (BExpr-F.Window f args) = λ h. let no : false ≡ true = sym (rolled (BExpr-F.Window f (map bare args))) ∙ h in absurd cc
of-layer (BExpr-F.Aggregate f args) = λ h. let no : false ≡ true = sym (rolled (BExpr-F.Aggregate f (map bare args))) ∙ h in absurd cc

pub everywhere : (e : BExpr) → Everywhere e
everywhere = ind-BExpr Everywhere (λ x y is. subst (λ (z : BExpr-F BExpr). Everywhere (roll-BExpr z)) is (of-layer y))

-- The literal of a constant expression.
abbrev pub literal_for : BExpr → Kind → Lit
literal_for e k = record { kind = k; value = val e nothing 0 [] }

-- It reads the same, so whatever holds the expression reads the same with the literal in its place.
pub constant-reading : (e : BExpr) (k : Kind) (cs : List Column) → is_constant e ≡ true → kind_of e cs ≡ Some k → reading (V.Literal (literal_for e k)) ≡ reading e
unfolding val kind_of
constant-reading e k cs h known =
    let a = everywhere e h in
    reading-Literal (literal_for e k)
    ∙ ap₂ (λ (f : List Column → Option Kind) (g : Grid → ℕ → Records → Value). record { kind = f; at = g })
    (fun_ext (λ ds. sym (a.1 ds cs ∙ known)))
    (fun_ext (λ t. fun_ext (λ i. fun_ext (λ s. a.0 nothing t 0 i [] s))))
