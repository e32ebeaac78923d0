-- What each rule keeps: where it fires, the operators become others that fit what these fit, mean the same, and are lighter.
use Rattle.std.specs.Prelude.{◌≡◌, ◌<◌, ℕ, Bool, true, List, [], ◌∷◌, Option, Some}
use Rattle.std.specs.List.{list_all}
use Rattle.kql_cells.specs.declared.schema.Column.{Column}
use Rattle.kql_bound.specs.declared.expr.BExpr.{BExpr}
use Rattle.kql_bound.specs.declared.expr.BExpr.TheVariants as V
use Rattle.kql_bound.specs.declared.parts.BKey.{BKey}
use Rattle.kql_bound.specs.declared.plan.Op.{Op}
use Rattle.kql_bound.specs.declared.plan.Op.TheVariants as op
use Rattle.kql_meaning.specs.Fits.{Known}
use Rattle.plan_rules.specs.Improves.{Improves}
use Rattle.plan_rules.specs.Rules.{and_func, is_single, terms_of}
use Rattle.plan_rules.specs.Size.{op_size}

-- A rule on one operator.
abbrev pub OneImproves : (Op → Option (List Op)) → Type 0
OneImproves rule = (k : Known) (inside : Bool) (cs : List Column) (x : Op) (zs : List Op) → rule x ≡ Some zs → Improves k inside cs (x ∷ []) zs

-- A rule on two neighbours.
abbrev pub PairImproves : (Op → Op → Option (List Op)) → Type 0
PairImproves rule = (k : Known) (inside : Bool) (cs : List Column) (x y : Op) (zs : List Op) → rule x y ≡ Some zs → Improves k inside cs (x ∷ y ∷ []) zs

-- The same of rules that look at the columns before them.

abbrev pub OneImprovesOver : (List Column → Op → Option (List Op)) → Type 0
OneImprovesOver rule = (k : Known) (inside : Bool) (cs : List Column) (x : Op) (zs : List Op) → rule cs x ≡ Some zs → Improves k inside cs (x ∷ []) zs

abbrev pub PairImprovesOver : (List Column → Op → Op → Option (List Op)) → Type 0
PairImprovesOver rule = (k : Known) (inside : Bool) (cs : List Column) (x y : Op) (zs : List Op) → rule cs x y ≡ Some zs → Improves k inside cs (x ∷ y ∷ []) zs

-- And of one that looks at what a plan may name.
abbrev pub PairImprovesIn : (Known → List Column → Op → Op → Option (List Op)) → Type 0
PairImprovesIn rule = (k : Known) (inside : Bool) (cs : List Column) (x y : Op) (zs : List Op) → rule k cs x y ≡ Some zs → Improves k inside cs (x ∷ y ∷ []) zs

-- No term of an expression is an `and`. The filter that two filters become has the terms of both.
abbrev pub TermsAreSingle : Type 0
TermsAreSingle = (e : BExpr) → list_all is_single (terms_of e) ≡ true

-- A filter by a condition that stands twice is larger than the one in which it stands once.
abbrev pub TwiceIsLarger : Type 0
TwiceIsLarger = (p : BExpr) → op_size (op.Where p) < op_size (op.Where (V.Call and_func (p ∷ p ∷ [])))

-- `top` by keys is larger than `take`.
abbrev pub TopIsLarger : Type 0
TopIsLarger = (n : ℕ) (key : BKey) (keys : List BKey) → op_size (op.Take n) < op_size (op.Top n (key ∷ keys))
