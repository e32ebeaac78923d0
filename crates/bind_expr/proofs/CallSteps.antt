-- The moment and what is added to it.
use Rattle.std.proofs.Common.{◌≡◌, ℕ, ℤ, List, [], ◌∷◌, refl, sym, ap, ◌∙◌}
use Rattle.std.specs.Prelude.{Option, Some, None, slice_get}
use Rattle.kql_bound.specs.declared.expr.BExpr.{BExpr}
use Rattle.kql_bound.specs.declared.expr.BExpr.TheVariants as V
use Rattle.kql_bound.specs.declared.expr.ChainSign.{ChainSign}
use Rattle.bind_expr.specs.Calls.{from_moment, moment_literal}

pub moment-alone : (sign : ChainSign) (m : ℤ) (es : List BExpr) → es ≡ [] → from_moment sign m es ≡ moment_literal m
unfolding from_moment
moment-alone sign m es none = rw none refl

pub moment-moved : (sign : ChainSign) (m : ℤ) (es : List BExpr) (s : BExpr) → slice_get es 0 ≡ Some s → from_moment sign m es ≡ V.Chain (moment_literal m) ((sign, s) ∷ [])
unfolding from_moment
moment-moved sign m [] s is = cc
moment-moved sign m (e ∷ es) s is = let same : e ≡ s = cc in rw same refl

pub ruleset moment_steps = (moment-alone, moment-moved)
