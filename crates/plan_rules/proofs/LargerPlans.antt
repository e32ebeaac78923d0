-- Plans that their size tells apart.
use Rattle.std.proofs.Common.{◌≡◌, ◌+◌, List, [], ◌∷◌, refl, arith}
use Rattle.kql_bound.specs.declared.expr.BExpr.TheVariants as E
use Rattle.kql_bound.specs.declared.parts.BKey.{BKey}
use Rattle.plan_rules.specs.LawsOfRules.{TopIsLarger, TwiceIsLarger}
use Rattle.plan_rules.specs.Rules.{and_func}
use Rattle.plan_rules.specs.Size.{expr_size, keys_size}
use Rattle.plan_rules.proofs.Sizes.{op_size-Take, op_size-Top, op_size-Where, positive, size-Call}

pub twice-larger : TwiceIsLarger
twice-larger p =
    let both = E.Call and_func (p ∷ p ∷ []) in
    omega (arith, op_size-Where p, op_size-Where both, size-Call and_func (p ∷ p ∷ []))

some-keys : (key : BKey) (keys : List BKey) → keys_size (key ∷ keys) ≡ expr_size key.expr + keys_size keys
unfolding keys_size
some-keys key keys = refl

pub top-larger : TopIsLarger
top-larger n key keys = omega (arith, op_size-Take n, op_size-Top n (key ∷ keys), some-keys key keys, positive key.expr)

pub ruleset larger_laws = (twice-larger, top-larger)
