-- Whether a rule of the table fires.
use Rattle.std.proofs.Common.{◌≡◌, Bool, true, false, List, refl}
use Rattle.std.specs.Prelude.{◌||◌, Option, None, Some, is_some}
use Rattle.kql_bound.specs.declared.plan.Op.{Op}
use Rattle.plan_rules.specs.Rules.{when}
use Rattle.plan_swaps.specs.Swaps.{first_some}

pub some-when : (b : Bool) (zs : List Op) → is_some (when b zs) ≡ b
some-when true zs = refl
some-when false zs = refl

pub some-first : (a b : Option (List Op)) → is_some (first_some a b) ≡ (is_some a || is_some b)
some-first None b = refl
some-first (Some zs) b = refl

pub ruleset fire_steps = (some-when, some-first)
