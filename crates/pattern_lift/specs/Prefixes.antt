-- The prefix of operators: the longest run of `where` and `extend` that they begin with.
use Rattle.std.specs.Prelude.{ℕ, Bool, true, false, not, List, [], ◌∷◌, ◌++◌, filter, fold, Option, None, Some, if◌then◌else◌}
use Rattle.std.specs.List.{flat_map}
use Rattle.kql_bound.specs.declared.parts.BItem.{BItem}
use Rattle.kql_bound.specs.declared.plan.Op.{Op, out-Op}
use Rattle.kql_bound.specs.declared.plan.Op.TheOpen.{Op-F}
use Rattle.kql_bound.specs.declared.plan.Plan.{Plan}
use Rattle.kql_bound.specs.declared.plan.Source.{Source}
use Rattle.kql_bound.specs.declared.plan.Source.TheVariants as source
use Rattle.pattern_lift.specs.declared.calls.PatternCall.{PatternCall}
use Rattle.pattern_lift.specs.Calls.{calls, calls_in_items, is_among}

-- Whether an operator joins a prefix.
abbrev pub joins_step : Op-F Op Plan → Bool
joins_step (Op-F.Where e) = true
joins_step (Op-F.Extend items) = true
joins_step _ = false

unfoldable pub joins : Op → Bool
joins o = joins_step (out-Op o)

-- The prefix, and what stands behind it.
unfoldable pub prefix : List Op → List Op
prefix [] = []
prefix (o ∷ os) = if joins o then o ∷ prefix os else []

unfoldable pub behind : List Op → List Op
behind [] = []
behind (o ∷ os) = if joins o then behind os else o ∷ os

-- The calls of an operator of a prefix, and the columns that it sets.
abbrev pub calls_at_step : Op-F Op Plan → List PatternCall
calls_at_step (Op-F.Where e) = calls e
calls_at_step (Op-F.Extend items) = calls_in_items items
calls_at_step _ = []

unfoldable pub calls_at : Op → List PatternCall
calls_at o = calls_at_step (out-Op o)

unfoldable pub names_set : List BItem → List (List ℕ)
names_set items = flat_map (λ (b : BItem). b.names) items

abbrev pub sets_step : Op-F Op Plan → List (List ℕ)
sets_step (Op-F.Extend items) = names_set items
sets_step _ = []

unfoldable pub sets : Op → List (List ℕ)
sets o = sets_step (out-Op o)

-- The calls of several, and of a prefix.
unfoldable pub calls_along : List Op → List PatternCall
calls_along ops = flat_map calls_at ops

unfoldable pub prefix_calls : List Op → List PatternCall
prefix_calls ops = calls_along (prefix ops)

-- The names that are left of these, once others are set.
unfoldable pub left_of : List (List ℕ) → List (List ℕ) → List (List ℕ)
left_of names set = filter (λ (n : List ℕ). not (is_among set n)) names

-- The names of the columns behind operators of a prefix: an `extend` removes those that it sets, and adds its own at the end.
unfoldable pub names_behind : List (List ℕ) → List Op → List (List ℕ)
names_behind names ops = fold (λ before (o : Op). left_of before (sets o) ++ sets o) names ops

-- The table that a source is.
abbrev pub table_read : Source → Option (List ℕ)
table_read (source.Table n) = Some n
table_read _ = None
