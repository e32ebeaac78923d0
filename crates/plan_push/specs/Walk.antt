-- A walk over operators: what it holds at a place, and what a step of it keeps.
use Rattle.std.specs.Prelude.{ℕ, suc, ◌≡◌, ◌+◌, ◌*◌, ◌<◌, ◌≤◌, Bool, true, false, not, ◌&&◌, List, [], ◌∷◌, ◌++◌, Option, None, Some, IsSome, is_some, length, reverse, slice_get, unwrap_or}
use Rattle.kql_cells.specs.declared.schema.Column.{Column}
use Rattle.kql_bound.specs.declared.plan.Op.{Op}
use Rattle.kql_meaning.specs.Fits.{Known, op_columns, ops_columns}
use Rattle.plan_columns.specs.Made.{op_makes, ops_make}
use Rattle.plan_rules.specs.Improves.{Improves}
use Rattle.plan_rules.specs.Weight.{ops_weight}
use Rattle.plan_push.specs.Settled.{if_known}
use Rattle.plan_neighbours.specs.Table.{change_rule, pair_rule, rule_at, single_rule}
use Rattle.plan_swaps.specs.Swaps.{swap_rule}

-- The columns before each operator, and those behind the last.
unfoldable pub places : List Op → Known → List Column → List (List Column)
places [] k cs = cs ∷ []
places (o ∷ os) k cs = cs ∷ places os k (op_makes o k cs)

-- The columns before the first operators, as far as they were asked for. Those before the first are always there.
pub record Begun (k : Known) (cs : List Column) (before : List (List Column)) (passed : List Op) : Type 0 where
  pub others : List (List Column)
  pub parts : places passed k cs ≡ before ++ others
  pub some : 0 < length before

-- Those before each operator, and behind the last.
pub record Found (k : Known) (cs : List Column) (before : List (List Column)) (passed : List Op) : Type 0 where
  pub begun : Begun k cs before passed
  pub all : length passed < length before

-- No rule fires at any of these operators; what is in them is not looked at.
unfoldable pub is_still : List Op → Known → Bool → List Column → Bool
is_still [] k inside cs = true
is_still (x ∷ xs) k inside cs = not (is_some (rule_at k cs (x ∷ xs))) && if_known (op_columns x k inside cs) (is_still xs k inside)

-- What an operator and the one behind it become, where there is one.
abbrev pub next_rule : Known → List Column → Op → List Op → Option (List Op)
next_rule k cs x [] = None
next_rule k cs x (y ∷ ys) = pair_rule k cs x y

-- Whether they change places.
abbrev pub next_swaps : List Column → Op → List Op → Bool
next_swaps cs x [] = false
next_swaps cs x (y ∷ ys) = is_some (swap_rule cs x y)

-- What they become where they do more than that.
abbrev pub next_change : Known → List Column → Op → List Op → Option (List Op)
next_change k cs x [] = None
next_change k cs x (y ∷ ys) = change_rule k cs x y

-- The columns at hand are as good for the rules on an operator and on the one behind it as those before it.
pub record Ready (k : Known) (cs : List Column) (before : List (List Column)) (passed : List Op) (x : Op) : Type 0 where
  pub begun : Begun k cs before passed
  pub single : single_rule (unwrap_or (slice_get before (length passed)) []) x ≡ single_rule (ops_make passed k cs) x
  pub swaps : (y : Op) → swap_rule (unwrap_or (slice_get before (length passed)) []) x y ≡ swap_rule (ops_make passed k cs) x y
  pub change : (y : Op) → change_rule k (unwrap_or (slice_get before (length passed)) []) x y ≡ change_rule k (ops_make passed k cs) x y

-- No rule fires at any of the first operators, with others behind them.
unfoldable pub is_quiet : List Op → List Op → Known → List Column → Bool
is_quiet [] rest k cs = true
is_quiet (x ∷ xs) rest k cs = not (is_some (single_rule cs x)) && (not (is_some (next_rule k cs x (xs ++ rest))) && is_quiet xs rest k (op_makes x k cs))

-- Operators that are passed, with the columns before the first of them, and those that wait, the next of these last.
pub record Walk (k : Known) (inside : Bool) (cs : List Column) (before : List (List Column)) (passed waiting : List Op) : Type 0 where
  pub fitting : IsSome (ops_columns (passed ++ reverse waiting) k inside cs)
  pub columns : Begun k cs before passed
  pub quiet : is_quiet passed (reverse waiting) k cs ≡ true

-- A step back: the last operator that was passed waits again, where there is one.
pub record Back (before : List (List Column)) (passed waiting : List Op) (before_now : List (List Column)) (passed_now waiting_now : List Op) : Type 0 where
  pub same : passed_now ++ reverse waiting_now ≡ passed ++ reverse waiting
  pub columns : (k : Known) (cs : List Column) → Begun k cs before passed → Begun k cs before_now passed_now
  pub quiet : (k : Known) (cs : List Column) (rest : List Op) → is_quiet passed rest k cs ≡ true → is_quiet passed_now (reverse waiting_now) k cs ≡ true
  pub slower : length waiting_now ≤ suc (length waiting)

-- Operators after a step: others, which are better, where a rule fired, and the same where none did.
abbrev pub Turned : Bool → Known → Bool → List Column → List Op → List Op → Type 0
Turned true k inside cs xs ys = Improves k inside cs xs ys
Turned false k inside cs xs ys = ys ≡ xs

-- What falls at each step.
abbrev pub pace : List Op → List Op → ℕ
pace passed waiting = 2 * (ops_weight (passed ++ reverse waiting)).load + length waiting

pub record Stepped (k : Known) (inside : Bool) (cs : List Column) (fired : Bool) (passed waiting : List Op) (before_now : List (List Column)) (passed_now waiting_now : List Op) : Type 0 where
  pub walk : Walk k inside cs before_now passed_now waiting_now
  pub turned : Turned fired k inside cs (passed ++ reverse waiting) (passed_now ++ reverse waiting_now)
  pub faster : 0 < length waiting → pace passed_now waiting_now < pace passed waiting
