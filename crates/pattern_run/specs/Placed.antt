-- Whether pattern calls stand where prefixes reach: in the prefixes of plans over a table `where` and `extend` call patterns on string
-- columns of it that were not set before. Other `where` and `extend` hold no call.
use Rattle.std.specs.Prelude.{◌≡◌, ℕ, Bool, true, ◌&&◌, List, [], ◌∷◌, Option, None, Some, IsTrue, map}
use Rattle.std.specs.List.{list_all}
use Rattle.kql_cells.specs.declared.schema.Column.{Column}
use Rattle.kql_cells.specs.declared.schemas.NamedSchema.{NamedSchema}
use Rattle.kql_bound.specs.declared.parts.BItem.{BItem}
use Rattle.kql_bound.specs.declared.plan.Op.{Op, out-Op, para-Op}
use Rattle.kql_bound.specs.declared.plan.Op.TheOpen.{Op-F, Plan-F}
use Rattle.kql_bound.specs.declared.plan.Plan.{Plan, para-Plan}
use Rattle.kql_bound.specs.declared.plan.Program.{Program}
use Rattle.pattern_lift.specs.Calls.{calls_are_lent}
use Rattle.pattern_lift.specs.Prefixes.{behind, left_of, prefix, sets, table_read}
use Rattle.pattern_laws.specs.Liftable.{OpTest, PlanTest, columns_read, has_no_calls, text_columns, within_step}
use Rattle.pattern_run.specs.Patterned.{calls_of_program}

-- The calls of an operator of a prefix, where these columns are lent to them.
abbrev pub lent_step : List (List ℕ) → Op-F Op Plan → Bool
lent_step lent (Op-F.Where e) = calls_are_lent lent e
lent_step lent (Op-F.Extend items) = list_all (λ (b : BItem). calls_are_lent lent b.expr) items
lent_step lent _ = true

unfoldable pub is_lent : List (List ℕ) → Op → Bool
is_lent lent o = lent_step lent (out-Op o)

-- A prefix: what an operator sets is not lent to those behind it.
unfoldable pub prefix_is_lent : List (List ℕ) → List Op → Bool
prefix_is_lent lent [] = true
prefix_is_lent lent (o ∷ os) = is_lent lent o && prefix_is_lent (left_of lent (sets o)) os

-- The operators of a plan over a table of these columns, or over none.
unfoldable pub ops_are_placed : Option (List Column) → List Op → Bool
ops_are_placed None ops = list_all has_no_calls ops
ops_are_placed (Some columns) ops = prefix_is_lent (text_columns columns) (prefix ops) && list_all has_no_calls (behind ops)

-- Plans, and the plans and operators in their operators.
abbrev pub placed_step : List NamedSchema → Plan-F OpTest PlanTest → Bool
placed_step tables p =
    ops_are_placed (columns_read tables (table_read p.source)) (map (λ (o : OpTest). o.0) p.ops)
    && list_all (λ (o : OpTest). o.1) p.ops

unfoldable pub within_is_placed : List NamedSchema → Op → Bool
within_is_placed tables = para-Op Bool Bool within_step (placed_step tables)

unfoldable pub plan_is_placed : List NamedSchema → Plan → Bool
plan_is_placed tables = para-Plan Bool Bool within_step (placed_step tables)

-- No call stands where the prefixes do not reach.
unfoldable pub calls_are_placed : Program → Bool
calls_are_placed p = list_all (plan_is_placed p.tables) p.lets && plan_is_placed p.tables p.main

-- A program without calls in its prefixes has none elsewhere. One with calls there is refused where others stand.
abbrev pub HasNoOthers : Program → Type 0
HasNoOthers p = calls_of_program p ≡ [] → IsTrue (calls_are_placed p)
