-- Two pieces of a table.
use Rattle.std.proofs.Common.{◌≡◌, ◌<◌, ◌≤◌, ◌+◌, ◌-◌, ◌^◌, ℕ, Bool, true, false, List, length, refl, ap, sym, arith}
use Rattle.std.specs.Prelude.{Some, is_some}
use Rattle.kql_cells.specs.Named.{HasDistinctNames, column_name}
use Rattle.kql_cells.specs.Table.{Grid, IsGrid}
use Rattle.kql_cells.specs.declared.schema.Column.{Column}
use Rattle.kql_bound.specs.declared.parts.GroupPlan.{GroupPlan}
use Rattle.kql_meaning.specs.FittingOperators.{answer_if, columns_if, summarize_fits}
use Rattle.kql_meaning.specs.Summarize.{group_columns}
use Rattle.kql_fit_laws.proofs.RowFacts.{answer-some}
use Rattle.summarize_pieces.specs.Pieces.{AreAllGroups, AreGroupsOf, AreNeighbours, Grouped, groups_in}

abbrev Fits : GroupPlan → List Column → Type 0
Fits g cs = is_some (answer_if (summarize_fits g cs) (group_columns g cs)) ≡ true

told : (c : Bool) (cs : List Column) → is_some (columns_if c cs) ≡ true → columns_if c cs ≡ Some cs
unfolding columns_if
told true cs e = refl
told false cs e = absurd cc

answer-is : (b : Bool) (cs : List Column) → is_some (answer_if b cs) ≡ true → answer_if b cs ≡ Some cs
unfolding answer_if
answer-is b cs e = told _ cs e

plan-fits : (g : GroupPlan) (cs : List Column) → Fits g cs → summarize_fits g cs ≡ true
plan-fits g cs fits = (answer-some (summarize_fits g cs) (group_columns g cs) (group_columns g cs) (answer-is (summarize_fits g cs) (group_columns g cs) fits)).0

pub neighbours : (g : GroupPlan) (t : Grid) (middle : ℕ) (a b : Grouped) → Fits g t.columns → HasDistinctNames column_name t.columns → IsGrid t → middle ≤ length t.lines → AreGroupsOf g t 0 middle a → AreGroupsOf g t middle (length t.lines) b → AreNeighbours a b
neighbours g t middle a b fits names here low left right = record {
  plan = g;
  table = t;
  from = 0;
  middle = middle;
  to = length t.lines;
  fits = plan-fits g t.columns fits;
  whole = (names, here);
  first = omega arith;
  second = low;
  range = omega arith;
  left = left;
  right = right;
}

pub both-range : (g : GroupPlan) (t : Grid) (middle : ℕ) (a b x : Grouped) → Fits g t.columns → HasDistinctNames column_name t.columns → IsGrid t → middle ≤ length t.lines → AreGroupsOf g t 0 middle a → AreGroupsOf g t middle (length t.lines) b → ((n : AreNeighbours a b) → AreGroupsOf n.plan n.table n.from n.to x) → AreGroupsOf g t 0 (length t.lines) x
unfolding neighbours
both-range g t middle a b x fits names here low left right h = h (neighbours g t middle a b fits names here low left right)

counted-rows : (g : GroupPlan) (t : Grid) (from to : ℕ) (x : Grouped) → AreGroupsOf g t from to x → x.count ≡ to - from
unfolding groups_in
counted-rows g t from to x h = ap (λ (y : Grouped). y.count) h.groups

pub few-rows : (g : GroupPlan) (t : Grid) (middle n : ℕ) (a b : Grouped) → AreGroupsOf g t 0 middle a → AreGroupsOf g t middle (length t.lines) b → middle ≤ length t.lines → n ≡ length t.lines → n < 2 ^ 63 → a.count + b.count < 2 ^ 63
few-rows g t middle n a b left right low size small =
    let m = counted-rows g t 0 middle a left in
    let k = counted-rows g t middle (length t.lines) b right in
    omega (arith, m, k, low, size, small)

pub whole-groups : (g : GroupPlan) (t : Grid) (cs : List Column) (x : Grouped) → HasDistinctNames column_name t.columns → IsGrid t → cs ≡ t.columns → AreGroupsOf g t 0 (length t.lines) x → AreAllGroups g cs x
whole-groups g t cs x names here same h = record { table = t; whole = (names, here); named = sym same; groups = h.groups }
