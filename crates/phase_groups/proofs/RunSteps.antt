-- A run over all rows, and the table of the groups of all.
use Rattle.std.proofs.Common.{List, [], ◌∷◌, ◌++◌, sym, ◌∙◌, ◌≡◌, ◌<◌, ◌≤◌, ◌+◌, ◌*◌, ◌^◌, ℕ, length, refl, arith}
use Rattle.std.specs.Prelude.{IsTrue, is_some}
use Rattle.kql_cells.specs.Named.{HasDistinctNames, column_name}
use Rattle.kql_cells.specs.Table.{Grid, IsGrid}
use Rattle.kql_bound.specs.declared.parts.GroupPlan.{GroupPlan}
use Rattle.kql_fit_laws.specs.LawsOfRows.{IsTable}
use Rattle.kql_meaning.specs.FittingOperators.{answer_if, summarize_fits}
use Rattle.kql_meaning.specs.Summarize.{group_columns}
use Rattle.summarize_pieces.specs.Pieces.{AreAllGroups, AreGroupsOf, Grouped}
use Rattle.phase_pieces.specs.declared.cut.Cut.{Cut}
use Rattle.phase_groups.specs.Works.{IsGroupRun, run_over}

pub run-is : (g : GroupPlan) (t : Grid) (cut : Cut) (count : ℕ) → IsTrue (is_some (answer_if (summarize_fits g t.columns) (group_columns g t.columns))) → HasDistinctNames column_name t.columns → IsGrid t → count ≡ length t.lines → count < 2 ^ 63 → count ≤ cut.pieces * cut.rows → cut.pieces * cut.rows < count + cut.rows → cut.rows < 2 ^ 63 → IsGroupRun (run_over g t cut)
run-is g t cut count fits names grid is small all each rows = record {
  fits = fits;
  whole = (names, grid);
  small = omega (arith, is, small);
  all = omega (arith, is, all);
  each = omega (arith, is, each);
  rows = rows;
}

pub all-groups : (g : GroupPlan) (t : Grid) (x : Grouped) → IsTable t → AreGroupsOf g t 0 (length t.lines) x → AreAllGroups g t.columns x
all-groups g t x h all = record { table = t; whole = h; named = refl; groups = all.groups }

-- The one of a list of one.

nothing : (xs : List Grid) (y : Grid) → [] ≡ xs ++ y ∷ [] → ⊥
nothing [] y is = cc
nothing (x ∷ xs) y is = cc

pub only-one : (x y : Grid) (all rest : List Grid) → all ≡ x ∷ [] → all ≡ rest ++ y ∷ [] → y ≡ x
only-one x y all [] one last = let same : x ∷ [] ≡ y ∷ [] = sym one ∙ last in cc
only-one x y all (z ∷ zs) one last = let same : x ∷ [] ≡ z ∷ (zs ++ y ∷ []) = sym one ∙ last in let none : [] ≡ zs ++ y ∷ [] = cc in absurd (nothing zs y none)

pub ruleset run_steps = (run-is)

pub ruleset group_steps = (all-groups)
