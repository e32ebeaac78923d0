use Rattle.std.proofs.Common.{◌≡◌, take}
use Rattle.kql_cells.specs.Table.{Grid}
use Rattle.kql_fit_laws.specs.LawsOfRows.{IsTable}
use Rattle.kql_meaning.specs.Summarize.{group_rows}
use Rattle.summarize_pieces.proofs.FinishSteps.{AreGroups}
use Rattle.summarize_pieces.proofs.finish.group_rows.Given as goal

-- the rows of the groups so far
abbrev pub invariant-groups : goal.invariant-groups
invariant-groups l = (t : Grid) → IsTable t → t.columns ≡ l.schema → AreGroups l.g t l.x → l.rows ≡ take l.k (group_rows l.g.keys l.g.items t)
