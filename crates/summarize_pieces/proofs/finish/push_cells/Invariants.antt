use Rattle.std.proofs.Common.{◌≡◌, ◌++◌, map, take}
use Rattle.kql_cells.specs.Seen.{seen}
use Rattle.summarize_pieces.proofs.finish.push_cells.Given as goal

-- the cells so far
abbrev pub invariant-cells : goal.invariant-cells
invariant-cells l = l.line ≡ l.fn.line ++ map seen (take l.cell-index l.cells)
