use Rattle.std.proofs.Common.{◌↔◌, length}
use Rattle.kql_values.specs.Grids.{ColumnsFit}
use Rattle.kql_values.proofs.fitting.columns_fit.Given as goal

abbrev pub invariant-vectors : goal.invariant-vectors
invariant-vectors l = ColumnsFit l.columns_left l.count l.left ↔ ColumnsFit l.fn.columns l.fn.count l.fn.vectors

abbrev pub decreases-vectors : goal.decreases-vectors
decreases-vectors l = length l.columns_left
