-- A cell that fits its column is well formed.
use Rattle.std.proofs.Common.{◌≡◌, ◌<◌, ℕ, zero, suc, List, [], ◌∷◌, length, refl, arith}
use Rattle.std.specs.Prelude.{Some, slice_get}
use Rattle.kql_cells.specs.Table.{CellFits}
use Rattle.kql_cells.specs.Values.{IsWellFormed}
use Rattle.kql_cells.specs.declared.schema.Column.{Column}
use Rattle.kql_cells.specs.declared.value.Value.{Value}

pub form-at : (cs : List Column) (j : ℕ) (v : Value) → j < length cs → ((c : Column) → slice_get cs j ≡ Some c → CellFits c v) → IsWellFormed v
form-at [] j v h f = absurd (omega (arith, h))
form-at (c ∷ cs) zero v h f = (f c refl).1
form-at (c ∷ cs) (suc j) v h f = form-at cs j v (omega (arith, h)) f
