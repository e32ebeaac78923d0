-- A text in front of the first of texts that are joined, and so for lists of anything.
use Rattle.std.proofs.Common.{◌≡◌, ◌++◌, ◌<◌, ◌-◌, List, [], ◌∷◌, length, map, take, drop, append_assoc, arith}
use Rattle.std.specs.Prelude.{slice_index_or}
use Rattle.std.specs.List.{flat_map}
use Rattle.kql_cells.specs.Seen.{seen}
use Rattle.kql_cells.specs.declared.cell.CellRef.{CellRef}
use Rattle.kql_cells.specs.declared.value.Value.{Value}
use Rattle.kql_scalar_fns.proofs.ArgumentFacts.{take-whole}

pub join-step : {X : Type 0} (f : Value → List X) (cells : List CellRef) (x : CellRef) (t u : List X) → x ≡ slice_index_or cells 0 x → 0 < length cells → u ≡ t ++ f (seen x) → u ++ flat_map f (map seen (take (length cells - 1) (drop 1 cells))) ≡ t ++ flat_map f (map seen cells)
join-step f [] x t u e l p = absurd (omega arith)
join-step f (c ∷ cs) x t u e l p =
    rw (take-whole cs (length (c ∷ cs) - 1) (omega arith), p, e) (append_assoc t (f (seen c)) (flat_map f (map seen cs)))
