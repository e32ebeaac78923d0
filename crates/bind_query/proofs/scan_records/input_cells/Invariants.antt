use Rattle.std.proofs.Common.{◌≡◌, [], take}
use Rattle.std.specs.Prelude.{fold}
use Rattle.bind_query.specs.Scan.{input_cell}
use Rattle.bind_query.specs.ScanRecords.{two_lists, with_cell}
use Rattle.bind_query.proofs.scan_records.input_cells.Given as goal

abbrev pub invariant-loop-c : goal.invariant-loop-c
invariant-loop-c l = l.cells ≡ fold (λ r c. with_cell r (input_cell c)) (two_lists []) (take l.c-index l.columns)
