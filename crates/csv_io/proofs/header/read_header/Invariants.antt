use Rattle.std.proofs.Common.{◌≡◌, [], drop, take, map}
use Rattle.csv_io.specs.Header.{column_of, header_faults}
use Rattle.csv_io.proofs.header.read_header.Given as goal

abbrev pub invariant-loop-j : goal.invariant-loop-j
invariant-loop-j l = (l.schema ≡ map column_of (take l.j l.line)) × (header_faults l.schema (drop l.j l.line) ≡ header_faults [] l.line)
