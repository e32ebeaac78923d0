use Rattle.std.proofs.Common.{◌≡◌, nat_le, take, true}
use Rattle.std.specs.List.{list_all}
use Rattle.kql_cells.specs.Dynamic.{levels}
use Rattle.kql_cells.proofs.dynamic.+has_levels_within.Given as goal

abbrev pub invariant-parts_within-loop-d : goal.invariant-parts_within-loop-d
invariant-parts_within-loop-d l = list_all (λ d. nat_le (levels d) l.limit) (take l.d-index l.parts) ≡ true

abbrev pub invariant-entries_within-loop-entry : goal.invariant-entries_within-loop-entry
invariant-entries_within-loop-entry l = list_all (λ e. nat_le (levels e.1) l.limit) (take l.entry-index l.entries) ≡ true
