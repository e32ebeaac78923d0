use Rattle.std.proofs.Common.{◌≡◌, length}
use Rattle.std.specs.List.{list_all}
use Rattle.kql_cells.specs.declared.schema.Column.{Column}
use Rattle.kql_meaning.specs.FittingOperators.{is_of_type_in}
use Rattle.bind_query.proofs.union.are_of_type_in.Given as goal

abbrev pub invariant-each : goal.invariant-each
invariant-each l = list_all (λ (c : Column). is_of_type_in c l.others) l.left ≡ list_all (λ (c : Column). is_of_type_in c l.fn.others) l.fn.columns

abbrev pub decreases-each : goal.decreases-each
decreases-each l = length l.left
