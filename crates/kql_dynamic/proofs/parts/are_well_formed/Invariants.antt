use Rattle.std.proofs.Common.{◌≡◌, length, map}
use Rattle.std.specs.List.{list_all}
use Rattle.kql_cells.specs.Dynamic.{is_well_formed_dynamic}
use Rattle.kql_dynamic.proofs.parts.are_well_formed.Given as goal

abbrev pub invariant-values : goal.invariant-values
invariant-values l = list_all is_well_formed_dynamic (map (λ d. d.now) l.left) ≡ list_all is_well_formed_dynamic (map (λ d. d.now) l.fn.args)

abbrev pub decreases-values : goal.decreases-values
decreases-values l = length l.left
