use Rattle.std.proofs.Common.{◌≡◌, take, true}
use Rattle.std.specs.List.{list_all}
use Rattle.kql_cells.specs.Dynamic.{has_form}
use Rattle.kql_cells.proofs.dynamic.+has_form.Given as goal

abbrev pub invariant-parts_have_form-loop-d : goal.invariant-parts_have_form-loop-d
invariant-parts_have_form-loop-d l = list_all has_form (take l.d-index l.parts) ≡ true

abbrev pub invariant-entries_have_form-loop-entry : goal.invariant-entries_have_form-loop-entry
invariant-entries_have_form-loop-entry l = list_all (λ e. has_form e.1) (take l.entry-index l.entries) ≡ true
