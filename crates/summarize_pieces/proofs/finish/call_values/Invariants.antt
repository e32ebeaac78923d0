use Rattle.std.proofs.Common.{◌≡◌, ℕ, List, [], map, take}
use Rattle.std.specs.Prelude.{slice_index_or}
use Rattle.kql_cells.specs.Table.{Grid}
use Rattle.kql_cells.specs.declared.value.Value.{Value}
use Rattle.kql_functions.specs.declared.aggregate.Aggregate.{Aggregate}
use Rattle.kql_bound.specs.declared.expr.BExpr.{BExpr}
use Rattle.kql_bound.specs.declared.parts.BItem.{BItem}
use Rattle.summarize_pieces.specs.Pieces.{call_over, state_in}
use Rattle.summarize_pieces.proofs.FinishSteps.{values_for}
use Rattle.summarize_pieces.proofs.finish.call_values.Given as goal

-- what the calls so far give
abbrev pub invariant-calls : goal.invariant-calls
invariant-calls l = (cs : List (Aggregate × List BExpr)) (keys : List BItem) (t : Grid) (from to : ℕ) (ks : List (List Value)) → l._calls ≡ map (λ c. call_over c t.columns) cs → l.folds ≡ map (λ c. map (state_in c keys t from to) ks) cs → l.values ≡ values_for (take l.j cs) keys t from to (slice_index_or ks l.k [])
