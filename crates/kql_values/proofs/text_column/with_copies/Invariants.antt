use Rattle.std.proofs.Common.{◌≡◌, ◌++◌, take, map}
use Rattle.kql_values.proofs.text_column.with_copies.Given as goal

abbrev pub invariant-loop-text : goal.invariant-loop-text
invariant-loop-text l = l.grown ≡ l.fn.column ++ map (λ t. t.now) (take l.text-index l.texts)
