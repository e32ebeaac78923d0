use Rattle.std.proofs.Common.{◌≡◌, [], take, map, get_or}
use Rattle.kql_values.proofs.text_column.TextColumn.found.Given as goal

abbrev pub invariant-loop-place : goal.invariant-loop-place
invariant-loop-place l = map (λ t. t.now) l.texts.items ≡ map (λ i. get_or l.self i []) (take l.place-index l.places)
