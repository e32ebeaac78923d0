use Rattle.std.proofs.Common.{◌≡◌, List, ℕ, Bor, map}
use Rattle.kql_cells.specs.declared.dynamic.Dyn.TheVariants as dyn
use Rattle.kql_texts.proofs.pieces.split_by.Given as goal

abbrev pub invariant-loop-piece : goal.invariant-loop-piece
invariant-loop-piece l = l.parts ≡ map (λ (x : Bor (List ℕ)). dyn.Text x.now) l.yielded
