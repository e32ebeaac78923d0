use Rattle.std.proofs.Common.{◌≡◌, take}
use Rattle.summarize_op.specs.Passes.{argument_columns}
use Rattle.summarize_op.proofs.arguments.argument_vectors.Given as goal

-- the values of the arguments so far
abbrev pub invariant-arguments : goal.invariant-arguments
invariant-arguments l = l.vectors.items ≡ argument_columns (take l.arg-index l.args) l.t
