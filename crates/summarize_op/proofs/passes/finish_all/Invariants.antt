use Rattle.std.proofs.Common.{◌≡◌}
use Rattle.summarize_op.specs.Passes.{folded_over}
use Rattle.summarize_op.proofs.passes.finish_all.Given as goal

-- the values of the folds so far
abbrev pub invariant-groups : goal.invariant-groups
invariant-groups l = l.made ≡ folded_over l.fn._call l._columns l._numbers l.fold-index
