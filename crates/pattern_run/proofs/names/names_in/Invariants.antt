use Rattle.std.proofs.Common.{◌≡◌, take}
use Rattle.pattern_run.specs.Patterned.{names_in}
use Rattle.pattern_run.proofs.names.names_in.Given as goal

abbrev pub invariant-loop-token : goal.invariant-loop-token
invariant-loop-token l = l.names ≡ names_in (take l.token-index l.tokens)
