use Rattle.std.proofs.Common.{◌≡◌, take}
use Rattle.bind_operators.proofs.scopes.copy_consts.Given as goal

abbrev pub invariant-loop-c : goal.invariant-loop-c
invariant-loop-c l = l.copies ≡ take l.c-index l.consts
