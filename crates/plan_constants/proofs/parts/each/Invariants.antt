use Rattle.std.proofs.Common.{◌≡◌, map, take}
use Rattle.plan_constants.proofs.parts.each.Given as goal

abbrev pub invariant-loop-part : goal.invariant-loop-part
invariant-loop-part g l = l.all ≡ map g.P.Part.becomes (take l.part-index l.parts)
