use Rattle.kql_keys.specs.TextKeys.{AreShort}
use Rattle.kql_keys.proofs.text_key.are_short.Given as goal

-- the texts so far are short
abbrev pub invariant-loop-i : goal.invariant-loop-i
invariant-loop-i l = AreShort l.i l.texts
