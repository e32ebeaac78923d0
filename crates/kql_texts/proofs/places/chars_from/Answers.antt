use Rattle.std.proofs.Common.{sym, ◌∙◌, arith}
use Rattle.std.specs.Str.{chars}
use Rattle.std.proofs.lemmas.Str.{encodes-chars}
use Rattle.kql_texts.proofs.CharFacts.{drop_next, drop_past}
use Rattle.kql_texts.proofs.places.chars_from.Goals as goal

pub loop-passed-init : goal.loop-passed-init
loop-passed-init c = c.chars-rest.ensures.rest ∙ sym (encodes-chars _ c.utf8.text)

pub returns-in-None : goal.returns-in-None
returns-in-None c =
    drop_past (chars c.args.text.now) _ c.loop-passed._passed _ c.loop-passed.invariant c.in-None.ensures.steps.0.0 (omega arith)

pub loop-passed-preserved : goal.loop-passed-preserved
loop-passed-preserved c =
    drop_next (chars c.args.text.now) _ _ c.loop-passed._passed _ c.loop-passed.invariant c.in-Some.ensures.steps.0
