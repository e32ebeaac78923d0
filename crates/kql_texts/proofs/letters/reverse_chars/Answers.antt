use Rattle.std.proofs.Common.{◌++◌, ap, subst, ◌∙◌}
use Rattle.std.specs.Iterator.{Drains}
use Rattle.std.specs.Iterator.Adapters.{rev_steps}
use Rattle.std.specs.Str.{encode_utf8_all}
use Rattle.std.specs.Str.Iter.{chars_rest, chars_steps_back}
use Rattle.kql_texts.proofs.CharFacts.{reversed_chars}
use Rattle.kql_texts.proofs.letters.reverse_chars.Goals as goal

pub returns : goal.returns
returns c =
    let ran = c.in_ok-extend.ensures.ran in
    let xs = ran.1 in
    let run = subst (λ it. Drains (rev_steps chars_steps_back) it xs) ran.2 ran.4 in
    let start = ap chars_rest c.rev.ensures.source ∙ c.chars.ensures.rest in
    record {
      reversed = c.from_string.ensures.same ∙ ran.3 ∙ ap (λ l. l ++ encode_utf8_all xs) c.in_ok-reversed.ensures.bytes
          ∙ reversed_chars c.args.text.now xs _ c.utf8.text start (run.1.0, run.1.1, λ _. (run.0, run.1.2));
    }
