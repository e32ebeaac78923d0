use Rattle.std.proofs.Common.{◌∙◌, ap, map}
use Rattle.summarize_pieces.proofs.KeySteps.{gathered-keys}
use Rattle.summarize_pieces.proofs.groups.keyed.Goals as goal

pub returns-clause-keys : goal.returns-clause-keys
returns-clause-keys c =
    let same = ap (map (λ c. c.now)) c.as_slice.ensures.value ∙ c.in_ok-lent.ensures.same in
    gathered-keys c.args.rows.now c.columns.result.now _ c.in_ok-keys.keys c.len.result c.in_ok-numbers.field-0.firsts c.as_slice-2.result.now c.columns.ensures.rows c.len.ensures.count same c.in_ok-numbers.ensures.firsts c.in_ok-numbers.ensures.first_keys c.as_slice-2.ensures.items c.in_ok-keys.ensures.rows
