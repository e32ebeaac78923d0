use Rattle.std.proofs.Common.{sym, ap, ◌∙◌, map}
use Rattle.std.specs.Char.{to_ascii_lowercase}
use Rattle.kql_texts.proofs.FoldFacts.{fold-ascii}
use Rattle.kql_texts.proofs.folding.case_fold.Goals as goal

pub returns : goal.returns
returns c =
    c.make_ascii_lowercase.ensures.bytes ∙ ap (map to_ascii_lowercase) c.in_ok-folded.ensures.ok
    ∙ sym (fold-ascii c.args.text.now c.if-not-is_ascii.ensures.cases)
