use Rattle.std.proofs.Common.{sym, ◌∙◌}
use Rattle.csv_io.proofs.BlankFacts.{back-step}
use Rattle.csv_io.proofs.blanks.before_blanks.Goals as goal

pub blanks-preserved : goal.blanks-preserved
blanks-preserved c = (back-step c.args.text.now c.blanks.left.now c.range-left.result.now (sym c.ends_blank.ensures ∙ c.blanks-test.true) c.range-left.ensures.value c.blanks.invariant.0, c.range-left.utf8)
