use Rattle.std.proofs.Common.{refl}
use Rattle.kql_words.proofs.UnlessFacts.{raised-refusal}
use Rattle.live_words.proofs.PathFacts.{asked-err, asked-ok, asked-paths}
use Rattle.live_words.proofs.command.read_asked.Goals as goal

pub returns-in_err-check_paths-clause-read : goal.returns-in_err-check_paths-clause-read
returns-in_err-check_paths-clause-read c =
    raised-refusal _ _ c.in_err-check_paths.field-0.0 c.from_residual-in_err-check_paths.ensures.1 (asked-err c.args.words.now _ c.in_ok-asked.asked _ c.in_ok-asked.ensures.read refl c.in_err-check_paths.ensures.checked)

pub returns-clause-read : goal.returns-clause-read
returns-clause-read c = asked-ok c.args.words.now _ c.in_ok-asked.asked _ c.in_ok-asked.ensures.read refl c.in_ok-check_paths.ensures.checked

pub returns-clause-paths : goal.returns-clause-paths
returns-clause-paths c = asked-paths c.args.words.now _ c.in_ok-asked.asked _ refl c.in_ok-check_paths.ensures.checked
