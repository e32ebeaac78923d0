use Rattle.std.proofs.Common.{true}
use Rattle.std.proofs.lemmas.List.{take_rest}
use Rattle.kql_lexer.proofs.StringFronts.{open_verbatim_is, run_along, verbatim_is}
use Rattle.kql_lexer.proofs.strings.verbatim_front.Goals as goal

pub returns-in-Open : goal.returns-in-Open
returns-in-Open c = open_verbatim_is c.args.rest.now _ _ c.requires.some c.requires.class c.requires.sign (run_along true _ _ _ _ _ _ (take_rest c.args.rest.now 2) c.in-Open.is c.string_run-run.ensures.within c.string_run-run.ensures.ran c.string_run-run.ensures.stopped) (λ e. cc)

pub returns-in-Kept : goal.returns-in-Kept
returns-in-Kept c = open_verbatim_is c.args.rest.now _ _ c.requires.some c.requires.class c.requires.sign (run_along true _ _ _ _ _ _ (take_rest c.args.rest.now 2) c.in-Kept.is c.string_run-run.ensures.within c.string_run-run.ensures.ran c.string_run-run.ensures.stopped) (λ e. cc)

pub returns-in-Closed : goal.returns-in-Closed
returns-in-Closed c = verbatim_is c.args.rest.now _ c.requires.some c.requires.class c.requires.sign (run_along true _ _ _ _ _ _ (take_rest c.args.rest.now 2) c.in-Closed.is c.string_run-run.ensures.within c.string_run-run.ensures.ran c.string_run-run.ensures.stopped)
