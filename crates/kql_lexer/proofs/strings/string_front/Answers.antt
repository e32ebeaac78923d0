use Rattle.std.proofs.Common.{◌∙◌, false, sym, arith}
use Rattle.std.proofs.lemmas.List.{take_rest}
use Rattle.kql_lexer.proofs.StringFronts.{body_is, closed_some, open_is, quoted_is, run_along, unknown_is}
use Rattle.kql_lexer.proofs.strings.string_front.Goals as goal

pub returns-in-Open : goal.returns-in-Open
returns-in-Open c =
    open_is c.args.rest.now _ _ c.requires.some c.requires.class (run_along false _ _ _ _ _ _ (take_rest c.args.rest.now 1) c.in-Open.is c.string_run-run.ensures.within c.string_run-run.ensures.ran c.string_run-run.ensures.stopped) (λ e. cc)

pub returns-in-Kept : goal.returns-in-Kept
returns-in-Kept c =
    open_is c.args.rest.now _ _ c.requires.some c.requires.class (run_along false _ _ _ _ _ _ (take_rest c.args.rest.now 1) c.in-Kept.is c.string_run-run.ensures.within c.string_run-run.ensures.ran c.string_run-run.ensures.stopped) (λ e. cc)

pub slice_bounds-has_known_escapes-count : goal.slice_bounds-has_known_escapes-count
slice_bounds-has_known_escapes-count c =
    omega (arith, closed_some _ _ _ (run_along false _ _ _ _ _ _ (take_rest c.args.rest.now 1) c.in-Closed.is c.string_run-run.ensures.within c.string_run-run.ensures.ran c.string_run-run.ensures.stopped))

pub slice_bounds-has_known_escapes-start : goal.slice_bounds-has_known_escapes-start
slice_bounds-has_known_escapes-start c =
    omega (arith, closed_some _ _ _ (run_along false _ _ _ _ _ _ (take_rest c.args.rest.now 1) c.in-Closed.is c.string_run-run.ensures.within c.string_run-run.ensures.ran c.string_run-run.ensures.stopped))

pub returns-then-has_known_escapes : goal.returns-then-has_known_escapes
returns-then-has_known_escapes c =
    let run = (run_along false _ _ _ _ _ _ (take_rest c.args.rest.now 1) c.in-Closed.is c.string_run-run.ensures.within c.string_run-run.ensures.ran c.string_run-run.ensures.stopped) in
    quoted_is c.args.rest.now _ _ c.requires.some c.requires.class run (body_is _ _ _ (closed_some _ _ _ run) run.within (omega arith)) (sym c.has_known_escapes.ensures ∙ c.if-has_known_escapes.true)

pub returns-else-has_known_escapes : goal.returns-else-has_known_escapes
returns-else-has_known_escapes c =
    let run = (run_along false _ _ _ _ _ _ (take_rest c.args.rest.now 1) c.in-Closed.is c.string_run-run.ensures.within c.string_run-run.ensures.ran c.string_run-run.ensures.stopped) in
    unknown_is c.args.rest.now _ _ c.requires.some c.requires.class run (body_is _ _ _ (closed_some _ _ _ run) run.within (omega arith)) (sym c.has_known_escapes.ensures ∙ c.if-has_known_escapes.false)
