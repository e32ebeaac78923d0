use Rattle.std.proofs.Common.{refl}
use Rattle.kql_syntax.specs.Levels.{Level}
use Rattle.kql_syntax.proofs.ReadingLaws.{level_found, level_refused, makes_found, makes_refused, pair_found, pair_refused, pair_refused_late, before_found, before_refused, before_none, either_left, either_right, either_refused_right, found_other, raises}
use Rattle.kql_syntax.proofs.reader.name.Goals as goal

pub returns-in-Some-clause-read : goal.returns-in-Some-clause-read
returns-in-Some-clause-read c = rw c.in_ok-word_of.ensures.word (level_found Level.Name (either_left (makes_found (makes_found c.in-Some.ensures.some)) (found_other c.in-Some.ensures.some refl refl) refl))

pub returns-in_err-open-clause-read : goal.returns-in_err-open-clause-read
returns-in_err-open-clause-read c = raises _ c.from_residual-in_err-open.ensures.1 c.in_err-open.ensures.read (λ e r. level_refused Level.Name (either_refused_right (makes_refused (pair_refused r refl)) c.in_default.ensures.none refl))

pub returns-in_err-text-clause-read : goal.returns-in_err-text-clause-read
returns-in_err-text-clause-read c = raises _ c.from_residual-in_err-text.ensures.1 c.in_err-text.ensures.read (λ e r. level_refused Level.Name (either_refused_right (makes_refused (pair_refused_late c.in_ok-open.ensures.read (before_refused r refl) refl)) c.in_default.ensures.none refl))

pub returns-in_err-_close-clause-read : goal.returns-in_err-_close-clause-read
returns-in_err-_close-clause-read c = raises _ c.from_residual-in_err-_close.ensures.1 c.in_err-_close.ensures.read (λ e r. level_refused Level.Name (either_refused_right (makes_refused (pair_refused_late c.in_ok-open.ensures.read (before_none c.in_ok-text.ensures.read r refl) refl)) c.in_default.ensures.none refl))

pub returns-clause-read : goal.returns-clause-read
returns-clause-read c = level_found Level.Name (either_right (makes_found (pair_found c.in_ok-open.ensures.read (before_found c.in_ok-text.ensures.read c.in_ok-_close.ensures.read refl) refl)) c.in_default.ensures.none refl)
