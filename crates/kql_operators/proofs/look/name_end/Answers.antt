use Rattle.std.proofs.Common.{refl}
use Rattle.kql_syntax.specs.Levels.{Level}
use Rattle.kql_syntax.proofs.ReadingLaws.{level_found, level_refused, makes_found, makes_refused, pair_found, pair_refused, pair_refused_late, before_found, before_refused, before_none, either_left, either_right, either_refused_right, found_other, none_starts}
use Rattle.kql_operators.proofs.look.name_end.Goals as goal

pub returns-in-Some-clause-some : goal.returns-in-Some-clause-some
returns-in-Some-clause-some c = record { it = _; name = level_found Level.Name (either_left (makes_found (makes_found c.in-Some.ensures.some)) (found_other c.in-Some.ensures.some refl refl) refl) }

pub returns-in_err-_open-clause-none : goal.returns-in_err-_open-clause-none
returns-in_err-_open-clause-none c = rw c.from_residual.ensures (record { end = _; refused = level_refused Level.Name (either_refused_right (makes_refused (pair_refused (none_starts c.in_err-_open.ensures.none refl) refl)) c.in_default.ensures.none refl) })

pub returns-in_err-_text-clause-none : goal.returns-in_err-_text-clause-none
returns-in_err-_text-clause-none c = rw c.from_residual-in_err-_text.ensures (record { end = _; refused = level_refused Level.Name (either_refused_right (makes_refused (pair_refused_late c.in_ok-_open.ensures.some (before_refused (none_starts c.in_err-_text.ensures.none refl) refl) refl)) c.in_default.ensures.none refl) })

pub returns-in_err-_close-clause-none : goal.returns-in_err-_close-clause-none
returns-in_err-_close-clause-none c = rw c.from_residual-in_err-_close.ensures (record { end = _; refused = level_refused Level.Name (either_refused_right (makes_refused (pair_refused_late c.in_ok-_open.ensures.some (before_none (makes_found c.in_ok-_text.ensures.some) (none_starts c.in_err-_close.ensures.none refl) refl) refl)) c.in_default.ensures.none refl) })

pub returns-clause-some : goal.returns-clause-some
returns-clause-some c = record { it = _; name = level_found Level.Name (either_right (makes_found (pair_found c.in_ok-_open.ensures.some (before_found (makes_found c.in_ok-_text.ensures.some) c.in_ok-_close.ensures.some refl) refl)) c.in_default.ensures.none refl) }
