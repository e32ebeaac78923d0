use Rattle.std.proofs.Common.{refl, arith}
use Rattle.kql_syntax.specs.Levels.{Level}
use Rattle.kql_syntax.proofs.ReadingLaws.{makes_found, makes_refused, pair_found, pair_refused, pair_refused_late, before_found, found_other, found_starts, found_after, found_refused, mark_ends, raises, refused_after, stands_among, level_found_in, level_refused_in, in_found, in_refused, in_left, in_right, in_refused_left, in_refused_right, under_found, under_refused}
use Rattle.kql_syntax.proofs.NameLaws.{name_found, name_begins}
use Rattle.kql_operators.proofs.NamedFacts.{named_refused}
use Rattle.kql_operators.proofs.parts.item.Goals as goal

pub returns-in_err-name-clause-read : goal.returns-in_err-name-clause-read
returns-in_err-name-clause-read c = raises _ c.from_residual.ensures.1 c.in_err-name.ensures.read (λ e r. let n = c.if-is_named.ensures.yes in absurd (found_refused n.name r))

pub returns-in_err-_sign-clause-read : goal.returns-in_err-_sign-clause-read
returns-in_err-_sign-clause-read c = raises _ c.from_residual-in_err-_sign.ensures.1 c.in_err-_sign.ensures.read (λ e r. let n = c.if-is_named.ensures.yes in absurd (named_refused n c.in_ok-name.ensures.read r))

pub returns-in_err-value-clause-read : goal.returns-in_err-value-clause-read
returns-in_err-value-clause-read c = raises _ c.from_residual-in_err-value.ensures.1 c.in_err-value.ensures.read (λ e r. level_refused_in Level.Item (in_refused_left (in_refused (makes_refused (pair_refused_late (before_found c.in_ok-name.ensures.read c.in_ok-_sign.ensures.read refl) r refl)) refl) (under_found (makes_found (name_found c.in_ok-name.ensures.read (found_other c.in_ok-_sign.ensures.read refl refl))) (omega (arith, mark_ends c.in_ok-_sign.ensures.read, refused_after r)) (stands_among (found_starts c.in_ok-_sign.ensures.read refl) refl) refl)))

pub returns-then-is_named-clause-read : goal.returns-then-is_named-clause-read
returns-then-is_named-clause-read c = level_found_in Level.Item (in_left (in_found (makes_found (pair_found (before_found c.in_ok-name.ensures.read c.in_ok-_sign.ensures.read refl) c.in_ok-value.ensures.read refl)) refl) (under_found (makes_found (name_found c.in_ok-name.ensures.read (found_other c.in_ok-_sign.ensures.read refl refl))) (omega (arith, mark_ends c.in_ok-_sign.ensures.read, found_after c.in_ok-value.ensures.read)) (stands_among (found_starts c.in_ok-_sign.ensures.read refl) refl) refl))

pub returns-in_err-value-2-clause-read : goal.returns-in_err-value-2-clause-read
returns-in_err-value-2-clause-read c = raises _ c.from_residual-in_err-value-2.ensures.1 c.in_err-value-2.ensures.read (λ e r. let n = c.if-is_named.ensures.no in level_refused_in Level.Item (in_refused_right (in_refused (makes_refused r) refl) (under_refused (makes_refused (pair_refused n.refused refl)) (r.furthest n.middle (name_begins _ _ _ n.begins)) refl)))

pub returns-clause-read : goal.returns-clause-read
returns-clause-read c = let n = c.if-is_named.ensures.no in let r = c.in_ok-value-2.ensures.read in level_found_in Level.Item (in_right (in_found (makes_found r) refl) (under_refused (makes_refused (pair_refused n.refused refl)) (r.furthest n.middle (name_begins _ _ _ n.begins)) refl))
