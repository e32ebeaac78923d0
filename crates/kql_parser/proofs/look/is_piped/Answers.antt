use Rattle.std.proofs.Common.{inl, inr, refl}
use Rattle.kql_syntax.proofs.ReadingLaws.{found_starts}
use Rattle.kql_parser.proofs.look.is_piped.Goals as goal

pub returns-in-Some-clause-yes : goal.returns-in-Some-clause-yes
returns-in-Some-clause-yes c = record { start = inl (found_starts c.in-Some.ensures.some refl) }

pub returns-in-Some-take-clause-yes : goal.returns-in-Some-take-clause-yes
returns-in-Some-take-clause-yes c = let n = c.in-Some-name_end.ensures.some in record { start = inr (record { end = c.in-Some-name_end.end; it = n.it; name = n.name; bar = found_starts c.in-Some-take.ensures.some refl }) }

pub returns-in-None-take-clause-no : goal.returns-in-None-take-clause-no
returns-in-None-take-clause-no c = let n = c.in-Some-name_end.ensures.some in record { start = c.in_default.ensures.none; rest = inr (record { end = c.in-Some-name_end.end; it = n.it; name = n.name; bar = c.in-None-take.ensures.none }) }

pub returns-in-None-clause-no : goal.returns-in-None-clause-no
returns-in-None-clause-no c = record { start = c.in_default.ensures.none; rest = inl c.in-None.ensures.none }
