use Rattle.std.proofs.Common.{refl}
use Rattle.kql_syntax.proofs.FormLaws.{is_of_begins}
use Rattle.kql_syntax.proofs.ReadingLaws.{before_refused, before_none, none_starts}
use Rattle.kql_operators.proofs.look.is_named.Goals as goal

pub returns-in-Some-take-clause-yes : goal.returns-in-Some-take-clause-yes
returns-in-Some-take-clause-yes c = let n = c.in-Some.ensures.some in record { middle = c.in-Some.end; end = _; it = n.it; sign = _; name = n.name; assign = c.in-Some-take.ensures.some }

pub returns-in-None-take-clause-no : goal.returns-in-None-take-clause-no
returns-in-None-take-clause-no c = let n = c.in-Some.ensures.some in record { middle = c.in-Some.end; refused = before_none n.name (none_starts c.in-None-take.ensures.none refl) refl; begins = is_of_begins _ _ _ _ _ n.name.is }

pub returns-in-None-clause-no : goal.returns-in-None-clause-no
returns-in-None-clause-no c = let n = c.in-None.ensures.none in record { middle = n.end; refused = before_refused n.refused refl; begins = n.refused.begins }
