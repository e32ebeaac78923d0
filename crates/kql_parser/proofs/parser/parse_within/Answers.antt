use Rattle.std.proofs.Common.{arith}
use Rattle.kql_parser.proofs.Cuts.{all_found, all_short, all_refused, refuses_at}
use Rattle.kql_parser.proofs.parser.parse_within.Goals as goal

pub returns-then-end-size : goal.returns-then-end-size
returns-then-end-size c = all_found c.requires c.in-Ok.ensures.read (cc)

pub returns-else-end-size : goal.returns-else-end-size
returns-else-end-size c = refuses_at (all_short c.requires c.in-Ok.ensures.read (omega (arith, c.in-Ok.ensures.within.1))) c.place_of.ensures.place

pub returns-in-Err-Refused : goal.returns-in-Err-Refused
returns-in-Err-Refused c = refuses_at (all_refused c.requires (rw c.in-Err-Refused.field-0-is at c.in-Err-Refused.ensures.read).place) c.place_of-in-Err-Refused.ensures.place
