use Rattle.std.proofs.Common.{arith, ◌+◌}
use Rattle.std.proofs.lemmas.List.{length-take-le}
use Rattle.kql_parser.proofs.Cuts.{cut_found, cut_refused, cut_limited, refuses_at}
use Rattle.kql_parser.proofs.parser.parse_beyond.Goals as goal

pub returns-in-Ok : goal.returns-in-Ok
returns-in-Ok c = refuses_at (cut_found c.requires c.in-Ok.ensures.read (omega (arith, c.in-Ok.ensures.within.1, length-take-le (c.args.top + 1) c.args.ts.now (omega arith)))) c.place_of.ensures.place

pub returns-then-end-top : goal.returns-then-end-top
returns-then-end-top c = refuses_at (cut_refused c.requires (rw c.in-Err-Refused.field-0-is at c.in-Err-Refused.ensures.read).place c.if-end-top.true) c.place_of-then-end-top.ensures.place

pub returns-else-end-top : goal.returns-else-end-top
returns-else-end-top c = cut_limited c.requires (rw c.in-Err-Refused.field-0-is at c.in-Err-Refused.ensures.read).place c.if-end-top.false c.place_of-in-Err-Refused.ensures.place
