use Rattle.std.proofs.Common.{◌≡◌, length}
use Rattle.parse_op.specs.Search.{Stands, choices_left}
use Rattle.parse_op.proofs.search.turns.Given as goal

-- the slots up to the last that is open
abbrev pub invariant-turns : goal.invariant-turns
invariant-turns l = record {
  count : length l.slots ≡ length l.items;
  stands : Stands l.relaxed l.items l.text 0 l.slots l.at;
}

abbrev pub decreases-turns : goal.decreases-turns
decreases-turns l = choices_left (length l.text) l.slots l.at
