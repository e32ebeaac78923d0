use Rattle.std.proofs.Common.{◌≡◌, length, reverse}
use Rattle.phase_laws.specs.Pieces.{put_together}
use Rattle.phase_pieces.proofs.TogetherLaws.{Alike}
use Rattle.phase_pieces.proofs.together.put_together.Given as goal

-- the tables that are left, and that they stand behind those so far
abbrev pub invariant-tables : goal.invariant-tables
invariant-tables l = record {
  alike : Alike l.made l.left;
  rest : put_together l.made (reverse l.left) ≡ put_together l.fn.first l.fn.more;
}

abbrev pub decreases-tables : goal.decreases-tables
decreases-tables l = length l.left
