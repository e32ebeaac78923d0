use Rattle.std.proofs.Common.{◌<◌, ◌-◌, ◌^◌}
use Rattle.phase_pieces.proofs.CutLaws.{IsDoubled}
use Rattle.phase_pieces.proofs.cut.cut_rows.Given as goal

abbrev pub invariant-fewer : goal.invariant-fewer
invariant-fewer l = record {
  some : 0 < l.rows;
  small : l.rows < 2 ^ 63;
  size : IsDoubled l.fn.count l.fn.piece_rows l.rows;
}

abbrev pub decreases-fewer : goal.decreases-fewer
decreases-fewer l = l.least - l.rows
