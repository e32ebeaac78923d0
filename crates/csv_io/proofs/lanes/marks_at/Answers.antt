use Rattle.std.proofs.Common.{refl, arith}
use Rattle.std.proofs.lemmas.Simd.{zip2_splat, length-chunk}
use lib.Lanes.{chunk}
use Rattle.csv_io.specs.Runs.{is_plain}
use Rattle.csv_io.proofs.LaneFacts.{joined, marks-of}
use Rattle.csv_io.proofs.lanes.marks_at.Goals as goal

pub returns : goal.returns
returns c =
    let v = chunk c.args.at 64 c.args.text.now in
    let long = length-chunk c.args.at 64 c.args.text.now c.requires in
    marks-of is_plain c.args.text.now c.args.at 64 _ c.requires (omega arith) c.type_inv.text _
    (joined _ _ _ v (zip2_splat _ v 64 44 long) (joined _ _ _ v (zip2_splat _ v 64 13 long) (zip2_splat _ v 64 10 long))) refl
